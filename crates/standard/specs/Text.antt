-- The standard text of a script (02, change 6), over what its tree says. "and no other blank": the blanks are those of `operator`, `after`, `led`, `colon`, `comma`, `line`
-- and the one before `in`.
-- Assumes nothing.
use Rattle.std.specs.Prelude.{ℕ, suc, ◌*◌, List, [], ◌∷◌, ◌++◌, eqb, get_or, drop, replicate}
use Rattle.source.specs.Text.{bytes}
use Rattle.token.specs.Code.{If, Elif, Else, While, For, In, Def, Return, Lambda, None, Equal, LParen, RParen, LBracket, RBracket, LBrace, RBrace, Colon, Comma, Dot}
use Rattle.token.specs.Code as token
use Rattle.numbers.specs.Bits.{int_of}
use Rattle.spacing.specs.Indentation.{step}
use Rattle.rendered.specs.Spelled.{spelled_fixed, spelled_bool, spelled_int, spelled_string}
use Rattle.unparse.specs.Trees.{Item, Sort, Literal, Word, Bracket, Void, Load, Tree, Name, list, script, sign_code, op_code, comparison_code, alone_code}
use Rattle.unparse.specs.Trees.{name, literal, variable, unary, binary, compare, attribute, apply, index, bracket, void, dict, set, single, tuple, lambda, pair, two, link, both, also, one, more, nil, full}
use Rattle.unparse.specs.Trees.{expression, assign, return, alone, branch, while, for, define, class, def, elif, without, otherwise, program}
use Rattle.unparse.specs.Levels.{Level, T, X, E, C, S, G, F, same_level, pick, ladder, level_of, below}

-- ---- names and literals

-- names "by bytes"
abbrev pub word_text : Word → Load → List ℕ
word_text Word.tee l = bytes "t"
word_text Word.identifier l = l

-- "Floats use their kept spelling, Ints the shortest digits with a minus where negative. Strings stand in double quotes". A Float's load is its two words
-- and then its spelling.
abbrev pub literal_text : Literal → Load → List ℕ
literal_text Literal.int l = spelled_int (int_of (get_or l 0 0) (get_or l 1 0))
literal_text Literal.bool l = spelled_bool (eqb (get_or l 0 0) 1)
literal_text Literal.string l = spelled_string l
literal_text Literal.float l = drop 2 l
literal_text Literal.none l = spelled_fixed None

-- ---- blanks

-- "a space around binary operators .. a space around ="
abbrev pub operator : ℕ → List ℕ
operator c = 32 ∷ (spelled_fixed c ++ 32 ∷ [])

-- "one space after if, elif, while, for, in, return, def, class" and unary operators
abbrev pub after : ℕ → List ℕ → List ℕ
after c w = spelled_fixed c ++ 32 ∷ w

-- ".. and lambda unless a colon follows"
abbrev pub led : Tree (list Name) → List ℕ → List ℕ
led nil w = w
led (full x) w = 32 ∷ w

-- a space "after the colon of a pair or lambda"
abbrev pub colon : List ℕ → List ℕ
colon w = spelled_fixed Colon ++ 32 ∷ w

-- "list members parted by comma and space"
abbrev pub comma : List ℕ
comma = spelled_fixed Comma ++ 32 ∷ []

-- what parts the members of a list: statements, elifs and methods have their lines
abbrev pub parting : Item → List ℕ
parting Item.Expr = comma
parting Item.Name = comma
parting Item.Pair = comma
parting Item.Stmt = []
parting Item.Elif = []
parting Item.Def = []

-- ---- brackets

abbrev pub within : ℕ → List ℕ → ℕ → List ℕ
within c w e = spelled_fixed c ++ (w ++ spelled_fixed e)

-- "parentheses only where the tree needs them": an expression of the level `own` where one of the level l is asked for, by the ladder of levels
unfoldable pub fit_text : Level → Level → List ℕ → List ℕ
fit_text own l w = ladder own w (within LParen w RParen) (λ v. v) (λ v. v) l

abbrev pub bracket_text : Bracket → List ℕ → List ℕ
bracket_text Bracket.squares w = within LBracket w RBracket
bracket_text Bracket.treeset w = bytes "t" ++ within LBrace w RBrace

-- `{}`; "the empty tuple as `())`"
abbrev pub void_text : Void → List ℕ
void_text Void.no_pairs = within LBrace [] RBrace
void_text Void.no_members = within LParen (spelled_fixed RParen) RParen

-- "non-empty tuples of a whole statement bare"
abbrev pub tuple_text : Level → List ℕ → List ℕ
tuple_text l w = pick (same_level l T) w (fit_text F l (within LParen w RParen))

-- ---- lines

-- "two-space blocks, one statement a line, each line ended by a line feed": d blocks are open
abbrev pub line : ℕ → List ℕ → List ℕ
line d w = replicate (step * d) 32 ++ (w ++ 10 ∷ [])

-- a line that opens a block, and the lines of the block
abbrev pub opening : ℕ → List ℕ → List ℕ → List ℕ
opening d w b = line d (w ++ spelled_fixed Colon) ++ b

-- ---- the text of a tree, where an expression of the level l is asked for and d blocks are open

unfoldable pub text : {s : Sort} → ℕ → Level → Tree s → List ℕ
unfolding fit_text
text d l (name w n) = word_text w n
text d l (literal c n) = fit_text F l (literal_text c n)
text d l (variable x) = fit_text F l (text d X x)
text d l (unary g x) = fit_text G l (after (sign_code g) (text d G x))
text d l (binary o x y) = fit_text (level_of o) l (text d (level_of o) x ++ (operator (op_code o) ++ text d (below o) y))
-- "a shared middle as a chain"
text d l (compare c) = fit_text C l (text d X c)
text d l (two o x y) = text d S x ++ (operator (comparison_code o) ++ text d S y)
text d l (link x o y) = text d X x ++ (operator (comparison_code o) ++ text d S y)
text d l (attribute x n) = fit_text F l (text d F x ++ (spelled_fixed Dot ++ text d X n))
text d l (apply x y) = fit_text F l (text d F x ++ within LParen (text d X y) RParen)
text d l (index x y) = fit_text F l (text d F x ++ within LBracket (text d X y) RBracket)
text d l (bracket b x) = fit_text F l (bracket_text b (text d X x))
text d l (void v) = fit_text F l (void_text v)
text d l (dict x) = fit_text F l (within LBrace (text d X x) RBrace)
text d l (set x) = fit_text F l (within LBrace (text d X x) RBrace)
-- "a trailing comma only in a tuple of one"
text d l (single x) = tuple_text l (text d X x ++ spelled_fixed Comma)
text d l (tuple x) = tuple_text l (text d X x)
text d l (lambda x y) = fit_text E l (spelled_fixed Lambda ++ led x (text d X x ++ colon (text d X y)))
text d l (pair x y) = text d X x ++ colon (text d X y)
text d l (both x y) = text d X x ++ (comma ++ text d X y)
text d l (also x y) = text d X x ++ (comma ++ text d X y)
text d l (one x) = text d X x
text d l (more {i} x y) = text d X x ++ (parting i ++ text d X y)
text d l nil = []
text d l (full x) = text d X x
text d l (expression x) = line d (text d T x)
text d l (assign x y) = line d (text d T x ++ (operator Equal ++ text d T y))
text d l (return x) = line d (after Return (text d T x))
text d l (alone w) = line d (spelled_fixed (alone_code w))
text d l (branch x b y z) = opening d (after If (text d X x)) (text (suc d) X b) ++ (text d X y ++ text d X z)
text d l (while x b) = opening d (after While (text d X x)) (text (suc d) X b)
-- "one before in"
text d l (for n x b) = opening d (after For (text d X n ++ 32 ∷ after In (text d X x))) (text (suc d) X b)
text d l (define x) = text d X x
text d l (class n x) = opening d (after token.Class (text d X n)) (text (suc d) X x)
text d l (def n x b) = opening d (after Def (text d X n ++ within LParen (text d X x) RParen)) (text (suc d) X b)
text d l (elif x b) = opening d (after Elif (text d X x)) (text (suc d) X b)
text d l without = []
text d l (otherwise b) = opening d (spelled_fixed Else) (text (suc d) X b)
text d l (program x) = text d X x

-- "the one standard text"
unfoldable pub standard_text : Tree script → List ℕ
unfolding text
standard_text t = text 0 X t
