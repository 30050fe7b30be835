-- The symbols of the standard text of a tree (02, change 6), with "parentheses only where the tree needs them" and "one statement a line"; and the room for
-- depth that it needs.
-- Assumes nothing.
use Prim.Native.Nat.{ℕ, suc, max}
use mathlib.Core.List.{List, [], ◌∷◌}
use Rattle.grammar.specs.Trial.{Machine}
use Rattle.token.specs.Code.{If, Elif, Else, While, For, In, Def, Return, Lambda, Equal, LParen, RParen, LBracket, RBracket, LBrace, RBrace, Colon, Comma, Dot, Indent, Dedent, Newline}
use Rattle.token.specs.Code as token
use Rattle.ast.specs.Kind as kind
use Rattle.pyhyeon.specs.Symbol.{Tee}
use Rattle.pyhyeon.specs.Action.{Action}
use Rattle.pyhyeon.specs.Action as act
use Rattle.unparse.specs.Trees.{Item, Sort, Bracket, Void, Load, Tree, literal_code, word_code, sign_code, op_code, comparison_code, alone_code, alone_kind}
use Rattle.unparse.specs.Trees.{name, literal, variable, unary, binary, compare, attribute, apply, index, bracket, void, dict, set, single, tuple, lambda, pair, two, link, both, also, one, more, nil, full}
use Rattle.unparse.specs.Trees.{expression, assign, return, alone, branch, while, for, define, class, def, elif, without, otherwise, program}
use Rattle.unparse.specs.Levels.{Level, T, X, E, C, S, G, F, same_level, pick, ladder, level_of, below}

infixr 40 ◌›◌
-- What a reading does: a token of this code, with its load; an action; one after the other. The tokens are the text.
pub data Steps : Type 0 where
  put : ℕ → Load → Steps
  run : Action → Steps
  ◌›◌ : Steps → Steps → Steps

-- a token with no load
abbrev pub key : ℕ → Steps
key c = put c []

-- its symbols, before some others; what it does to what a machine keeps
abbrev pub symbols : Steps → List ℕ → List ℕ
symbols (put c w) l = c ∷ l
symbols (run a) l = l
symbols (d › e) l = symbols d (symbols e l)

abbrev pub perform : (M : Machine Action) → Steps → M.Kept → M.Kept
perform M (put c w) k = M.shift c k
perform M (run a) k = M.run a k
perform M (d › e) k = perform M e (perform M d k)

-- a U, with its signs; parentheses around an E
abbrev pub dress : Steps → Steps
dress e = run act.signs_none › e › run act.unary

abbrev pub enclosed : Steps → Steps
enclosed e = key LParen › run act.mark › e › key RParen › run act.group

-- the same as an E
abbrev pub top : Level → Steps → Steps
top own e = pick (same_level own F) (dress e) (pick (same_level own G) (dress e) e)

-- "parentheses only where the tree needs them": steps that read an expression of the level `own`, where one of the level l is asked for; and the room for it
unfoldable pub fit : Level → Level → Steps → Steps
fit own l e = ladder own e (enclosed (top own e)) (λ d. d) dress l

unfoldable pub raise : Level → Level → ℕ → ℕ
raise own l d = ladder own d (suc d) suc (λ n. n) l

-- `[list]`, `t{list}`
abbrev pub bracketed : Bracket → Steps → Steps
bracketed Bracket.squares e = key LBracket › run act.mark › e › key RBracket › run (act.enclose kind.List)
bracketed Bracket.treeset e = key Tee › run act.mark › key LBrace › e › key RBrace › run (act.enclose kind.TreeSet)

-- `{}`; "the empty tuple as `())`"
abbrev pub voided : Void → Steps
voided Void.no_pairs = key LBrace › run act.mark › key RBrace › run (act.empty kind.Dict)
voided Void.no_members = key LParen › run act.mark › key RParen › key RParen › run (act.empty kind.Tuple)

-- the members of a Tuple: "non-empty tuples of a whole statement bare", and all else in parentheses
abbrev pub tupled : Level → Steps → Steps
tupled l e =
    pick (same_level l T) (e › run act.tuple) (fit F l (key LParen › run act.mark › e › run act.list_done › key RParen › run (act.enclose kind.Tuple)))

-- a member as a list of one; "list members parted by comma"
abbrev pub ending : Item → Steps → Steps
ending Item.Expr e = e › run act.list_one
ending Item.Name e = e › run (act.named kind.Name) › run act.list_one
ending Item.Pair e = e › run act.list_one
ending Item.Stmt e = e
ending Item.Elif e = e
ending Item.Def e = e › run (act.define kind.Method) › run act.list_one

abbrev pub parted : Item → Steps → Steps
parted Item.Expr e = key Comma › e
parted Item.Name e = key Comma › e
parted Item.Pair e = key Comma › e
parted Item.Stmt e = e
parted Item.Elif e = e
parted Item.Def e = e

-- a statement on a line of its own; one that has blocks; a block
abbrev pub simple : Steps → Steps
simple e = e › run act.list_one › key Newline

abbrev pub compound : Steps → Steps
compound e = e › run act.list_one

abbrev pub block : Steps → Steps
block e = key Colon › key Newline › key Indent › e › key Dedent

-- The steps of a tree, where one of the level l is asked for (an expression alone has one). "a trailing comma only in a tuple of one"; "a shared middle as
-- a chain".
unfoldable pub write : {s : Sort} → Level → Tree s → Steps
unfolding fit
write l (name w n) = put (word_code w) n
write l (literal c n) = fit F l (put (literal_code c) n › run act.literal)
write l (variable x) = fit F l (write X x › run (act.named kind.Variable))
write l (unary g x) = fit G l (key (sign_code g) › run act.signs_more › write G x)
write l (binary o x y) = fit (level_of o) l (write (level_of o) x › key (op_code o) › run act.mark › write (below o) y › run act.binary)
write l (compare c) = fit C l (write X c › run act.compared)
write l (attribute x n) = fit F l (write F x › key Dot › write X n › run act.attribute)
write l (apply x y) = fit F l (write F x › key LParen › write X y › key RParen › run act.apply)
write l (index x y) = fit F l (write F x › key LBracket › write X y › key RBracket › run act.index)
write l (bracket b x) = fit F l (bracketed b (write X x))
write l (void v) = fit F l (voided v)
write l (dict x) = fit F l (key LBrace › run act.mark › write X x › run act.list_done › key RBrace › run (act.enclose kind.Dict))
write l (set x) = fit F l (key LBrace › run act.mark › write X x › run act.list_done › key RBrace › run (act.enclose kind.Set))
write l (single x) = tupled l (write X x › key Comma › run act.list_one)
write l (tuple x) = tupled l (write X x)
write l (lambda x y) = fit E l (key Lambda › run act.mark › write X x › key Colon › write X y › run act.lambda)
write l (pair x y) = write X x › key Colon › write X y › run act.pair
write l (two o x y) = write S x › key (comparison_code o) › run act.mark › write S y › run act.compare
write l (link x o y) = write X x › key (comparison_code o) › run act.mark › write S y › run act.compare_more
write l (both x y) = write X x › key Comma › run act.list_one › write X y › run act.list_one › run act.list_join
write l (also x y) = write X x › key Comma › write X y › run act.list_one › run act.list_join
write l (one {i} x) = ending i (write X x)
write l (more {i} x y) = write X x › parted i (ending i (write X y) › run act.list_join)
write l nil = run act.list_none
write l (full x) = write X x › run act.list_done
write l (expression x) = simple (write T x › run act.expr)
write l (assign x y) = simple (write T x › key Equal › write T y › run act.assign)
write l (return x) = simple (key Return › run act.mark › write T x › run act.return)
write l (alone w) = simple (key (alone_code w) › run (act.alone (alone_kind w)))
write l (branch x b y z) = compound (key If › run act.mark › write X x › block (write X b) › write X y › write X z › run act.branch)
write l (while x b) = compound (key While › run act.mark › write X x › block (write X b) › run act.while)
write l (for n x b) = compound (key For › run act.mark › write X n › run act.mark › key In › write X x › block (write X b) › run act.for)
write l (define x) = compound (write X x › run (act.define kind.Def))
write l (class n x) = compound (key token.Class › run act.mark › write X n › run act.mark › block (write X x › run act.list_done) › run act.class)
write l (def n x b) = key Def › run act.mark › write X n › run act.mark › key LParen › write X x › key RParen › block (write X b)
write l (elif x b) = key Elif › run act.mark › write X x › block (write X b) › run act.elif › run act.list_one
write l without = run act.list_none
write l (otherwise b) = key Else › run act.mark › block (write X b) › run act.else › run act.list_one › run act.list_done
write l (program x) = write X x › run act.program

-- the symbols of a tree's text
unfoldable pub print : {s : Sort} → Level → Tree s → List ℕ
print l t = symbols (write l t) []

-- how many E and Block are open within one another while it is read, at most
unfoldable pub need : {s : Sort} → Level → Tree s → ℕ
unfolding raise
need l (name w n) = 0
need l (literal c n) = raise F l 0
need l (variable x) = raise F l 0
need l (unary g x) = raise G l (need G x)
need l (binary o x y) = raise (level_of o) l (max (need (level_of o) x) (need (below o) y))
need l (compare c) = raise C l (need X c)
need l (attribute x n) = raise F l (need F x)
need l (apply x y) = raise F l (max (need F x) (need X y))
need l (index x y) = raise F l (max (need F x) (need X y))
need l (bracket b x) = raise F l (need X x)
need l (void v) = raise F l 0
need l (dict x) = raise F l (need X x)
need l (set x) = raise F l (need X x)
need l (single x) = pick (same_level l T) (need X x) (raise F l (need X x))
need l (tuple x) = pick (same_level l T) (need X x) (raise F l (need X x))
need l (lambda x y) = raise E l (max (need X x) (need X y))
need l (pair x y) = max (need X x) (need X y)
need l (two o x y) = max (need S x) (need S y)
need l (link x o y) = max (need X x) (need S y)
need l (both x y) = max (need X x) (need X y)
need l (also x y) = max (need X x) (need X y)
need l (one x) = need X x
need l (more x y) = max (need X x) (need X y)
need l nil = 0
need l (full x) = need X x
need l (expression x) = need T x
need l (assign x y) = max (need T x) (need T y)
need l (return x) = need T x
need l (alone w) = 0
need l (branch x b y z) = max (max (need X x) (suc (need X b))) (max (need X y) (need X z))
need l (while x b) = max (need X x) (suc (need X b))
need l (for n x b) = max (need X x) (suc (need X b))
need l (define x) = need X x
need l (class n x) = need X x
need l (def n x b) = max (need X x) (suc (need X b))
need l (elif x b) = max (need X x) (suc (need X b))
need l without = 0
need l (otherwise b) = suc (need X b)
need l (program x) = need X x
