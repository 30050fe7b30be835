-- The thirteen rules, as the trial takes them: the alternatives in the order of 01, section Grammar, with the actions that make the nodes.
-- Assumes nothing.
use Rattle.std.specs.Prelude.{ℕ, List, [], ◌∷◌}
use Rattle.grammar.specs.Grammar.{Part, skip, act, tok, see, call, ◌⨾◌, ◌∕◌, many, tail}
use Rattle.token.specs.Code.{If, Elif, Else, While, For, In, Def, Return, And, Or, Not, Break, Continue, Pass, Lambda, None, Bool, Int, String, Identifier, Float}
use Rattle.token.specs.Code.{Plus, Minus, Star, SlashSlash, Slash, Percent, EqualEqual, NotEqual, Less, LessEqual, Greater, GreaterEqual, Equal}
use Rattle.token.specs.Code.{LParen, RParen, LBracket, RBracket, LBrace, RBrace, Colon, Comma, Semicolon, Dot, Indent, Dedent, Newline, Eof}
use Rattle.token.specs.Code as token
use Rattle.pyhyeon.specs.Symbol.{Tee}
use Rattle.ast.specs.Kind as kind
use Rattle.pyhyeon.specs.Action.{Action, mark, literal, named, alone, signs_none, signs_more, unary, binary, compare, compare_more, compared, list_none, list_one, list_join, list_done, enclose, empty, group, tuple, pair, attribute, apply, index, lambda, expr, assign, return, branch, elif, else, while, for, define, class, program}

-- "Thirteen rules: Program (opened once, always), Line, Simple, Block, Class, E, O, A, C, S, P, U, F"
pub data Rule : Type 0 where
  Program Line Simple Block Class E O A C S P U F : Rule

abbrev pub tk : ℕ → Part Action Rule
tk c = tok (c ∷ [])

-- What follows, up to `plain`, is no rule: it stands wherever it is named, and opens nothing.

-- a name, which may be `t`
abbrev pub names : List ℕ
names = Tee ∷ Identifier ∷ []

-- a name whose place its statement has
abbrev pub called : Part Action Rule
called = tok names ⨾ act mark

-- "Lists, of names and pairs too, may be empty and take commas, one trailing, none alone."
abbrev pub more : Part Action Rule → Part Action Rule
more p = p ⨾ act list_one ⨾ act list_join

abbrev pub members : Part Action Rule → Part Action Rule
members p = p ⨾ act list_one ⨾ tail Comma (more p) ⨾ act list_done

abbrev pub list_of : Part Action Rule → Part Action Rule
list_of p = members p ∕ act list_none

abbrev pub list : Part Action Rule
list = list_of (call E)

abbrev pub parameters : Part Action Rule
parameters = list_of (tok names ⨾ act (named kind.Name))

abbrev pub entry : Part Action Rule
entry = call E ⨾ tk Colon ⨾ call E ⨾ act pair

-- "E separated by commas, trailing allowed", and the list of "(E, list)": one E or more behind a first E and its comma
abbrev pub further : Part Action Rule
further = more (call E) ⨾ tail Comma (more (call E))

-- "t is E separated by commas, trailing allowed; .. more make a Tuple"; "One E with a trailing comma in return, assignment or expression is now a Tuple of
-- one whose span includes the comma" (02, change 5); "one E alone stays that E".
abbrev pub t : Part Action Rule
t = call E ⨾ (tk Comma ⨾ act list_one ⨾ further ⨾ act tuple ∕ tk Comma ⨾ act list_one ⨾ act tuple ∕ skip)

-- "Parentheses: (E) is E with the wider span; (E, list) is a Tuple; `()` is refused and `())` is the empty Tuple."
abbrev pub rest : Part Action Rule
rest = act list_one ⨾ (further ∕ skip) ⨾ act list_done

abbrev pub parentheses : Part Action Rule
parentheses =
    tk LParen ⨾ act mark ⨾ call E ⨾ tk RParen ⨾ act group
    ∕ tk LParen ⨾ act mark ⨾ call E ⨾ tk Comma ⨾ rest ⨾ tk RParen ⨾ act (enclose kind.Tuple)
    ∕ tk LParen ⨾ act mark ⨾ tk RParen ⨾ tk RParen ⨾ act (empty kind.Tuple)

-- "simples: Simple separated by `;`, one trailing allowed, then Newline or end"
abbrev pub simples : Part Action Rule
simples = call Simple ⨾ act list_one ⨾ tail Semicolon (more (call Simple)) ⨾ (tk Newline ∕ see (Eof ∷ []))

-- "Newlines (none or more)"; "one or more Newlines"
abbrev pub newlines : Part Action Rule
newlines = many (tk Newline)

-- "Lines each with Newlines around"
abbrev pub around : Part Action Rule
around = newlines ⨾ call Line ⨾ newlines

abbrev pub lines : Part Action Rule
lines = around ⨾ many (around ⨾ act list_join) ⨾ act list_done ∕ act list_none

-- "After the keyword: def and Method name, (names), Block; if, elif and while E, Block; else Block; for name, `in`, E, Block."
abbrev pub definition : ℕ → Part Action Rule
definition k = tk Def ⨾ act mark ⨾ called ⨾ tk LParen ⨾ parameters ⨾ tk RParen ⨾ call Block ⨾ act (define k)

abbrev pub elifs : Part Action Rule
elifs = tk Elif ⨾ act mark ⨾ call E ⨾ call Block ⨾ act elif ⨾ act list_one

-- "Elif and else must follow at once": no Newline is between.
abbrev pub conditional : Part Action Rule
conditional =
    tk If ⨾ act mark ⨾ call E ⨾ call Block
    ⨾ (elifs ⨾ many (elifs ⨾ act list_join) ⨾ act list_done ∕ act list_none)
    ⨾ (tk Else ⨾ act mark ⨾ call Block ⨾ act else ⨾ act list_one ⨾ act list_done ∕ act list_none)
    ⨾ act branch

abbrev pub compound : Part Action Rule
compound =
    call Class
    ∕ definition kind.Def
    ∕ conditional
    ∕ tk While ⨾ act mark ⨾ call E ⨾ call Block ⨾ act while
    ∕ tk For ⨾ act mark ⨾ called ⨾ tk In ⨾ call E ⨾ call Block ⨾ act for

-- A level of operators: an operand, and while an operator stands next, it and another operand.
abbrev pub level : Rule → List ℕ → Part Action Rule
level r ops = call r ⨾ many (tok ops ⨾ act mark ⨾ call r ⨾ act binary)

-- the operators of C, S and P, and the signs of U: "C: S by comparisons. S: P by + -. P: U by * // / %." and "any of not - +"
abbrev pub comparisons : List ℕ
comparisons = Less ∷ LessEqual ∷ Greater ∷ GreaterEqual ∷ EqualEqual ∷ NotEqual ∷ []

abbrev pub sums : List ℕ
sums = Plus ∷ Minus ∷ []

abbrev pub products : List ℕ
products = Star ∷ SlashSlash ∷ Slash ∷ Percent ∷ []

abbrev pub sign_set : List ℕ
sign_set = Not ∷ Minus ∷ Plus ∷ []

abbrev pub literals : List ℕ
literals = Int ∷ Bool ∷ String ∷ Float ∷ None ∷ []

abbrev pub postfix : Part Action Rule
postfix =
    tk Dot ⨾ tok names ⨾ act attribute
    ∕ tk LParen ⨾ list ⨾ tk RParen ⨾ act apply
    ∕ tk LBracket ⨾ call E ⨾ tk RBracket ⨾ act index

-- The rules.
unfoldable pub plain : Rule → Part Action Rule
-- "Program: Newlines (none or more), Lines each with Newlines around, end."
plain Program = newlines ⨾ lines ⨾ see (Eof ∷ []) ⨾ act program
-- "Line: class, def, if, while, for, or simples"
plain Line = compound ⨾ act list_one ∕ simples
-- "Simple: return t; t = t; t; break; continue; pass."
plain Simple =
    tk Return ⨾ act mark ⨾ t ⨾ act return
    ∕ t ⨾ tk Equal ⨾ t ⨾ act assign
    ∕ t ⨾ act expr
    ∕ tk Break ⨾ act (alone kind.Break)
    ∕ tk Continue ⨾ act (alone kind.Continue)
    ∕ tk Pass ⨾ act (alone kind.Pass)
-- "Block, opened at its colon: one or more Newlines, Indent, Lines as in Program, Dedent; or simples."
plain Block =
    tk Colon ⨾ tk Newline ⨾ newlines ⨾ tk Indent ⨾ lines ⨾ tk Dedent
    ∕ tk Colon ⨾ simples ⨾ act list_done
-- "Class, opened at its keyword: name, colon, one or more Newlines, Indent, one or more Methods with no Newline between, Dedent."
plain Class =
    tk token.Class ⨾ act mark ⨾ called ⨾ tk Colon ⨾ tk Newline ⨾ newlines ⨾ tk Indent
    ⨾ definition kind.Method ⨾ act list_one ⨾ many (more (definition kind.Method)) ⨾ act list_done ⨾ tk Dedent ⨾ act class
-- "E: lambda names : E, or O. O: A by `or`. A: C by `and`. C: S by comparisons. S: P by + -. P: U by * // / %. All group left. U: any of not - +,
-- then F."
plain E = tk Lambda ⨾ act mark ⨾ parameters ⨾ tk Colon ⨾ call E ⨾ act lambda ∕ call O
plain O = level A (Or ∷ [])
plain A = level C (And ∷ [])
plain C =
    call S
    ⨾ (tok comparisons ⨾ act mark ⨾ call S ⨾ act compare ⨾ many (tok comparisons ⨾ act mark ⨾ call S ⨾ act compare_more) ⨾ act compared ∕ skip)
plain S = level P sums
plain P = level U products
plain U = act signs_none ⨾ many (tok sign_set ⨾ act signs_more) ⨾ call F ⨾ act unary
-- "F: literal; [list]; t{list}; {} as Dict, {pairs}, {list}; parentheses; name; then .name (list) [E] repeated."
plain F =
    (tok literals ⨾ act literal
    ∕ tk LBracket ⨾ act mark ⨾ list ⨾ tk RBracket ⨾ act (enclose kind.List)
    ∕ tk Tee ⨾ act mark ⨾ tk LBrace ⨾ list ⨾ tk RBrace ⨾ act (enclose kind.TreeSet)
    ∕ tk LBrace ⨾ act mark ⨾ tk RBrace ⨾ act (empty kind.Dict)
    ∕ tk LBrace ⨾ act mark ⨾ list_of entry ⨾ tk RBrace ⨾ act (enclose kind.Dict)
    ∕ tk LBrace ⨾ act mark ⨾ list ⨾ tk RBrace ⨾ act (enclose kind.Set)
    ∕ parentheses
    ∕ tok names ⨾ act (named kind.Variable))
    ⨾ many postfix
