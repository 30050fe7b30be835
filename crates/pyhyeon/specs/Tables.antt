-- The language as the descent takes it, and its tables. "Descent opens a rule only on a token that can begin it and decides by the next token,
-- `{` after its first E" (01, Grammar).
-- Assumes nothing.
use Rattle.std.specs.Prelude.{ℕ, Bool, true, false, List, [], ◌∷◌, ◌++◌}
use Rattle.grammar.specs.Grammar.{Part, skip, act, tok, see, call, ◌⨾◌, ◌∕◌, many, tail}
use Rattle.grammar.specs.Descent.{Plan}
use Rattle.token.specs.Code.{If, Elif, Else, While, For, Def, Return, And, Or, Break, Continue, Pass, Lambda, Identifier}
use Rattle.token.specs.Code.{LParen, RParen, LBracket, RBracket, LBrace, RBrace, Equal, Colon, Comma, Semicolon, Indent, Dedent, Newline, Eof}
use Rattle.token.specs.Code as token
use Rattle.pyhyeon.specs.Symbol.{Tee}
use Rattle.ast.specs.Kind as kind
use Rattle.pyhyeon.specs.Action.{Action, mark, literal, named, alone, list_none, list_one, list_join, list_done, enclose, empty, group, tuple, pair, expr, assign, return, program}
use Rattle.pyhyeon.specs.Rules.{Rule, Program, Line, Simple, Block, Class, E, O, A, C, S, P, U, F, tk, more, list, entry, further, rest, simples, newlines, comparisons, sums, products, sign_set, literals, postfix, plain}

-- Alternatives that begin alike are taken together up to where they differ, and Newlines between two Lines are taken after the first. So Program,
-- Simple, Block and F differ from `plain`.

abbrev pub lines_on : Part Action Rule
lines_on = call Line ⨾ newlines ⨾ many (call Line ⨾ newlines ⨾ act list_join) ⨾ act list_done

-- t: after one E a comma makes it a Tuple, whether another E follows or not
abbrev pub t_joined : Part Action Rule
t_joined = call E ⨾ (tk Comma ⨾ act list_one ⨾ (further ∕ skip) ⨾ act tuple ∕ skip)

-- `{` and its first E: a colon makes it a pair, and anything else a member
abbrev pub pairs_on : Part Action Rule
pairs_on = tk Colon ⨾ call E ⨾ act pair ⨾ act list_one ⨾ tail Comma (more entry) ⨾ act list_done ⨾ tk RBrace ⨾ act (enclose kind.Dict)

abbrev pub set_on : Part Action Rule
set_on = act list_one ⨾ tail Comma (more (call E)) ⨾ act list_done ⨾ tk RBrace ⨾ act (enclose kind.Set)

abbrev pub braces : Part Action Rule
braces = tk RBrace ⨾ act (empty kind.Dict) ∕ call E ⨾ (pairs_on ∕ set_on)

abbrev pub round : Part Action Rule
round =
    call E ⨾ (tk RParen ⨾ act group ∕ tk Comma ⨾ rest ⨾ tk RParen ⨾ act (enclose kind.Tuple))
    ∕ tk RParen ⨾ tk RParen ⨾ act (empty kind.Tuple)

-- what stands before the postfix parts of an F
abbrev pub primary : Part Action Rule
primary =
    tok literals ⨾ act literal
    ∕ tk LBracket ⨾ act mark ⨾ list ⨾ tk RBracket ⨾ act (enclose kind.List)
    ∕ tk Tee ⨾ (act mark ⨾ tk LBrace ⨾ list ⨾ tk RBrace ⨾ act (enclose kind.TreeSet) ∕ act (named kind.Variable))
    ∕ tk LBrace ⨾ act mark ⨾ braces
    ∕ tk LParen ⨾ act mark ⨾ round
    ∕ tk Identifier ⨾ act (named kind.Variable)

unfoldable pub joined : Rule → Part Action Rule
unfolding plain
joined Program = newlines ⨾ (lines_on ∕ act list_none) ⨾ see (Eof ∷ []) ⨾ act program
joined Line = plain Line
joined Simple =
    tk Return ⨾ act mark ⨾ t_joined ⨾ act return
    ∕ t_joined ⨾ (tk Equal ⨾ t_joined ⨾ act assign ∕ act expr)
    ∕ tk Break ⨾ act (alone kind.Break)
    ∕ tk Continue ⨾ act (alone kind.Continue)
    ∕ tk Pass ⨾ act (alone kind.Pass)
joined Block =
    tk Colon ⨾ (tk Newline ⨾ newlines ⨾ tk Indent ⨾ (newlines ⨾ lines_on ∕ act list_none) ⨾ tk Dedent ∕ simples ⨾ act list_done)
joined Class = plain Class
joined E = plain E
joined O = plain O
joined A = plain A
joined C = plain C
joined S = plain S
joined P = plain P
joined U = plain U
joined F = primary ⨾ many postfix

-- "A token can begin a rule when some reading of the rule starts with it": the tokens that can begin F, U, E, Simple and Line.
abbrev pub first_f : List ℕ
first_f = literals ++ LBracket ∷ Tee ∷ LBrace ∷ LParen ∷ Identifier ∷ []

abbrev pub first_u : List ℕ
first_u = sign_set ++ first_f

abbrev pub first_e : List ℕ
first_e = Lambda ∷ first_u

abbrev pub first_simple : List ℕ
first_simple = Return ∷ Break ∷ Continue ∷ Pass ∷ first_e

abbrev pub first_line : List ℕ
first_line = token.Class ∷ Def ∷ If ∷ While ∷ For ∷ first_simple

unfoldable pub first : Rule → List ℕ
first Program = Newline ∷ Eof ∷ first_line
first Line = first_line
first Simple = first_simple
first Block = Colon ∷ []
first Class = token.Class ∷ []
first E = first_e
first O = first_u
first A = first_u
first C = first_u
first S = first_u
first P = first_u
first U = first_u
first F = first_f

-- The descent does not read the tables from here to `rank`: they are tested (`passes`, `frugal`), and need not be believed.

-- the tokens that can stand after a rule
abbrev after_line : List ℕ
after_line = Newline ∷ Dedent ∷ Eof ∷ first_line

abbrev after_e : List ℕ
after_e = Comma ∷ Colon ∷ RBracket ∷ RBrace ∷ RParen ∷ Equal ∷ Semicolon ∷ Newline ∷ Eof ∷ []

abbrev after_s : List ℕ
after_s = And ∷ Or ∷ comparisons ++ after_e

abbrev after_u : List ℕ
after_u = products ++ sums ++ after_s

unfoldable pub follow : Rule → List ℕ
follow Program = Eof ∷ []
follow Line = after_line
follow Simple = Semicolon ∷ Newline ∷ Eof ∷ []
follow Block = Elif ∷ Else ∷ after_line
follow Class = after_line
follow E = after_e
follow O = after_e
follow A = Or ∷ after_e
follow C = And ∷ Or ∷ after_e
follow S = after_s
follow P = sums ++ after_s
follow U = after_u
follow F = after_u

-- every rule but Program takes a token
unfoldable pub least : Rule → ℕ
least Program = 0
least Line = 1
least Simple = 1
least Block = 1
least Class = 1
least E = 1
least O = 1
least A = 1
least C = 1
least S = 1
least P = 1
least U = 1
least F = 1

-- how many rules it may open within one another before it takes a token
unfoldable pub rank : Rule → ℕ
rank Program = 10
rank Line = 9
rank Simple = 8
rank Block = 0
rank Class = 0
rank E = 7
rank O = 6
rank A = 5
rank C = 4
rank S = 3
rank P = 2
rank U = 1
rank F = 0

-- "13 at most 64 E and Block open at once?"
unfoldable pub opens : Rule → Bool
opens Program = false
opens Line = false
opens Simple = false
opens Block = true
opens Class = false
opens E = true
opens O = false
opens A = false
opens C = false
opens S = false
opens P = false
opens U = false
opens F = false

abbrev pub depth : ℕ
depth = 64

abbrev pub pyhyeon : Plan Action Rule
pyhyeon = record { body = joined; first = first; follow = follow; least = least; rank = rank; opens = opens }
