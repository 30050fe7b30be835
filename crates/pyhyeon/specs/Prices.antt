-- What each action writes, and what each rule may: the prices by which the limits are shown. A token pays for two nodes and ten openings.
-- No statement cites these tables: they are tested (`frugal`), and need not be believed.
-- Assumes nothing.
use Rattle.std.specs.Prelude.{ℕ}
use Rattle.grammar.specs.Limits.{Prices}
use Rattle.token.specs.Code.{Eof}
use Rattle.pyhyeon.specs.Action.{Action, mark, literal, named, alone, signs_none, signs_more, unary, binary, compare, compare_more, compared, list_none, list_one, list_join, list_done, enclose, empty, group, tuple, pair, attribute, apply, index, lambda, expr, assign, return, branch, elif, else, while, for, define, class, program}
use Rattle.pyhyeon.specs.Rules.{Rule, Program, Line, Simple, Block, Class, E, O, A, C, S, P, U, F}

-- The nodes that an action writes. A sign is paid for when it is taken, though its Unary is written behind the operand.
unfoldable pub writes : Action → ℕ
writes mark = 0
writes literal = 1
writes (named kind) = 1
writes (alone kind) = 1
writes signs_none = 0
writes signs_more = 1
writes unary = 0
writes binary = 1
writes compare = 1
writes compare_more = 2
writes compared = 0
writes list_none = 0
writes list_one = 0
writes list_join = 0
writes list_done = 0
writes (enclose kind) = 1
writes (empty kind) = 1
writes group = 0
writes tuple = 1
writes pair = 1
writes attribute = 1
writes apply = 1
writes index = 1
writes lambda = 1
writes expr = 1
writes assign = 1
writes return = 1
writes branch = 1
writes elif = 1
writes else = 1
writes while = 1
writes for = 1
writes (define kind) = 1
writes class = 1
writes program = 1

-- Program is given the one node that no token pays for.
unfoldable pub needs : Rule → ℕ
needs Program = 1
needs Line = 0
needs Simple = 0
needs Block = 0
needs Class = 0
needs E = 0
needs O = 0
needs A = 0
needs C = 0
needs S = 0
needs P = 0
needs U = 0
needs F = 0

-- An expression leaves one node of what its tokens paid: the Expr of a line that is an expression alone is written of it.
unfoldable pub gives : Rule → ℕ
gives Program = 0
gives Line = 0
gives Simple = 0
gives Block = 0
gives Class = 0
gives E = 1
gives O = 1
gives A = 1
gives C = 1
gives S = 1
gives P = 1
gives U = 1
gives F = 1

abbrev pub prices : Prices Action Rule
prices = record { eof = Eof; width = 10; pay = 2; writes = writes; needs = needs; gives = gives }
