-- Operators: "Operators count from 1 in enum order" (01, Tree). The lists are UnaryOp and BinaryOp of src/parser/ast.rs, each operator by its token.
-- Assumes nothing.
use Rattle.std.specs.Prelude.{ℕ, suc, cond, List, [], ◌∷◌, eqb}
use Rattle.token.specs.Code.{And, Or, Not, Plus, Minus, Star, SlashSlash, Slash, Percent, EqualEqual, NotEqual, Less, LessEqual, Greater, GreaterEqual}

-- Not, Negate, Pos
abbrev pub unary_ops : List ℕ
unary_ops = Not ∷ Minus ∷ Plus ∷ []

-- Add, Subtract, Multiply, Divide, FloorDivide, Modulo, Equal, NotEqual, Less, LessEqual, Greater, GreaterEqual, And, Or
abbrev pub binary_ops : List ℕ
binary_ops = Plus ∷ Minus ∷ Star ∷ Slash ∷ SlashSlash ∷ Percent ∷ EqualEqual ∷ NotEqual ∷ Less ∷ LessEqual ∷ Greater ∷ GreaterEqual ∷ And ∷ Or ∷ []

-- the place of a code in a list, counted from 1; it is asked only of codes in the list
abbrev pub rank_in : List ℕ → ℕ → ℕ
rank_in [] c = 0
rank_in (x ∷ l) c = cond (eqb c x) 1 (suc (rank_in l c))

unfoldable pub unary_op_lem : ℕ → ℕ
unary_op_lem c = rank_in unary_ops c

unfoldable pub binary_op_lem : ℕ → ℕ
binary_op_lem c = rank_in binary_ops c
