-- The trees of two scripts: the layout of `a<b<c` and a line feed is the listing of 01 (Scripts), and the Float of `(1.5)`, whose span is the wider one, keeps the
-- place of its token.
-- Assumes nothing.
use Prim.Native.Nat.{ℕ}
use mathlib.Core.Path.{◌≡◌, refl}
use mathlib.Core.List.{[], ◌∷◌}
use Rattle.ast.specs.Kind as kind
use Rattle.ast.specs.Node.{made}
use Rattle.ast.specs.Operator.{binary_op_lem}
use Rattle.trees.specs.Tree.{Tree, single, node, chained, done, word, child, kids, full, one, first, link}
use Rattle.trees.specs.Flat.{size, head_g, head, operand, fields, onto, flat}
use Rattle.trees.proofs.Editing.{widen}
use Rattle.trees.proofs.Making.{free₂, free₃}

-- a script of one expression
abbrev script : ℕ → ℕ → Tree single → Tree single
script n e x = node kind.Program 0 n refl (kids (full (one (node kind.Expr 0 e refl (child x free₃)))) free₃)

abbrev letter : ℕ → ℕ → Tree single
letter s e = node kind.Variable s e refl (word s (word e free₂))

pub listing : flat (script 6 5 (chained (link 0 5 2 5 9 (first 0 3 9 (letter 0 1) (letter 2 3)) (letter 4 5)))) ≡
    made kind.Variable 0 1 0 1 0 0
    ∷ made kind.Variable 2 3 2 3 0 0
    ∷ made kind.Binary 0 3 9 0 1 0
    ∷ made kind.Variable 4 5 4 5 0 0
    ∷ made kind.Binary 2 5 9 1 3 0
    ∷ made kind.Binary 0 5 13 2 4 0
    ∷ made kind.Expr 0 5 5 0 0 0
    ∷ made kind.Program 0 6 6 0 0 0
    ∷ []
unfolding onto fields size head_g head operand binary_op_lem
listing = refl

-- 1073217536 is the high half of 1.5
pub wider : flat (script 5 5 (widen 0 5 (node kind.Float 1 4 refl (word 0 (word 1073217536 (word 1 (word 4 done))))))) ≡
    made kind.Float 0 5 0 1073217536 1 4
    ∷ made kind.Expr 0 5 0 0 0 0
    ∷ made kind.Program 0 5 1 0 0 0
    ∷ []
unfolding onto fields size head_g head widen
wider = refl
