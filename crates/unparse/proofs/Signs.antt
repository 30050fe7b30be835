-- What the signs of a U make of its F, as a tree.
-- Assumes nothing.
use mathlib.Core.Path.{◌≡◌, refl}
use mathlib.Core.List.{List, [], ◌∷◌}
use Rattle.unparse.specs.Trees.{Expr, a, Sign, Tree}
use Rattle.unparse.specs.Trees as tree
use Rattle.unparse.specs.Values.{Value}
use Rattle.unparse.proofs.Machine.{signed}

-- the signs over an expression, the last one first
unfoldable pub wrap : List Sign → Tree (a Expr) → Tree (a Expr)
wrap [] x = x
wrap (g ∷ s) x = wrap s (tree.unary g x)

pub signed_is : (s : List Sign) (v : Value) → (signed s v).item Expr ≡ wrap s (v.item Expr)
unfolding wrap signed
signed_is [] v = refl
signed_is (g ∷ s) v = signed_is s _
