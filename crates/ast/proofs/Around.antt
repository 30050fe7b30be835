-- The words around a node's stay, when words of that node are written.
-- Assumes nothing.
use mathlib.Core.Path.{◌≡◌}
use mathlib.Core.List.{List, [], ◌∷◌}
use Prim.Native.Nat.{ℕ, ◌+◌, ◌*◌, ◌≤◌, ◌<◌}
use native.Mathlib.Omega.{arith}
use lib.ListN.{get_or}
use lib.Seq.{get_or-set_other}
use Rattle.ast.specs.Node.{Node, words}
use Rattle.ast.specs.Words.{put_node_lem, set_span_lem, set_next_lem}
use Rattle.ast.proofs.Nodes.{sets_before, sets_after}

module _ (tree : List ℕ) (k w : ℕ) where
  -- a word before node k, and one behind it
  pub before_put : (n : Node) → w < 8 * k + 8 → get_or (put_node_lem tree k n) w 0 ≡ get_or tree w 0
  unfolding put_node_lem
  before_put n h = sets_before tree (8 * k + 8) (words n) w h

  pub behind_put : (n : Node) → 8 * k + 16 ≤ w → get_or (put_node_lem tree k n) w 0 ≡ get_or tree w 0
  unfolding put_node_lem
  behind_put n h = sets_after tree (8 * k + 8) (words n) w (omega arith)

  pub before_span : (a b : ℕ) → w < 8 * k + 8 → get_or (set_span_lem tree k a b) w 0 ≡ get_or tree w 0
  unfolding set_span_lem
  before_span a b h = sets_before tree (8 * k + 8 + 1) (a ∷ b ∷ []) w (omega arith)

  pub behind_span : (a b : ℕ) → 8 * k + 16 ≤ w → get_or (set_span_lem tree k a b) w 0 ≡ get_or tree w 0
  unfolding set_span_lem
  behind_span a b h = sets_after tree (8 * k + 8 + 1) (a ∷ b ∷ []) w (omega arith)

  pub before_next : (x : ℕ) → w < 8 * k + 8 → get_or (set_next_lem tree k x) w 0 ≡ get_or tree w 0
  unfolding set_next_lem
  before_next x h = get_or-set_other tree (8 * k + 8 + 3) w x 0 (λ e. omega arith)

  pub behind_next : (x : ℕ) → 8 * k + 16 ≤ w → get_or (set_next_lem tree k x) w 0 ≡ get_or tree w 0
  unfolding set_next_lem
  behind_next x h = get_or-set_other tree (8 * k + 8 + 3) w x 0 (λ e. omega arith)
