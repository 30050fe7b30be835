-- The kinds none of whose fields holds a node.
-- Assumes nothing.
use mathlib.Core.Path.{◌≡◌, ap}
use mathlib.Core.List.{◌∷◌}
use Prim.Native.Nat.{ℕ, ◌≤◌, ◌<◌}
use lib.Dec.{eqb}
use lib.ListN.{get_or-eq_default}
use borrow.Author.Tests.{eqb-true}
use native.Mathlib.Omega.{arith}
use Rattle.source.proofs.Ranges.{at_each}
use Rattle.ast.specs.Node.{row, unused, table, fields_of}
use Rattle.ast.specs.Mask.{mask_of, node_fields_lem}

-- a run of kinds whose fields hold nodes alike, as an arm's patterns name them, and what is above all kinds
module _ (k : ℕ) where
  pub one : 27 ≤ k → k < 33 → node_fields_lem k ≡ 1
  unfolding node_fields_lem
  one a b = eqb-true _ _ (at_each (λ (x : ℕ). eqb (mask_of (fields_of x)) 1) 27 6 tt k a b)

  pub three : 33 ≤ k → k < 35 → node_fields_lem k ≡ 3
  unfolding node_fields_lem
  three a b = eqb-true _ _ (at_each (λ (x : ℕ). eqb (mask_of (fields_of x)) 3) 33 2 tt k a b)

  pub none : 35 ≤ k → node_fields_lem k ≡ 0
  unfolding node_fields_lem
  none a = ap mask_of (get_or-eq_default (row unused unused unused unused ∷ table) (row unused unused unused unused) {n = k} (omega arith))
