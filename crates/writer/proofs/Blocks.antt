-- What the arms of a `match` on a node's kind know of its block.
-- Assumes nothing.
use mathlib.Core.Path.{◌≡◌}
use mathlib.Core.List.{[], ◌∷◌}
use mathlib.Core.Logic.{◌⊎◌, inl, inr, ⊎_elim}
use Prim.Native.Nat.{ℕ, ◌+◌, ◌<◌, ◌≤◌}
use native.Mathlib.Decide.{ℕ_discrete}
use native.Mathlib.Omega.{arith}
use borrow.Author.Tests.{ne_eqb}
use Rattle.source.proofs.Ranges.{NotIn}
use Rattle.ast.specs.Kind as kind
use Rattle.ast.specs.Node.{Node}
use Rattle.standard.specs.Hollow.{block_of}

-- kinds that follow each other come as a range
pub one_of_two : (lo k : ℕ) → lo ≤ k → k < lo + 2 → (k ≡ lo) ⊎ (k ≡ lo + 1)
one_of_two lo k l h = go (ℕ_discrete k lo)
  where
    go : Dec (k ≡ lo) → (k ≡ lo) ⊎ (k ≡ lo + 1)
    go (yes e) = inl e
    go (no n) = inr (omega arith)

-- the other kinds: those around the ranges, but for the three that stand alone
pub no_block : (n : Node) → NotIn (kind.Else ∷ kind.Method ∷ kind.Elif ∷ []) n.kind → (n.kind < kind.If) ⊎ (kind.Def < n.kind) → 0 ≡ block_of n
no_block n h o =
    rw (
      ne_eqb k kind.If (out _ (omega arith) (omega arith)),
      ne_eqb k kind.While (out _ (omega arith) (omega arith)),
      ne_eqb k kind.Elif h.0.0.1,
      ne_eqb k kind.For (out _ (omega arith) (omega arith)),
      ne_eqb k kind.Def (out _ (omega arith) (omega arith)),
      ne_eqb k kind.Method h.0.1,
      ne_eqb k kind.Else h.1,
    )
  where
    k : ℕ
    k = n.kind

    out : (j : ℕ) → kind.If ≤ j → j ≤ kind.Def → k ≡ j → ⊥
    out j a b e = ⊎_elim (λ l. omega arith) (λ l. omega arith) o
