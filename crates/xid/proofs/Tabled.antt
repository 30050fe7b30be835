-- A row of a static table, where the table's rows together are the definition's list.
-- Assumes nothing.
use mathlib.Core.Path.{◌≡◌, refl, ap, ◌∙◌}
use mathlib.Core.List.{List, [], ◌∷◌}
use Prim.Native.Nat.{ℕ, zero, suc, ◌+◌, ◌-◌, ◌*◌, ◌/◌, ◌<◌}
use native.Mathlib.Omega.{arith}
use lib.ListN.{length, get_or}
use Rattle.xid.specs.declared.row.Row.{Row}
use Rattle.xid.specs.Row.{bounds, all}
use Rattle.xid.specs.Ranges.{row_of}
use Rattle.xid.proofs.Halving.{Between}

pub row_at : (rs : List Row) (d : Row) (i : ℕ) → i < length rs → bounds (get_or rs i d) ≡ row_of (all rs) i
row_at [] d i h = absurd (omega arith)
row_at (r ∷ rs) d zero h = refl
row_at (r ∷ rs) d (suc i) h =
    let e : 6 * suc i ≡ suc (suc (suc (suc (suc (suc (6 * i)))))) = omega arith in
    rw e (row_at rs d i (omega arith))

pub count : (rs : List Row) → 6 * length rs ≡ length (all rs)
count [] = refl
count (r ∷ rs) = omega (arith, count rs)

-- what a read past the end would give
abbrev pub blank : Row
blank = record { 0 = 0; 1 = 0; 2 = 0; 3 = 0; 4 = 0; 5 = 0 }

-- the row in the middle of those that are left
module _ (rs : List Row) {t : List ℕ} (e : all rs ≡ t) where
  pub whole : 6 * length rs ≡ length t
  whole = count rs ∙ ap length e

  pub middle : {c lo hi : ℕ} → Between t c lo hi → lo < hi → lo + (hi - lo) / 2 < length rs
  middle b h = omega (arith, whole, b.hi_le)

  pub row : (d : Row) (m : ℕ) → m < length rs → bounds (get_or rs m d) ≡ row_of t m
  row d m h = row_at rs d m h ∙ ap (λ (l : List ℕ). row_of l m) e
