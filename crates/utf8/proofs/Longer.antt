-- The sequences of three bytes and of four: their first byte says which range the second has.
-- Assumes nothing.
use mathlib.Core.Path.{◌≡◌, ◌∙◌}
use mathlib.Core.Bool.{Bool, true, false, cond, ◌&&◌, true≢false}
use mathlib.Core.List.{List, [], ◌∷◌}
use Prim.Native.Nat.{ℕ, ◌+◌, ◌<◌, ◌≤◌}
use native.Mathlib.Decide.{dec_lt}
use native.Mathlib.Omega.{arith}
use lib.Dec.{eqb}
use lib.ListN.{length, get_or, drop}
use Rattle.source.specs.Bytes.{between}
use Rattle.source.proofs.Bools.{and_assoc}
use Rattle.source.proofs.Ranges.{at_each}
use Rattle.utf8.specs.Table.{Row, rows, sequence_length}
use Rattle.utf8.proofs.Rows.{keep, only, one_row, fits_two, fits_three}

-- the least and the greatest second byte, as the code has them
abbrev least : ℕ → ℕ
least b = cond (eqb b 0xE0) 0xA0 (cond (eqb b 0xF0) 0x90 0x80)

abbrev most : ℕ → ℕ
most b = cond (eqb b 0xED) 0x9F (cond (eqb b 0xF4) 0x8F 0xBF)

least_pos : (b : ℕ) → 0 < least b
least_pos b = go (eqb b 0xE0) (eqb b 0xF0)
  where
    go : (t u : Bool) → 0 < cond t 0xA0 (cond u 0x90 0x80)
    go true u = omega arith
    go false true = omega arith
    go false false = omega arith

-- the ranges behind the first byte
abbrev three : ℕ → Row
three b = (least b, most b) ∷ (0x80, 0xBF) ∷ []

abbrev four : ℕ → Row
four b = (least b, most b) ∷ (0x80, 0xBF) ∷ (0x80, 0xBF) ∷ []

-- the first byte from E0 on, the second byte with its bounds, and whether the third is a continuation byte
module _ (s : List ℕ) (i : ℕ) (within : i < length s) (from : 0xE0 ≤ get_or s i 0) {lo hi second : ℕ} {third : Bool} (is-lo : lo ≡ least (get_or s i 0)) (is-hi : hi ≡ most (get_or s i 0)) (is-second : second ≡ get_or s (i + 1) 0) (is-third : third ≡ between 0x80 0xBF (get_or s (i + 2) 0)) where
  pub by_three : get_or s i 0 < 0xF0 → sequence_length (drop i s) ≡ cond (between lo hi second && third) 3 0
  unfolding rows
  by_three h =
      one_row s i within (three (get_or s i 0)) (at_each (λ (x : ℕ). only (keep rows x) x (three x)) 0xE0 16 tt (get_or s i 0) from h)
      ∙ rw (fits_two (least (get_or s i 0)) (most (get_or s i 0)) s i (least_pos (get_or s i 0)), is-lo, is-hi, is-second, is-third)

  pub by_four : 0xF0 ≤ get_or s i 0 → get_or s i 0 ≤ 0xF4 → sequence_length (drop i s) ≡ cond ((between lo hi second && third) && between 0x80 0xBF (get_or s (i + 3) 0)) 4 0
  unfolding rows
  by_four l h =
      one_row s i within (four (get_or s i 0)) (at_each (λ (x : ℕ). only (keep rows x) x (four x)) 0xF0 5 tt (get_or s i 0) l (omega arith))
      ∙ rw (fits_three (least (get_or s i 0)) (most (get_or s i 0)) s i (least_pos (get_or s i 0)), ← is-lo, ← is-hi, ← is-second, ← is-third, and_assoc (between lo hi second) third (between 0x80 0xBF (get_or s (i + 3) 0)))

  -- another second or third byte: no sequence, whatever the fourth is
  pub by_neither : get_or s i 0 ≤ 0xF4 → (between lo hi second && third) ≡ false → sequence_length (drop i s) ≡ 0
  by_neither h e =
      go (dec_lt (get_or s i 0) 0xF0) (between lo hi second) third (between 0x80 0xBF (get_or s (i + 3) 0)) by_three (λ l. by_four l h) e
    where
      go : Dec (get_or s i 0 < 0xF0) → (t u v : Bool) → (get_or s i 0 < 0xF0 → sequence_length (drop i s) ≡ cond (t && u) 3 0) → (0xF0 ≤ get_or s i 0 → sequence_length (drop i s) ≡ cond ((t && u) && v) 4 0) → (t && u) ≡ false → sequence_length (drop i s) ≡ 0
      go d true true v a b e = absurd (true≢false e)
      go (yes l) true false v a b e = a l
      go (yes l) false u v a b e = a l
      go (no g) true false v a b e = b (omega arith)
      go (no g) false u v a b e = b (omega arith)
