-- The rounds of plain text: "for n bytes under 128, n / 8 rounded down and one for each byte left" (02, change 2).
-- Assumes nothing.
use mathlib.Core.Path.{◌≡◌, refl, sym, ap, ◌∙◌}
use mathlib.Core.Bool.{Bool, true, cond}
use mathlib.Core.List.{List}
use Prim.Native.Nat.{ℕ, zero, suc, ◌+◌, ◌-◌, ◌/◌, ◌%◌, ◌<◌, ◌≤◌}
use native.Mathlib.Decide.{dec_lt}
use native.Mathlib.Omega.{arith}
use lib.ListN.{length, get_or, drop}
use Rattle.source.proofs.Lists.{at_cons}
use Rattle.utf8.specs.Table.{fits, sequence_length, eight, taken, rounds}
use Rattle.utf8.proofs.Rows.{low_at}
use Rattle.utf8.proofs.Lows.{lows, is_low, too_few}
use Rattle.utf8.proofs.Rounds.{rounds_from, next_round, no_round, at_first}

-- every byte is below 128; past the end `get_or` has 0
module _ (s : List ℕ) (plain : (k : ℕ) → get_or s k 0 < 128) where
  all_low : (n i : ℕ) → i + n ≤ length s → fits (lows n) (drop i s) ≡ true
  all_low zero i h = refl
  all_low (suc n) i h = ap (fits (lows (suc n))) (at_cons s i (omega arith)) ∙ rw (is_low (get_or s i 0) (plain i), all_low n (i + 1) (omega arith))

  from : (fuel i : ℕ) → length s - i ≤ fuel → rounds_from s i ≡ (length s - i) / 8 + (length s - i) % 8
  unfolding taken eight
  from zero i h = no_round s i (omega arith) ∙ omega arith
  from (suc fuel) i h = go (from fuel (i + 1)) (from fuel (i + 8)) (dec_lt i (length s)) (dec_lt (length s - i) 8)
    where
      go : (length s - (i + 1) ≤ fuel → rounds_from s (i + 1) ≡ (length s - (i + 1)) / 8 + (length s - (i + 1)) % 8) → (length s - (i + 8) ≤ fuel → rounds_from s (i + 8) ≡ (length s - (i + 8)) / 8 + (length s - (i + 8)) % 8) → Dec (i < length s) → Dec (length s - i < 8) → rounds_from s i ≡ (length s - i) / 8 + (length s - i) % 8
      go one some (no e) d = no_round s i (omega arith) ∙ omega arith
      go one some (yes l) (yes few) =
          let n : 1 ≡ taken (drop i s) = sym (ap (λ (t : Bool). cond t 8 (sequence_length (drop i s))) (too_few s i few) ∙ low_at s i l (plain i)) in
          omega (arith, one (omega arith), next_round s i 1 l n (omega arith))
      go one some (yes l) (no many) =
          let n : 8 ≡ taken (drop i s) = sym (ap (λ (t : Bool). cond t 8 (sequence_length (drop i s))) (all_low 8 i (omega arith))) in
          omega (arith, some (omega arith), next_round s i 8 l n (omega arith))

  pub plain_rounds : rounds s ≡ length s / 8 + length s % 8
  plain_rounds = omega (arith, (at_first s).count, from (length s) 0 (omega arith))
