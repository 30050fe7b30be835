-- The bytes of the sequence at a place, one by one, and so its code point.
-- Assumes nothing.
use mathlib.Core.Path.{◌≡◌, refl, sym, ap, ◌∙◌}
use mathlib.Core.Bool.{Bool, true, false, cond, ◌&&◌}
use mathlib.Core.List.{List, [], ◌∷◌}
use Prim.Native.Nat.{ℕ, ◌+◌, ◌<◌, ◌≤◌, zero-le}
use native.Mathlib.Nat.{add_assoc}
use native.Mathlib.Omega.{arith}
use lib.Dec.{leb}
use lib.ListN.{length, get_or, take, drop}
use borrow.Author.Tests.{leb-true}
use Rattle.source.proofs.Bools.{and_left, and_right}
use Rattle.source.proofs.Lists.{at_cons}
use Rattle.utf8.specs.Table.{Row, rows, fits, length_by, sequence_length}
use Rattle.utf8.specs.Character.{code_point, first_code}
use Rattle.utf8.proofs.Rows.{low_sequence}

-- no row is longer than four bytes
short : List Row → Bool
short [] = true
short (row ∷ more) = leb (length row) 4 && short more

length_short : (rs : List Row) (l : List ℕ) → short rs ≡ true → length_by rs l ≤ 4
unfolding short
length_short [] l h = zero-le
length_short (row ∷ more) l h =
    go (fits row l) (leb-true (length row) 4 (and_left (leb (length row) 4) (short more) h)) (length_short more l (and_right (leb (length row) 4) (short more) h))
  where
    go : (t : Bool) → length row ≤ 4 → length_by more l ≤ 4 → cond t (length row) (length_by more l) ≤ 4
    go true a b = a
    go false a b = b

pub at_most_four : (l : List ℕ) → sequence_length l ≤ 4
unfolding sequence_length rows short
at_most_four l = length_short rows l refl

-- a byte below 128 is its own code point
pub low_code : (b : ℕ) (l : List ℕ) → b < 128 → first_code (b ∷ l) ≡ b
unfolding first_code
low_code b l h = rw (low_sequence b l h)

-- the first bytes at a place
module _ (s : List ℕ) (i : ℕ) where
  one : i < length s → take 1 (drop i s) ≡ get_or s i 0 ∷ []
  one h = rw (at_cons s i h)

  two : i + 1 < length s → take 2 (drop i s) ≡ get_or s i 0 ∷ get_or s (i + 1) 0 ∷ []
  two h = rw (at_cons s i (omega arith), at_cons s (i + 1) h)

  three : i + 2 < length s → take 3 (drop i s) ≡ get_or s i 0 ∷ get_or s (i + 1) 0 ∷ get_or s (i + 2) 0 ∷ []
  three h = rw (at_cons s i (omega arith), at_cons s (i + 1) (omega arith), add_assoc i 1 1, at_cons s (i + 2) h)

  four : i + 3 < length s → take 4 (drop i s) ≡ get_or s i 0 ∷ get_or s (i + 1) 0 ∷ get_or s (i + 2) 0 ∷ get_or s (i + 3) 0 ∷ []
  four h = rw (at_cons s i (omega arith), at_cons s (i + 1) (omega arith), add_assoc i 1 1, at_cons s (i + 2) (omega arith), add_assoc i 2 1, at_cons s (i + 3) h)

-- the code point of a sequence of n bytes
module _ (s : List ℕ) (i n : ℕ) (is_n : n ≡ sequence_length (drop i s)) where
  by_length : (k : ℕ) → n ≡ k → code_point (take k (drop i s)) ≡ first_code (drop i s)
  unfolding first_code
  by_length k e = ap (λ (m : ℕ). code_point (take m (drop i s))) (sym e ∙ is_n)

  pub code_none : n ≡ 0 → 0 ≡ first_code (drop i s)
  code_none e = by_length 0 e

  pub code_one : n ≡ 1 → i < length s → code_point (get_or s i 0 ∷ []) ≡ first_code (drop i s)
  code_one e h = ap code_point (sym (one s i h)) ∙ by_length 1 e

  pub code_two : n ≡ 2 → i + 1 < length s → code_point (get_or s i 0 ∷ get_or s (i + 1) 0 ∷ []) ≡ first_code (drop i s)
  code_two e h = ap code_point (sym (two s i h)) ∙ by_length 2 e

  pub code_three : n ≡ 3 → i + 2 < length s → code_point (get_or s i 0 ∷ get_or s (i + 1) 0 ∷ get_or s (i + 2) 0 ∷ []) ≡ first_code (drop i s)
  code_three e h = ap code_point (sym (three s i h)) ∙ by_length 3 e

  pub code_four : n ≡ 4 → i + 3 < length s → code_point (get_or s i 0 ∷ get_or s (i + 1) 0 ∷ get_or s (i + 2) 0 ∷ get_or s (i + 3) 0 ∷ []) ≡ first_code (drop i s)
  code_four e h = ap code_point (sym (four s i h)) ∙ by_length 4 e
