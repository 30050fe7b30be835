-- The well-formed sequence at a place, by its first byte: only the row that the byte is in counts.
-- Assumes nothing.
use mathlib.Core.Path.{◌≡◌, refl, sym, ap, ◌∙◌}
use mathlib.Core.Bool.{Bool, true, false, cond, ◌&&◌, true≢false}
use mathlib.Core.Logic.{⊎_elim}
use mathlib.Core.List.{List, [], ◌∷◌}
use Prim.Native.Nat.{ℕ, zero, suc, ◌+◌, ◌-◌, ◌<◌, ◌≤◌, zero-le, suc-le-suc}
use native.Mathlib.Nat.{add_assoc}
use native.Mathlib.Omega.{arith}
use lib.Dec.{eqb}
use lib.ListN.{length, get_or, drop, length-drop, get_or-eq_default}
use lib.Seq.{drop-drop}
use borrow.Author.Tests.{lt-leb, le-leb, eqb-true}
use Rattle.std.specs.Prelude.{Option, Some, None}
use Rattle.std.proofs.lemmas.Option.{none-some, same_Some}
use Rattle.source.specs.Bytes.{between}
use Rattle.source.proofs.Bools.{and_left, and_right, and_true}
use Rattle.source.proofs.Lists.{at_cons, past, place}
use Rattle.utf8.specs.Table.{Row, rows, fits, length_by, sequence_length, some_length, sequence_at, step, first_ill_formed, utf8_error_lem}

-- the byte at a place, and the bytes behind it
fits_at : (lo hi : ℕ) (rs : Row) (s : List ℕ) (i : ℕ) → 0 < lo → fits ((lo, hi) ∷ rs) (drop i s) ≡ (between lo hi (get_or s i 0) && fits rs (drop (i + 1) s))
fits_at lo hi rs s i h =
    ⊎_elim (λ l. ap (fits ((lo, hi) ∷ rs)) (at_cons s i l))
    (λ g. ap (fits ((lo, hi) ∷ rs)) (past s i g) ∙ sym (rw (get_or-eq_default s 0 {n = i} g, lt-leb lo 0 h)))
    (place s i)

-- what follows the byte at i
module _ (lo hi : ℕ) (s : List ℕ) (i : ℕ) (h : 0 < lo) where
  pub fits_one : fits ((lo, hi) ∷ []) (drop (i + 1) s) ≡ between lo hi (get_or s (i + 1) 0)
  fits_one = fits_at lo hi [] s (i + 1) h ∙ and_true _

  pub fits_two : fits ((lo, hi) ∷ (0x80, 0xBF) ∷ []) (drop (i + 1) s) ≡ (between lo hi (get_or s (i + 1) 0) && between 0x80 0xBF (get_or s (i + 2) 0))
  fits_two =
      fits_at lo hi ((0x80, 0xBF) ∷ []) s (i + 1) h
      ∙ rw (add_assoc, fits_at 0x80 0xBF [] s (i + 2) (omega arith), and_true (between 0x80 0xBF (get_or s (i + 2) 0)))

  pub fits_three : fits ((lo, hi) ∷ (0x80, 0xBF) ∷ (0x80, 0xBF) ∷ []) (drop (i + 1) s) ≡ (between lo hi (get_or s (i + 1) 0) && (between 0x80 0xBF (get_or s (i + 2) 0) && between 0x80 0xBF (get_or s (i + 3) 0)))
  fits_three =
      fits_at lo hi ((0x80, 0xBF) ∷ (0x80, 0xBF) ∷ []) s (i + 1) h
      ∙ rw (add_assoc, fits_at 0x80 0xBF ((0x80, 0xBF) ∷ []) s (i + 2) (omega arith), add_assoc i 2 1, fits_at 0x80 0xBF [] s (i + 3) (omega arith), and_true (between 0x80 0xBF (get_or s (i + 3) 0)))

-- whether the row can start with the byte
abbrev starts : Row → ℕ → Bool
starts [] b = true
starts (r ∷ rs) b = between r.0 r.1 b

-- the rows that can start with the byte
abbrev pub keep : List Row → ℕ → List Row
keep [] b = []
keep (row ∷ more) b = cond (starts row b) (row ∷ keep more b) (keep more b)

miss : (row : Row) (b : ℕ) (l : List ℕ) → starts row b ≡ false → fits row (b ∷ l) ≡ false
miss [] b l h = absurd (true≢false h)
miss (r ∷ rs) b l h = rw h

-- no other row counts
kept : (rs : List Row) (b : ℕ) (l : List ℕ) → length_by rs (b ∷ l) ≡ length_by (keep rs b) (b ∷ l)
kept [] b l = refl
kept (row ∷ rs) b l = go (starts row b) (miss row b l) (kept rs b l)
  where
    go : (t : Bool) → (t ≡ false → fits row (b ∷ l) ≡ false) → length_by rs (b ∷ l) ≡ length_by (keep rs b) (b ∷ l) → length_by (row ∷ rs) (b ∷ l) ≡ length_by (cond t (row ∷ keep rs b) (keep rs b)) (b ∷ l)
    go true m e = ap (λ (n : ℕ). cond (fits row (b ∷ l)) (length row) n) e
    go false m e = rw (m refl) e

-- two rows are the same
abbrev same_row : Row → Row → Bool
same_row [] [] = true
same_row [] (q ∷ qs) = false
same_row (r ∷ rs) [] = false
same_row (r ∷ rs) (q ∷ qs) = (eqb r.0 q.0 && eqb r.1 q.1) && same_row rs qs

-- of these rows the one has the byte x first, and these ranges behind it
abbrev pub only : List Row → ℕ → Row → Bool
only [] x behind = false
only ([] ∷ more) x behind = false
only ((r ∷ rs) ∷ []) x behind = between r.0 r.1 x && same_row rs behind
only ((r ∷ rs) ∷ row ∷ more) x behind = false

-- there are none
abbrev pub null : List Row → Bool
null [] = true
null (row ∷ more) = false

same_fits : (rs qs : Row) (l : List ℕ) → same_row rs qs ≡ true → (fits rs l ≡ fits qs l) × (length rs ≡ length qs)
same_fits [] [] l e = (refl, refl)
same_fits [] (q ∷ qs) l e = absurd (true≢false (sym e))
same_fits (r ∷ rs) [] l e = absurd (true≢false (sym e))
same_fits (r ∷ rs) (q ∷ qs) [] e = (refl, ap suc (same_fits rs qs [] (and_right (eqb r.0 q.0 && eqb r.1 q.1) (same_row rs qs) e)).1)
same_fits (r ∷ rs) (q ∷ qs) (b ∷ l) e =
    let heads = and_left (eqb r.0 q.0 && eqb r.1 q.1) (same_row rs qs) e in
    let lo = eqb-true r.0 q.0 (and_left (eqb r.0 q.0) (eqb r.1 q.1) heads) in
    let hi = eqb-true r.1 q.1 (and_right (eqb r.0 q.0) (eqb r.1 q.1) heads) in
    let more = same_fits rs qs l (and_right (eqb r.0 q.0 && eqb r.1 q.1) (same_row rs qs) e) in
    (rw (lo, hi, more.0), ap suc more.1)

only_length : (rs : List Row) (b : ℕ) (l : List ℕ) (behind : Row) → only rs b behind ≡ true → length_by rs (b ∷ l) ≡ cond (fits behind l) (suc (length behind)) 0
only_length [] b l behind e = absurd (true≢false (sym e))
only_length ([] ∷ more) b l behind e = absurd (true≢false (sym e))
only_length ((r ∷ rs) ∷ []) b l behind e =
    let same = same_fits rs behind l (and_right (between r.0 r.1 b) (same_row rs behind) e) in
    rw (and_left (between r.0 r.1 b) (same_row rs behind) e, same.0, same.1)
only_length ((r ∷ rs) ∷ row ∷ more) b l behind e = absurd (true≢false (sym e))

null_length : (rs : List Row) (l : List ℕ) → null rs ≡ true → length_by rs l ≡ 0
null_length [] l e = refl
null_length (row ∷ more) l e = absurd (true≢false (sym e))

-- the sequence at a place, where the table has one row for the byte there, with these ranges behind it; and where it has none
module _ (s : List ℕ) (i : ℕ) (within : i < length s) where
  pub one_row : (behind : Row) → only (keep rows (get_or s i 0)) (get_or s i 0) behind ≡ true → sequence_length (drop i s) ≡ cond (fits behind (drop (i + 1) s)) (suc (length behind)) 0
  unfolding sequence_length
  one_row behind e =
      ap (length_by rows) (at_cons s i within) ∙ kept rows (get_or s i 0) (drop (i + 1) s)
      ∙ only_length (keep rows (get_or s i 0)) (get_or s i 0) (drop (i + 1) s) behind e

  pub no_row : null (keep rows (get_or s i 0)) ≡ true → sequence_length (drop i s) ≡ 0
  unfolding sequence_length
  no_row e =
      ap (length_by rows) (at_cons s i within) ∙ kept rows (get_or s i 0) (drop (i + 1) s)
      ∙ null_length (keep rows (get_or s i 0)) (get_or s i 0 ∷ drop (i + 1) s) e

-- a byte below 128 is a sequence
pub low_sequence : (b : ℕ) (l : List ℕ) → b < 128 → sequence_length (b ∷ l) ≡ 1
unfolding sequence_length rows
low_sequence b l h = rw (le-leb 0 b zero-le, le-leb b 127 (omega arith))

pub low_at : (s : List ℕ) (i : ℕ) → i < length s → get_or s i 0 < 128 → sequence_length (drop i s) ≡ 1
low_at s i h b = ap sequence_length (at_cons s i h) ∙ low_sequence (get_or s i 0) (drop (i + 1) s) b

-- a length as an answer
pub answered : (n : ℕ) (l : List ℕ) → sequence_length l ≡ n → some_length n ≡ sequence_at l
answered n l e = ap some_length (sym e)

-- the length that is one, and where there is none
pub length_is : (r : Option ℕ) (l : List ℕ) (n : ℕ) → r ≡ sequence_at l → r ≡ Some n → (n ≡ sequence_length l) × (0 < n)
length_is r l n e h = go (sequence_length l) (sym e ∙ h)
  where
    go : (m : ℕ) → some_length m ≡ Some n → (n ≡ m) × (0 < n)
    go zero h = absurd (none-some n h)
    go (suc m) h = let e = same_Some (suc m) n h in (sym e, omega (arith, e))

pub no_length : (r : Option ℕ) (l : List ℕ) → r ≡ sequence_at l → r ≡ None → 0 ≡ sequence_length l
no_length r l e h = go (sequence_length l) (sym e ∙ h)
  where
    go : (m : ℕ) → some_length m ≡ None → 0 ≡ m
    go zero h = refl
    go (suc m) h = absurd (none-some (suc m) (sym h))

-- as much fuel as there are bytes is enough: any more changes nothing
pub enough : (f g i : ℕ) (l : List ℕ) → length l ≤ f → length l ≤ g → first_ill_formed f i l ≡ first_ill_formed g i l
unfolding first_ill_formed
enough zero zero i l h k = refl
enough zero (suc g) i [] h k = refl
enough zero (suc g) i (b ∷ l) h k = absurd (omega arith)
enough (suc f) zero i [] h k = refl
enough (suc f) zero i (b ∷ l) h k = absurd (omega arith)
enough (suc f) (suc g) i [] h k = refl
enough (suc f) (suc g) i (b ∷ l) h k =
    go (sequence_length (b ∷ l)) (λ (n : ℕ) (x : 0 < n). enough f g (i + n) (drop n (b ∷ l)) (shorter n x f h) (shorter n x g k))
  where
    shorter : (n : ℕ) → 0 < n → (f : ℕ) → length (b ∷ l) ≤ suc f → length (drop n (b ∷ l)) ≤ f
    shorter n x f h = omega (arith, length-drop n (b ∷ l))

    go : (n : ℕ) → ((m : ℕ) → 0 < m → first_ill_formed f (i + m) (drop m (b ∷ l)) ≡ first_ill_formed g (i + m) (drop m (b ∷ l))) → step (b ∷ l) n i (first_ill_formed f (i + n) (drop n (b ∷ l))) ≡ step (b ∷ l) n i (first_ill_formed g (i + n) (drop n (b ∷ l)))
    go zero r = refl
    go (suc n) r = r (suc n) (omega arith)

-- what is found from i on
pub error_from : List ℕ → ℕ → Option ℕ
error_from s i = first_ill_formed (length s - i) i (drop i s)

module _ (s : List ℕ) (i n : ℕ) (within : i < length s) (is_n : n ≡ sequence_length (drop i s)) where
  once : error_from s i ≡ step (drop i s) n i (first_ill_formed (length s - (i + 1)) (i + n) (drop (i + n) s))
  unfolding error_from first_ill_formed
  once =
      let e : length s - i ≡ suc (length s - (i + 1)) = omega arith in
      rw (e, ← is_n, drop-drop)

  pub ill_formed_here : n ≡ 0 → error_from s i ≡ Some i
  ill_formed_here z = once ∙ rw (z, at_cons s i within)

  pub goes_on : (n ≡ 0 → ⊥) → error_from s i ≡ error_from s (i + n)
  unfolding error_from
  goes_on h =
      once
      ∙ ap (λ (l : List ℕ). step l n i (first_ill_formed (length s - (i + 1)) (i + n) (drop (i + n) s))) (at_cons s i within)
      ∙ go n h (first_ill_formed (length s - (i + 1)) (i + n) (drop (i + n) s))
      ∙ enough _ _ (i + n) (drop (i + n) s) (omega (arith, length-drop (i + n) s)) (omega (arith, length-drop (i + n) s))
    where
      go : (m : ℕ) → (m ≡ 0 → ⊥) → (rest : Option ℕ) → step (get_or s i 0 ∷ drop (i + 1) s) m i rest ≡ rest
      go zero h rest = absurd (h refl)
      go (suc m) h rest = refl

pub at_end : (s : List ℕ) (i : ℕ) → length s ≤ i → error_from s i ≡ None
unfolding error_from first_ill_formed
at_end s i h = let e : length s - i ≡ 0 = omega arith in rw e

pub at_start : (s : List ℕ) → utf8_error_lem s ≡ error_from s 0
unfolding error_from utf8_error_lem
at_start s = enough (length s) (length s - 0) 0 s (omega arith) (omega arith)

pub fits_length : (row : Row) (l : List ℕ) → fits row l ≡ true → length row ≤ length l
fits_length [] l h = zero-le
fits_length (r ∷ rs) [] h = absurd (true≢false (sym h))
fits_length (r ∷ rs) (b ∷ l) h = suc-le-suc (fits_length rs l (and_right (between r.0 r.1 b) (fits rs l) h))

length_by_le : (rs : List Row) (l : List ℕ) → length_by rs l ≤ length l
length_by_le [] l = zero-le
length_by_le (row ∷ rs) l = go (fits row l) (fits_length row l) (length_by_le rs l)
  where
    go : (t : Bool) → (t ≡ true → length row ≤ length l) → length_by rs l ≤ length l → cond t (length row) (length_by rs l) ≤ length l
    go true f r = f refl
    go false f r = r

-- a sequence ends within the list
pub sequence_within : (s : List ℕ) (i n : ℕ) → n ≡ sequence_length (drop i s) → n ≤ length s - i
unfolding sequence_length
sequence_within s i n e = omega (arith, length_by_le rows (drop i s), length-drop i s, e)
