-- The rounds from a place on: what a round of eight takes, a byte below 128 where no eight stand, and a sequence; and what the loops
-- keep.
-- Assumes nothing.
use mathlib.Core.Path.{◌≡◌, refl, sym, ap, ◌∙◌}
use mathlib.Core.Bool.{Bool, true, false, cond, ◌&&◌, true≢false}
use mathlib.Core.Logic.{⊎_elim}
use mathlib.Core.List.{List, [], ◌∷◌}
use Prim.Native.Nat.{ℕ, zero, suc, ◌+◌, ◌-◌, ◌<◌, ◌≤◌, zero-le}
use native.Mathlib.Nat.{add-zero, zero-add}
use native.Mathlib.Omega.{arith}
use lib.ListN.{length, get_or, drop, length-drop}
use lib.Seq.{drop-drop}
use Rattle.std.specs.Prelude.{Some, None}
use Rattle.source.proofs.Bools.{and_left, and_right}
use Rattle.source.proofs.Lists.{at_cons, past, place}
use Rattle.utf8.specs.Table.{fits, sequence_length, utf8_error_lem, eight, taken, one_more_lem, rounds_past, rounds}
use Rattle.utf8.proofs.Rows.{error_from, at_start, at_end, goes_on, ill_formed_here, low_at, fits_length, sequence_within}
use Rattle.utf8.proofs.Lows.{low, lows, low_below}

-- the rounds of what stands from i on
pub rounds_from : List ℕ → ℕ → ℕ
rounds_from s i = rounds_past 0 (drop i s)

-- the bytes of a round that is counted may as well be away
away : (k : ℕ) (l : List ℕ) → rounds_past k l ≡ rounds_past 0 (drop k l)
unfolding rounds_past
away zero l = refl
away (suc k) [] = refl
away (suc k) (b ∷ l) = away k l

module _ (s : List ℕ) (i n : ℕ) (within : i < length s) (is_n : n ≡ taken (drop i s)) where
  here : rounds_from s i ≡ one_more_lem n (rounds_past (n - 1) (drop (i + 1) s))
  unfolding rounds_from rounds_past
  here = rw is_n (ap (rounds_past 0) (at_cons s i within) ∙ sym (ap (λ (l : List ℕ). one_more_lem (taken l) (rounds_past (taken l - 1) (drop (i + 1) s))) (at_cons s i within)))

  -- a bad sequence's round is the last
  last_round : n ≡ 0 → rounds_from s i ≡ 1
  last_round z = here ∙ rw z

  -- behind any other round the rest's follow
  pub next_round : (n ≡ 0 → ⊥) → rounds_from s i ≡ suc (rounds_from s (i + n))
  unfolding rounds_from
  next_round h = here ∙ go n h
    where
      go : (m : ℕ) → (m ≡ 0 → ⊥) → one_more_lem m (rounds_past (m - 1) (drop (i + 1) s)) ≡ suc (rounds_past 0 (drop (i + m) s))
      go zero z = absurd (z refl)
      go (suc m) z =
          let others : suc m - 1 ≡ m = omega arith in
          let end : i + 1 + m ≡ i + suc m = omega arith in
          ap suc
          (ap (λ (k : ℕ). rounds_past k (drop (i + 1) s)) others ∙ away m (drop (i + 1) s)
          ∙ ap (rounds_past 0) (drop-drop m (i + 1) s ∙ ap (λ (j : ℕ). drop j s) end))

pub no_round : (s : List ℕ) (i : ℕ) → length s ≤ i → rounds_from s i ≡ 0
unfolding rounds_from rounds_past
no_round s i h = ap (rounds_past 0) (past s i h)

-- ---- eight bytes below 128, or not

one_fewer : (n : ℕ) (l : List ℕ) → fits (lows (suc n)) l ≡ true → fits (lows n) l ≡ true
one_fewer zero l e = refl
one_fewer (suc n) [] e = absurd (true≢false (sym e))
one_fewer (suc n) (b ∷ l) e = go (low b) e (one_fewer n l)
  where
    go : (t : Bool) → (t && fits (lows (suc n)) l) ≡ true → (fits (lows (suc n)) l ≡ true → fits (lows n) l ≡ true) → (t && fits (lows n) l) ≡ true
    go true e r = r e
    go false e r = absurd (true≢false (sym e))

-- where no eight stand, none do behind a byte below 128
pub still_none : (s : List ℕ) (i : ℕ) → i < length s → low (get_or s i 0) ≡ true → fits eight (drop i s) ≡ false → fits eight (drop (i + 1) s) ≡ false
unfolding eight
still_none s i h b e = go (fits (lows 8) (drop (i + 1) s)) (one_fewer 7 (drop (i + 1) s)) (sym (ap (fits (lows 8)) (at_cons s i h) ∙ rw b) ∙ e)
  where
    go : (t : Bool) → (t ≡ true → fits (lows 7) (drop (i + 1) s) ≡ true) → fits (lows 7) (drop (i + 1) s) ≡ false → t ≡ false
    go true r f = absurd (true≢false (sym (r refl) ∙ f))
    go false r f = refl

-- bytes below 128 are sequences, however many
along : (n : ℕ) (s : List ℕ) (i : ℕ) → fits (lows n) (drop i s) ≡ true → error_from s i ≡ error_from s (i + n)
along zero s i e = ap (error_from s) (sym (add-zero i))
along (suc n) s i e =
    ⊎_elim (first (along n s (i + 1))) (λ g. absurd (true≢false (sym (sym (ap (fits (lows (suc n))) (past s i g)) ∙ e)))) (place s i)
  where
    first : (fits (lows n) (drop (i + 1) s) ≡ true → error_from s (i + 1) ≡ error_from s (i + 1 + n)) → i < length s → error_from s i ≡ error_from s (i + suc n)
    first rest h =
        let both : (low (get_or s i 0) && fits (lows n) (drop (i + 1) s)) ≡ true = sym (ap (fits (lows (suc n))) (at_cons s i h)) ∙ e in
        let b = low_below (get_or s i 0) (and_left (low (get_or s i 0)) (fits (lows n) (drop (i + 1) s)) both) in
        let end : i + 1 + n ≡ i + suc n = omega arith in
        goes_on s i 1 h (sym (low_at s i h b)) (omega arith)
        ∙ rest (and_right (low (get_or s i 0)) (fits (lows n) (drop (i + 1) s)) both)
        ∙ ap (error_from s) end

-- ---- what the loops keep: the bytes up to i are taken, in r rounds

pub record Kept (s : List ℕ) (i r : ℕ) : Type 0 where
  pub within : i ≤ length s
  pub bounded : r ≤ i
  pub error : utf8_error_lem s ≡ error_from s i
  pub count : rounds s ≡ r + rounds_from s i

pub at_first : (s : List ℕ) → Kept s 0 0
unfolding rounds rounds_from
at_first s = record { within = zero-le; bounded = zero-le; error = at_start s; count = sym (zero-add (rounds_from s 0)) }

module _ (s : List ℕ) (i r : ℕ) (kept : Kept s i r) where
  pub took_eight : fits eight (drop i s) ≡ true → Kept s (i + 8) (r + 1)
  unfolding eight taken
  took_eight e =
      let room = fits_length (lows 8) (drop i s) e in
      let n : 8 ≡ taken (drop i s) = rw e in
      record {
        within = omega (arith, room, length-drop i s, kept.within);
        bounded = omega (arith, kept.bounded);
        error = kept.error ∙ along 8 s i e;
        count = omega (arith, kept.count, next_round s i 8 (omega (arith, room, length-drop i s)) n (omega arith));
      }

  -- a sequence where no eight stand
  module _ (n : ℕ) (h : i < length s) (e : fits eight (drop i s) ≡ false) (is_n : n ≡ sequence_length (drop i s)) where
    is_taken : n ≡ taken (drop i s)
    unfolding taken
    is_taken = is_n ∙ sym (ap (λ (t : Bool). cond t 8 (sequence_length (drop i s))) e)

    pub took_sequence : (n ≡ 0 → ⊥) → Kept s (i + n) (r + 1)
    took_sequence z =
        record {
          within = omega (arith, h, sequence_within s i n is_n);
          bounded = omega (arith, kept.bounded, z);
          error = kept.error ∙ goes_on s i n h is_n z;
          count = omega (arith, kept.count, next_round s i n h is_taken z);
        }

    -- an ill-formed one
    pub stopped : n ≡ 0 → (Some i ≡ utf8_error_lem s) × (r + 1 ≡ rounds s)
    stopped z = (sym (kept.error ∙ ill_formed_here s i n h is_n z), omega (arith, kept.count, last_round s i n h is_taken z))

  -- a byte below 128 is one
  pub took_low : i < length s → low (get_or s i 0) ≡ true → fits eight (drop i s) ≡ false → Kept s (i + 1) (r + 1)
  took_low h b e = took_sequence 1 h e (sym (low_at s i h (low_below (get_or s i 0) b))) (omega arith)

  pub finished : length s ≤ i → (None ≡ utf8_error_lem s) × (r ≡ rounds s)
  finished h = (sym (kept.error ∙ at_end s i h), omega (arith, kept.count, no_round s i h))
