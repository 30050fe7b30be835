-- The characters of a well-formed list of bytes are characters with its bytes, and the only such; and bytes of characters are well-formed.
-- Assumes nothing.
use mathlib.Core.Path.{◌≡◌, refl, sym, ap}
use mathlib.Core.Bool.{Bool, true, false, cond, ◌&&◌, ◌||◌, true≢false}
use mathlib.Core.List.{List, [], ◌∷◌, ◌++◌}
use Prim.Native.Nat.{ℕ, zero, suc, ◌+◌, ◌<◌, ◌≤◌}
use native.Mathlib.Omega.{arith}
use native.Mathlib.Decide.{dec_lt}
use lib.Dec.{eqb, leb, ltb}
use lib.ListN.{length, take, drop, length-append, length-drop, take-append-drop}
use lib.Seq.{take-append_seam, drop-append_seam}
use borrow.Author.Tests.{ltb-true, leb-true, eqb-true, eq-eqb, le-leb, lt-leb}
use Rattle.std.specs.Prelude.{None}
use Rattle.source.specs.Bytes.{between}
use Rattle.source.proofs.Bools.{and_left, and_right, and_false, or_either}
use Rattle.utf8.specs.Table.{Row, rows, fits, length_by, sequence_length, step, first_ill_formed, utf8_error_lem}
use Rattle.utf8.proofs.Rows.{low_sequence}
use Rattle.lexical.specs.Characters.{is_of, is_character, are_characters, bytes_of, cut, characters}

-- ---- the sequence at the front of a list is a character

-- the bytes fit the row, and none is left over
abbrev exact : Row → List ℕ → Bool
exact row c = fits row c && eqb (length row) (length c)

front_fits : (row : Row) (l : List ℕ) → fits row l ≡ true → (fits row (take (length row) l) ≡ true) × (length row ≡ length (take (length row) l))
front_fits [] l h = (refl, refl)
front_fits (r ∷ rs) [] h = absurd (true≢false (sym h))
front_fits (r ∷ rs) (b ∷ l) h =
    let f = front_fits rs l (and_right (between r.0 r.1 b) (fits rs l) h) in
    (rw (and_left (between r.0 r.1 b) (fits rs l) h) f.0, ap suc f.1)

or_right_true : (t : Bool) → (t || true) ≡ true
or_right_true true = refl
or_right_true false = refl

front_is : (rs : List Row) (l : List ℕ) → 0 < length_by rs l → is_of rs (take (length_by rs l) l) ≡ true
front_is [] l h = absurd (omega arith)
front_is (row ∷ rs) l h = go (fits row l) (front_fits row l) (front_is rs l) h
  where
    go : (t : Bool) → (t ≡ true → (fits row (take (length row) l) ≡ true) × (length row ≡ length (take (length row) l)))
        → (0 < length_by rs l → is_of rs (take (length_by rs l) l) ≡ true)
        → 0 < cond t (length row) (length_by rs l) → is_of (row ∷ rs) (take (cond t (length row) (length_by rs l)) l) ≡ true
    go true f g k = let x = f refl in rw (x.0, eq-eqb (length row) (length (take (length row) l)) x.1)
    go false f g k = rw (g k) (or_right_true (exact row (take (length_by rs l) l)))

pub front_is_character : (l : List ℕ) → 0 < sequence_length l → is_character (take (sequence_length l) l) ≡ true
unfolding sequence_length
front_is_character l h = front_is rows l h

-- ---- no byte begins two rows: a character is the sequence at the front of what it begins

-- each row begins above k
abbrev above : ℕ → List Row → Bool
above k [] = true
above k ([] ∷ more) = false
above k ((r ∷ rs) ∷ more) = ltb k r.0 && above k more

abbrev apart : List Row → Bool
apart [] = true
apart ([] ∷ more) = false
apart ((r ∷ rs) ∷ more) = above r.1 more && apart more

rows_apart : apart rows ≡ true
unfolding rows
rows_apart = refl

not_above : (k b : ℕ) (c : List ℕ) (rs : List Row) → above k rs ≡ true → b ≤ k → is_of rs (b ∷ c) ≡ true → ⊥
not_above k b c [] a h e = true≢false (sym e)
not_above k b c ([] ∷ more) a h e = true≢false (sym a)
not_above k b c ((r ∷ rs) ∷ more) a h e =
    or_either (exact (r ∷ rs) (b ∷ c)) (is_of more (b ∷ c))
    (λ x. let l = leb-true r.0 b (and_left (leb r.0 b) (leb b r.1) (and_left (between r.0 r.1 b) (fits rs c) (and_left (fits (r ∷ rs) (b ∷ c)) _ x))) in
    let g = ltb-true k r.0 (and_left (ltb k r.0) (above k more) a) in
    absurd (omega arith))
    (λ x. not_above k b c more (and_right (ltb k r.0) (above k more) a) h x)
    e

fits_more : (row : Row) (c l : List ℕ) → fits row c ≡ true → fits row (c ++ l) ≡ true
fits_more [] c l h = refl
fits_more (r ∷ rs) [] l h = absurd (true≢false (sym h))
fits_more (r ∷ rs) (b ∷ c) l h =
    rw (and_left (between r.0 r.1 b) (fits rs c) h) (fits_more rs c l (and_right (between r.0 r.1 b) (fits rs c) h))

no_empty : (rs : List Row) → apart rs ≡ true → is_of rs [] ≡ true → ⊥
no_empty [] a e = true≢false (sym e)
no_empty ([] ∷ more) a e = true≢false (sym a)
no_empty ((r ∷ rs) ∷ more) a e = no_empty more (and_right (above r.1 more) (apart more) a) e

front_of : (rs : List Row) → apart rs ≡ true → (c l : List ℕ) → is_of rs c ≡ true → length_by rs (c ++ l) ≡ length c
front_of rs a [] l e = absurd (no_empty rs a e)
front_of [] a (b ∷ c) l e = absurd (true≢false (sym e))
front_of ([] ∷ more) a (b ∷ c) l e = absurd (true≢false (sym a))
front_of ((r ∷ rs) ∷ more) a (b ∷ c) l e =
    or_either (exact (r ∷ rs) (b ∷ c)) (is_of more (b ∷ c))
    (λ x. rw (fits_more (r ∷ rs) (b ∷ c) l (and_left (fits (r ∷ rs) (b ∷ c)) _ x)) (eqb-true _ _ (and_right (fits (r ∷ rs) (b ∷ c)) _ x)))
    (λ x. later (fits (r ∷ rs) (b ∷ (c ++ l))) x (λ h. low h) (front_of more (and_right (above r.1 more) (apart more) a) (b ∷ c) l x))
    e
  where
    low : fits (r ∷ rs) (b ∷ (c ++ l)) ≡ true → b ≤ r.1
    low h = leb-true b r.1 (and_right (leb r.0 b) (leb b r.1) (and_left (between r.0 r.1 b) (fits rs (c ++ l)) h))

    later : (t : Bool) → is_of more (b ∷ c) ≡ true → (t ≡ true → b ≤ r.1) → length_by more (b ∷ (c ++ l)) ≡ suc (length c)
        → cond t (length (r ∷ rs)) (length_by more (b ∷ (c ++ l))) ≡ suc (length c)
    later true x h f = absurd (not_above r.1 b c more (and_left (above r.1 more) (apart more) a) (h refl) x)
    later false x h f = f

pub at_front : (c l : List ℕ) → is_character c ≡ true → sequence_length (c ++ l) ≡ length c
unfolding sequence_length
at_front c l e = front_of rows rows_apart c l e

pub not_empty : is_character [] ≡ true → ⊥
not_empty e = no_empty rows rows_apart e

-- ---- a well-formed list is its characters

cut_whole : (fuel i : ℕ) (l : List ℕ) → length l ≤ fuel → first_ill_formed fuel i l ≡ None → (are_characters (cut fuel l) ≡ true) × (bytes_of (cut fuel l) ≡ l)
unfolding first_ill_formed sequence_length cut
cut_whole zero i [] h e = (refl, refl)
cut_whole zero i (b ∷ l) h e = absurd (omega arith)
cut_whole (suc fuel) i [] h e = (refl, refl)
cut_whole (suc fuel) i (b ∷ l) h e =
    go (sequence_length (b ∷ l)) (front_is rows (b ∷ l)) (λ (n : ℕ) (x : 0 < n). cut_whole fuel (i + n) (drop n (b ∷ l)) (omega (arith, length-drop n (b ∷ l)))) e
  where
    go : (n : ℕ) → (0 < n → is_character (take n (b ∷ l)) ≡ true)
        → ((m : ℕ) → 0 < m → first_ill_formed fuel (i + m) (drop m (b ∷ l)) ≡ None → (are_characters (cut fuel (drop m (b ∷ l))) ≡ true) × (bytes_of (cut fuel (drop m (b ∷ l))) ≡ drop m (b ∷ l)))
        → step (b ∷ l) n i (first_ill_formed fuel (i + n) (drop n (b ∷ l))) ≡ None
        → (are_characters (take n (b ∷ l) ∷ cut fuel (drop n (b ∷ l))) ≡ true) × (bytes_of (take n (b ∷ l) ∷ cut fuel (drop n (b ∷ l))) ≡ b ∷ l)
    go zero c r w = let z : ◌≡◌ {A = ℕ} 0 1 = cc in absurd (omega arith)
    go (suc n) c r w =
        let x = r (suc n) (omega arith) w in
        (rw (c (omega arith)) x.0, rw x.1 (take-append-drop (suc n) (b ∷ l)))

-- the characters of a well-formed list are characters, with its bytes
pub whole : (l : List ℕ) → utf8_error_lem l ≡ None → (are_characters (characters l) ≡ true) × (bytes_of (characters l) ≡ l)
unfolding utf8_error_lem characters
whole l e = cut_whole (length l) 0 l (omega arith) e

-- ---- bytes of characters are well-formed, and have no other characters

cut_only : (fuel : ℕ) (cs : List (List ℕ)) → are_characters cs ≡ true → length (bytes_of cs) ≤ fuel → cut fuel (bytes_of cs) ≡ cs
unfolding cut
cut_only zero [] e h = refl
cut_only (suc fuel) [] e h = refl
cut_only fuel ([] ∷ cs) e h = absurd (not_empty (and_left (is_character []) (are_characters cs) e))
cut_only zero ((b ∷ c) ∷ cs) e h = absurd (omega arith)
cut_only (suc fuel) ((b ∷ c) ∷ cs) e h =
    let x = cut_only fuel cs (and_right (is_character (b ∷ c)) (are_characters cs) e) (omega (arith, length-append c (bytes_of cs))) in
    rw (at_front (b ∷ c) (bytes_of cs) (and_left (is_character (b ∷ c)) (are_characters cs) e), take-append_seam c (bytes_of cs), drop-append_seam c (bytes_of cs), x)

pub only : (cs : List (List ℕ)) → are_characters cs ≡ true → characters (bytes_of cs) ≡ cs
unfolding characters
only cs e = cut_only (length (bytes_of cs)) cs e (omega arith)

well_from : (fuel i : ℕ) (cs : List (List ℕ)) → are_characters cs ≡ true → first_ill_formed fuel i (bytes_of cs) ≡ None
unfolding first_ill_formed
well_from zero i cs e = refl
well_from (suc fuel) i [] e = refl
well_from (suc fuel) i ([] ∷ cs) e = absurd (not_empty (and_left (is_character []) (are_characters cs) e))
well_from (suc fuel) i ((b ∷ c) ∷ cs) e =
    rw (at_front (b ∷ c) (bytes_of cs) (and_left (is_character (b ∷ c)) (are_characters cs) e), drop-append_seam c (bytes_of cs))
    (well_from fuel (i + suc (length c)) cs (and_right (is_character (b ∷ c)) (are_characters cs) e))

pub well : (cs : List (List ℕ)) → are_characters cs ≡ true → utf8_error_lem (bytes_of cs) ≡ None
unfolding utf8_error_lem
well cs e = well_from (length (bytes_of cs)) 0 cs e

-- ---- the bytes behind the first of a character are of their own

-- 10xxxxxx
abbrev pub trailing : ℕ → Bool
trailing b = between 128 191 b

abbrev pub all_trailing : List ℕ → Bool
all_trailing [] = true
all_trailing (b ∷ c) = trailing b && all_trailing c

-- each range lies in that of the trailing bytes
abbrev in_trailing : Row → Bool
in_trailing [] = true
in_trailing (r ∷ rs) = leb 128 r.0 && (leb r.1 191 && in_trailing rs)

-- each range behind the first of a row does, and the first has none of them
abbrev parts : List Row → Bool
parts [] = true
parts ([] ∷ more) = false
parts ((r ∷ rs) ∷ more) = in_trailing rs && ((ltb r.1 128 || ltb 191 r.0) && parts more)

rows_parts : parts rows ≡ true
unfolding rows
rows_parts = refl

trailing_fits : (rs : Row) (c : List ℕ) → in_trailing rs ≡ true → fits rs c ≡ true → length rs ≡ length c → all_trailing c ≡ true
trailing_fits [] [] t f n = refl
trailing_fits [] (b ∷ c) t f n = absurd (omega arith)
trailing_fits (r ∷ rs) [] t f n = refl
trailing_fits (r ∷ rs) (b ∷ c) t f n =
    let lo = leb-true 128 r.0 (and_left (leb 128 r.0) (leb r.1 191 && in_trailing rs) t) in
    let u = and_right (leb 128 r.0) (leb r.1 191 && in_trailing rs) t in
    let hi = leb-true r.1 191 (and_left (leb r.1 191) (in_trailing rs) u) in
    let g = and_left (between r.0 r.1 b) (fits rs c) f in
    let x = leb-true r.0 b (and_left (leb r.0 b) (leb b r.1) g) in
    let y = leb-true b r.1 (and_right (leb r.0 b) (leb b r.1) g) in
    rw (le-leb 128 b (omega arith), le-leb b 191 (omega arith)) (trailing_fits rs c (and_right (leb r.1 191) (in_trailing rs) u) (and_right (between r.0 r.1 b) (fits rs c) f) (omega arith))

trailing_of : (rs : List Row) (a : ℕ) (c : List ℕ) → parts rs ≡ true → is_of rs (a ∷ c) ≡ true → all_trailing c ≡ true
trailing_of [] a c t e = absurd (true≢false (sym e))
trailing_of ([] ∷ more) a c t e = absurd (true≢false (sym t))
trailing_of ((r ∷ rs) ∷ more) a c t e =
    or_either (exact (r ∷ rs) (a ∷ c)) (is_of more (a ∷ c))
    (λ x. trailing_fits rs c (and_left (in_trailing rs) _ t) (and_right (between r.0 r.1 a) (fits rs c) (and_left (fits (r ∷ rs) (a ∷ c)) _ x)) (let n = eqb-true (length (r ∷ rs)) (length (a ∷ c)) (and_right (fits (r ∷ rs) (a ∷ c)) _ x) in omega arith))
    (λ x. trailing_of more a c (and_right (ltb r.1 128 || ltb 191 r.0) (parts more) (and_right (in_trailing rs) _ t)) x)
    e

pub behind_first : (a : ℕ) (c : List ℕ) → is_character (a ∷ c) ≡ true → all_trailing c ≡ true
behind_first a c e = trailing_of rows a c rows_parts e

outside : (lo hi b : ℕ) → (ltb hi 128 || ltb 191 lo) ≡ true → between lo hi b ≡ true → trailing b ≡ false
outside lo hi b t g =
    let x = leb-true lo b (and_left (leb lo b) (leb b hi) g) in
    let y = leb-true b hi (and_right (leb lo b) (leb b hi) g) in
    or_either (ltb hi 128) (ltb 191 lo)
    (λ u. let k = ltb-true hi 128 u in rw (lt-leb 128 b (omega arith)))
    (λ u. let k = ltb-true 191 lo u in rw (lt-leb b 191 (omega arith), and_false (leb 128 b)))
    t

starts_none : (rs : List Row) (b : ℕ) (l : List ℕ) → parts rs ≡ true → 0 < length_by rs (b ∷ l) → trailing b ≡ false
starts_none [] b l t h = absurd (omega arith)
starts_none ([] ∷ more) b l t h = absurd (true≢false (sym t))
starts_none ((r ∷ rs) ∷ more) b l t h =
    let u = and_right (in_trailing rs) ((ltb r.1 128 || ltb 191 r.0) && parts more) t in
    go (between r.0 r.1 b) (outside r.0 r.1 b (and_left (ltb r.1 128 || ltb 191 r.0) (parts more) u)) (fits rs l) (starts_none more b l (and_right (ltb r.1 128 || ltb 191 r.0) (parts more) u)) h
  where
    go : (v : Bool) → (v ≡ true → trailing b ≡ false) → (w : Bool) → (0 < length_by more (b ∷ l) → trailing b ≡ false) → 0 < cond (v && w) (suc (length rs)) (length_by more (b ∷ l)) → trailing b ≡ false
    go true f w r h = f refl
    go false f w r h = r h

-- and begin none
pub sequence_first : (b : ℕ) (l : List ℕ) → 0 < sequence_length (b ∷ l) → trailing b ≡ false
unfolding sequence_length
sequence_first b l h = starts_none rows b l rows_parts h

-- ---- a byte under 128 is a character by itself

-- no byte is under 128
abbrev pub high : List ℕ → Bool
high [] = true
high (b ∷ c) = leb 128 b && high c

trailing_high : (c : List ℕ) → all_trailing c ≡ true → high c ≡ true
trailing_high [] t = refl
trailing_high (b ∷ c) t =
    rw (and_left (leb 128 b) (leb b 191) (and_left (trailing b) (all_trailing c) t)) (trailing_high c (and_right (trailing b) (all_trailing c) t))

several_high : (a b : ℕ) (c : List ℕ) → is_character (a ∷ b ∷ c) ≡ true → high (a ∷ b ∷ c) ≡ true
several_high a b c e = go (dec_lt a 128)
  where
    go : Dec (a < 128) → high (a ∷ b ∷ c) ≡ true
    go (yes h) = absurd (omega (arith, low_sequence a ((b ∷ c) ++ []) h, at_front (a ∷ b ∷ c) [] e))
    go (no h) = rw (le-leb 128 a (omega arith)) (trailing_high (b ∷ c) (behind_first a (b ∷ c) e))

-- a character is one byte, or several of 128 and more
pub data Form : List ℕ → Type 0 where
  one : (b : ℕ) → Form (b ∷ [])
  several : (a b : ℕ) (c : List ℕ) → high (a ∷ b ∷ c) ≡ true → Form (a ∷ b ∷ c)

pub form : (c : List ℕ) → is_character c ≡ true → Form c
form [] e = absurd (not_empty e)
form (b ∷ []) e = one b
form (a ∷ b ∷ c) e = several a b c (several_high a b c e)
