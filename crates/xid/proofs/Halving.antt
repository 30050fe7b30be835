-- What a search by halving in a table of ranges needs: the table's one test gives the order of its bounds at any two places (`ascend`), and what is known
-- around a row decides whether some range holds c (`in_row`, `none`).
-- Assumes nothing.
use mathlib.Core.Path.{◌≡◌, refl, sym, ap, ◌∙◌}
use mathlib.Core.Bool.{Bool, true, false, ◌&&◌, ◌||◌, or-true, true≢false}
use mathlib.Core.List.{List, [], ◌∷◌}
use Prim.Native.Nat.{ℕ, zero, suc, ◌+◌, ◌*◌, ◌≤◌, ◌<◌, zero-le}
use native.Mathlib.Nat.{add-zero, le_refl, le_trans, le_of_suc-le-suc, not-suc-le-zero}
use native.Mathlib.Decide.{dec_lt}
use native.Mathlib.Omega.{arith}
use borrow.Author.Tests.{le-leb, lt-leb, leb-true}
use lib.Dec.{T, leb, leb→le}
use lib.Ieee.Fits.{and_l, and_r}
use lib.ListN.{length, get_or, take, drop, length-drop}
use lib.Seq.{get_or-drop, get_or-take}
use Rattle.source.specs.Bytes.{between}
use Rattle.source.proofs.Bools.{and_false, and_left, and_right, or_either}
use Rattle.xid.specs.Ranges.{holds, apart, row_of}

-- ---- the table's test, as a rule at its places

-- what the test says of the first range and of those behind it
module _ (n x y : ℕ) (r : List ℕ) (a : T (apart n (x ∷ y ∷ r))) where
  starts : n ≤ x
  unfolding apart
  starts = leb→le n x (and_l (leb n x) (leb x y && apart (suc y) r) a)

  ends : x ≤ y
  unfolding apart
  ends = leb→le x y (and_l (leb x y) (apart (suc y) r) (and_r (leb n x) (leb x y && apart (suc y) r) a))

  rest : T (apart (suc y) r)
  unfolding apart
  rest = and_r (leb x y) (apart (suc y) r) (and_r (leb n x) (leb x y && apart (suc y) r) a)

-- no table has one bound
pair : (n x : ℕ) → T (apart n (x ∷ [])) → ⊥
unfolding apart
pair n x a = a

-- no bound lies below n
from : (n : ℕ) (t : List ℕ) → T (apart n t) → (k : ℕ) → k < length t → n ≤ get_or t k 0
from n [] a k h = absurd (not-suc-le-zero h)
from n (x ∷ []) a k h = absurd (pair n x a)
from n (x ∷ y ∷ r) a zero h = starts n x y r a
from n (x ∷ y ∷ r) a (suc zero) h = le_trans (starts n x y r a) (ends n x y r a)
from n (x ∷ y ∷ r) a (suc (suc k)) h =
    omega (arith, starts n x y r a, ends n x y r a, from (suc y) r (rest n x y r a) k (le_of_suc-le-suc (le_of_suc-le-suc h)))

-- a later bound is no less
pub ascend : (n : ℕ) (t : List ℕ) → T (apart n t) → (i j : ℕ) → i ≤ j → j < length t → get_or t i 0 ≤ get_or t j 0
ascend n [] a i j l h = absurd (not-suc-le-zero h)
ascend n (x ∷ []) a i j l h = absurd (pair n x a)
ascend n (x ∷ y ∷ r) a zero zero l h = le_refl x
ascend n (x ∷ y ∷ r) a zero (suc zero) l h = ends n x y r a
ascend n (x ∷ y ∷ r) a zero (suc (suc j)) l h =
    omega (arith, ends n x y r a, from (suc y) r (rest n x y r a) j (le_of_suc-le-suc (le_of_suc-le-suc h)))
ascend n (x ∷ y ∷ r) a (suc i) zero l h = absurd (not-suc-le-zero l)
ascend n (x ∷ y ∷ r) a (suc zero) (suc zero) l h = le_refl y
ascend n (x ∷ y ∷ r) a (suc zero) (suc (suc j)) l h =
    omega (arith, from (suc y) r (rest n x y r a) j (le_of_suc-le-suc (le_of_suc-le-suc h)))
ascend n (x ∷ y ∷ r) a (suc (suc i)) (suc zero) l h = absurd (not-suc-le-zero (le_of_suc-le-suc l))
ascend n (x ∷ y ∷ r) a (suc (suc i)) (suc (suc j)) l h =
    ascend (suc y) r (rest n x y r a) i j (le_of_suc-le-suc (le_of_suc-le-suc l)) (le_of_suc-le-suc (le_of_suc-le-suc h))

-- ---- whether some range holds c

-- the place of range m's first bound, by which a table is gone through two bounds at a time
abbrev twice : ℕ → ℕ
twice zero = zero
twice (suc m) = suc (suc (twice m))

twice_is : (m : ℕ) → twice m ≡ 2 * m
twice_is zero = refl
twice_is (suc m) = omega (arith, twice_is m)

outside : (a b : Bool) → (T a → T b → ⊥) → (a && b) ≡ false
outside true true f = absurd (f tt tt)
outside true false f = refl
outside false b f = refl

none_at : (t : List ℕ) (c : ℕ) → ((m : ℕ) → suc (twice m) < length t → get_or t (twice m) 0 ≤ c → c ≤ get_or t (suc (twice m)) 0 → ⊥) → holds t c ≡ false
unfolding holds
none_at [] c f = refl
none_at (x ∷ []) c f = refl
none_at (x ∷ y ∷ r) c f =
    rw (outside (leb x c) (leb c y) (λ p q. f 0 (omega arith) (leb→le x c p) (leb→le c y q)))
    (none_at r c (λ m h p q. f (suc m) (omega arith) p q))

-- what lies below every bound is in no range
under : (n : ℕ) (t : List ℕ) (c : ℕ) → T (apart n t) → c < n → holds t c ≡ false
unfolding holds
under n [] c a h = refl
under n (x ∷ []) c a h = refl
under n (x ∷ y ∷ r) c a h =
    let p = starts n x y r a in
    let q = ends n x y r a in
    rw (lt-leb x c (omega arith)) (under (suc y) r c (rest n x y r a) (omega arith))

-- c is in none of the ranges before one that starts at or below it
skip : (n : ℕ) (t : List ℕ) (c m : ℕ) → T (apart n t) → twice m < length t → get_or t (twice m) 0 ≤ c → holds t c ≡ holds (drop (twice m) t) c
unfolding holds
skip n t c zero a h p = refl
skip n [] c (suc m) a h p = absurd (not-suc-le-zero h)
skip n (x ∷ []) c (suc m) a h p = absurd (pair n x a)
skip n (x ∷ y ∷ r) c (suc m) a h p =
    let k : suc y ≤ get_or r (twice m) 0 = from (suc y) r (rest n x y r a) (twice m) (le_of_suc-le-suc (le_of_suc-le-suc h)) in
    rw (lt-leb c y (omega arith), and_false (leb x c)) (skip (suc y) r c m (rest n x y r a) (le_of_suc-le-suc (le_of_suc-le-suc h)) p)

-- nor in those behind one that ends at or above it
stop : (n : ℕ) (t : List ℕ) (c m : ℕ) → T (apart n t) → suc (twice m) < length t → c ≤ get_or t (suc (twice m)) 0 → holds t c ≡ holds (take (twice (suc m)) t) c
unfolding holds
stop n [] c m a h p = absurd (not-suc-le-zero h)
stop n (x ∷ []) c m a h p = absurd (pair n x a)
stop n (x ∷ y ∷ r) c zero a h p = rw (under (suc y) r c (rest n x y r a) (omega arith))
stop n (x ∷ y ∷ r) c (suc m) a h p =
    rw (stop (suc y) r c m (rest n x y r a) (le_of_suc-le-suc (le_of_suc-le-suc h)) p)

-- the test of what is left behind some ranges
apart_drop : (n : ℕ) (t : List ℕ) (m : ℕ) → T (apart n t) → twice m < length t → T (apart (get_or t (twice m) 0) (drop (twice m) t))
unfolding apart
apart_drop n [] zero a h = tt
apart_drop n (x ∷ []) zero a h = a
apart_drop n (x ∷ y ∷ r) zero a h = rw (le-leb x x (le_refl x)) (and_r (leb n x) (leb x y && apart (suc y) r) a)
apart_drop n [] (suc m) a h = absurd (not-suc-le-zero h)
apart_drop n (x ∷ []) (suc m) a h = absurd a
apart_drop n (x ∷ y ∷ r) (suc m) a h = apart_drop (suc y) r m (rest n x y r a) (le_of_suc-le-suc (le_of_suc-le-suc h))

-- ---- the search

-- c lies past every bound of the rows before lo, and before every bound of those from hi on
pub record Between (t : List ℕ) (c lo hi : ℕ) : Type 0 where
  pub lo_le : lo ≤ hi
  pub hi_le : 6 * hi ≤ length t
  pub past : (k : ℕ) → k < 6 * lo → get_or t k 0 < c
  pub before : (k : ℕ) → 6 * hi ≤ k → k < length t → c < get_or t k 0

pub start : (t : List ℕ) (c n : ℕ) → 6 * n ≡ length t → Between t c 0 n
start t c n e = record { lo_le = zero-le; hi_le = omega arith; past = λ k h. omega arith; before = λ k h l. omega arith }

module _ (t : List ℕ) (c : ℕ) (a : T (apart 0 t)) (lo hi : ℕ) (b : Between t c lo hi) (m : ℕ) (l : lo ≤ m) (h : m < hi) where
  pub down : c < get_or t (6 * m) 0 → Between t c lo m
  down p = record {
    lo_le = l;
    hi_le = omega (arith, b.hi_le);
    past = b.past;
    before = λ k i j. omega (arith, ascend 0 t a (6 * m) k i j);
  }

  pub up : get_or t (6 * m + 5) 0 < c → Between t c (m + 1) hi
  up p = record {
    lo_le = omega arith;
    hi_le = b.hi_le;
    past = λ k i. omega (arith, ascend 0 t a k (6 * m + 5) (omega arith) (omega (arith, b.hi_le)));
    before = b.before;
  }

pub none : (t : List ℕ) (c lo hi : ℕ) → Between t c lo hi → hi ≤ lo → holds t c ≡ false
none t c lo hi b h = none_at t c (λ m i p q. side m i p q (dec_lt m (3 * lo)))
  where
    side : (m : ℕ) → suc (twice m) < length t → get_or t (twice m) 0 ≤ c → c ≤ get_or t (suc (twice m)) 0 → Dec (m < 3 * lo) → ⊥
    side m i p q (yes s) = omega (arith, twice_is m, b.past (suc (twice m)) (omega (arith, twice_is m)))
    side m i p q (no s) = omega (arith, twice_is m, b.before (twice m) (omega (arith, twice_is m)) (omega arith))

-- a row that starts at or below c and ends at or above it decides
pub in_row : (t : List ℕ) (c m : ℕ) → T (apart 0 t) → 6 * m + 5 < length t → get_or t (6 * m) 0 ≤ c → c ≤ get_or t (6 * m + 5) 0 → holds (row_of t m) c ≡ holds t c
in_row t c m a h p q =
    let e : twice (3 * m) ≡ 6 * m = omega (arith, twice_is (3 * m)) in
    let i : twice (3 * m) < length t = omega arith in
    let g : get_or (drop (twice (3 * m)) t) 5 0 ≡ get_or t (6 * m + 5) 0 = rw (e, get_or-drop) in
    sym (skip 0 t c (3 * m) a i (rw e p)
    ∙ stop (get_or t (twice (3 * m)) 0) (drop (twice (3 * m)) t) c 2 (apart_drop 0 t (3 * m) a i) (simp (length-drop) (omega arith)) (rw g q)
    ∙ ap (λ (k : ℕ). holds (take 6 (drop k t)) c) e)

-- the first and the last bound of a row
module _ (t : List ℕ) (m : ℕ) (row : List ℕ) (e : row ≡ row_of t m) where
  pub row_first : get_or row 0 0 ≡ get_or t (6 * m) 0
  row_first =
      let h : 0 < 6 = omega arith in
      ap (λ (l : List ℕ). get_or l 0 0) e ∙ rw (get_or-take, get_or-drop, add-zero)

  pub row_last : get_or row 5 0 ≡ get_or t (6 * m + 5) 0
  row_last =
      let h : 5 < 6 = omega arith in
      ap (λ (l : List ℕ). get_or l 5 0) e ∙ rw (get_or-take, get_or-drop)

-- ---- a table within another

-- some range of the table holds all from x to y
abbrev covers : ℕ → ℕ → List ℕ → Bool
covers x y [] = false
covers x y (v ∷ []) = false
covers x y (v ∷ w ∷ r) = (leb v x && leb y w) || covers x y r

covered : (x y : ℕ) (t : List ℕ) → covers x y t ≡ true → (c : ℕ) → x ≤ c → c ≤ y → holds t c ≡ true
unfolding holds
covered x y [] a c p q = absurd (true≢false (sym a))
covered x y (v ∷ []) a c p q = absurd (true≢false (sym a))
covered x y (v ∷ w ∷ r) a c p q =
    or_either (leb v x && leb y w) (covers x y r)
    (λ b. simp (le-leb v c (le_trans (leb-true v x (and_left (leb v x) (leb y w) b)) p), le-leb c w (le_trans q (leb-true y w (and_right (leb v x) (leb y w) b)))))
    (λ b. rw (covered x y r b c p q) (or-true (between v w c))) a

-- each range of the first lies in one of the second
abbrev pub inside : List ℕ → List ℕ → Bool
inside [] t = true
inside (x ∷ []) t = true
inside (x ∷ y ∷ r) t = covers x y t && inside r t

pub held_inside : (u t : List ℕ) (c : ℕ) → inside u t ≡ true → holds u c ≡ true → holds t c ≡ true
unfolding holds
held_inside [] t c a e = absurd (true≢false (sym e))
held_inside (x ∷ []) t c a e = absurd (true≢false (sym e))
held_inside (x ∷ y ∷ r) t c a e =
    or_either (between x y c) (holds r c)
    (λ b. covered x y t (and_left (covers x y t) (inside r t) a) c (leb-true x c (and_left (leb x c) (leb c y) b)) (leb-true c y (and_right (leb x c) (leb c y) b)))
    (λ b. held_inside r t c (and_right (covers x y t) (inside r t) a) b) e
