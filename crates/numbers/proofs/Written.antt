-- The digits that a number is written with: joined again they are the number, and they are as few as can be.
-- Assumes nothing.
use mathlib.Core.Path.{◌≡◌, refl, sym, ap, ◌∙◌}
use mathlib.Core.Bool.{Bool, true, false, cond}
use mathlib.Core.List.{List, [], ◌∷◌, ◌++◌}
use Prim.Native.Nat.{ℕ, zero, suc, ◌+◌, ◌-◌, ◌*◌, ◌/◌, ◌%◌, ◌^◌, ◌≤◌, ◌<◌}
use native.Mathlib.Numerals.{unary_clauses}
use native.Mathlib.Omega.{arith}
use borrow.Author.Tests.{lt-ltb, le-ltb, leb-true, ltb-true, ltb-false}
use lib.Dec.{leb, ltb}
use lib.ListN.{length, length-append}
use Rattle.source.specs.Bytes.{digit}
use Rattle.source.proofs.Bools.{and_right}
use Rattle.numbers.specs.Digits.{step, number, digits}
use Rattle.numbers.proofs.Joining.{step_digit}

-- at most as many as said
pub few : (most n : ℕ) → length (digits most n) ≤ most
unfolding digits
few zero n = omega arith
few (suc most) n = by_test (ltb n 10) (few most (n / 10))
  where
    by_test : (b : Bool) → length (digits most (n / 10)) ≤ most → length (cond b ((48 + n) ∷ []) (digits most (n / 10) ++ ((48 + n % 10) ∷ []))) ≤ suc most
    by_test true h = omega arith
    by_test false h = rw (length-append (digits most (n / 10)) ((48 + n % 10) ∷ [])) (omega arith)

-- the three cases
pub no_digit : (most n : ℕ) → most ≡ 0 → digits most n ≡ []
unfolding digits
no_digit zero n e = refl
no_digit (suc most) n e = absurd (omega arith)

pub one_digit : (most n : ℕ) → (most ≡ 0 → ⊥) → n < 10 → digits most n ≡ (48 + n) ∷ []
unfolding digits
one_digit zero n z h = absurd (z refl)
one_digit (suc most) n z h = rw (lt-ltb n 10 h)

pub more_digits : (most n : ℕ) → (most ≡ 0 → ⊥) → 10 ≤ n → digits most n ≡ digits (most - 1) (n / 10) ++ ((48 + n % 10) ∷ [])
unfolding digits
more_digits zero n z h = absurd (z refl)
more_digits (suc most) n z h =
    let e : suc most - 1 ≡ most = omega arith in
    rw (le-ltb n 10 h, e)

-- ---- their value

last : (a b : ℕ) (l : List ℕ) → number a (l ++ b ∷ []) ≡ step (number a l) b
unfolding number
last a b [] = refl
last a b (x ∷ l) = last (step a x) b l

pub digits_value : (most n : ℕ) → n < 10 ^ most → number 0 (digits most n) ≡ n
unfolding number digits
digits_value zero n h = omega arith
digits_value (suc most) n h = by_test (ltb n 10) refl (digits_value most (n / 10) (omega (arith, simp unary_clauses at h)))
  where
    by_test : (b : Bool) → ltb n 10 ≡ b → number 0 (digits most (n / 10)) ≡ n / 10 → number 0 (digits (suc most) n) ≡ n
    by_test true e v =
        let d : step 0 (48 + n) ≡ 10 * 0 + (48 + n - 48) = step_digit 0 (48 + n) (omega arith) (omega (arith, ltb-true n 10 e)) in
        ap (number 0) (one_digit (suc most) n (λ z. omega arith) (ltb-true n 10 e)) ∙ d ∙ omega arith
    by_test false e v =
        let k : suc most - 1 ≡ most = omega arith in
        let v' : number 0 (digits (suc most - 1) (n / 10)) ≡ n / 10 = rw k v in
        let d = step_digit (number 0 (digits (suc most - 1) (n / 10))) (48 + n % 10) (omega arith) (omega arith) in
        let rest : 10 * number 0 (digits (suc most - 1) (n / 10)) + (48 + n % 10 - 48) ≡ n = omega arith in
        ap (number 0) (more_digits (suc most) n (λ z. omega arith) (ltb-false n 10 e)) ∙ last 0 (48 + n % 10) (digits (suc most - 1) (n / 10)) ∙ d ∙ rest

-- ---- no text of a number is shorter

step_next : (j a b : ℕ) → a < 10 ^ j → step a b < 10 ^ suc j
unfolding step
step_next j a b h = simp unary_clauses (go (digit b) (λ e. leb-true b 57 (and_right (leb 48 b) (leb b 57) e)))
  where
    go : (t : Bool) → (t ≡ true → b ≤ 57) → cond t (10 * a + (b - 48)) a < 10 ^ j * 10
    go true f = omega (arith, f refl)
    go false f = omega arith

number_below : (j a : ℕ) (l : List ℕ) → a < 10 ^ j → number a l < 10 ^ (j + length l)
unfolding number
number_below j a [] h = let e : j + 0 ≡ j = omega arith in rw e h
number_below j a (b ∷ l) h =
    let e : j + suc (length l) ≡ suc j + length l = omega arith in
    rw e (number_below (suc j) (step a b) l (step_next j a b h))

few_below : (most n k : ℕ) → 0 < k → n < 10 ^ k → length (digits most n) ≤ k
unfolding digits
few_below zero n k z h = omega arith
few_below (suc most) n zero z h = absurd (omega arith)
few_below (suc most) n (suc k) z h = by_test (ltb n 10) (ltb-false n 10) (few_below most (n / 10) k)
  where
    some : (k : ℕ) → 10 ≤ n → n < 10 ^ k * 10 → 0 < k
    some zero a b = absurd (omega arith)
    some (suc k) a b = omega arith

    by_test : (b : Bool) → (b ≡ false → 10 ≤ n) → (0 < k → n / 10 < 10 ^ k → length (digits most (n / 10)) ≤ k) → length (cond b ((48 + n) ∷ []) (digits most (n / 10) ++ ((48 + n % 10) ∷ []))) ≤ suc k
    by_test true f r = omega arith
    by_test false f r =
        let low = f refl in
        let high : n < 10 ^ k * 10 = simp unary_clauses at h in
        rw (length-append (digits most (n / 10)) ((48 + n % 10) ∷ [])) (omega (arith, r (some k low high) (omega arith)))

pub digits_shortest : (most : ℕ) (l : List ℕ) → 0 < length l → length (digits most (number 0 l)) ≤ length l
digits_shortest most l h =
    let e : 0 + length l ≡ length l = omega arith in
    few_below most (number 0 l) (length l) h (rw e at (number_below 0 0 l (omega arith)))

-- so no zero stands in front but that of 0
pub digits_first : (most n : ℕ) (l : List ℕ) → n < 10 ^ most → digits most n ≡ 48 ∷ l → n ≡ 0
unfolding number step
digits_first most n l h e = go l e (sym (ap (number 0) e) ∙ digits_value most n h)
  where
    go : (l : List ℕ) → digits most n ≡ 48 ∷ l → number 0 (48 ∷ l) ≡ n → n ≡ 0
    go [] e v = sym v
    go (b ∷ l) e v =
        let k : length (digits most n) ≤ suc (length l) = rw v at (digits_shortest most (b ∷ l) (omega arith)) in
        absurd (omega (arith, ap length e))
