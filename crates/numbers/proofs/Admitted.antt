-- What is admitted and what is not, and that digits that stop at a cap change neither: they are not admitted, as with all of them.
-- Assumes nothing.
use mathlib.Core.Path.{◌≡◌, sym, ap, ◌∙◌}
use mathlib.Core.Bool.{Bool, true, false, and-false}
use mathlib.Core.List.{List, []}
use Prim.Native.Nat.{ℕ, ◌+◌, ◌-◌, ◌^◌, ◌≤◌, ◌<◌, min}
use native.Mathlib.Decide.{dec_le}
use native.Mathlib.Nat.{le_of_eq}
use native.Mathlib.Numerals.{add-one}
use native.Mathlib.Omega.{arith}
use borrow.Author.Tests.{le-leb, lt-leb}
use lib.Ieee.{Float, binary64, mul, div}
use lib.ListN.{length, take, drop, length-drop, drop_of_length-le}
use lib.Seq.{take_all}
use Rattle.std.specs.Prelude.{Option, Some, None}
use Rattle.numbers.specs.declared.decimal.Scale.{Scale}
use Rattle.numbers.specs.declared.decimal.Scale.TheVariants.{Times, Over}
use Rattle.numbers.specs.Digits.{number, is_minus, place}
use Rattle.numbers.specs.Decimal.{whole, scale_of, value_of, after_dot, decimal_of}

-- ---- the cases of the definition

pub big : (m : ℕ) (p : Scale) → 9007199254740992 < m → None ≡ value_of m p
big m (Times k) h = simp (lt-leb m 9007199254740992 h)
big m (Over k) h = simp (lt-leb m 9007199254740992 h)

pub far_times : (m k : ℕ) → 22 < k → None ≡ value_of m (Times k)
far_times m k h = simp (lt-leb k 22 h, and-false)

pub far_over : (m k : ℕ) → 22 < k → None ≡ value_of m (Over k)
far_over m k h = simp (lt-leb k 22 h, and-false)

module _ (m k : ℕ) (t : Float) (h : m ≤ 9007199254740992) (l : k ≤ 22) (e : t ≡ whole (10 ^ k)) where
  pub times : Some (mul binary64 (whole m) t) ≡ value_of m (Times k)
  times = ap (λ (x : Float). Some (mul binary64 (whole m) x)) e ∙ simp (le-leb m 9007199254740992 h, le-leb k 22 l)

  pub over : Some (div binary64 (whole m) t) ≡ value_of m (Over k)
  over = ap (λ (x : Float). Some (div binary64 (whole m) x)) e ∙ simp (le-leb m 9007199254740992 h, le-leb k 22 l)

-- ---- the caps

pub digits : (m : ℕ) (p : Scale) → value_of (min 9007199254740993 m) p ≡ value_of m p
digits m p = go (dec_le m 9007199254740992)
  where
    go : Dec (m ≤ 9007199254740992) → value_of (min 9007199254740993 m) p ≡ value_of m p
    go (yes h) = let e : min 9007199254740993 m ≡ m = omega arith in ap (λ (k : ℕ). value_of k p) e
    go (no h) = sym (big (min 9007199254740993 m) p (omega arith)) ∙ big m p (omega arith)

-- an exponent from which on nothing is admitted
abbrev pub limit : Bool → ℕ → ℕ
limit true places = 23
limit false places = places + 23

far : (m : ℕ) (minus : Bool) (e places : ℕ) → limit minus places ≤ e → None ≡ value_of m (scale_of minus e places)
far m true e places h = far_over m (e + places) (omega arith)
far m false e places h =
    let s : places ≤ e = omega arith in
    simp (le-leb places e s) (far_times m (e - places) (omega arith))

pub exponents : (m : ℕ) (minus : Bool) (e places : ℕ) → value_of m (scale_of minus (min (limit minus places) e) places) ≡ value_of m (scale_of minus e places)
exponents m minus e places = go (dec_le e (limit minus places))
  where
    go : Dec (e ≤ limit minus places) → value_of m (scale_of minus (min (limit minus places) e) places) ≡ value_of m (scale_of minus e places)
    go (yes h) =
        let r : min (limit minus places) e ≡ e = omega arith in
        ap (λ (k : ℕ). value_of m (scale_of minus k places)) r
    go (no h) = sym (far m minus (min (limit minus places) e) places (omega arith)) ∙ far m minus e places (omega arith)

-- ---- a token's text

-- the exponent s, whose digits stopped at n
pub stopped : (s : List ℕ) (places : ℕ) (minus : Bool) (n : ℕ) (p : Scale) → is_minus s ≡ minus → n ≡ min (limit minus places) (number 0 s)
    → p ≡ scale_of minus n places → (m : ℕ) → value_of m p ≡ value_of m (scale_of (is_minus s) (number 0 s) places)
stopped s places minus n p hs hn hp m =
    ap (value_of m) (hp ∙ ap (λ (k : ℕ). scale_of minus k places) hn)
    ∙ exponents m minus (number 0 s) places
    ∙ ap (λ (t : Bool). value_of m (scale_of t (number 0 s) places)) (sym hs)

-- `&s[n..]` is what is left after n
pub rest : (s : List ℕ) (n : ℕ) → take (length s - n) (drop n s) ≡ drop n s
rest s n = take_all (length s - n) (drop n s) (le_of_eq (length-drop n s))

-- without an e there is no exponent, which is 0
pub none : (s : List ℕ) (e places : ℕ) → length s ≤ e → scale_of false 0 places ≡ scale_of (is_minus (drop (e + 1) s)) (number 0 (drop (e + 1) s)) places
unfolding number
none s e places h =
    let k : length s ≤ e + 1 = omega arith in
    let q : drop (e + 1) s ≡ [] = drop_of_length-le s {i = e + 1} k in
    sym (ap (λ (l : List ℕ). scale_of (is_minus l) (number 0 l) places) q)

-- what the parts of `float_value` give, taken together
module _ (s : List ℕ) (e m after : ℕ) (p : Scale) (r : Option Float) (x : List ℕ) where
  pub assembled : e ≡ place 101 69 s → x ≡ drop (e + 1) s → m ≡ min 9007199254740993 (number 0 (take e s))
      → after ≡ length (after_dot (take e s)) → value_of m p ≡ value_of m (scale_of (is_minus x) (number 0 x) after) → r ≡ value_of m p
      → r ≡ decimal_of s
  unfolding decimal_of
  assembled he hx hm ha hp hr =
      let d = digits (number 0 (take e s)) (scale_of (is_minus x) (number 0 x) after) in
      let g = add-one e in
      cc
