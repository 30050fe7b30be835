-- The value of an Int by its sign, and that digits that stop at 2^63 + 1 change no value.
-- Assumes nothing.
use mathlib.Core.Path.{◌≡◌, refl, sym, ap, ◌∙◌, subst⁻¹}
use mathlib.Core.Bool.{Bool, true, false, cond}
use Prim.Native.Nat.{ℕ, zero, suc, ◌^◌, ◌<◌, ◌≤◌, min}
use native.Mathlib.Decide.{dec_le}
use native.Mathlib.Omega.{arith}
use lib.IntN.{ℤ, pos, negsuc, neg_ℤ, ◌-ℤ◌, +ℤ_idl}
use mir.Syntax.{w64}
use borrow.Author.Tests.{le-ltb, ltb-true, ltb-false}
use mathlib.Core.List.{List}
use Rattle.std.specs.Prelude.{Option, Some, None, Result, Ok, Err, FitsSigned, SomeIff, OkIff}
use Rattle.std.specs.Result.{result_ok}
use Rattle.numbers.specs.Digits.{number, is_minus}
use Rattle.numbers.specs.Integer.{in_i64, in_range, signed, integer_of}

-- what is given exactly where it fits an i64 is the value
fits : (z : ℤ) → in_i64 z ≡ true → FitsSigned w64 z
fits (pos n) e = record { sfits = ltb-true n (2 ^ 63) e }
fits (negsuc n) e = record { sfits = ltb-true n (2 ^ 63) e }

fits_not : (z : ℤ) → in_i64 z ≡ false → FitsSigned w64 z → ⊥
fits_not (pos n) e f = omega (arith, ltb-false n (2 ^ 63) e, f.sfits)
fits_not (negsuc n) e f = omega (arith, ltb-false n (2 ^ 63) e, f.sfits)

pub given : (z : ℤ) (r : Option ℤ) → SomeIff r (FitsSigned w64 z) z → r ≡ in_range z
unfolding in_range
given z r h = go (in_i64 z) (fits z) (fits_not z) r h
  where
    go : (t : Bool) → (t ≡ true → FitsSigned w64 z) → (t ≡ false → FitsSigned w64 z → ⊥) → (r : Option ℤ) → SomeIff r (FitsSigned w64 z) z → r ≡ cond t (Some z) None
    go true f g (Some x) h = ap Some h.1
    go true f g None h = absurd (h (f refl))
    go false f g (Some x) h = absurd (g refl h.0)
    go false f g None h = refl

-- ---- the cap

out_pos : (m : ℕ) → 2 ^ 63 ≤ m → in_range (pos m) ≡ None
unfolding in_range
out_pos m h = rw (le-ltb m (2 ^ 63) h)

out_neg : (m : ℕ) → 2 ^ 63 < m → in_range (neg_ℤ (pos m)) ≡ None
unfolding in_range
out_neg zero h = absurd (omega arith)
out_neg (suc m) h = rw (le-ltb m (2 ^ 63) (omega arith))

out : (t : Bool) (n : ℕ) → 9223372036854775809 ≤ n → in_range (signed t n) ≡ None
out true n h = out_neg n h
out false n h = out_pos n (omega arith)

capped : (t : Bool) (n : ℕ) → in_range (signed t (min 9223372036854775809 n)) ≡ in_range (signed t n)
capped t n = go (dec_le n 9223372036854775809)
  where
    go : Dec (n ≤ 9223372036854775809) → in_range (signed t (min 9223372036854775809 n)) ≡ in_range (signed t n)
    go (yes h) = let e : min 9223372036854775809 n ≡ n = omega arith in ap (λ (k : ℕ). in_range (signed t k)) e
    go (no h) = out t (min 9223372036854775809 n) (omega arith) ∙ sym (out t n (omega arith))

-- the token s, whose digits stopped at n
pub stopped : (s : List ℕ) (minus : Bool) (n : ℕ) → is_minus s ≡ minus → n ≡ min 9223372036854775809 (number 0 s) → in_range (signed minus n) ≡ integer_of s
unfolding integer_of
stopped s minus n hs hn =
    ap (λ (k : ℕ). in_range (signed minus k)) hn
    ∙ capped minus (number 0 s)
    ∙ ap (λ (t : Bool). in_range (signed t (number 0 s))) (sym hs)

-- an answer that is the value exactly where that fits
module _ (s : List ℕ) (n : ℕ) (hn : n ≡ min 9223372036854775809 (number 0 s)) (r : Option ℤ) where
  answered : (minus : Bool) → is_minus s ≡ minus → SomeIff r (FitsSigned w64 (signed minus n)) (signed minus n) → r ≡ integer_of s
  answered minus hs h = given (signed minus n) r h ∙ stopped s minus n hs hn

  pub minus_stopped : is_minus s ≡ true → SomeIff r (FitsSigned w64 (pos 0 -ℤ pos n)) (pos 0 -ℤ pos n) → r ≡ integer_of s
  minus_stopped hs h = answered true hs (rw (+ℤ_idl (neg_ℤ (pos n))) at h)

  pub plain_stopped : is_minus s ≡ false → {E : Type 0} (t : Result ℤ E) → OkIff t (FitsSigned w64 (pos n)) (pos n) → r ≡ result_ok t → r ≡ integer_of s
  plain_stopped hs t h e = answered false hs (subst⁻¹ (λ (o : Option ℤ). SomeIff o (FitsSigned w64 (pos n)) (pos n)) e (go t h))
    where
      go : {E : Type 0} (t : Result ℤ E) → OkIff t (FitsSigned w64 (pos n)) (pos n) → SomeIff (result_ok t) (FitsSigned w64 (pos n)) (pos n)
      go (Ok x) h = h
      go (Err e) h = h
