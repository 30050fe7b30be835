-- The value of a Float. Document 01: "Float: digits, dot, digits, optional e or E, optional sign, digits; no leading sign. Join the digits
-- around the dot into m; p is the exponent less the count of digits after the dot. Admitted: m at most 2^53, p from -22 to 22. Its value is
-- one multiplication or one division of two exact numbers: m × 10^p, or m / 10^-p (IEEE 754 double)."
-- Assumes nothing.
use Rattle.std.specs.Prelude.{ℕ, suc, ◌+◌, ◌-◌, ◌^◌, Bool, true, false, cond, ◌&&◌, List, leb, pos, length, take, drop, Float, Option, Some, None}
use Rattle.std.specs.Float.{binary64}
use Rattle.std.specs.Float.Ieee.{of_int, mul, div}
use Rattle.numbers.specs.Digits.{number, is_minus, place}
use Rattle.numbers.specs.declared.decimal.Scale.{Scale}
use Rattle.numbers.specs.declared.decimal.Scale.TheVariants.{Times, Over}

-- p, the exponent e less the places, where `true` says that the exponent is negative: `Times p`, and below 0 `Over -p`
abbrev pub scale_of : Bool → ℕ → ℕ → Scale
scale_of true e places = Over (e + places)
scale_of false e places = cond (leb places e) (Times (e - places)) (Over (places - e))

-- a whole number as an f64, which is exact up to 2 ^ 53 and at the powers of ten up to 10 ^ 22
abbrev pub whole : ℕ → Float
whole n = of_int binary64 (pos n)

-- admitted or not, and the one operation, rounded once
abbrev pub value_of : ℕ → Scale → Option Float
value_of m (Times k) = cond (leb m (2 ^ 53) && leb k 22) (Some (mul binary64 (whole m) (whole (10 ^ k)))) None
value_of m (Over k) = cond (leb m (2 ^ 53) && leb k 22) (Some (div binary64 (whole m) (whole (10 ^ k)))) None

-- ---- a token's text

-- the digits around the dot, which stand before the e or E (101, 69), and what stands after it
abbrev pub mantissa : List ℕ → List ℕ
mantissa s = take (place 101 69 s) s

abbrev pub exponent : List ℕ → List ℕ
exponent s = drop (suc (place 101 69 s)) s

-- what stands after the dot (46)
abbrev pub after_dot : List ℕ → List ℕ
after_dot l = drop (suc (place 46 46 l)) l

-- m and p
abbrev pub joined_digits : List ℕ → ℕ
joined_digits s = number 0 (mantissa s)

abbrev pub power_of_ten : List ℕ → Scale
power_of_ten s = scale_of (is_minus (exponent s)) (number 0 (exponent s)) (length (after_dot (mantissa s)))

unfoldable pub decimal_of : List ℕ → Option Float
decimal_of s = value_of (joined_digits s) (power_of_ten s)
