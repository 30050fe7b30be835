-- The value of an Int. Document 01: "Int: optional sign, digits; -2^63 to 2^63 - 1."
-- Assumes nothing.
use Rattle.std.specs.Prelude.{ℕ, ◌^◌, Bool, true, false, cond, List, ltb, ℤ, pos, negsuc, neg_ℤ, Option, Some, None}
use Rattle.numbers.specs.Digits.{number, is_minus}

-- from -2^63 to 2^63 - 1; negsuc n is -(n + 1)
abbrev pub in_i64 : ℤ → Bool
in_i64 (pos n) = ltb n (2 ^ 63)
in_i64 (negsuc n) = ltb n (2 ^ 63)

unfoldable pub in_range : ℤ → Option ℤ
in_range z = cond (in_i64 z) (Some z) None

-- n with its sign
abbrev pub signed : Bool → ℕ → ℤ
signed true n = neg_ℤ (pos n)
signed false n = pos n

unfoldable pub integer_of : List ℕ → Option ℤ
integer_of s = in_range (signed (is_minus s) (number 0 s))
