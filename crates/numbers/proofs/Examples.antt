-- The definitions at a few texts, computed: what they give has the bits of the value that the text stands for.
-- Assumes nothing.
use mathlib.Core.Path.{◌≡◌, refl}
use Prim.Native.Nat.{◌-◌, ◌^◌}
use lib.Ieee.{binary64, of_bits, of_int, mul, div}
use lib.IntN.{pos, negsuc}
use Rattle.source.specs.Text.{bytes}
use Rattle.std.specs.Prelude.{Some, None}
use Rattle.numbers.specs.Digits.{number, place}
use Rattle.numbers.specs.Decimal.{decimal_of}
use Rattle.numbers.specs.Integer.{in_range, integer_of}

-- ---- Float

middle : decimal_of (bytes "123.4500") ≡ Some (of_bits binary64 0x405edccccccccccd)
unfolding decimal_of number place of_bits of_int mul div
middle = refl

small : decimal_of (bytes "1.5E-3") ≡ Some (of_bits binary64 0x3f589374bc6a7efa)
unfolding decimal_of number place of_bits of_int mul div
small = refl

-- p is 22, the last admitted
farthest : decimal_of (bytes "1.0e23") ≡ Some (of_bits binary64 0x44b52d02c7e14af6)
unfolding decimal_of number place of_bits of_int mul div
farthest = refl

too_far : decimal_of (bytes "1.0e24") ≡ None
unfolding decimal_of number place
too_far = refl

-- p is out of range, whatever m is
zero_too_far : decimal_of (bytes "0.0e999") ≡ None
unfolding decimal_of number place
zero_too_far = refl

-- ---- Int

too_large : integer_of (bytes "9223372036854775808") ≡ None
unfolding integer_of in_range number
too_large = refl

least : integer_of (bytes "-9223372036854775808") ≡ Some (negsuc (2 ^ 63 - 1))
unfolding integer_of in_range number
least = refl

plus : integer_of (bytes "+7") ≡ Some (pos 7)
unfolding integer_of in_range number
plus = refl

minus_zero : integer_of (bytes "-0") ≡ Some (pos 0)
unfolding integer_of in_range number
minus_zero = refl
