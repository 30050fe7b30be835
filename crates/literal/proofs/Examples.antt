-- The definitions at a few tokens, computed.
-- Assumes nothing.
use mathlib.Core.Path.{◌≡◌, refl}
use lib.Ieee.{binary64, of_bits, of_int, mul, div}
use lib.IntN.{negsuc}
use Rattle.std.specs.Prelude.{Some, None}
use Rattle.source.specs.Text.{bytes}
use Rattle.numbers.specs.Digits.{number, place}
use Rattle.numbers.specs.Decimal.{decimal_of}
use Rattle.numbers.specs.Integer.{in_range, integer_of}
use Rattle.strings.specs.Decoded.{decoded}
use Rattle.literal.specs.declared.Literal.TheVariants as L
use Rattle.literal.specs.Literal.{lex_integer_lem, lex_float_lem, lex_string_lem}

minus_one : lex_integer_lem (bytes "-1") ≡ Some (L.Int (negsuc 0))
unfolding lex_integer_lem integer_of in_range number
minus_one = refl

out_of_range : lex_integer_lem (bytes "9223372036854775808") ≡ None
unfolding lex_integer_lem integer_of in_range number
out_of_range = refl

half : lex_float_lem (bytes "0.5") ≡ Some (L.Float (of_bits binary64 0x3fe0000000000000))
unfolding lex_float_lem decimal_of number place of_bits of_int mul div
half = refl

not_admitted : lex_float_lem (bytes "1.0e24") ≡ None
unfolding lex_float_lem decimal_of number place
not_admitted = refl

-- 'a\n': three bytes between the quotes, and two of text
line : lex_string_lem (bytes "'a\\n'") 7 ≡ L.String 7 2
unfolding lex_string_lem decoded
line = refl

empty : lex_string_lem (bytes "\"\"") 0 ≡ L.String 0 0
unfolding lex_string_lem decoded
empty = refl
