-- The literal that a token stands for. Document 01: "Literal has cases Bool, Int(i64), String place and length, Float(f64), None"; an Int out
-- of range and a Float that is not admitted have none.
-- Assumes nothing.
use Rattle.std.specs.Prelude.{ℕ, ◌-◌, Bool, true, not, List, length, ℤ, Float, Option, option_map}
use Rattle.std.specs.Float.Ieee.{is_nan}
use Rattle.source.specs.Bytes.{part}
use Rattle.numbers.specs.Decimal.{decimal_of}
use Rattle.numbers.specs.Integer.{integer_of}
use Rattle.strings.specs.Decoded.{decoded}
use Rattle.literal.specs.declared.Literal.{Literal}
use Rattle.literal.specs.declared.Literal.TheVariants as L

abbrev pub of_integer : Option ℤ → Option Literal
of_integer n = option_map L.Int n

abbrev pub of_decimal : Option Float → Option Literal
of_decimal x = option_map L.Float x

unfoldable pub lex_integer_lem : List ℕ → Option Literal
lex_integer_lem s = of_integer (integer_of s)

unfoldable pub lex_float_lem : List ℕ → Option Literal
lex_float_lem s = of_decimal (decimal_of s)

-- what stands between the quotes of a String token
abbrev pub unquoted : List ℕ → List ℕ
unquoted s = part s 1 (length s - 1)

-- the String token s, whose decoded bytes stand in the text from `at` on
unfoldable pub lex_string_lem : List ℕ → ℕ → Literal
lex_string_lem s at = L.String at (length (decoded (unquoted s)))

-- a literal that can be written as words: a float that is no NaN, and any other
abbrev pub has_bits : Literal → Bool
has_bits (L.Bool b) = true
has_bits (L.Int n) = true
has_bits (L.String at n) = true
has_bits (L.Float x) = not (is_nan x)
has_bits L.None = true
