-- Texts that antt computes.
-- Assumes nothing.
use mathlib.Core.Path.{◌≡◌, refl}
use mathlib.Core.Bool.{false}
use Rattle.source.specs.Text.{bytes}
use Rattle.token.specs.Code as Code
use Rattle.raw_token.specs.Table.{table}
use Rattle.numbers.specs.Digits.{digits}
use Rattle.numbers.specs.Bits.{int_of}
use Rattle.rendered.specs.Spelled.{spelled_fixed, spelled_bool, spelled_int, letter, escaped_all, spelled_string}
use Rattle.writing.specs.Written.{room}

keyword : spelled_fixed Code.Lambda ≡ bytes "lambda"
unfolding spelled_fixed table
keyword = refl

operator : spelled_fixed Code.SlashSlash ≡ bytes "//"
unfolding spelled_fixed table
operator = refl

truth : spelled_bool false ≡ bytes "False"
truth = refl

zero_is : spelled_int (int_of 0 0) ≡ bytes "0"
unfolding digits
zero_is = refl

least : spelled_int (int_of 0 2147483648) ≡ bytes "-9223372036854775808"
unfolding digits
least = refl

greatest : spelled_int (int_of 4294967295 2147483647) ≡ bytes "9223372036854775807"
unfolding digits
greatest = refl

-- "\n" here is the line feed
quoted : spelled_string (bytes "a'b\"\n\\q") ≡ bytes "\"a'b\\\"\\n\\\\q\""
unfolding escaped_all letter
quoted = refl

short_slice : room 65535 ≡ 65535
short_slice = refl

long_slice : room 65537 ≡ 65536
long_slice = refl
