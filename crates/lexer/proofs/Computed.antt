-- The token list of a closed source, for the checker to compute: all that its definition is made of is open here.
-- Assumes nothing.
use mathlib.Core.Path.{◌≡◌, refl}
use mathlib.Core.List.{List}
use Prim.Native.Nat.{ℕ}
use Rattle.numbers.specs.Digits.{number, place}
use Rattle.numbers.specs.Integer.{in_range, integer_of}
use Rattle.numbers.specs.Decimal.{decimal_of}
use Rattle.strings.specs.Decoded.{decoded}
use Rattle.literal.specs.Literal.{lex_integer_lem, lex_float_lem, lex_string_lem}
use Rattle.utf8.specs.Table.{rows, sequence_length}
use Rattle.utf8.specs.Character.{first_code}
use Rattle.xid.specs.Ranges.{holds}
use Rattle.xid.specs.Tables.{xid_start, xid_continue}
use Rattle.raw_token.specs.Pattern as P
use Rattle.raw_token.specs.Table.{table, token_at_lem}
use Rattle.spacing.specs.Gap.{gap_end_lem}
use Rattle.spacing.specs.Indentation.{level_of, indentation_at}
use Rattle.lexer.specs.Value.{value_of, text_of}
use Rattle.lexer.specs.Scan.{Scan, indent_then, closed, token_then, scan_from, token_list}

unfoldable pub computed : List ℕ → Scan
unfolding P.behind P.literal P.name P.int P.exponent P.fraction P.float rows sequence_length first_code holds xid_start xid_continue table token_at_lem number in_range integer_of decimal_of place decoded lex_integer_lem lex_float_lem lex_string_lem gap_end_lem level_of indentation_at value_of text_of indent_then closed token_then scan_from token_list
computed s = token_list s

pub is_list : (s : List ℕ) → token_list s ≡ computed s
unfolding computed
is_list s = refl
