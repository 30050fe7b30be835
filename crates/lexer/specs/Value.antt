-- The value of a token, from its code and its bytes (01, Raw tokens: Int, Float, String; src/lexer/raw_token.rs, the lex_ functions).
-- Assumes nothing.
use Rattle.std.specs.Prelude.{ℕ, cond, List, [], eqb, get_or, Option, Some, unwrap_or}
use Rattle.token.specs.Code as Code
use Rattle.strings.specs.Decoded.{decoded}
use Rattle.literal.specs.Literal.{lex_integer_lem, lex_float_lem, lex_string_lem, unquoted}
use Rattle.literal.specs.declared.Literal.{Literal}
use Rattle.literal.specs.declared.Literal.TheVariants as L

-- the value of a token with this code and these bytes, where so many bytes of text stand before it; Refused where 10 or 11 says no. `True` and
-- `False` are told apart by their first byte; a token with no value of its own has None's
unfoldable pub value_of : ℕ → List ℕ → ℕ → Option Literal
value_of code l used =
    cond (eqb code Code.Bool) (Some (L.Bool (eqb (get_or l 0 0) 84)))
    (cond (eqb code Code.Int) (lex_integer_lem l)
    (cond (eqb code Code.Float) (lex_float_lem l)
    (cond (eqb code Code.String) (Some (lex_string_lem l used)) (Some L.None))))

-- "10 Int in range? 11 Float admitted?"
abbrev pub refusal_of : ℕ → ℕ
refusal_of code = cond (eqb code Code.Int) 10 11

-- what the token adds to the text: "Decoded strings fill the text in token order" (01, Tree)
unfoldable pub text_of : ℕ → List ℕ → List ℕ
text_of code l = cond (eqb code Code.String) (decoded (unquoted l)) []

-- the literal of a token that was not refused
abbrev pub literal_in : Option Literal → Literal
literal_in v = unwrap_or v L.None
