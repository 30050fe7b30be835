-- The tokens that the words of the token slice stand for: "code, start, end each, Eof last" (01, Questions), with the literal that each one's bytes have.
-- Assumes nothing.
use Rattle.std.specs.Prelude.{ℕ, zero, suc, ◌+◌, ◌-◌, ◌*◌, ◌/◌, ◌≤◌, ◌≡◌, List, length, get_or}
use Rattle.source.specs.Bytes.{part}
use Rattle.token.specs.Code.{String, Eof}
use Rattle.tokens.specs.Token.{Token, token}
use Rattle.lexer.specs.Value.{value_of, text_of, literal_in}
use Rattle.ast.specs.Words.{tabulate}
use Rattle.grammar.specs.Limits.{before}
use Rattle.pyhyeon.specs.Symbol.{symbol, symbols}

-- a token is three words: its code, where it starts and where it ends
abbrev pub code_at : List ℕ → ℕ → ℕ
code_at toks t = get_or toks (3 * t) 0

abbrev pub start_at : List ℕ → ℕ → ℕ
start_at toks t = get_or toks (3 * t + 1) 0

abbrev pub end_at : List ℕ → ℕ → ℕ
end_at toks t = get_or toks (3 * t + 2) 0

-- the number of the last token
unfoldable pub eof_at : List ℕ → ℕ
eof_at toks = length toks / 3 - 1

-- the bytes of token t
abbrev pub bytes_at : List ℕ → List ℕ → ℕ → List ℕ
bytes_at src toks t = part src (start_at toks t) (end_at toks t)

-- the bytes of text of the tokens before t: "Decoded strings fill the text in token order" (01, Tree)
unfoldable pub text_before : List ℕ → List ℕ → ℕ → ℕ
text_before src toks zero = 0
text_before src toks (suc t) = text_before src toks t + length (text_of (code_at toks t) (bytes_at src toks t))

-- token t, with its literal
abbrev pub token_of : List ℕ → List ℕ → ℕ → Token
token_of src toks t =
    token (code_at toks t) (start_at toks t) (end_at toks t) (literal_in (value_of (code_at toks t) (bytes_at src toks t) (text_before src toks t)))

-- all of them
unfoldable pub tokens_of : List ℕ → List ℕ → List Token
tokens_of src toks = tabulate (token_of src toks) 0 (eof_at toks + 1)

-- what the rules ask of token t
unfoldable pub symbol_at : List ℕ → List ℕ → ℕ → ℕ
symbol_at src toks t = symbol src (token_of src toks t)

-- a token's span lies in the source, and a String has two quotes
pub record Span (src toks : List ℕ) (t : ℕ) : Type 0 where
  pub order : start_at toks t ≤ end_at toks t
  pub within : end_at toks t ≤ length src
  pub quotes : code_at toks t ≡ String → start_at toks t + 2 ≤ end_at toks t

-- What code may ask of the words: whole tokens, of which the last is the one Eof, spans in a source that question 1 lets through, and no more text
-- than source. All of it is the scanner's promise.
pub record Tokens (src toks : List ℕ) : Type 0 where
  pub whole : length toks ≡ 3 * eof_at toks + 3
  pub ends : before Eof (symbols src (tokens_of src toks)) ≡ eof_at toks
  pub few : eof_at toks ≤ 65536
  pub small : length src ≤ 65536
  pub span : (t : ℕ) → t ≤ eof_at toks → Span src toks t
  pub text : (t : ℕ) → t ≤ eof_at toks + 1 → text_before src toks t ≤ length src
