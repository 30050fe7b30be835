-- Lexemes: the bytes of one token, and what may stand behind them.
-- Assumes nothing.
use Prim.Native.Nat.{ℕ}
use mathlib.Core.Path.{◌≡◌}
use mathlib.Core.Bool.{Bool, ◌&&◌, ◌||◌}
use mathlib.Core.List.{List, [], ◌∷◌}
use lib.Dec.{eqb, leb}
use lib.ListN.{length, get_or}
use Rattle.std.specs.Prelude.{Some}
use Rattle.source.specs.Bytes.{between}
use Rattle.source.proofs.Ranges.{is_in}
use Rattle.token.specs.Code as Code
use Rattle.raw_token.specs.Pattern as P
use Rattle.raw_token.specs.Pattern.{one, is_quote}
use Rattle.raw_token.specs.Parts.{ascii_continues_lem}
use Rattle.raw_token.specs.Table.{raw_token, token_at_lem}
use Rattle.literal.specs.declared.Literal.{Literal}
use Rattle.lexer.specs.Value.{value_of, text_of}

-- the bytes w alone are one token with this code
abbrev pub Lexeme : ℕ → List ℕ → Type 0
Lexeme code w = token_at_lem w 0 ≡ Some (raw_token code (length w))

-- and, not being a line feed, have this literal, where so many bytes of text stand before them, and add this to the text
pub record Reads (code : ℕ) (w : List ℕ) (literal : ℕ → Literal) (text : List ℕ) : Type 0 where
  pub lexeme : Lexeme code w
  pub no_feed : code ≡ Code.Newline → ⊥
  pub valued : (used : ℕ) → value_of code w used ≡ Some (literal used)
  pub adds : text_of code w ≡ text

-- the codes of one fixed text, but for the line feed: keywords, operators, brackets and marks
abbrev pub is_fixed : ℕ → Bool
is_fixed code = between Code.If Code.None code || between Code.Plus Code.Dot code

-- a byte that can stand behind the first of a name or of a fixed text of the table: an ASCII character that continues a name, a byte over 127, = and /
abbrev pub inner : ℕ → Bool
inner b = ascii_continues_lem b || leb 128 b || eqb b 61 || eqb b 47

-- r lengthens no token: it begins with no such byte, and neither with a sign and a digit nor with a dot and a digit
unfoldable pub apart : List ℕ → Bool
apart r = eqb (one inner r) 0 && (eqb (P.int r) 0 && eqb (P.fraction r) 0)

-- the bytes that are a token of one byte whatever follows: line feed % ( ) * , . : ; [ ] { }
abbrev pub marks : List ℕ
marks = 10 ∷ 37 ∷ 40 ∷ 41 ∷ 42 ∷ 44 ∷ 46 ∷ 58 ∷ 59 ∷ 91 ∷ 93 ∷ 123 ∷ 125 ∷ []

abbrev pub sealed : ℕ → Bool
sealed b = is_in marks b

-- r may stand right behind the lexeme w: nothing lengthens a sealed byte or a string, and r lengthens no token
abbrev pub parted : List ℕ → List ℕ → Bool
parted w r = (sealed (get_or w 0 0) || is_quote (get_or w 0 0)) || apart r
