-- What the functions behind the first byte find. Only contracts of private functions and laws cite these definitions.
-- Assumes nothing.
use Rattle.std.specs.Prelude.{ℕ, ◌+◌, ◌-◌, ◌*◌, ◌%◌, ◌^◌, ◌≡◌, Bool, cond, ◌&&◌, ◌||◌, List, [], ◌∷◌, Option, Some, None, unwrap_or, ◌≤◌, eqb, length, take, drop}
use Rattle.source.specs.Bytes.{run, digit, letter}
use Rattle.utf8.specs.Table.{some_length}
use Rattle.token.specs.Code.{Int, String, Identifier, Float}
use Rattle.raw_token.specs.Pattern as P
use Rattle.raw_token.specs.Pattern.{is_prefix}
use Rattle.raw_token.specs.Table.{Pattern, literal, int, string, name, float, Entry, table, raw_token, found}
use Rattle.raw_token.specs.declared.word.Spelling.{Spelling}
use Rattle.raw_token.specs.declared.RawToken.{RawToken}

-- the bytes of a text, none for another pattern
abbrev pub text_of : Pattern → List ℕ
text_of (literal w) = w
text_of int = []
text_of string = []
text_of name = []
text_of float = []

-- the entries with their bytes
abbrev pub texts : List Entry → List (ℕ × List ℕ)
texts [] = []
texts (e ∷ es) = (e.0, text_of e.1) ∷ texts es

-- the table's first 19 entries, from If to False
unfoldable pub keywords : List (ℕ × List ℕ)
keywords = texts (take 19 table)

-- r is the length of what p matches at the place `at` of s, and nothing where that is 0: no pattern matches the empty list of bytes
pub record Matches (p : List ℕ → ℕ) (s : List ℕ) (at : ℕ) (r : Option ℕ) : Type 0 where
  pub is : r ≡ some_length (p (drop at s))
  pub within : unwrap_or r 0 ≤ length s - at

-- bytes as the digits of a number to the base 256, the first the highest, behind the number n
abbrev pub pack : ℕ → List ℕ → ℕ
pack n [] = n
pack n (b ∷ l) = pack (n * 256 + b) l

-- the code whose word has the number n, or a name's
abbrev pub code_of : List (ℕ × List ℕ) → ℕ → ℕ
code_of [] n = Identifier
code_of (e ∷ es) n = cond (eqb n (pack 0 e.1)) e.0 (code_of es n)

-- the code of the word that is the whole of the first n bytes of l, or a name's
abbrev pub word_code : List (ℕ × List ℕ) → List ℕ → ℕ → ℕ
word_code [] l n = Identifier
word_code (e ∷ es) l n = cond (is_prefix e.1 l && eqb (length e.1) n) e.0 (word_code es l n)

-- the ASCII characters that begin a name, and those that continue one (proofs/Names.antt, `ascii-begins`, `ascii-continues`)
abbrev pub ascii_begins : ℕ → Bool
ascii_begins b = letter b || eqb b 95

abbrev pub ascii_continues_lem : ℕ → Bool
ascii_continues_lem b = ascii_begins b || digit b

-- r is where the ASCII characters that continue a name end, from `at` on, and the number of the last eight of them
pub record Spelt (s : List ℕ) (at : ℕ) (r : Spelling) : Type 0 where
  pub end_is : r.end ≡ at + run ascii_continues_lem (drop at s)
  pub number_is : r.number ≡ pack 0 (take (r.end - at) (drop at s)) % 2 ^ 64

-- a keyword or a name, where an ASCII character begins it
unfoldable pub word_at : List ℕ → ℕ → Option RawToken
word_at s at = Some (raw_token (word_code keywords (drop at s) (P.name (drop at s))) (at + P.name (drop at s)))

-- a name or nothing
unfoldable pub name_at : List ℕ → ℕ → Option RawToken
name_at s at = found at (Identifier, P.name (drop at s))

-- a sign and digits, or the sign alone, with the code op
unfoldable pub signed_at : List ℕ → ℕ → ℕ → Option RawToken
signed_at s at op = cond (eqb (P.int (drop at s)) 0) (Some (raw_token op (at + 1))) (Some (raw_token Int (at + P.int (drop at s))))

-- a float, or else digits
unfoldable pub number_at : List ℕ → ℕ → Option RawToken
number_at s at =
    cond (eqb (P.float (drop at s)) 0) (Some (raw_token Int (at + run digit (drop at s)))) (Some (raw_token Float (at + P.float (drop at s))))

unfoldable pub string_at : List ℕ → ℕ → Option RawToken
string_at s at = found at (String, P.string (drop at s))

-- two bytes where `second` is next, or the first alone
unfoldable pub pair_at : List ℕ → ℕ → ℕ → ℕ → ℕ → Option RawToken
pair_at s at second two alone =
    cond (is_prefix (second ∷ []) (drop (at + 1) s)) (Some (raw_token two (at + 2))) (Some (raw_token alone (at + 1)))

-- two bytes where `second` is next, or nothing
unfoldable pub only_at : List ℕ → ℕ → ℕ → ℕ → Option RawToken
only_at s at second two = cond (is_prefix (second ∷ []) (drop (at + 1) s)) (Some (raw_token two (at + 2))) None
