-- What the definition says of short sources of documents 01 and 02 (names) and of the Python Reference, chapter 2, computed.
-- Assumes nothing.
use mathlib.Core.Path.{◌≡◌, refl}
use mathlib.Core.List.{List, [], ◌∷◌}
use Prim.Native.Nat.{ℕ}
use Rattle.source.specs.Text.{bytes}
use Rattle.token.specs.Code.{If, Bool, Int, String, Identifier, Float, LessEqual, Dot, Newline}
use Rattle.utf8.specs.Table.{rows, sequence_length}
use Rattle.utf8.specs.Character.{first_code}
use Rattle.xid.specs.Ranges.{holds}
use Rattle.xid.specs.Tables.{xid_start, xid_continue}
use Rattle.raw_token.specs.Pattern as P
use Rattle.raw_token.specs.Table.{table, token_at_lem}
use Rattle.raw_token.specs.declared.RawToken.{RawToken}
use Rattle.std.specs.Prelude.{Option, Some, None}
use Rattle.raw_token.specs.Table.{raw_token}

-- the token at a place of a text
says : List ℕ → ℕ → Option RawToken
unfolding P.behind P.literal P.name P.int P.exponent P.fraction P.float rows sequence_length first_code holds xid_start xid_continue table token_at_lem
says s at = token_at_lem s at

-- a float has no leading sign: an Int, then a Dot (01)
signed_float : (says (bytes "-1.5") 0 ≡ Some (raw_token Int 2)) × (says (bytes "-1.5") 2 ≡ Some (raw_token Dot 3))
unfolding says
signed_float = (refl, refl)

-- "1.e5" is an Attribute (01), so an Int, a Dot and a name
no_fraction : (says (bytes "1.e5") 0 ≡ Some (raw_token Int 1)) × (says (bytes "1.e5") 2 ≡ Some (raw_token Identifier 4))
unfolding says
no_fraction = (refl, refl)

-- an exponent has digits
no_exponent : (says (bytes "1.5e") 0 ≡ Some (raw_token Float 3)) × (says (bytes "1.5e+") 3 ≡ Some (raw_token Identifier 4))
unfolding says
no_exponent = (refl, refl)

-- "So `a-1` is a name, then Int -1" (01)
name_then_int : (says (bytes "a-1") 0 ≡ Some (raw_token Identifier 1)) × (says (bytes "a-1") 1 ≡ Some (raw_token Int 3))
unfolding says
name_then_int = (refl, refl)

-- floats with an exponent (01; Reference, chapter 2)
exponents : (says (bytes "1.0e23") 0 ≡ Some (raw_token Float 6)) × (says (bytes "3.14E-10") 0 ≡ Some (raw_token Float 8))
unfolding says
exponents = (refl, refl)

-- a keyword beats a name as long, and a longer name a keyword
keyword_or_name : (says (bytes "if x") 0 ≡ Some (raw_token If 2)) × (says (bytes "ifx") 0 ≡ Some (raw_token Identifier 3))
unfolding says
keyword_or_name = (refl, refl)

-- both truth values have one code; other keywords of the Reference are names (01)
words : (says (bytes "False") 0 ≡ Some (raw_token Bool 5)) × (says (bytes "import") 0 ≡ Some (raw_token Identifier 6))
unfolding says
words = (refl, refl)

-- the longer operator
longer_operator : says (bytes "<=") 0 ≡ Some (raw_token LessEqual 2)
unfolding says
longer_operator = refl

-- an escaped quote does not end a string (Reference, chapter 2), the other quote neither
escaped_quote : (says (bytes "\"a\\\"b\"") 0 ≡ Some (raw_token String 6)) × (says (bytes "'a\"'") 0 ≡ Some (raw_token String 4))
unfolding says
escaped_quote = (refl, refl)

-- line feeds are allowed in a string, but not behind a backslash (01)
feed_in_string : (says (bytes "'a\nb'") 0 ≡ Some (raw_token String 5)) × (says (bytes "'a\\\nb'") 0 ≡ None)
unfolding says
feed_in_string = (refl, refl)

-- a string that no quote closes
unclosed : (says (bytes "'a") 0 ≡ None) × (says (bytes "'a\\'") 0 ≡ None)
unfolding says
unclosed = (refl, refl)

-- é, the bytes 195 and 169, begins a name and continues one, and is free in a string
accented : (says (195 ∷ 169 ∷ []) 0 ≡ Some (raw_token Identifier 2)) × (says (97 ∷ 195 ∷ 169 ∷ []) 0 ≡ Some (raw_token Identifier 3)) × (says (39 ∷ 92 ∷ 195 ∷ 169 ∷ 39 ∷ []) 0 ≡ Some (raw_token String 5))
unfolding says
accented = (refl, refl, refl)

-- no keyword goes on by it
wide_behind_keyword : says (105 ∷ 102 ∷ 195 ∷ 169 ∷ []) 0 ≡ Some (raw_token Identifier 4)
unfolding says
wide_behind_keyword = refl

-- · (U+00B7) continues a name and begins none; € (U+20AC) does neither
continues_alone : (says (97 ∷ 194 ∷ 183 ∷ []) 0 ≡ Some (raw_token Identifier 3)) × (says (194 ∷ 183 ∷ []) 0 ≡ None) × (says (97 ∷ 226 ∷ 130 ∷ 172 ∷ []) 0 ≡ Some (raw_token Identifier 1)) × (says (226 ∷ 130 ∷ 172 ∷ []) 0 ≡ None)
unfolding says
continues_alone = (refl, refl, refl, refl)

-- 한 (U+D55C), and 𐀀 (U+10000), of three and of four bytes; a sequence that is cut off is no character
longer_sequences : (says (237 ∷ 149 ∷ 156 ∷ []) 0 ≡ Some (raw_token Identifier 3)) × (says (97 ∷ 240 ∷ 144 ∷ 128 ∷ 128 ∷ []) 0 ≡ Some (raw_token Identifier 5)) × (says (97 ∷ 237 ∷ 149 ∷ []) 0 ≡ Some (raw_token Identifier 1))
unfolding says
longer_sequences = (refl, refl, refl)

-- a line feed, `!` alone and the end of the source
others : (says (bytes "a\n") 1 ≡ Some (raw_token Newline 2)) × (says (bytes "!") 0 ≡ None) × (says (bytes "a") 1 ≡ None)
unfolding says
others = (refl, refl, refl)
