-- What the definitions by characters say of a few short texts, computed.
-- Assumes nothing.
use mathlib.Core.Path.{◌≡◌, refl}
use mathlib.Core.List.{List, [], ◌∷◌, ◌++◌}
use Prim.Native.Nat.{ℕ}
use Rattle.source.specs.Text.{bytes}
use Rattle.utf8.specs.Table.{rows, sequence_length}
use Rattle.raw_token.specs.Pattern.{behind}
use Rattle.lexical.specs.Characters.{cut, characters}
use Rattle.lexical.specs.Strings.{string, decoded}

-- U+00E9, U+20AC and U+1F600
é : List ℕ
é = 0xC3 ∷ 0xA9 ∷ []

euro : List ℕ
euro = 0xE2 ∷ 0x82 ∷ 0xAC ∷ []

grin : List ℕ
grin = 0xF0 ∷ 0x9F ∷ 0x98 ∷ 0x80 ∷ []

characters_in : List ℕ → List (List ℕ)
unfolding rows sequence_length cut characters
characters_in l = characters l

each_length : characters_in (bytes "e" ++ é ++ euro ++ grin) ≡ bytes "e" ∷ é ∷ euro ∷ grin ∷ []
unfolding characters_in é euro grin
each_length = refl

length_in : List ℕ → ℕ
unfolding characters_in behind
length_in l = string (characters_in l)

-- a character of two bytes that is escaped
escaped-é : length_in (bytes "\"\\" ++ é ++ bytes "\" x\"") ≡ 5
unfolding length_in é
escaped-é = refl

-- line feeds are allowed, but not behind a backslash; a quote that is escaped or the other one closes nothing
line_feed : length_in (bytes "\"\n\"") ≡ 3
unfolding length_in
line_feed = refl

escaped_line_feed : length_in (bytes "\"\\\n\"") ≡ 0
unfolding length_in
escaped_line_feed = refl

other_quotes : length_in (bytes "'\"\\''\"") ≡ 5
unfolding length_in
other_quotes = refl

text_in : List ℕ → List ℕ
unfolding characters_in
text_in l = decoded (characters_in l)

-- a character of one byte that is no escape, and one of two: both keep their backslash
others : text_in (bytes "\\a\\" ++ é ++ euro) ≡ bytes "\\a\\" ++ é ++ euro
unfolding text_in é euro
others = refl
