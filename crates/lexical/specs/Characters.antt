-- The characters of a source: its well-formed UTF-8 sequences (The Unicode Standard, table 3-7), each the list of its bytes.
-- Assumes nothing.
use Rattle.std.specs.Prelude.{ℕ, zero, suc, Bool, true, false, ◌&&◌, ◌||◌, List, [], ◌∷◌, ◌++◌, eqb, length, take, drop}
use Rattle.utf8.specs.Table.{Row, rows, fits, sequence_length}

-- the bytes fit one of the rows, and none is left over
abbrev pub is_of : List Row → List ℕ → Bool
is_of [] c = false
is_of (row ∷ more) c = (fits row c && eqb (length row) (length c)) || is_of more c

-- a character: one well-formed sequence
abbrev pub is_character : List ℕ → Bool
is_character c = is_of rows c

abbrev pub are_characters : List (List ℕ) → Bool
are_characters [] = true
are_characters (c ∷ cs) = is_character c && are_characters cs

-- the bytes of the characters, one after the other
abbrev pub bytes_of : List (List ℕ) → List ℕ
bytes_of [] = []
bytes_of (c ∷ cs) = c ++ bytes_of cs

-- a list of bytes cut at the end of each sequence. Each takes a byte or more, so as much fuel as the list has bytes is enough
unfoldable pub cut : ℕ → List ℕ → List (List ℕ)
cut zero l = []
cut (suc fuel) [] = []
cut (suc fuel) (b ∷ l) = take (sequence_length (b ∷ l)) (b ∷ l) ∷ cut fuel (drop (sequence_length (b ∷ l)) (b ∷ l))

-- the characters of a well-formed list of bytes. That they are characters with its bytes, and that no others have them, is shown in
-- proofs/Characters.antt (`whole`, `only`)
unfoldable pub characters : List ℕ → List (List ℕ)
characters l = cut (length l) l
