-- How a writer spells what has no bytes of its own in the tree: fixed texts, truth values, Ints and Strings (02, change 6). Names keep the bytes of their
-- tokens, and "Floats use their kept spelling".
-- Assumes nothing.
use Rattle.std.specs.Prelude.{ℕ, suc, Bool, true, false, cond, List, [], ◌∷◌, ◌++◌, eqb, ℤ, pos, negsuc}
use Rattle.source.specs.Text.{bytes}
use Rattle.numbers.specs.Digits.{digits}
use Rattle.raw_token.specs.Table.{Entry, table}
use Rattle.raw_token.specs.Parts.{text_of}

-- ---- fixed texts: keywords, operators, brackets and marks, and the line feed

-- the text of the first entry with this code, none where it has none
abbrev pub first_text : List Entry → ℕ → List ℕ
first_text [] code = []
first_text (e ∷ es) code = cond (eqb e.0 code) (text_of e.1) (first_text es code)

-- as the scanner's table has it
unfoldable pub spelled_fixed : ℕ → List ℕ
spelled_fixed code = first_text table code

abbrev pub spelled_bool : Bool → List ℕ
spelled_bool true = bytes "True"
spelled_bool false = bytes "False"

-- ---- "Ints the shortest digits with a minus where negative": no bytes with that value are fewer (proofs/Ints.antt, `int_shortest`)

-- 2 ^ 63 has 19 digits
abbrev pub spelled_int : ℤ → List ℕ
spelled_int (pos n) = digits 19 n
spelled_int (negsuc n) = 45 ∷ digits 19 (suc n)

-- ---- "Strings stand in double quotes, with backslash, double quote, line feed, tab and carriage return escaped"

-- what stands behind the backslash of an escaped byte; 0 for a byte that stands for itself
unfoldable pub letter : ℕ → ℕ
letter b = cond (eqb b 92) 92 (cond (eqb b 34) 34 (cond (eqb b 10) 110 (cond (eqb b 9) 116 (cond (eqb b 13) 114 0))))

abbrev pub escaped : ℕ → List ℕ
escaped b = cond (eqb (letter b) 0) (b ∷ []) (92 ∷ letter b ∷ [])

unfoldable pub escaped_all : List ℕ → List ℕ
escaped_all [] = []
escaped_all (b ∷ l) = escaped b ++ escaped_all l

abbrev pub spelled_string : List ℕ → List ℕ
spelled_string l = 34 ∷ (escaped_all l ++ 34 ∷ [])
