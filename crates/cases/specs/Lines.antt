-- Where a line ends, and the lines of a text.
-- Assumes nothing.
use Rattle.std.specs.Prelude.{ℕ, ◌+◌, Bool, not, cond, List, [], ◌∷◌, eqb, drop}
use Rattle.source.specs.Bytes.{run}

-- any byte but a line feed
abbrev pub in_line : ℕ → Bool
in_line b = not (eqb b 10)

-- the place of the first line feed from `at` on, or the end
abbrev pub line_end_lem : List ℕ → ℕ → ℕ
line_end_lem s at = at + run in_line (drop at s)

-- a byte in front of the first line
abbrev pub onto_line : ℕ → List (List ℕ) → List (List ℕ)
onto_line b [] = (b ∷ []) ∷ []
onto_line b (line ∷ lines) = (b ∷ line) ∷ lines

-- each line, the last with or without its line feed
unfoldable pub lines_of : List ℕ → List (List ℕ)
lines_of [] = []
lines_of (b ∷ l) = cond (in_line b) (onto_line b (lines_of l)) ([] ∷ lines_of l)
