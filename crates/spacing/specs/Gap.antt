-- What stands between tokens: "Between tokens, runs of space, tab and carriage return are skipped, and `#` up to a line feed" (01, Raw tokens).
-- Assumes nothing.
use Rattle.std.specs.Prelude.{ℕ, suc, ◌+◌, Bool, true, false, cond, ◌||◌, List, [], ◌∷◌, eqb, drop}

-- space, tab, carriage return
abbrev pub is_blank : ℕ → Bool
is_blank b = eqb b 32 || eqb b 9 || eqb b 13

-- how many bytes of blanks and comments stand at the front; `comment` says that a `#` stands before
abbrev pub gap : Bool → List ℕ → ℕ
gap comment [] = 0
gap true (b ∷ l) = cond (eqb b 10) 0 (suc (gap true l))
gap false (b ∷ l) = cond (is_blank b) (suc (gap false l)) (cond (eqb b 35) (suc (gap true l)) 0)

-- the place where the next token would start
unfoldable pub gap_end_lem : List ℕ → ℕ → ℕ
gap_end_lem s i = i + gap false (drop i s)
