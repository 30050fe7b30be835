-- The bounds that a row of the code has, and a row that is asked before all others. Only contracts of private functions cite these.
-- Assumes nothing.
use Rattle.std.specs.Prelude.{ℕ, List, [], ◌∷◌}
use Rattle.xid.specs.declared.row.Row.{Row}

abbrev pub bounds : Row → List ℕ
bounds r = r.0 ∷ r.1 ∷ r.2 ∷ r.3 ∷ r.4 ∷ r.5 ∷ []

-- those of rows, one after the other
abbrev pub all : List Row → List ℕ
all [] = []
all (r ∷ rs) = r.0 ∷ r.1 ∷ r.2 ∷ r.3 ∷ r.4 ∷ r.5 ∷ all rs

-- The letters of today's Greek but for Ά Έ Ή Ί Ό, with others of that block, and the syllables of Hangul: they lie in both classes (proofs/Checked.antt,
-- `frequent_held`)
abbrev pub frequent : List ℕ
frequent = 0x38E ∷ 0x3A1 ∷ 0x3A3 ∷ 0x3F5 ∷ 0xAC00 ∷ 0xD7A3 ∷ []
