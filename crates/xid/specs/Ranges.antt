-- A table of ranges is the list of their bounds: first, last, first, last.
-- Assumes nothing.
use Rattle.std.specs.Prelude.{ℕ, suc, ◌+◌, ◌-◌, ◌*◌, Bool, true, false, ◌&&◌, ◌||◌, List, [], ◌∷◌, leb, take, drop}
use Rattle.source.specs.Bytes.{between}

-- some range of the table holds c
unfoldable pub holds : List ℕ → ℕ → Bool
holds [] c = false
holds (x ∷ []) c = false
holds (x ∷ y ∷ r) c = between x y c || holds r c

-- The test of a table: its bounds come in pairs, no range starts below n or ends before it starts, and each starts past the end of the one before it. So
-- the ranges ascend and are disjoint. (02: "ascending and disjoint, and that is shown over the whole tables"; proofs/Checked.antt)
unfoldable pub apart : ℕ → List ℕ → Bool
apart n [] = true
apart n (x ∷ []) = false
apart n (x ∷ y ∷ r) = leb n x && (leb x y && apart (suc y) r)

-- How many code points the ranges of a table hold, where they are apart. It is what the line "# Total code points:" at the end of each class in
-- DerivedCoreProperties.txt says (proofs/Checked.antt)
unfoldable pub size : List ℕ → ℕ
size [] = 0
size (x ∷ []) = 0
size (x ∷ y ∷ r) = suc y - x + size r

-- Twice the sum of those code points, so that two bounds that are wrong by opposite amounts are seen too. The file has no such line: the sums are those
-- of CPython 3.12, whose `str.isidentifier` is of the same version of Unicode (proofs/Checked.antt)
unfoldable pub twice_sum : List ℕ → ℕ
twice_sum [] = 0
twice_sum (x ∷ []) = 0
twice_sum (x ∷ y ∷ r) = (x + y) * (suc y - x) + twice_sum r

-- The bounds of the ranges 3 i to 3 i + 2. Only contracts of private functions cite it
abbrev pub row_of : List ℕ → ℕ → List ℕ
row_of t i = take 6 (drop (6 * i) t)
