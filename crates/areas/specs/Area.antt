-- An area is the front of a lent slice (01, Questions: "Areas: 3(n+1) words for tokens .., n bytes of text, 16n+16 words of tree").
-- Assumes nothing.
use Rattle.std.specs.Prelude.{ℕ, ◌+◌, ◌-◌, ◌*◌, List, ◌++◌, length, take, drop, replicate}

-- "3(n+1) words for tokens"
abbrev pub token_area : ℕ → ℕ
token_area n = 3 * (n + 1)

-- a whole slice that begins with an area of `size` words: what was filled, zeros up to the area's end ("Acceptance zeroes what it doesn't
-- fill"; nothing filled: "6 to 14 zero the areas"), and what lies beyond as it was ("words beyond an area stay")
unfoldable pub area : ℕ → List ℕ → List ℕ → List ℕ
area size filled before = filled ++ replicate (size - length filled) 0 ++ drop size before

-- the value x from one place up to another, all else as it was
unfoldable pub filled_with : {T : Type 0} → T → ℕ → ℕ → List T → List T
filled_with x from to l = take from l ++ replicate (to - from) x ++ drop to l

-- zeros there
abbrev pub zeroed : ℕ → ℕ → List ℕ → List ℕ
zeroed from to l = filled_with 0 from to l
