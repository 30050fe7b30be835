-- The parts of a line by a mask, as the code has them. Private contracts cite it; the laws of proofs/Parts.antt say that these are the parts of a
-- record and of the header.
-- Assumes nothing.
use Rattle.std.specs.Prelude.{ℕ, ◌/◌, ◌%◌, Bool, cond, List, [], ◌∷◌, eqb}
use Rattle.printing.specs.Printed.{decimal, link}

-- a word, which holds a node's number or not
unfoldable pub word : Bool → ℕ → List ℕ
word holds w = cond holds (link w) (decimal w)

-- words, of which the first holds a node's number where the mask's lowest bit is set
unfoldable pub masked : ℕ → List ℕ → List (List ℕ)
masked mask [] = []
masked mask (w ∷ ws) = word (eqb (mask % 2) 1) w ∷ masked (mask / 2) ws
