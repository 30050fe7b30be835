-- Finite sets of token codes, as lists, with tests that compute.
-- Assumes nothing.
use Rattle.std.specs.Prelude.{ℕ, Bool, true, false, not, ◌&&◌, ◌||◌, List, [], ◌∷◌, eqb}

-- x is in the set
abbrev pub mem : ℕ → List ℕ → Bool
mem x [] = false
mem x (y ∷ ys) = eqb x y || mem x ys

-- a token is left, and the next one is in the set
abbrev pub sees : List ℕ → List ℕ → Bool
sees set [] = false
sees set (t ∷ ts) = mem t set

-- each code of the first is in the second
abbrev pub within : List ℕ → List ℕ → Bool
within [] b = true
within (x ∷ a) b = mem x b && within a b

-- no code of the first is in the second
abbrev pub apart : List ℕ → List ℕ → Bool
apart [] b = true
apart (x ∷ a) b = not (mem x b) && apart a b

-- the set where the test passes, and else none
abbrev pub only : Bool → List ℕ → List ℕ
only true k = k
only false k = []
