-- An input that comes in chunks, read by read, up to its end: "The program reads standard input up to 1,023 bytes" (01, Scripts). The law `parted`
-- (proofs/Parted.antt) says what is printed for it.
-- Assumes nothing.
use Rattle.std.specs.Prelude.{ℕ, List, [], ◌∷◌, ◌++◌}
use Rattle.shell.specs.Input.{Input, bytes, heard}

-- no chunk is empty, since a read that hands back no byte is the end
abbrev pub Filled : List (List ℕ) → Type 0
Filled [] = Unit {0}
Filled ([] ∷ cs) = ⊥
Filled ((x ∷ xs) ∷ cs) = Filled cs

-- the chunks, one read each, and then the end
abbrev pub heard_all : Input → List (List ℕ) → Input
heard_all i [] = heard i (bytes [])
heard_all i (c ∷ cs) = heard_all (heard i (bytes c)) cs

-- all their bytes
abbrev pub joined : List (List ℕ) → List ℕ
joined [] = []
joined (c ∷ cs) = c ++ joined cs
