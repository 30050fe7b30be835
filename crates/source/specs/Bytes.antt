-- Classes of bytes, how far a class runs at the front of a list, and a part of the source.
-- Assumes nothing.
use Rattle.std.specs.Prelude.{ℕ, suc, ◌-◌, ◌≤◌, ◌≡◌, Bool, cond, ◌&&◌, ◌||◌, List, [], ◌∷◌, leb, length, take, drop}

-- from lo to hi, both included
abbrev pub between : ℕ → ℕ → ℕ → Bool
between lo hi b = leb lo b && leb b hi

-- 0 to 9
abbrev pub digit : ℕ → Bool
digit b = between 48 57 b

-- a to z, A to Z: the letters of "Name: letter or underscore, then letters, digits, underscores" (01, Raw tokens) below 128
abbrev pub letter : ℕ → Bool
letter b = between 97 122 b || between 65 90 b

-- how many bytes of the class p stand at the front
abbrev pub run : (ℕ → Bool) → List ℕ → ℕ
run p [] = 0
run p (b ∷ l) = cond (p b) (suc (run p l)) 0

-- r is the length of what p matches at the place `at` of s
pub record Len (p : List ℕ → ℕ) (s : List ℕ) (at r : ℕ) : Type 0 where
  pub is : r ≡ p (drop at s)
  pub within : r ≤ length s - at

-- the bytes of s from `start` up to `end`: what a span holds
abbrev pub part : List ℕ → ℕ → ℕ → List ℕ
part s start end = take (end - start) (drop start s)
