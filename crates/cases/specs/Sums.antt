-- A sum of words.
-- Assumes nothing.
use Rattle.std.specs.Prelude.{◌≡◌, ℕ, ◌+◌, ◌*◌, ◌%◌}

-- a word that converts to k makes the sum x into x * base + k + 1, modulo a prime
abbrev pub Adds : {W : Type 0} → (W → ℕ → Type 0) → ℕ → ℕ → ℕ → W → ℕ → Type 0
Adds converts base prime x w y = (k : ℕ) × converts w k × (y ≡ (x * base + k + 1) % prime)
