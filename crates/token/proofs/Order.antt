-- The codes are the positions in `Token`, counted from 1: a promise to people (docs/SENTENCES.md).
-- Assumes nothing.
use mathlib.Core.Path.{◌≡◌, refl}
use mathlib.Core.List.{List, [], ◌∷◌}
use Prim.Native.Nat.{ℕ, zero, suc}
use Rattle.token.specs.Code.{order}

-- the n numbers from i on
abbrev counted : ℕ → ℕ → List ℕ
counted zero i = []
counted (suc n) i = i ∷ counted n (suc i)

pub in_order : order ≡ counted 49 1
unfolding order
in_order = refl
