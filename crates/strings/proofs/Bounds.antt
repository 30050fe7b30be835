-- What is decoded is no longer than its source.
-- Assumes nothing.
use mathlib.Core.Bool.{Bool, true, false, cond}
use mathlib.Core.List.{List, [], ◌∷◌, ◌++◌}
use Prim.Native.Nat.{ℕ, suc, ◌+◌, ◌≤◌}
use native.Mathlib.Omega.{arith}
use lib.Dec.{eqb}
use lib.ListN.{length}
use Rattle.strings.specs.Decoded.{unescape, decode_from, decoded}

-- an open backslash counts too
no_longer_from : (t : Bool) (l : List ℕ) → length (decode_from t l) ≤ length l + cond t 1 0
no_longer_from false [] = omega arith
no_longer_from true [] = omega arith
no_longer_from false (b ∷ l) = go (eqb b 92) (no_longer_from true l) (no_longer_from false l)
  where
    go : (t : Bool) → length (decode_from true l) ≤ length l + 1 → length (decode_from false l) ≤ length l + 0
        → length (cond t (decode_from true l) (b ∷ decode_from false l)) ≤ suc (length l) + 0
    go true h k = omega arith
    go false h k = omega arith
no_longer_from true (b ∷ l) = go (eqb (unescape b) 0) (no_longer_from false l)
  where
    go : (t : Bool) → length (decode_from false l) ≤ length l + 0
        → length (cond t (92 ∷ b ∷ []) (unescape b ∷ []) ++ decode_from false l) ≤ suc (length l) + 1
    go true h = omega arith
    go false h = omega arith

pub no_longer : (l : List ℕ) → length (decoded l) ≤ length l
unfolding decoded
no_longer l = omega (arith, no_longer_from false l)
