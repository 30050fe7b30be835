-- What a String token decodes to is shorter than the token by its quotes at least.
-- Assumes nothing.
use mathlib.Core.List.{List}
use Prim.Native.Nat.{ℕ, ◌-◌, ◌≤◌}
use native.Mathlib.Omega.{arith}
use lib.ListN.{length, drop, length-take}
use Rattle.strings.specs.Decoded.{decoded}
use Rattle.strings.proofs.Bounds.{no_longer}
use Rattle.literal.specs.Literal.{unquoted}

pub shorter : (s : List ℕ) → length (decoded (unquoted s)) ≤ length s - 2
shorter s = omega (arith, no_longer (unquoted s), length-take (length s - 1 - 1) (drop 1 s))
