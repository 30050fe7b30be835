-- The digits that are printed are right: joined into a number, as those of an Int are, they are the number.
-- Assumes nothing.
use mathlib.Core.Path.{◌≡◌}
use Prim.Native.Nat.{ℕ, ◌<◌}
use native.Mathlib.Omega.{arith}
use Rattle.numbers.specs.Digits.{number}
use Rattle.numbers.proofs.Written.{digits_value}
use Rattle.printing.specs.Printed.{decimal}

pub decimal_value : (w : ℕ) → w < 4294967296 → number 0 (decimal w) ≡ w
decimal_value w h = digits_value 10 w (omega arith)
