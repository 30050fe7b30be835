-- `areas::put_zeros` meets its contract. The loop keeps: what was passed is zeros.
use mathlib.Core.Path.{◌≡◌}
use lib.ListN.{take, replicate}
use Rattle.areas.proofs.put_zeros.Given as goal

abbrev pub invariant-loop-x : goal.invariant-loop-x
invariant-loop-x g l = take l.x-index l.x-items ≡ replicate l.x-index g.T.Zero.zero
