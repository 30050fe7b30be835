-- what is still to be written makes of out what all of it makes of out at first
use Rattle.std.proofs.Common.{◌≡◌, ◌≤◌, length}
use Rattle.cases.proofs.Pairs.{Todo}
use Rattle.cases.proofs.hex.unhex.Given as goal

abbrev pub invariant-loop-digits : goal.invariant-loop-digits
invariant-loop-digits l = (l.n ≤ length l.out) × (length l.out ≡ length l.initial.out) × Todo l.fn.hex l.initial.out l.digits l.n l.out

abbrev pub decreases-loop-digits : goal.decreases-loop-digits
decreases-loop-digits l = length l.digits
