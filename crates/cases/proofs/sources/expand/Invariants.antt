use Rattle.std.proofs.Common.{◌≤◌, length}
use Rattle.cases.proofs.sources.expand.Given as goal

abbrev pub invariant-loop-piece : goal.invariant-loop-piece
invariant-loop-piece l = l.n ≤ length l.out
