use Rattle.std.proofs.Common.{◌≤◌, length}
use Rattle.cases.proofs.sources.put_row.Given as goal

abbrev pub invariant-loop : goal.invariant-loop
invariant-loop l = l.n ≤ length l.out
