-- `expr_leaves::wrap` meets its contract: a turn is a step of the machine's `wrap`.
use Rattle.expr_leaves.proofs.SignRuns.{Inv}
use Rattle.expr_leaves.proofs.signs.wrap.Given as goal

abbrev pub invariant-loop-k : goal.invariant-loop-k
invariant-loop-k l = Inv l.toks l.fn.tree l.fn.first.0 l.fn.end.0 l.fn.node l.fn.s l.tree l.k l.made.0 l.made.1
