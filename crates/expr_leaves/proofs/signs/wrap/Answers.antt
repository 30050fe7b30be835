use Rattle.expr_leaves.proofs.SignRuns.{wrap_one, wrap_all}
use Rattle.expr_leaves.proofs.signs.wrap.Goals as goal

pub loop-k-preserved : goal.loop-k-preserved
loop-k-preserved c = wrap_one c.loop-k.invariant c.loop-k-test.true c.put_unary-made.auto.tree c.put_unary-made.ensures

pub returns : goal.returns
returns c = wrap_all c.loop-k.invariant c.loop-k-test.false
