use native.Mathlib.Omega.{arith}
use Rattle.lookahead.proofs.Runs.{pass_one}
use Rattle.lookahead.proofs.skip.skip_while.Goals as goal

pub loop-t-smaller : goal.loop-t-smaller
loop-t-smaller g c = omega (arith, (pass_one c.requires.tokens c.requires.ends c.loop-t.invariant c.symbol_at.ensures c.loop-t-test.ensures).0)

pub loop-t-preserved : goal.loop-t-preserved
loop-t-preserved g c = (pass_one c.requires.tokens c.requires.ends c.loop-t.invariant c.symbol_at.ensures c.loop-t-test.ensures).1
