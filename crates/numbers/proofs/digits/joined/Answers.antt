use mathlib.Core.Path.{◌∙◌}
use native.Mathlib.Omega.{arith}
use Rattle.numbers.proofs.Joining.{turn, all_joined}
use Rattle.numbers.proofs.digits.joined.Goals as goal

pub loop-b-preserved : goal.loop-b-preserved
loop-b-preserved c =
    let a = c.args in
    let l = c.loop-b in
    (omega (arith, c.next-n.ensures), turn a.cap a.s.now l.n c.next-n.result l.b-index c.loop-b-test.true c.next-n.ensures ∙ l.invariant.1)

pub returns : goal.returns
returns c =
    let a = c.args in
    omega (arith, c.loop-b.invariant.0, c.loop-b.invariant.1, all_joined a.s.now c.loop-b.n c.loop-b.b-index c.loop-b-test.false)
