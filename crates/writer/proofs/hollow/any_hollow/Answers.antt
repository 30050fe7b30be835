use mathlib.Core.Path.{sym, ◌∙◌}
use native.Mathlib.Omega.{arith}
use Rattle.writer.proofs.Left.{left_all, left_none, left_found, left_passed, found, passed}
use Rattle.writer.proofs.hollow.any_hollow.Goals as goal

pub loop-k-init : goal.loop-k-init
loop-k-init c = left_all _ _

pub returns-then-eq : goal.returns-then-eq
returns-then-eq c =
    let l = c.loop-k in
    sym (l.invariant ∙ left_found _ _ l.k (omega arith) (found c.block_of.result _ c.eq.ensures c.block_of.ensures c.if-eq.true))

pub loop-k-preserved : goal.loop-k-preserved
loop-k-preserved c =
    let l = c.loop-k in
    l.invariant ∙ left_passed _ _ l.k (omega arith) (passed c.block_of.result _ c.eq.ensures c.block_of.ensures c.if-eq.false)

pub returns : goal.returns
returns c = sym (c.loop-k.invariant ∙ left_none _ _ c.loop-k.k (omega arith))
