use native.Mathlib.Omega.{arith}
use Rattle.joint.proofs.Chain.{handed_on}
use Rattle.joint.proofs.Counts.{came_node}
use Rattle.simple.proofs.Newest.{newest_wrote}
use Rattle.simple.proofs.Stating.{stating_stops, stating_came, stating_spot, stating_placed, stating_ends, stating_goes}
use Rattle.simple.proofs.statement.Goals as goal

pub is_target-requires-clause-at_bound : goal.is_target-requires-clause-at_bound
is_target-requires-clause-at_bound c =
    (stating_came c.loop-n.invariant c.comma_list.ensures c.in_ok-n.was).here

pub past-st-requires : goal.past-st-requires
past-st-requires c =
    let i = c.loop-n.invariant in
    let g = stating_came i c.comma_list.ensures c.in_ok-n.was in
    omega (arith, g.here, i.ready.tokens.few)

pub loop-n-smaller : goal.loop-n-smaller
loop-n-smaller c =
    let i = c.loop-n.invariant in
    let r = c.comma_list.ensures in
    let e = c.in_ok-n.was in
    let v = stating_goes i r e c.comma_list.auto.tree c.is_target.ensures c.if-not-is_target.false in
    rw c.past-st.ensures (omega (arith, (stating_came i r e).on, v.ready.here))

pub loop-n-preserved : goal.loop-n-preserved
loop-n-preserved c =
    let i = c.loop-n.invariant in
    rw c.past-st.ensures (stating_goes i c.comma_list.ensures c.in_ok-n.was c.comma_list.auto.tree c.is_target.ensures c.if-not-is_target.false)

pub put-requires : goal.put-requires
put-requires c =
    let i = c.loop-n.invariant in
    let r = c.comma_list.ensures in
    let e = c.in_ok-n.was in
    let k = c.comma_list.auto.tree in
    record { spot = stating_spot i r e k; placed = (stating_placed i r e k, came_node (stating_came i r e)) }

pub returns-then-not-is_target : goal.returns-then-not-is_target
returns-then-not-is_target c =
    let i = c.loop-n.invariant in
    let k = c.comma_list.auto.tree in
    let w = c.put.ensures c.args.src.now in
    record { parts = record { comes = λ vs. stating_ends i c.comma_list.ensures c.in_ok-n.was k c.is_target.ensures c.if-not-is_target.true w vs }; newest = newest_wrote w }

pub returns-in_err-n-clause-parts : goal.returns-in_err-n-clause-parts
returns-in_err-n-clause-parts c =
    rw (handed_on _ c.from_residual.ensures.1) (record { comes = λ vs. stating_stops c.loop-n.invariant c.comma_list.ensures c.in_err-n.was vs })
