-- `expr::comma_rest` meets its contract: t from its first comma on.
use Rattle.joint.proofs.Chain.{handed_on}
use Rattle.joint.proofs.Ends.{act_wrote}
use native.Mathlib.Omega.{arith}
use Rattle.expr.proofs.comma.comma_rest.Goals as goal

pub rest-requires : goal.rest-requires
rest-requires c =
    record { ready = c.requires.ready; first_lt_nodes = (c.requires.first_lt_nodes, c.requires.first_lt_nodes) }

pub put_tuple-requires : goal.put_tuple-requires
put_tuple-requires c =
    let d = c.rest.ensures.leads _ _ c.in_ok-head.was in
    omega (arith, d.there, d.ready.room, d.ready.here, d.ready.nodes, d.ready.tokens.whole, d.ready.tokens.few)

pub shape_of-tree : goal.shape_of-tree
shape_of-tree c =
    omega (arith, c.rest.auto.tree, c.put_tuple.auto.tree)

pub returns : goal.returns
returns c =
    let d = c.rest.ensures.leads _ _ c.in_ok-head.was in
    record { comes = λ vs. d.same _ _ _ _ (act_wrote d.ready.used (c.put_tuple.ensures _ _)) }

pub returns-in_err-head : goal.returns-in_err-head
returns-in_err-head c =
    rw (handed_on _ c.from_residual.ensures.1) (record { comes = λ vs. c.rest.ensures.stops _ _ c.in_err-head.was _ _ _ })
