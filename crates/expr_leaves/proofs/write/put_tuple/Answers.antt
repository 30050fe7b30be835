-- `expr_leaves::put_tuple` does the action `tuple`.
use Rattle.expr_leaves.proofs.Acts.{tuple_wrote}
use Rattle.expr_leaves.proofs.write.put_tuple.Goals as goal

pub returns : goal.returns
returns c = tuple_wrote c.requires.spot (rw c.of.ensures at c.put_begun.ensures) c.requires.first_lt_nodes
