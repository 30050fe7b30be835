-- `expr_leaves::put_apply` does the action `apply`.
use Rattle.expr_leaves.proofs.Acts.{apply_wrote}
use Rattle.expr_leaves.proofs.write.put_apply.Goals as goal

pub returns : goal.returns
returns c = apply_wrote c.requires.spot (rw c.of.ensures at c.put_begun.ensures) c.requires.n_lt_nodes
