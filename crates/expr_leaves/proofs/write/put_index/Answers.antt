-- `expr_leaves::put_index` does the action `index`.
use Rattle.expr_leaves.proofs.Acts.{index_wrote}
use Rattle.expr_leaves.proofs.write.put_index.Goals as goal

pub returns : goal.returns
returns c = index_wrote c.requires.spot (rw c.of.ensures at c.put_begun.ensures) c.requires.n_lt_nodes
