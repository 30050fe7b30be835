-- `expr_leaves::put_pair` does the action `pair`.
use Rattle.expr_leaves.proofs.Acts.{pair_wrote}
use Rattle.expr_leaves.proofs.write.put_pair.Goals as goal

pub returns : goal.returns
returns c = pair_wrote c.requires.spot (rw c.of.ensures at c.put_begun.ensures) c.requires.key_lt_nodes
