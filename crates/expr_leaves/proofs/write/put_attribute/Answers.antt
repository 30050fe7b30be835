-- `expr_leaves::put_attribute` does the action `attribute`.
use Rattle.expr_leaves.proofs.Acts.{attribute_wrote}
use Rattle.expr_leaves.proofs.write.put_attribute.Goals as goal

pub returns : goal.returns
returns c = attribute_wrote c.requires.spot (rw (c.start_at.ensures, c.end_at.ensures) at c.put_begun.ensures) c.requires.n_lt_nodes
