-- `stmt_leaves::put_assign` does the action `assign`.
use Rattle.stmt_leaves.proofs.Acts.{assign_wrote}
use Rattle.stmt_leaves.proofs.one_line.put_assign.Goals as goal

pub returns : goal.returns
returns c = assign_wrote c.requires.spot c.set_span.ensures c.start_of-from.ensures c.end_at-to.ensures (rw c.of-content.ensures at c.put_begun.ensures) c.requires.target_lt_nodes
