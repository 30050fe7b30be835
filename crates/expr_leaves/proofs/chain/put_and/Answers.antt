-- `expr_leaves::put_and` writes the And of two nodes.
use Rattle.expr_leaves.proofs.Acts.{and_wrote}
use Rattle.expr_leaves.proofs.chain.put_and.Goals as goal

pub returns : goal.returns
returns c = and_wrote c.requires.spot c.put_joined.ensures c.requires.l_lt_nodes
