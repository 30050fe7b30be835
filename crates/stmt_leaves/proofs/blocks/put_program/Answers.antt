-- `stmt_leaves::put_program` does the action `program`.
use Rattle.stmt_leaves.proofs.Acts.{program_wrote}
use Rattle.stmt_leaves.proofs.blocks.put_program.Goals as goal

pub returns : goal.returns
returns c =
    program_wrote c.requires.nodes_in_bounds.0 (record { node = c.add.ensures.0; after = c.add.ensures.1; words = rw c.of-content.ensures at c.put_node.ensures })
