-- `expr_leaves::put_binary` does the action `binary`.
use Rattle.expr_leaves.proofs.Acts.{binary_wrote}
use Rattle.expr_leaves.proofs.chain.put_binary.Goals as goal

pub returns : goal.returns
returns c = binary_wrote c.requires.spot (rw c.code_at-code.ensures at c.put_joined.ensures) c.requires.op_lt_at.0 c.requires.op_lt_at.1
