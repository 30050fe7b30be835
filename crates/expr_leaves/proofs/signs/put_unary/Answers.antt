-- `expr_leaves::put_unary` writes the node of one sign.
use Rattle.expr_leaves.proofs.Acts.{unary_wrote}
use Rattle.expr_leaves.proofs.signs.put_unary.Goals as goal

pub returns : goal.returns
returns c = unary_wrote c.requires.spot (rw (c.of.ensures, c.unary_op-sign.ensures, c.code_at-code.ensures) at c.put_opened.ensures) c.requires.op_lt_at
