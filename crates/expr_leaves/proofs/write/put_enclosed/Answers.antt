-- `expr_leaves::put_enclosed` does the action `enclose`.
use Rattle.expr_leaves.proofs.Acts.{enclose_wrote}
use Rattle.expr_leaves.proofs.write.put_enclosed.Goals as goal

pub returns : goal.returns
returns c = enclose_wrote c.requires.spot (rw c.of.ensures at c.put_opened.ensures) c.requires.opener_lt_at
