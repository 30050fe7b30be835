-- `expr_leaves::put_named` does the action `named`.
use Rattle.expr_leaves.proofs.Acts.{named_wrote}
use Rattle.expr_leaves.proofs.write.put_named.Goals as goal

pub returns : goal.returns
returns c = named_wrote c.requires (rw (c.of.ensures, c.start_at-from.ensures, c.end_at-to.ensures) at c.put_opened.ensures)
