-- `expr_leaves::put_lambda` does the action `lambda`.
use Rattle.expr_leaves.proofs.Acts.{lambda_wrote}
use Rattle.expr_leaves.proofs.write.put_lambda.Goals as goal

pub returns : goal.returns
returns c = lambda_wrote c.requires.spot (rw c.of-content.ensures at c.put_opened.ensures) c.requires.keyword_lt_at
