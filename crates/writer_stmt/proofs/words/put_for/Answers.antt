-- `writer_stmt::words::put_for` meets its contract.
use Rattle.writer_stmt.proofs.Said.{for_put}
use Rattle.writer_stmt.proofs.words.put_for.Goals as goal

pub returns : goal.returns
returns c = λ b x s. for_put _ x (c.put_expr-first.ensures b x s) c.put_spaced.ensures c.put_name.ensures
