-- `writer_stmt::words::put_asked` meets its contract.
use Rattle.writer_stmt.proofs.Said.{keyword_put}
use Rattle.writer_stmt.proofs.words.put_asked.Goals as goal

pub returns : goal.returns
returns c = λ b x s. keyword_put c.args.code (c.put_expr-first.ensures b x s) c.put_then_space.ensures
