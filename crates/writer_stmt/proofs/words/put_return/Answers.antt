-- `writer_stmt::words::put_return` meets its contract.
use Rattle.token.specs.Code as token
use Rattle.writer_stmt.proofs.Said.{keyword_put}
use Rattle.writer_stmt.proofs.words.put_return.Goals as goal

pub returns : goal.returns
returns c = λ b x s. keyword_put token.Return (c.put_whole-first.ensures b x s) c.put_then_space.ensures
