-- `writer_stmt::line::put_head` meets its contract.
use Rattle.writer_stmt.proofs.Said.{head_put}
use Rattle.writer_stmt.proofs.line.put_head.Goals as goal

pub returns : goal.returns
returns c =
    λ b w s. head_put c.args.depth w c.put.ensures c.put_fixed.ensures (c.put_row.ensures b w s)
