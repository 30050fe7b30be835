-- `writer_stmt::line::put_simple` meets its contract.
use Rattle.writer_stmt.proofs.Said.{line_put}
use Rattle.writer_stmt.proofs.line.put_simple.Goals as goal

pub returns : goal.returns
returns c =
    λ b w s. line_put c.args.depth w c.put.ensures (c.put_row.ensures b w s)
