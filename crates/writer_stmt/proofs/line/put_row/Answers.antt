-- `writer_stmt::line::put_row` meets its contract.
use Rattle.writing.proofs.Writes.{then}
use Rattle.writer_stmt.proofs.line.put_row.Goals as goal

pub returns : goal.returns
returns c =
    λ b w s. let p = c.put_words-first.ensures b w s in record { wrote = then p.wrote c.put_spaces.ensures; first = p.first }
