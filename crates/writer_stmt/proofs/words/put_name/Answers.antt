-- `writer_stmt::words::put_name` meets its contract.
use Rattle.writer_stmt.proofs.Said.{part_is, name_put}
use Rattle.writer_stmt.proofs.words.put_name.Goals as goal

pub returns : goal.returns
returns c = name_put c.args.code (part_is _ c.word_at.ensures c.word_at-2.ensures) c.put_part.ensures c.put_then_space.ensures
