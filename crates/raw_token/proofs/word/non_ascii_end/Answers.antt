-- `raw_token::word::non_ascii_end` meets its contract: a byte below 128 that continues no name ends it.
use mathlib.Core.Path.{sym}
use Rattle.raw_token.proofs.Names.{low_end}
use Rattle.raw_token.proofs.word.non_ascii_end.Goals as goal

pub returns-then-byte-lt128 : goal.returns-then-byte-lt128
returns-then-byte-lt128 c =
    let a = c.args in
    sym (low_end a.s.now a.at (rw (← c.byte.ensures) c.if-byte-lt128.true) c.requires)

pub returns-else-byte-lt128 : goal.returns-else-byte-lt128
returns-else-byte-lt128 c = c.name_end.ensures
