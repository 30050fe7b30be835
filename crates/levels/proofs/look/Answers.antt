-- `levels::look` meets its contract: an operator is no Eof, so a token stands behind it.
use Rattle.lookahead.proofs.Tests.{learnt}
use Rattle.lookahead.proofs.Tokens.{took}
use Rattle.levels.specs.Levels.{operators}
use Rattle.levels.proofs.Operators.{no_eof, no_string}
use Rattle.levels.proofs.look.Goals as goal

pub symbol_at-requires-2-clause-at_bound : goal.symbol_at-requires-2-clause-at_bound
symbol_at-requires-2-clause-at_bound c =
    let v = c.args.level in
    let seen = learnt (operators v) c.if-not-is_operator.false c.is_operator.ensures c.symbol_at.ensures in
    rw c.past-on.ensures (took (operators v) (no_eof v) (no_string v) c.requires.tokens c.requires.at_bound seen).inside
