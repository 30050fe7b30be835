-- `leaves::widen` does the action `group`.
use Rattle.leaves.proofs.Acts.{group_changed}
use Rattle.leaves.proofs.list.widen.Goals as goal

pub returns : goal.returns
returns c = group_changed c.requires.spot c.set_span.ensures c.start_at-from.ensures c.end_at-to.ensures c.requires.opener_lt_at.0 c.requires.opener_lt_at.1
