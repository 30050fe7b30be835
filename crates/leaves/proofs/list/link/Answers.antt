-- `leaves::link` does the action `list_join`.
use Rattle.leaves.proofs.Acts.{join_changed}
use Rattle.leaves.proofs.list.link.Goals as goal

pub returns : goal.returns
returns c = join_changed c.set_next.ensures c.requires.0 c.requires.1
