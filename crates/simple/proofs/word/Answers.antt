-- `simple::word` meets its contract: the Break, Continue or Pass of a word.
use Rattle.simple.proofs.Newest.{newest_wrote}
use Rattle.joint.proofs.Ends.{act_wrote}
use mathlib.Core.List.{[]}
use Rattle.simple.proofs.word.Goals as goal

pub returns-clause-by_index : goal.returns-clause-by_index
returns-clause-by_index c = λ src room u. record { comes = λ vs. act_wrote u (c.put_alone.ensures src) }

pub returns-clause-newest : goal.returns-clause-newest
returns-clause-newest c = newest_wrote (c.put_alone.ensures [])
