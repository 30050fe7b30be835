-- `utf8::sequence::continues` meets its contract.
use Rattle.utf8.proofs.sequence.continues.Goals as goal

pub returns : goal.returns
returns c = rw c.byte-c.ensures
