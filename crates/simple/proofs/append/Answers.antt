-- `simple::append` meets its contract where something is gathered: the leaf links.
use Rattle.simple.proofs.Gathering.{appended}
use Rattle.simple.proofs.append.Goals as goal

pub returns-in-Some : goal.returns-in-Some
returns-in-Some c =
    λ src toks. rw c.in-Some.is (appended (λ m. c.link.ensures src toks _ m))
