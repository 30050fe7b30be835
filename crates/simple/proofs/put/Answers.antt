-- `simple::put` meets its contract: the leaf of the role.
use Rattle.simple.proofs.put.Goals as goal

pub returns-in-Return : goal.returns-in-Return
returns-in-Return c =
    λ src. rw c.in-Return.is (c.put_return.ensures src)

pub returns-in-First : goal.returns-in-First
returns-in-First c =
    λ src. rw c.in-First.is (c.put_expr.ensures src)

pub returns-in-Value : goal.returns-in-Value
returns-in-Value c =
    λ src. rw c.in-Value.is (c.put_assign.ensures src)
