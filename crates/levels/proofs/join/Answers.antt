-- `levels::join` meets its contract: by what stands before the operand, nothing, or the leaf of a Binary.
use Rattle.levels.proofs.Joining.{joined_none, joined_one}
use Rattle.levels.proofs.join.Goals as goal

pub put_binary-requires : goal.put_binary-requires
put_binary-requires c =
    let e = c.in-Some.is in
    record { spot = c.requires.spot; op_lt_at = (c.requires.held.op _ e, c.requires.held.node _ e) }

pub returns-in-None : goal.returns-in-None
returns-in-None c = λ src. rw c.in-None.is joined_none

pub returns-in-Some : goal.returns-in-Some
returns-in-Some c =
    λ src. rw c.in-Some.is (joined_one (c.put_binary.ensures src))
