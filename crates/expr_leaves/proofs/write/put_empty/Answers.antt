-- `expr_leaves::put_empty` does the action `empty`, which is that of a list that is none.
use Rattle.pyhyeon.specs.Machine.{number}
use Rattle.pyhyeon.specs.Action.{perform}
use Rattle.expr_leaves.proofs.write.put_empty.Goals as goal

pub returns : goal.returns
unfolding perform number
returns c src = let w = c.put_enclosed.ensures src in record { node = w.node; after = w.after; same = w.same; frame = w.frame }
