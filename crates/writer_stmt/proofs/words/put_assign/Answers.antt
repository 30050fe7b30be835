-- `writer_stmt::words::put_assign` meets its contract.
use Rattle.writer_stmt.proofs.Said.{some_value, some_target, target_stands, two_put}
use Rattle.writer_stmt.proofs.words.put_assign.Goals as goal

pub put_whole-target-requires : goal.put_whole-target-requires
put_whole-target-requires c = some_value c.requires.2

pub put_whole-requires : goal.put_whole-requires
put_whole-requires c =
    let v = c.requires.2 in
    let p = c.put_whole-target.ensures _ _ v.behind in
    some_target v p.first

pub returns : goal.returns
returns c = λ b w v. let p = c.put_whole-target.ensures _ _ v.behind in two_put v p c.put_spaced.ensures (c.put_whole.ensures _ _ (target_stands v p.first))
