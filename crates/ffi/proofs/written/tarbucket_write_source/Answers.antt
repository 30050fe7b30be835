-- `ffi::written::tarbucket_write_source` meets its contract: the writer's own, with its answer as words.
use Rattle.ffi.proofs.Small.{small}
use Rattle.ffi.proofs.Length.{short}
use Rattle.ffi.proofs.Served.{unserved, served}
use Rattle.ffi.proofs.written.tarbucket_write_source.Goals as goal

pub returns-then-answer-lt-WRITTEN : goal.returns-then-answer-lt-WRITTEN
returns-then-answer-lt-WRITTEN c =
    let a = c.args in
    unserved a.src.now a.tokens.now a.text.now a.tree.now a.out.now a.answer.now c.if-answer-lt-WRITTEN.true

pub tell-requires : goal.tell-requires
tell-requires c =
    let w = c.write_source-r.ensures in
    record { in_bounds = c.if-answer-lt-WRITTEN.false; small = small _ _ _ _ _ _ _ _ w.reads; r_bound = short _ _ _ _ _ _ _ _ _ _ w }

pub returns : goal.returns
returns c =
    served _ _ _ _ _ _ _ _ _ _ _ _ _ c.if-answer-lt-WRITTEN.false c.write_source-r.ensures (c.tell.ensures.value, c.tell.ensures.answer_after)
