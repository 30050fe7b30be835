-- `ffi::check::tarbucket_utf8_error` meets its contract: that of `utf8::utf8_error`, with its answer as words.
use lib.ListN.{length-set}
use native.Mathlib.Omega.{arith}
use Rattle.std.specs.Prelude.{Some, None}
use Rattle.ffi.proofs.Told.{no_words, told}
use Rattle.ffi.proofs.check.tarbucket_utf8_error.Goals as goal

pub returns-then-answer-lt-CHECKED : goal.returns-then-answer-lt-CHECKED
returns-then-answer-lt-CHECKED c =
    let a = c.args in
    no_words a.src.now a.answer.now c.if-answer-lt-CHECKED.true

pub bounds-answer-0 : goal.bounds-answer-0
bounds-answer-0 c = simp length-set (omega arith)

pub bounds-answer-0-in-Some : goal.bounds-answer-0-in-Some
bounds-answer-0-in-Some c = simp length-set (omega arith)

pub returns-in-None : goal.returns-in-None
returns-in-None c =
    let a = c.args in
    let u = c.utf8_error-checked in
    told a.src.now a.answer.now u.result.rounds None c.if-answer-lt-CHECKED.false u.ensures.found_value c.in-None.is u.ensures.rounds_value

pub returns-in-Some : goal.returns-in-Some
returns-in-Some c =
    let a = c.args in
    let u = c.utf8_error-checked in
    rw c.number.ensures (told a.src.now a.answer.now u.result.rounds (Some _) c.if-answer-lt-CHECKED.false u.ensures.found_value c.in-Some.is u.ensures.rounds_value)
