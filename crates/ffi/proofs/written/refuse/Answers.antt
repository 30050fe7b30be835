-- `ffi::written::refuse` meets its contract: two words of the reader's are stored anew.
use lib.ListN.{length-set}
use native.Mathlib.Omega.{arith}
use Rattle.reader.specs.Answer.{numbers_of}
use Rattle.ffi.proofs.Seven.{renumbered}
use Rattle.ffi.proofs.written.refuse.Goals as goal

pub bounds-answer-1 : goal.bounds-answer-1
bounds-answer-1 c = simp length-set (omega arith)

pub returns : goal.returns
returns c =
    let a = c.args in
    let n = c.number-number.ensures in
    record { value = n; answer_after = rw n (renumbered _ (numbers_of a.read) a.answer.now c.write.ensures.answer_after) }
