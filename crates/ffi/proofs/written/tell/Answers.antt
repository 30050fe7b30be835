-- `ffi::written::tell` meets its contract: each arm knows which answer it has, at which the definitions compute.
use mathlib.Core.Path.{◌∙◌}
use lib.ListN.{length-set}
use native.Mathlib.Omega.{arith}
use Rattle.ffi.proofs.Seven.{small_as, short_as, words_told}
use borrow.Author.Rules.{rules}
use Rattle.ffi.proofs.written.tell.Goals as goal

pub overflow_cast-answer : goal.overflow_cast-answer
overflow_cast-answer c =
    let h = short_as c.in-Text.is c.requires.r_bound in
    search rules

pub write-requires : goal.write-requires
write-requires c =
    let p = c.requires in
    record { in_bounds = simp length-set (omega arith); small = small_as c.in-Text.is p.small }

pub refuse-requires : goal.refuse-requires
refuse-requires c =
    let p = c.requires in
    record { in_bounds = simp length-set (omega arith); small = small_as c.in-Hollow.is p.small }

pub refuse-requires-in-Full : goal.refuse-requires-in-Full
refuse-requires-in-Full c =
    let p = c.requires in
    record { in_bounds = simp length-set (omega arith); small = small_as c.in-Full.is p.small }

pub write-requires-in-Unread : goal.write-requires-in-Unread
write-requires-in-Unread c =
    let p = c.requires in
    record { in_bounds = simp length-set (omega arith); small = small_as c.in-Unread.is p.small }

pub shape_of-answer-in-Text : goal.shape_of-answer-in-Text
shape_of-answer-in-Text c =
    c.write.auto.answer ∙ length-set c.args.answer.now 6 c.in-Text.length

pub returns-in-Text : goal.returns-in-Text
returns-in-Text c =
    let all = words_told c.args.answer.now c.requires.in_bounds c.in-Text.is (c.write.ensures.value, c.write.ensures.answer_after) in record { value = all.0; answer_after = all.1 }

pub shape_of-answer-in-Hollow : goal.shape_of-answer-in-Hollow
shape_of-answer-in-Hollow c =
    c.refuse.auto.answer ∙ length-set c.args.answer.now 6 0

pub returns-in-Hollow : goal.returns-in-Hollow
returns-in-Hollow c =
    let all = words_told c.args.answer.now c.requires.in_bounds c.in-Hollow.is (c.refuse.ensures.value, c.refuse.ensures.answer_after) in record { value = all.0; answer_after = all.1 }

pub shape_of-answer-in-Full : goal.shape_of-answer-in-Full
shape_of-answer-in-Full c =
    c.refuse-in-Full.auto.answer ∙ length-set c.args.answer.now 6 0

pub returns-in-Full : goal.returns-in-Full
returns-in-Full c =
    let all = words_told c.args.answer.now c.requires.in_bounds c.in-Full.is (c.refuse-in-Full.ensures.value, c.refuse-in-Full.ensures.answer_after) in record { value = all.0; answer_after = all.1 }

pub shape_of-answer-in-Unread : goal.shape_of-answer-in-Unread
shape_of-answer-in-Unread c =
    c.write-in-Unread.auto.answer ∙ length-set c.args.answer.now 6 0

pub returns-in-Unread : goal.returns-in-Unread
returns-in-Unread c =
    let all = words_told c.args.answer.now c.requires.in_bounds c.in-Unread.is (c.write-in-Unread.ensures.value, c.write-in-Unread.ensures.answer_after) in record { value = all.0; answer_after = all.1 }
