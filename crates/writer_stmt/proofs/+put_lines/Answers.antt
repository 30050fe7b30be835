use Rattle.writer_stmt.proofs.Below.{some-else, no_else, else_put, some_last, elifs_at, some_elifs, body_at, some_block, branch_says, some_branch, branch_put, block_none, block_at, some_simple, body_head, some_body, some_opened, opened_says, opened_put}
use native.Mathlib.Omega.{arith}
use mathlib.Core.Path.{◌∙◌, sym}
use Rattle.writer_stmt.specs.Lines.{stmt, elif}
use Rattle.writer_stmt.proofs.Viewed.{as_branch, as_simple, as_opened}
use Rattle.writer_expr.proofs.Tuples.{put_as}
use Rattle.writer_stmt.proofs.Lists.{some-line, member_ends, member_goes, of_all, of_goes, of_ends, none_put}
use Rattle.writer_expr.proofs.Turns.{none_from}
use Rattle.writer_stmt.proofs.+put_lines.Goals as goal

pub put_else-returns-then-first-eq-NONE_NODE : goal.put_else-returns-then-first-eq-NONE_NODE
put_else-returns-then-first-eq-NONE_NODE t c =
    no_else _ _ _ c.args.depth c.if-first-eq-NONE_NODE.true

pub put_else-put_line-requires : goal.put_else-put_line-requires
put_else-put_line-requires t c =
    (omega arith, (some-else _ _ _ c.requires.some_else c.if-first-eq-NONE_NODE.false, omega arith))

pub put_else-returns : goal.put_else-returns
put_else-returns t c =
    else_put _ _ _ c.args.depth c.if-first-eq-NONE_NODE.false c.put_line.ensures

pub put_if-word_at-block-requires : goal.put_if-word_at-block-requires
put_if-word_at-block-requires t c =
    let some = c.requires.some_line in
    let there = some.there in
    (omega arith, some.stands.held, omega arith)

pub put_if-word_at-elifs-requires : goal.put_if-word_at-elifs-requires
put_if-word_at-elifs-requires t c =
    let some = c.requires.some_line in
    let there = some.there in
    (omega arith, some.stands.held, omega arith)

pub put_if-word_at-other-requires : goal.put_if-word_at-other-requires
put_if-word_at-other-requires t c =
    let some = c.requires.some_line in
    let there = some.there in
    (omega arith, some.stands.held, omega arith)

pub put_if-put_else-s-requires : goal.put_if-put_else-s-requires
put_if-put_else-s-requires t c =
    let some = c.requires.some_line in
    let there = some.there in
    let v = as_branch c.args.depth _ _ _ some.line some.stands some.there c.requires.branch in
    (omega arith, (some_last v c.word_at-other.ensures, omega arith))

pub put_if-put_lines-t-requires : goal.put_if-put_lines-t-requires
put_if-put_lines-t-requires t c =
    let some = c.requires.some_line in
    let there = some.there in
    let v = as_branch c.args.depth _ _ _ some.line some.stands some.there c.requires.branch in
    let p = c.put_else-s.ensures _ _ v.last_stands (c.word_at-other.ensures ∙ v.last_head) in
    let f = p.first in
    let i = v.last_stands.ends in
    let j = v.elifs_stand.ends in
    let k = v.body_stands.ends in
    (omega arith, (some_elifs v f c.word_at-elifs.ensures, omega arith))

pub put_if-put_lines-u-requires : goal.put_if-put_lines-u-requires
put_if-put_lines-u-requires t c =
    let some = c.requires.some_line in
    let there = some.there in
    let v = as_branch c.args.depth _ _ _ some.line some.stands some.there c.requires.branch in
    let p = c.put_else-s.ensures _ _ v.last_stands (c.word_at-other.ensures ∙ v.last_head) in
    let f = p.first in
    let q = c.put_lines-t.ensures _ elif _ _ (elifs_at v p.first) (c.word_at-elifs.ensures ∙ v.elifs_head) in
    let g = q.first in
    let i = v.last_stands.ends in
    let j = v.elifs_stand.ends in
    let k = v.body_stands.ends in
    (omega arith, (some_block v g c.word_at-block.ensures, omega arith))

pub put_if-put_head-requires : goal.put_if-put_head-requires
put_if-put_head-requires t c =
    let some = c.requires.some_line in
    let there = some.there in
    let v = as_branch c.args.depth _ _ _ some.line some.stands some.there c.requires.branch in
    let p = c.put_else-s.ensures _ _ v.last_stands (c.word_at-other.ensures ∙ v.last_head) in
    let f = p.first in
    let q = c.put_lines-t.ensures _ elif _ _ (elifs_at v p.first) (c.word_at-elifs.ensures ∙ v.elifs_head) in
    let g = q.first in
    let o = c.put_lines-u.ensures _ stmt _ _ (body_at v q.first) (c.word_at-block.ensures ∙ v.body_head) in
    let h = o.first in
    record { some_words = some_branch v h; node_nonzero = (omega arith, some.stands.held, omega arith) }

pub put_if-returns : goal.put_if-returns
put_if-returns t c =
    λ s n b x t u. let v = as_branch c.args.depth _ _ _ n t u c.requires.branch in let p = c.put_else-s.ensures _ _ v.last_stands (c.word_at-other.ensures ∙ v.last_head) in let f = p.first in let q = c.put_lines-t.ensures _ elif _ _ (elifs_at v p.first) (c.word_at-elifs.ensures ∙ v.elifs_head) in let g = q.first in let o = c.put_lines-u.ensures _ stmt _ _ (body_at v q.first) (c.word_at-block.ensures ∙ v.body_head) in let h = o.first in branch_put v p q o (c.put_head.ensures b v.words (branch_says v h))

pub put_line-kind_at-kind-requires : goal.put_line-kind_at-kind-requires
put_line-kind_at-kind-requires t c =
    let some = c.requires.some_line in
    let there = some.there in
    (omega arith, some.stands.held)

pub put_line-put_if-requires : goal.put_line-put_if-requires
put_line-put_if-requires t c =
    (omega arith, (c.requires.some_line, (omega arith, sym c.kind_at-kind.ensures ∙ c.if-kind-eq-IF.true)))

pub put_line-returns-then-kind-eq-IF : goal.put_line-returns-then-kind-eq-IF
put_line-returns-then-kind-eq-IF t c =
    c.put_if.ensures

pub put_line-put_simple-requires : goal.put_line-put_simple-requires
put_line-put_simple-requires t c =
    let some = c.requires.some_line in
    let there = some.there in
    let v = as_simple c.args.depth _ _ _ some.line some.stands some.there (λ h. c.if-kind-eq-IF.false (c.kind_at-kind.ensures ∙ h)) (block_none c.kind_at-kind.ensures c.block_word.ensures.is (none_from c.in_default.not-Some)) in
    record { some_words = some_simple v; node_nonzero = (omega arith, some.stands.held, omega arith) }

pub put_line-returns-in_default : goal.put_line-returns-in_default
put_line-returns-in_default t c =
    λ s n b x t h. let v = as_simple c.args.depth _ _ _ n t h (λ h. c.if-kind-eq-IF.false (c.kind_at-kind.ensures ∙ h)) (block_none c.kind_at-kind.ensures c.block_word.ensures.is (none_from c.in_default.not-Some)) in put_as (sym v.text) (c.put_simple.ensures b v.words v.says)

pub put_line-word_at-first-requires : goal.put_line-word_at-first-requires
put_line-word_at-first-requires t c =
    let some = c.requires.some_line in
    let there = some.there in
    (omega arith, some.stands.held, rw c.in-Some.is at c.block_word.ensures.below)

pub put_line-put_lines-head-requires : goal.put_line-put_lines-head-requires
put_line-put_lines-head-requires t c =
    let some = c.requires.some_line in
    let there = some.there in
    let v = as_opened c.args.depth _ _ _ some.line some.stands some.there (λ h. c.if-kind-eq-IF.false (c.kind_at-kind.ensures ∙ h)) (block_at c.kind_at-kind.ensures c.block_word.ensures.is c.in-Some.is).1 in
    (omega arith, (some_body v (body_head v c.kind_at-kind.ensures (block_at c.kind_at-kind.ensures c.block_word.ensures.is c.in-Some.is).0 c.word_at-first.ensures), omega arith))

pub put_line-put_head-requires : goal.put_line-put_head-requires
put_line-put_head-requires t c =
    let some = c.requires.some_line in
    let there = some.there in
    let v = as_opened c.args.depth _ _ _ some.line some.stands some.there (λ h. c.if-kind-eq-IF.false (c.kind_at-kind.ensures ∙ h)) (block_at c.kind_at-kind.ensures c.block_word.ensures.is c.in-Some.is).1 in
    let l = body_head v c.kind_at-kind.ensures (block_at c.kind_at-kind.ensures c.block_word.ensures.is c.in-Some.is).0 c.word_at-first.ensures in
    let p = c.put_lines-head.ensures _ v.line _ _ v.behind l in
    let f = p.first in
    record { some_words = some_opened v f; node_nonzero = (omega arith, some.stands.held, omega arith) }

pub put_line-returns : goal.put_line-returns
put_line-returns t c =
    λ s n b x t h. let v = as_opened c.args.depth _ _ _ n t h (λ h. c.if-kind-eq-IF.false (c.kind_at-kind.ensures ∙ h)) (block_at c.kind_at-kind.ensures c.block_word.ensures.is c.in-Some.is).1 in let l = body_head v c.kind_at-kind.ensures (block_at c.kind_at-kind.ensures c.block_word.ensures.is c.in-Some.is).0 c.word_at-first.ensures in let p = c.put_lines-head.ensures _ v.line _ _ v.behind l in opened_put v p (c.put_head.ensures b v.words (opened_says v p.first))

pub put_lines-returns-then-first-eq-NONE_NODE : goal.put_lines-returns-then-first-eq-NONE_NODE
put_lines-returns-then-first-eq-NONE_NODE t c =
    none_put c.args.depth _ _ _ c.if-first-eq-NONE_NODE.true

pub put_lines-members-init : goal.put_lines-members-init
put_lines-members-init t c =
    (omega arith, λ i n b l s h. of_all c.args.depth _ _ _ _ s h (λ j. c.if-first-eq-NONE_NODE.false j))

pub put_lines-overflow_sub-last : goal.put_lines-overflow_sub-last
put_lines-overflow_sub-last t c =
    let some = c.requires.some_lines in
    let g = c.members.invariant.1 _ some.line _ _ some.stands some.head in
    let m = some-line c.args.depth _ _ _ some.line g.stands in
    let h = m.there in
    omega arith

pub put_lines-put_line-e-requires : goal.put_lines-put_line-e-requires
put_lines-put_line-e-requires t c =
    let some = c.requires.some_lines in
    let g = c.members.invariant.1 _ some.line _ _ some.stands some.head in
    let m = some-line c.args.depth _ _ _ some.line g.stands in
    let h = m.there in
    (omega arith, (m, omega arith))

pub put_lines-returns-then-last-from : goal.put_lines-returns-then-last-from
put_lines-returns-then-last-from t c =
    λ i n b l s h. let g = c.members.invariant.1 i n b l s h in of_ends c.args.depth _ _ _ g (member_ends c.args.depth _ _ _ _ _ c.put_line-e.ensures n g.stands g.head c.if-last-from.true)

pub put_lines-members-smaller : goal.put_lines-members-smaller
put_lines-members-smaller t c =
    let some = c.requires.some_lines in
    let g = c.members.invariant.1 _ some.line _ _ some.stands some.head in
    let m = some-line c.args.depth _ _ _ some.line g.stands in
    let h = m.there in
    let p = c.put_line-e.ensures _ m.line _ _ m.stands m.there in
    let f = p.first in
    omega arith

pub put_lines-members-preserved : goal.put_lines-members-preserved
put_lines-members-preserved t c =
    let some = c.requires.some_lines in
    let g = c.members.invariant.1 _ some.line _ _ some.stands some.head in
    let m = some-line c.args.depth _ _ _ some.line g.stands in
    let h = m.there in
    let p = c.put_line-e.ensures _ m.line _ _ m.stands m.there in
    let f = p.first in
    (omega arith, λ i n b l s k. let o = c.members.invariant.1 i n b l s k in of_goes c.args.depth _ _ _ o (member_goes c.args.depth _ _ _ _ _ c.put_line-e.ensures n o.stands o.head c.if-last-from.false))
