-- `stmt::whole::rule_program` meets its contract: the rule Program.
use mathlib.Core.Path.{refl}
use mathlib.Core.List.{[], ◌∷◌}
use native.Mathlib.Omega.{arith}
use Rattle.grammar.specs.Descent.{null, begins}
use Rattle.token.specs.Code as code
use Rattle.pyhyeon.specs.Tables.{joined, first, first_line, opens}
use Rattle.lookahead.proofs.Tests.{learnt}
use Rattle.joint.proofs.Chain.{handed_on, open_plain, flat_then, flat_stop}
use Rattle.joint.proofs.Choices.{absent, alt_first, alt_next}
use Rattle.joint.proofs.Counts.{passed_start}
use Rattle.joint.proofs.Ends.{none_then}
use Rattle.joint.proofs.Loops.{ready_of}
use Rattle.joint.proofs.Passing.{newlines_pass, run_text}
use Rattle.stmt.proofs.Blocks.{modest_lines}
use Rattle.stmt.proofs.whole.rule_program.Goals as goal

pub lines-requires : goal.lines-requires
lines-requires c =
    let w = c.requires.tokens in
    let n = c.skip_newlines-at.ensures in
    let x = run_text (code.Newline ∷ []) refl refl w n in
    ready_of w (omega (arith, c.requires, x, n.inside, n.order))

pub end-requires : goal.end-requires
end-requires c =
    let w = c.requires.tokens in
    let n = c.skip_newlines-at.ensures in
    let g = passed_start _ _ w modest_lines n.inside c.lines.ensures c.in_ok-first.was in
    let k = c.lines.auto.tree in
    ready_of w (omega (arith, c.requires, k, n.order, g.here, g.nodes, g.opened, g.used))

pub end-requires-else-begins_line : goal.end-requires-else-begins_line
end-requires-else-begins_line c =
    let w = c.requires.tokens in
    let n = c.skip_newlines-at.ensures in
    let x = run_text (code.Newline ∷ []) refl refl w n in
    ready_of w (omega (arith, c.requires, x, n.inside, n.order))

pub returns-in_ok-first : goal.returns-in_ok-first
unfolding joined first begins null opens
returns-in_ok-first c =
    let n = c.skip_newlines-at.ensures in
    let b = learnt first_line c.if-begins_line.true c.begins_line.ensures c.symbol_at.ensures in
    open_plain refl (λ vs. newlines_pass n (alt_first n.inside b (flat_then c.lines.ensures c.in_ok-first.was ((c.end.ensures _).comes vs))))

pub returns-in_err-first : goal.returns-in_err-first
unfolding joined first begins null opens
returns-in_err-first c =
    let n = c.skip_newlines-at.ensures in
    let b = learnt first_line c.if-begins_line.true c.begins_line.ensures c.symbol_at.ensures in
    rw (handed_on _ c.from_residual.ensures.1) (open_plain refl (λ vs. newlines_pass n (alt_first n.inside b (flat_stop _ vs c.lines.ensures c.in_err-first.was))))

pub returns-else-begins_line : goal.returns-else-begins_line
unfolding joined first begins null opens
returns-else-begins_line c =
    let n = c.skip_newlines-at.ensures in
    let b = learnt first_line c.if-begins_line.false c.begins_line.ensures c.symbol_at.ensures in
    open_plain refl (λ vs. newlines_pass n (alt_next n.inside b (absent refl) (none_then ((c.end-else-begins_line.ensures _).comes vs))))
