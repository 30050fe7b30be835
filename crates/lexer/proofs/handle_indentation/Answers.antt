-- `lexer::handle_indentation` meets its contract: with the flag clear nothing is done, and else the measured spaces decide.
use borrow.Author.Tests.{not-true, not-false}
use native.Mathlib.Omega.{arith}
use mathlib.Core.Path.{sym, ap, ◌∙◌}
use Rattle.std.specs.Prelude.{Ok}
use Rattle.lexer.proofs.Turning.{flag_clear, level_room, on_blank, on_level, on_no}
use Rattle.lexer.proofs.Finding.{handed_on}
use Rattle.lexer.proofs.handle_indentation.Goals as goal

pub returns-then-not-x : goal.returns-then-not-x
returns-then-not-x c = flag_clear c.args.src.now c.args.x c.requires.2 (not-true _ c.if-not-x.true) c.args.tokens.now

pub returns-in_err-end : goal.returns-in_err-end
returns-in_err-end c =
    let a = c.args in
    rw (handed_on _ _ c.from_residual.ensures.1) (on_no a.src.now a.x c.requires.2 (not-false _ c.if-not-x.false) _ (sym c.in_err-end.ensures) a.tokens.now)

pub put_marks-requires : goal.put_marks-requires
put_marks-requires c =
    let r = level_room c.args.src.now c.args.x c.requires.2 _ _ _ _ (sym c.in_ok-end.ensures ∙ ap Ok c.in-Level.is) in
    let p = c.requires in
    omega arith

pub overflow_add-result : goal.overflow_add-result
overflow_add-result c =
    let r = level_room c.args.src.now c.args.x c.requires.2 _ _ _ _ (sym c.in_ok-end.ensures ∙ ap Ok c.in-Level.is) in
    let p = c.requires in
    omega arith

pub returns-in-Blank : goal.returns-in-Blank
returns-in-Blank c =
    let a = c.args in
    on_blank a.src.now a.x c.requires.2 (not-false _ c.if-not-x.false) _ (sym c.in_ok-end.ensures ∙ ap Ok c.in-Blank.is) a.tokens.now

pub returns-in-Level : goal.returns-in-Level
returns-in-Level c =
    let a = c.args in
    let r = level_room c.args.src.now c.args.x c.requires.2 _ _ _ _ (sym c.in_ok-end.ensures ∙ ap Ok c.in-Level.is) in
    let p = c.requires in
    on_level a.src.now a.x p.2 (not-false _ c.if-not-x.false) _ _ _ _ (sym c.in_ok-end.ensures ∙ ap Ok c.in-Level.is) a.tokens.now _ c.put_marks.ensures (omega arith)
