use mathlib.Core.Path.{refl, ap, ◌∙◌}
use Rattle.std.specs.Prelude.{Ok}
use Rattle.lexer.proofs.Running.{at_first, goes_on, ends, stops}
use Rattle.lexer.proofs.Finding.{handed_on}
use Rattle.lexer.proofs.run.Goals as goal

pub loop-y-init : goal.loop-y-init
loop-y-init c = (refl, refl, at_first c.args.src.now c.args.tokens.now c.args.text.now)

pub loop-y-preserved : goal.loop-y-preserved
loop-y-preserved c =
    let l = c.loop-y in
    (c.next_token_with_span.auto.tokens ∙ l.invariant.0, c.next_token_with_span.auto.text ∙ l.invariant.1, goes_on c.args.src.now l.x _ l.tokens l.text _ _ l.invariant.2 c.in_ok-y.ensures _ (ap Ok c.in-On.is))

pub returns-in_err-y : goal.returns-in_err-y
returns-in_err-y c =
    let l = c.loop-y in
    rw (handed_on _ _ c.from_residual.ensures.1) (stops c.args.src.now l.x _ l.tokens l.text _ _ l.invariant.2 c.in_err-y.ensures _ refl)

pub returns-in-End : goal.returns-in-End
returns-in-End c =
    let l = c.loop-y in
    ends c.args.src.now l.x _ l.tokens l.text _ _ l.invariant.2 c.in_ok-y.ensures _ (ap Ok c.in-End.is)
