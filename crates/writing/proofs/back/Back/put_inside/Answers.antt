use Rattle.std.proofs.Common.{◌≡◌, ap, ◌∙◌}
use Rattle.std.proofs.lemmas.List.{nil_from_length}
use Rattle.rendered.specs.Spelled.{escaped_all}
use Rattle.writing.proofs.Writes.{left_all, left_less, left_none}
use Rattle.writing.proofs.Escapes.{escaped_push}
use Rattle.writing.proofs.back.Back.put_inside.Goals as goal

pub loop-b-init : goal.loop-b-init
loop-b-init c =
    let e : c.into_iter-b-iterator.result.iter.rest.now ≡ c.args.text.now = cc in
    rw e (left_all _ _)

pub loop-b-preserved : goal.loop-b-preserved
loop-b-preserved c = left_less c.loop-b.invariant (ap escaped_all c.in-Some.ensures.steps ∙ escaped_push _ _) c.put_escaped.ensures

pub returns : goal.returns
unfolding escaped_all
returns c = left_none c.loop-b.invariant (ap escaped_all (nil_from_length _ c.in-None.ensures.steps.0))
