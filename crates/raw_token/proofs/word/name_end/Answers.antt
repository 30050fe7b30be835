use mathlib.Core.Path.{refl, sym, ◌∙◌}
use Rattle.raw_token.specs.Pattern.{character, continues_name}
use Rattle.raw_token.proofs.Steps.{matches_is, misses_is}
use Rattle.raw_token.proofs.Names.{many_more, many_stop}
use Rattle.raw_token.proofs.word.name_end.Goals as goal

pub loop-n-preserved : goal.loop-n-preserved
loop-n-preserved c =
    let l = c.loop-n in
    let m = matches_is (character continues_name) c.args.s.now l.i _ c.in-Some.ensures in
    l.invariant ∙ many_more continues_name c.args.s.now l.i _ m.0 (λ z. m.1 (sym m.0 ∙ z))

pub returns : goal.returns
returns c =
    let l = c.loop-n in
    sym (l.invariant ∙ many_stop continues_name c.args.s.now l.i _ refl (misses_is (character continues_name) c.args.s.now l.i c.in_default.ensures))
