use mathlib.Core.Path.{sym, ◌∙◌}
use Rattle.raw_token.specs.Parts.{ascii_continues_lem}
use Rattle.source.proofs.Lists.{run_more}
use Rattle.raw_token.proofs.Words.{packed_next}
use Rattle.raw_token.proofs.word.ascii_run.Goals as goal

pub loop-end-preserved : goal.loop-end-preserved
loop-end-preserved c =
    let s = c.args.s.now in
    let l = c.loop-end in
    let h = c.loop-end-test.true in
    let known = c.type_inv.s l.end in
    (l.invariant.0 ∙ run_more ascii_continues_lem s l.end h (sym c.ascii_continues.ensures ∙ c.if-not-ascii_continues.false), rw c.from.ensures (packed_next s c.args.at l.end l.number known.fits l.auto.end h l.invariant.1))
