-- `utf8::sequence::longer` meets its contract: the bytes that follow decide, and whether the first is below F0.
use mathlib.Core.Path.{◌∙◌}
use Rattle.utf8.proofs.Rows.{answered}
use Rattle.utf8.proofs.Longer.{by_three, by_four, by_neither}
use Rattle.utf8.proofs.sequence.longer.Goals as goal

pub returns-then-b-lt240 : goal.returns-then-b-lt240
returns-then-b-lt240 c = answered 3 _ (by_three c.args.s.now c.args.i c.requires.0 c.requires.1 c.least-lo.ensures c.most-hi.ensures c.byte-a.ensures c.continues-third.ensures c.if-b-lt240.true ∙ rw c.if-lo-a.true)

pub returns-then-continues : goal.returns-then-continues
returns-then-continues c = answered 4 _ (by_four c.args.s.now c.args.i c.requires.0 c.requires.1 c.least-lo.ensures c.most-hi.ensures c.byte-a.ensures c.continues-third.ensures c.if-b-lt240.false c.requires.2 ∙ rw (c.if-lo-a.true, ← c.continues.ensures, c.if-continues.true))

pub returns-else-continues : goal.returns-else-continues
returns-else-continues c = answered 0 _ (by_four c.args.s.now c.args.i c.requires.0 c.requires.1 c.least-lo.ensures c.most-hi.ensures c.byte-a.ensures c.continues-third.ensures c.if-b-lt240.false c.requires.2 ∙ rw (c.if-lo-a.true, ← c.continues.ensures, c.if-continues.false))

pub returns-else-lo-a : goal.returns-else-lo-a
returns-else-lo-a c = answered 0 _ (by_neither c.args.s.now c.args.i c.requires.0 c.requires.1 c.least-lo.ensures c.most-hi.ensures c.byte-a.ensures c.continues-third.ensures c.requires.2 c.if-lo-a.false)
