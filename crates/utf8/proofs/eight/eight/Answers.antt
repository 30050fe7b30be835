-- `utf8::eight::eight` meets its contract: with eight bytes left, the mask leaves nothing of their number exactly where all are below 128.
use mathlib.Core.Path.{sym}
use native.Mathlib.Omega.{arith}
use Rattle.utf8.proofs.Lows.{too_few}
use Rattle.utf8.proofs.Mask.{eight_masked}
use Rattle.utf8.proofs.eight.eight.Goals as goal

pub returns-then-s-i-lt8 : goal.returns-then-s-i-lt8
returns-then-s-i-lt8 c = sym (too_few c.args.s.now c.args.i c.if-s-i-lt8.true)

pub returns : goal.returns
returns c = eight_masked c.args.s.now c.args.i (λ k. (c.shared_slice_known-9-1.given k).fits) (omega (arith, c.if-s-i-lt8.false, c.requires)) c.push-a.ensures.0 c.push-b.ensures.0 c.push-c.ensures.0 c.push-d.ensures.0 c.push-e.ensures.0 c.push-f.ensures.0 c.push-g.ensures.0 c.push-h.ensures.0
