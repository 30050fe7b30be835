use native.Mathlib.Omega.{arith}
use mathlib.Core.Path.{ap}
use lib.ListN.{length}
use Rattle.strings.proofs.Decoding.{none}
use Rattle.strings.proofs.decoded_len.Goals as goal

pub returns : goal.returns
returns c =
    let s = c.args.s.now in
    let i = c.loop-i.i in
    omega (arith, ap length (none s i c.loop-i-test.false))
