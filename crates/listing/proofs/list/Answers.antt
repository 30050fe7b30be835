-- `listing::list` meets its contract: each return knows whether the script is too long.
use borrow.Author.Tests.{lt-ltb, le-ltb}
use native.Mathlib.Omega.{arith}
use lib.Seq.{length-take-le}
use Rattle.listing.specs.Listing.{listing}
use Rattle.listing.proofs.list.Goals as goal

pub returns-then-n-gt-MOST : goal.returns-then-n-gt-MOST
unfolding listing
returns-then-n-gt-MOST c =
    let a = c.args in
    rw (length-take-le a.n a.script.now (omega arith), lt-ltb 1023 a.n c.if-n-gt-MOST.true) c.print_refusal.ensures

pub returns : goal.returns
unfolding listing
returns c =
    let a = c.args in
    rw (length-take-le a.n a.script.now (omega arith), le-ltb 1023 a.n c.if-n-gt-MOST.false) c.read.ensures
