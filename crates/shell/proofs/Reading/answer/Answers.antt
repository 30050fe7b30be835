-- an array of 1,024 bytes is longer than what is taken
use Rattle.std.proofs.Common.{◌≡◌, length, take, arith, length-take-le}
use Rattle.listing.specs.Listing.{listing}
use Rattle.shell.proofs.Reading.answer.Goals as goal

pub returns-in-Longer : goal.returns-in-Longer
unfolding listing
returns-in-Longer c =
    let r = c.args.self.now in
    let l : length (take 1024 r.script) ≡ 1024 = length-take-le 1024 r.script (omega (arith, r.room)) in
    rw c.in-Longer.is (rw l at c.list-in-Longer.ensures)
