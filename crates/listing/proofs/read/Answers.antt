-- `listing::read` meets its contract: what the reader left in the tree's slice is printed as the words that it filled in.
use native.Mathlib.Omega.{arith}
use mathlib.Core.Path.{refl}
use Rattle.listing.proofs.Front.{nodes_few, printed_as, same_shows}
use Rattle.listing.proofs.read.Goals as goal

pub print-requires : goal.print-requires
print-requires c =
    let few = nodes_few _ _ _ _ _ _ _ _ c.parse_source-answer.ensures in
    (omega arith, omega arith)

pub returns : goal.returns
returns c = same_shows (printed_as _ _ _ _ _ _ _ _ c.parse_source-answer.ensures 3072 1023 16384 refl refl refl) c.print.ensures
