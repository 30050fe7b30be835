-- `listing::print` meets its contract: each arm knows which answer it has, at which the definition computes.
use Rattle.listing.specs.Listing.{printed}
use Rattle.listing.proofs.print.Goals as goal

pub returns-in-Ok : goal.returns-in-Ok
unfolding printed
returns-in-Ok c = rw c.in-Ok.is c.print_tree.ensures

pub returns-in-Err : goal.returns-in-Err
unfolding printed
returns-in-Err c = rw c.in-Err.is c.print_refusal.ensures
