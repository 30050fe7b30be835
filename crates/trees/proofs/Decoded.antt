-- What a condition in the test says where it passes.
-- Assumes nothing.
use mathlib.Core.Path.{◌≡◌}
use mathlib.Core.Bool.{Bool, true, false}
use mathlib.Core.Option.{Option, some}
use lib.Dec.{T}
use Rattle.grammar.proofs.Flow.{none_is}
use Rattle.trees.proofs.Flow.{provided}

pub provided_some : {A : Type 0} (t : Bool) (o : Option A) {a : A} → provided t o ≡ some a → T t × (o ≡ some a)
unfolding provided
provided_some true o e = (tt, e)
provided_some false o e = absurd (none_is e)
