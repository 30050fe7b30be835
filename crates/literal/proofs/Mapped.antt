-- What `Option::map` gives where its function gives f x at x.
-- Assumes nothing.
use mathlib.Core.Path.{◌≡◌, ap}
use Rattle.std.specs.Prelude.{Option, Some, None, option_map, MatchOption, IsSomeAnd}

pub mapped : {X Y : Type 0} (f : X → Y) (o : Option X) (r : Option Y) → MatchOption o (r ≡ None) (λ x. IsSomeAnd r (λ y. y ≡ f x)) → r ≡ option_map f o
mapped f None r e = e
mapped f (Some x) (Some y) e = ap Some e
mapped f (Some x) None e = absurd e
