-- What is repeated takes a token, and the parts that functions have for themselves pass the tests of their bounds.
-- Assumes nothing.
use lib.Dec.{T}
use mathlib.Core.Path.{◌≡◌, refl}
use mathlib.Core.Bool.{Bool, true, false}
use Rattle.grammar.specs.Grammar.{many}
use Rattle.grammar.specs.Descent.{null, begins}
use Rattle.grammar.specs.Check.{low, takes}
use Rattle.grammar.specs.Limits.{clean, credit, afford}
use Rattle.pyhyeon.specs.Rules.{list, more, postfix, parameters}
use Rattle.pyhyeon.specs.Tables.{least, rank, first, first_e, primary, pyhyeon}
use Rattle.pyhyeon.specs.Prices.{writes, needs, gives}
use Rattle.joint.proofs.Bounds.{Bounded}
use Rattle.joint.proofs.Counts.{Modest}
use Rattle.expr.specs.Parts.{member, name, valued}

pub low_postfix : T (low pyhyeon 100 100 (many postfix))
unfolding low takes least rank
low_postfix = tt

-- the members of lists, E and pairs
pub low_member : (paired : Bool) → T (low pyhyeon 100 100 (more (member paired)))
unfolding low takes least rank
low_member true = tt
low_member false = tt

pub begins_member : (paired : Bool) → begins first (more (member paired)) ≡ first_e
unfolding begins null first
begins_member true = refl
begins_member false = refl

pub bounded_member : (paired : Bool) → Bounded 8 (member paired)
unfolding takes clean low afford credit first least rank writes needs gives
bounded_member true = record { few = tt; some = tt; tidy = tt; lower = tt; pays = tt; spared = tt }
bounded_member false = record { few = tt; some = tt; tidy = tt; lower = tt; pays = tt; spared = tt }

pub low_names : T (low pyhyeon 100 100 (more name))
unfolding low takes least rank
low_names = tt

pub bounded_primary : Bounded 0 primary
unfolding takes clean low afford credit first least rank writes needs gives
bounded_primary = record { few = tt; some = tt; tidy = tt; lower = tt; pays = tt; spared = tt }

pub bounded_postfix : Bounded 0 postfix
unfolding takes clean low afford credit first least rank writes needs gives
bounded_postfix = record { few = tt; some = tt; tidy = tt; lower = tt; pays = tt; spared = tt }

pub modest_list : Modest list
unfolding clean low takes afford credit first least rank writes needs gives
modest_list = record { tidy = tt; lower = tt; pays = tt }

pub modest_parameters : Modest parameters
unfolding clean low takes afford credit first least rank writes needs gives
modest_parameters = record { tidy = tt; lower = tt; pays = tt }

pub modest_valued : Modest valued
unfolding clean low takes afford credit first least rank writes needs gives
modest_valued = record { tidy = tt; lower = tt; pays = tt }
