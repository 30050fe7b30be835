-- The Elifs and the Else of an If pass the tests of their bounds, and an Elif that is repeated takes a token.
-- Assumes nothing.
use lib.Dec.{T}
use Rattle.grammar.specs.Grammar.{act, many, ◌⨾◌}
use Rattle.grammar.specs.Check.{low, takes}
use Rattle.grammar.specs.Limits.{clean, credit, afford}
use Rattle.pyhyeon.specs.Action.{list_join}
use Rattle.pyhyeon.specs.Rules.{elifs}
use Rattle.pyhyeon.specs.Tables.{first, least, rank, pyhyeon}
use Rattle.pyhyeon.specs.Prices.{writes, needs, gives}
use Rattle.joint.proofs.Counts.{Modest}
use Rattle.joint.proofs.Counts.{Taking}
use Rattle.stmt.specs.Parts.{elif_on, elifs_on, else_on}

pub low_elifs : T (low pyhyeon 100 100 (many (elifs ⨾ act list_join)))
unfolding low takes least rank
low_elifs = tt

pub taking_elif : Taking 0 elif_on
unfolding takes clean low afford credit first least rank writes needs gives
taking_elif = record { few = tt; some = tt; tidy = tt; lower = tt; pays = tt }

pub modest_elifs : Modest elifs_on
unfolding clean low takes afford credit first least rank writes needs gives
modest_elifs = record { tidy = tt; lower = tt; pays = tt }

pub modest_else : Modest else_on
unfolding clean low takes afford credit first least rank writes needs gives
modest_else = record { tidy = tt; lower = tt; pays = tt }
