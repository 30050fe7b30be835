-- What is repeated takes a token, and t passes the tests of its bounds.
-- Assumes nothing.
use lib.Dec.{T, ltb}
use Rattle.grammar.specs.Grammar.{call}
use Rattle.grammar.specs.Check.{low, takes}
use Rattle.grammar.specs.Limits.{clean, credit, afford}
use Rattle.pyhyeon.specs.Rules.{Simple, more}
use Rattle.pyhyeon.specs.Tables.{first, least, rank, t_joined, pyhyeon}
use Rattle.pyhyeon.specs.Prices.{writes, needs, gives}
use Rattle.joint.proofs.Counts.{Modest}

pub low_simples : T (low pyhyeon 100 100 (more (call Simple)))
unfolding low takes least rank
low_simples = tt

pub modest_t : Modest t_joined
unfolding clean low takes afford credit first least rank writes needs gives
modest_t = record { tidy = tt; lower = tt; pays = tt }

pub some_t : T (ltb 0 (takes least t_joined))
unfolding takes least
some_t = tt
