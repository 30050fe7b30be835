-- The Methods of a Class and its Dedent pass the tests of their bounds, and a Method that is repeated takes a token.
-- Assumes nothing.
use lib.Dec.{T}
use Rattle.grammar.specs.Grammar.{many}
use Rattle.grammar.specs.Check.{low, takes}
use Rattle.grammar.specs.Limits.{clean, credit, afford}
use Rattle.token.specs.Code.{Dedent}
use Rattle.ast.specs.Kind as kind
use Rattle.pyhyeon.specs.Rules.{tk, more, definition}
use Rattle.pyhyeon.specs.Tables.{first, least, rank, pyhyeon}
use Rattle.pyhyeon.specs.Prices.{writes, needs, gives}
use Rattle.joint.proofs.Counts.{Modest}
use Rattle.joint.proofs.Counts.{Taking}

pub low_methods : T (low pyhyeon 100 100 (many (more (definition kind.Method))))
unfolding low takes least rank
low_methods = tt

pub taking_method : Taking 0 (definition kind.Method)
unfolding takes clean low afford credit first least rank writes needs gives
taking_method = record { few = tt; some = tt; tidy = tt; lower = tt; pays = tt }

pub modest_method : Modest (definition kind.Method)
unfolding clean low takes afford credit first least rank writes needs gives
modest_method = record { tidy = tt; lower = tt; pays = tt }

pub modest_dedent : Modest (tk Dedent)
unfolding clean low takes afford credit first least rank writes needs gives
modest_dedent = record { tidy = tt; lower = tt; pays = tt }
