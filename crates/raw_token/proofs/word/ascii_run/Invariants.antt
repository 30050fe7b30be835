-- `raw_token::word::ascii_run` meets its contract. The loop keeps: the run's end, seen from `at`, is its end seen from `end`, and the number is that of the
-- last eight bytes passed.
use mathlib.Core.Path.{◌≡◌}
use Prim.Native.Nat.{◌+◌}
use lib.ListN.{drop}
use Rattle.source.specs.Bytes.{run}
use Rattle.raw_token.specs.Parts.{ascii_continues_lem}
use Rattle.raw_token.proofs.Words.{Packed}
use Rattle.raw_token.proofs.word.ascii_run.Given as goal

abbrev pub invariant-loop-end : goal.invariant-loop-end
invariant-loop-end l = (l.at + run ascii_continues_lem (drop l.at l.s) ≡ l.end + run ascii_continues_lem (drop l.end l.s)) × Packed l.s l.at l.end l.number
