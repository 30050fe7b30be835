-- `raw_token::word::name_end` meets its contract. The loop's invariant: the characters' end, seen from `at`, is their end seen from i.
use mathlib.Core.Path.{◌≡◌}
use Prim.Native.Nat.{◌+◌, ◌-◌}
use lib.ListN.{length, drop}
use Rattle.raw_token.specs.Pattern.{continues_name, many}
use Rattle.raw_token.proofs.word.name_end.Given as goal

abbrev pub invariant-loop-n : goal.invariant-loop-n
invariant-loop-n l = l.at + many continues_name (drop l.at l.s) ≡ l.i + many continues_name (drop l.i l.s)

abbrev pub decreases-loop-n : goal.decreases-loop-n
decreases-loop-n l = length l.s - l.i
