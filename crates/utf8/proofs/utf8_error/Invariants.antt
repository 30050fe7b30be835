-- `utf8::utf8_error` meets its contract. All three loops keep that the bytes up to i are taken, in so many rounds (`Kept`); the third, that no eight stand at i.
use mathlib.Core.Path.{◌≡◌}
use mathlib.Core.Bool.{false}
use Prim.Native.Nat.{◌-◌, ◌≤◌}
use lib.ListN.{length, drop}
use Rattle.utf8.specs.Table.{fits, eight}
use Rattle.utf8.proofs.Rounds.{Kept}
use Rattle.utf8.proofs.utf8_error.Given as goal

abbrev pub invariant-loop-i-2 : goal.invariant-loop-i-2
invariant-loop-i-2 l = Kept l.s l.i l.rounds × (l.initial.i ≤ l.i)

abbrev pub decreases-loop-i-2 : goal.decreases-loop-i-2
decreases-loop-i-2 l = length l.s - l.i

abbrev pub invariant-loop-i-3 : goal.invariant-loop-i-3
invariant-loop-i-3 l = Kept l.s l.i l.rounds × (l.initial.i ≤ l.i) × (fits eight (drop l.i l.s) ≡ false)

abbrev pub decreases-loop-i-3 : goal.decreases-loop-i-3
decreases-loop-i-3 l = length l.s - l.i

abbrev pub invariant-loop-i : goal.invariant-loop-i
invariant-loop-i l = Kept l.s l.i l.rounds

abbrev pub decreases-loop-i : goal.decreases-loop-i
decreases-loop-i l = length l.s - l.i
