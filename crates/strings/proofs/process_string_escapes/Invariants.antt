-- `strings::process_string_escapes` meets its contract. The loop keeps: what is still to be written makes of the text what all of it makes of the
-- text at first.
use mathlib.Core.Path.{◌≡◌}
use Prim.Native.Nat.{◌+◌, ◌-◌, ◌≤◌}
use lib.ListN.{length}
use Rattle.strings.proofs.Decoding.{Todo}
use Rattle.strings.proofs.process_string_escapes.Given as goal

abbrev pub invariant-loop-i : goal.invariant-loop-i
invariant-loop-i l =
    (l.i ≤ length l.s) × (length l.text ≡ length l.initial.text) × (l.o + (length l.s - l.i) ≤ length l.text) × Todo l.s l.at l.initial.text l.i l.o l.text

abbrev pub decreases-loop-i : goal.decreases-loop-i
decreases-loop-i l = length l.s - l.i
