-- `strings::decoded_len` meets its contract. The loop keeps: n and the length of what is left are the whole length.
use mathlib.Core.Path.{◌≡◌}
use Prim.Native.Nat.{◌+◌, ◌-◌, ◌≤◌}
use lib.ListN.{length, drop}
use Rattle.strings.specs.Decoded.{decoded}
use Rattle.strings.proofs.decoded_len.Given as goal

abbrev pub invariant-loop-i : goal.invariant-loop-i
invariant-loop-i l = (l.i ≤ length l.s) × (l.n ≤ l.i) × (l.n + length (decoded (drop l.i l.s)) ≡ length (decoded l.s))

abbrev pub decreases-loop-i : goal.decreases-loop-i
decreases-loop-i l = length l.s - l.i
