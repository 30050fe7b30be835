-- `numbers::digits::joined` meets its contract. The loop's invariant: what is left, joined to n, gives the whole number, up to the cap.
use mathlib.Core.Path.{◌≡◌}
use Prim.Native.Nat.{◌≤◌, min}
use lib.ListN.{drop}
use Rattle.numbers.specs.Digits.{number}
use Rattle.numbers.proofs.digits.joined.Given as goal

abbrev pub invariant-loop-b : goal.invariant-loop-b
invariant-loop-b l = (l.n ≤ l.cap) × (min l.cap (number l.n (drop l.b-index l.s)) ≡ min l.cap (number 0 l.s))
