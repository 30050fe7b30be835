-- `lexer::run` meets its contract. The loop keeps: what is written, and then the scan from the state on, is the whole scan.
use mathlib.Core.Path.{◌≡◌}
use Prim.Native.Nat.{◌-◌}
use lib.ListN.{length}
use Rattle.lexer.proofs.Running.{Going}
use Rattle.lexer.proofs.run.Given as goal

abbrev pub invariant-loop-y : goal.invariant-loop-y
invariant-loop-y l = (length l.tokens ≡ length l.initial.tokens) × (length l.text ≡ length l.initial.text) × Going l.src l.tokens l.text l.x

abbrev pub decreases-loop-y : goal.decreases-loop-y
decreases-loop-y l = length l.src - l.x.at
