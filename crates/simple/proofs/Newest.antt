-- A statement's node is the last that is written for it.
-- Assumes nothing.
use mathlib.Core.Path.{ap}
use mathlib.Core.List.{List}
use Prim.Native.Nat.{ℕ, ◌+◌}
use Rattle.pyhyeon.specs.Machine.{Value}
use Rattle.pyhyeon.specs.Action.{Action}
use Rattle.leaves.specs.declared.State.{State}
use Rattle.leaves.specs.declared.Added.{Added}
use Rattle.leaves.specs.Contract.{read, Writes}
use Rattle.joint.proofs.Chain.{read_same}
use Rattle.simple.specs.Parts.{Newest}

-- the node that a leaf wrote is the last
pub newest_wrote : {src toks : List ℕ} {x : Action} {ins : List Value} {s : State} {tr : List ℕ} {r : Added} {tr' : List ℕ} → Writes src toks x ins s tr r tr' → Newest (read r.0 r.1)
newest_wrote {s = s} {r = r} w = record {
  last = λ n s' e.
      let d = read_same e in
      rw (← d.0, ← d.1, w.after) (ap (λ (k : ℕ). k + 1) w.node);
}
