-- What a function that reads an E and the Block behind it tells its callers, whatever they read after it. Only private contracts cite this.
-- Assumes nothing.
use Rattle.std.specs.Prelude.{ℕ, ◌<◌, ◌≡◌, Result, Ok, Err, List, ◌∷◌}
use Rattle.grammar.specs.Grammar.{Part, call, ◌⨾◌}
use Rattle.token.specs.declared.NodeNumber.{NodeNumber}
use Rattle.pyhyeon.specs.Machine.{Value, node, list}
use Rattle.pyhyeon.specs.Action.{Action}
use Rattle.pyhyeon.specs.Rules.{Rule, E, Block}
use Rattle.leaves.specs.declared.State.{State}
use Rattle.leaves.specs.declared.Refused.{Refused}
use Rattle.leaves.specs.Contract.{Parsed, Shape, Comes, Ready}
use Rattle.stmt.specs.declared.Clause.{Clause}

-- From s to s' both were read: whatever follows is read from s' on, with the Block's list from n and the E's node c at hand.
pub record BothRead (src toks : List ℕ) (room : ℕ) (s : State) (tr : List ℕ) (c n : NodeNumber) (s' : State) (tr' : List ℕ) : Type 0 where
  pub ready : Ready src toks tr' s' 1
  pub on : s.at.0 < s'.at.0
  pub same : {out : Shape} {q : Part Action Rule} {vs ws : List Value} {a : Parsed} {t : List ℕ} → Comes src toks room q out vs (list n.0 ∷ node c.0 ∷ ws) s' tr' a t → Comes src toks room (call E ⨾ call Block ⨾ q) out vs ws s tr a t

-- Code that reads both; a refusal of one of them is the answer, whatever was to follow.
pub record Guards (src toks : List ℕ) (room : ℕ) (s : State) (tr : List ℕ) (r : Result Clause Refused) (tr' : List ℕ) : Type 0 where
  pub leads : {b : Clause} → r ≡ Ok b → BothRead src toks room s tr b.0 b.1 b.2 tr'
  pub stops : {e : Refused} {out : Shape} {q : Part Action Rule} {vs ws : List Value} → r ≡ Err e → Comes src toks room (call E ⨾ call Block ⨾ q) out vs ws s tr (Err e) tr'
