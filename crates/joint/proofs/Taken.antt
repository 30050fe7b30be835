-- A token of a set stands at a state: what is known of it, and of the state past it; a leaf's node behind it.
-- Assumes nothing.
use Prim.Native.Nat.{ℕ, ◌+◌, ◌≤◌}
use mathlib.Core.Path.{◌≡◌, sym, ◌∙◌}
use mathlib.Core.Bool.{Bool, true, false}
use mathlib.Core.List.{List, ◌++◌}
use Rattle.grammar.specs.Sets.{mem}
use Rattle.grammar.specs.Grammar.{act, tok, ◌⨾◌}
use Rattle.token.specs.Code.{Eof, String}
use Rattle.pyhyeon.specs.Machine.{Value}
use Rattle.pyhyeon.specs.Action.{Action}
use Rattle.leaves.specs.declared.State.{State}
use Rattle.leaves.specs.declared.Added.{Added}
use Rattle.lookahead.specs.Tokens.{eof_at, text_before, symbol_at, Tokens}
use Rattle.leaves.specs.Contract.{read, past, a_node, Comes, Ready, Writes}
use Rattle.lookahead.proofs.Tokens.{took}
use Rattle.lookahead.proofs.Tests.{learnt}
use Rattle.joint.proofs.Chain.{tok_then}
use Rattle.joint.proofs.Ends.{act_wrote}

pub record Taken (src toks set : List ℕ) (s : State) : Type 0 where
  pub tokens : Tokens src toks
  pub here : s.at.0 ≤ eof_at toks
  pub seen : mem (symbol_at src toks s.at.0) set ≡ true
  pub inside : s.at.0 + 1 ≤ eof_at toks
  pub used : s.used ≡ text_before src toks (s.at.0 + 1)

-- a set with neither the end nor a String, whose text counts
module _ {src toks : List ℕ} (set : List ℕ) (f : mem Eof set ≡ false) (g : mem String set ≡ false) where
  pub taken : {s : State} → Tokens src toks → s.at.0 ≤ eof_at toks → s.used ≡ text_before src toks s.at.0 → mem (symbol_at src toks s.at.0) set ≡ true → Taken src toks set s
  taken w h u e = let l = took set f g w h e in record { tokens = w; here = h; seen = e; inside = l.inside; used = u ∙ sym l.text }

  -- at a state that is ready
  pub taken_ready : {tr : List ℕ} {s : State} {extra : ℕ} → Ready src toks tr s extra → mem (symbol_at src toks s.at.0) set ≡ true → Taken src toks set s
  taken_ready r e = taken r.tokens r.here r.used e

  -- the same by a test of its symbol k; and past a token that was taken
  module _ {b : Bool} {k : ℕ} where
    pub taken_tested : {s : State} → Tokens src toks → s.at.0 ≤ eof_at toks → s.used ≡ text_before src toks s.at.0 → b ≡ true → b ≡ mem k set → k ≡ symbol_at src toks s.at.0 → Taken src toks set s
    taken_tested w h u p q e = taken w h u (learnt set p q e)

    pub ready_tested : {tr : List ℕ} {s : State} {extra : ℕ} → Ready src toks tr s extra → b ≡ true → b ≡ mem k set → k ≡ symbol_at src toks s.at.0 → Taken src toks set s
    ready_tested r p q e = taken_ready r (learnt set p q e)

    pub next_tested : {one : List ℕ} {s : State} → Taken src toks one s → b ≡ true → b ≡ mem k set → k ≡ symbol_at src toks (s.at.0 + 1) → Taken src toks set (past s)
    next_tested d p q e = taken_tested d.tokens d.inside d.used p q e

-- the token, and the node that a leaf writes behind it
pub taken_wrote : {src toks set : List ℕ} {room : ℕ} {vs : List Value} {s : State} {tr tr' : List ℕ} {r : Added} {x : Action} {ins : List Value} → Taken src toks set s → Writes src toks x ins (past s) tr r tr' →
    Comes src toks room (tok set ⨾ act x) a_node vs (ins ++ vs) s tr (read r.0 r.1) tr'
taken_wrote d w = tok_then d.here d.seen (act_wrote d.used w)
