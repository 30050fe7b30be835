-- The invariants of the reader's loops: whatever the part comes to from here on, it comes to from the start.
-- Assumes nothing.
use Rattle.std.specs.Prelude.{Ok, Err}
use mathlib.Core.Path.{◌≡◌, refl}
use mathlib.Core.List.{List, ◌∷◌, ◌++◌}
use Prim.Native.Nat.{ℕ, ◌+◌, ◌*◌, ◌≤◌, ◌<◌}
use native.Mathlib.Omega.{arith}
use lib.ListN.{length}
use Rattle.grammar.specs.Grammar.{Part, act, ◌⨾◌}
use Rattle.token.specs.declared.NodeNumber.{NodeNumber}
use Rattle.pyhyeon.specs.Machine.{Value, growing}
use Rattle.pyhyeon.specs.Action.{Action, list_done}
use Rattle.pyhyeon.specs.Rules.{Rule}
use Rattle.leaves.specs.declared.State.{State}
use Rattle.lookahead.specs.Tokens.{eof_at, text_before, Tokens}
use Rattle.leaves.specs.declared.Refused.{Refused}
use Rattle.joint.proofs.Chain.{read_same}
use Rattle.leaves.specs.Contract.{Parsed, read, Shape, a_node, a_list, Comes, Ready, Led, Lists}
use Rattle.joint.proofs.Ends.{list_last}

-- what code needs at a state, of the numbers that are left to show
pub ready_of : {src toks tr : List ℕ} {s : State} {extra : ℕ} → Tokens src toks →
    (16 * eof_at toks + 16 ≤ length tr) × (s.at.0 ≤ eof_at toks) × (s.nodes ≤ 2 * s.at.0) × (s.opened ≤ 10 * s.at.0 + extra) × (s.used ≡ text_before src toks s.at.0) → Ready src toks tr s extra
ready_of w p = record { tokens = w; room = p.0; here = p.1; nodes = p.2; opened = p.3; used = p.4 }

-- from s₀ with the values v₀ at hand a loop that reads the part p has come to s with the values v; the node n is among those that are written
pub record Going (src toks : List ℕ) (extra room : ℕ) (p : Part Action Rule) (v₀ : List Value) (s₀ : State) (tr₀ : List ℕ) (v : List Value) (n : ℕ) (s : State) (tr : List ℕ) : Type 0 where
  pub ready : Ready src toks tr s extra
  pub on : s₀.at.0 ≤ s.at.0
  pub long : length tr ≡ length tr₀
  pub node : n < s.nodes
  pub same : (vs : List Value) {a : Parsed} {t : List ℕ} → Comes src toks room p a_node vs (v ++ vs) s tr a t → Comes src toks room p a_node vs (v₀ ++ vs) s₀ tr₀ a t

pub begin : {src toks : List ℕ} {extra room : ℕ} {p : Part Action Rule} {v : List Value} {n : ℕ} {s : State} {tr : List ℕ} → Ready src toks tr s extra → n < s.nodes → Going src toks extra room p v s tr v n s tr
begin r l = record { ready = r; on = omega arith; long = refl; node = l; same = λ vs c. c }

-- the same for the rest p of a list, whatever follows it: the first node is `first`, and so far the last is `last`
pub record Listing (src toks : List ℕ) (room : ℕ) (p : Part Action Rule) (first last₀ : ℕ) (s₀ : State) (tr₀ : List ℕ) (last : ℕ) (s : State) (tr : List ℕ) : Type 0 where
  pub ready : Ready src toks tr s 1
  pub on : s₀.at.0 ≤ s.at.0
  pub kept : s₀.nodes ≤ s.nodes
  pub spare : s.nodes + 2 * s₀.at.0 ≤ s₀.nodes + 2 * s.at.0
  pub long : length tr ≡ length tr₀
  pub node : last < s.nodes
  pub same : (out : Shape) (q : Part Action Rule) (vs ws : List Value) {a : Parsed} {t : List ℕ} → Comes src toks room (p ⨾ q) out vs (growing first last ∷ ws) s tr a t →
      Comes src toks room (p ⨾ q) out vs (growing first last₀ ∷ ws) s₀ tr₀ a t

pub begin_list : {src toks : List ℕ} {room : ℕ} {p : Part Action Rule} {first last : ℕ} {s : State} {tr : List ℕ} → Ready src toks tr s 1 → last < s.nodes → Listing src toks room p first last s tr last s tr
begin_list r l = record { ready = r; on = omega arith; kept = omega arith; spare = omega arith; long = refl; node = l; same = λ out q vs ws c. c }

-- the two answers of code that reads the rest of a list
module _ {src toks : List ℕ} {room : ℕ} {p : Part Action Rule} {ins : List Value} {s : State} {tr : List ℕ} {s' : State} {tr' : List ℕ} where
  pub lists_node : {n : NodeNumber} → Led src toks room p ins s tr n s' tr' → Lists src toks room p ins s tr (read n s') tr'
  lists_node {n} d = record {
    leads = λ n₁ s₁ e. let h = read_same e in rw (h.0, h.1) at d;
    stops = λ out x e q vs ws. let z : ◌≡◌ {A = ℕ} 0 1 = cc in absurd (omega arith);
  }

module _ {src toks : List ℕ} {room : ℕ} {p : Part Action Rule} {ins : List Value} {s : State} {tr tr' : List ℕ} where
  pub lists_stop : {x : Refused} → ((out : Shape) (q : Part Action Rule) (vs ws : List Value) → Comes src toks room (p ⨾ q) out vs (ins ++ ws) s tr (Err x) tr') → Lists src toks room p ins s tr (Err x) tr'
  lists_stop {x} f = record {
    leads = λ n₁ s₁ e. let z : ◌≡◌ {A = ℕ} 0 1 = cc in absurd (omega arith);
    stops = λ out x₁ e q vs ws. let h : x ≡ x₁ = cc in rw h at (f out q vs ws);
  }

-- where the list ends behind it
pub lists_done : {src toks : List ℕ} {room : ℕ} {p : Part Action Rule} {ins : List Value} {s : State} {tr : List ℕ} (r : Parsed) {tr' : List ℕ} → Lists src toks room p ins s tr r tr' → (vs : List Value) → Comes src toks room (p ⨾ act list_done) a_list vs (ins ++ vs) s tr r tr'
lists_done (Ok r) l vs = let d = l.leads r.0 r.1 refl in d.same a_list (act list_done) vs vs (list_last d.ready.used)
lists_done (Err x) l vs = l.stops a_list x refl (act list_done) vs vs
