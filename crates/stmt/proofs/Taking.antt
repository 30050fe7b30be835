-- A function that takes one token: what is known of the state past it, and what the rule's answer comes to by it.
-- Assumes nothing.
use Prim.Native.Nat.{ℕ, ◌+◌, ◌≤◌}
use mathlib.Core.Path.{◌≡◌, refl, sym, ◌∙◌}
use mathlib.Core.Bool.{true, false}
use mathlib.Core.List.{List, ◌∷◌}
use Rattle.std.specs.Prelude.{Result, Ok, Err}
use Rattle.grammar.specs.Sets.{mem}
use Rattle.grammar.specs.Grammar.{Part, act, tok, ◌⨾◌}
use Rattle.token.specs.Code.{Eof, String}
use Rattle.token.specs.declared.NodeNumber.{NodeNumber}
use Rattle.pyhyeon.specs.Machine.{Value, token, list}
use Rattle.pyhyeon.specs.Action.{Action, mark}
use Rattle.pyhyeon.specs.Rules.{Rule}
use Rattle.leaves.specs.declared.State.{State}
use Rattle.leaves.specs.declared.Refused.{Refused}
use Rattle.leaves.specs.declared.Refused.TheVariants as refused
use Rattle.leaves.specs.Contract.{Parsed, read, asked_for, past, Shape, a_list, Comes, Ready}
use Rattle.lookahead.specs.Tokens.{eof_at, text_before, symbol_at, Tokens}
use Rattle.lookahead.proofs.Tokens.{took}
use Rattle.joint.proofs.Chain.{tok_then, tok_not}
use Rattle.joint.proofs.Ends.{tok_mark}
use Rattle.joint.proofs.Seen.{tok_end, tok_no}
use Rattle.stmt.specs.Taking.{Takes}

-- one token further, with one rule more opened
abbrev pub opened_past : State → State
opened_past s = record { at = record { 0 = s.at.0 + 1 }; nodes = s.nodes; opened = s.opened + 1; used = s.used }

-- a symbol of the set stands at s, and s' is the state past it
pub record Stepped (src toks set : List ℕ) (s s' : State) : Type 0 where
  pub tokens : Tokens src toks
  pub here : s.at.0 ≤ eof_at toks
  pub seen : mem (symbol_at src toks s.at.0) set ≡ true
  pub past : s' ≡ past s
  pub at : s'.at.0 ≡ s.at.0 + 1
  pub nodes : s'.nodes ≡ s.nodes
  pub opened : s'.opened ≡ s.opened
  pub inside : s'.at.0 ≤ eof_at toks
  pub used : s'.used ≡ text_before src toks s'.at.0

-- a set with neither the end nor a String, whose text counts
module _ {src toks : List ℕ} {s s' : State} (set : List ℕ) (f : mem Eof set ≡ false) (g : mem String set ≡ false) where
  pub stepped : {r : Result State Refused} → Tokens src toks → s.at.0 ≤ eof_at toks → s.used ≡ text_before src toks s.at.0 → Takes (mem (symbol_at src toks s.at.0) set) s r → r ≡ Ok s' → Stepped src toks set s s'
  stepped w h u k e =
      let d = k.taken _ e in
      let l = took set f g w h d.1 in
      rw d.0 (record { tokens = w; here = h; seen = d.1; past = refl; at = refl; nodes = refl; opened = refl; inside = l.inside; used = u ∙ sym l.text })

  -- at a state that is ready; and behind another token
  pub stepped_ready : {r : Result State Refused} {tr : List ℕ} {extra : ℕ} → Ready src toks tr s extra → Takes (mem (symbol_at src toks s.at.0) set) s r → r ≡ Ok s' → Stepped src toks set s s'
  stepped_ready w k e = stepped w.tokens w.here w.used k e

  pub stepped_next : {r : Result State Refused} {one : List ℕ} {s₀ : State} → Stepped src toks one s₀ s → Takes (mem (symbol_at src toks s.at.0) set) s r → r ≡ Ok s' → Stepped src toks set s s'
  stepped_next w k e = stepped w.tokens w.inside w.used k e

module _ {src toks : List ℕ} {room : ℕ} {set : List ℕ} {s : State} {tr : List ℕ} where
  -- it was taken, and what follows is read past it
  module _ {s' : State} (d : Stepped src toks set s s') where
    pub step_then : {q : Part Action Rule} {out : Shape} {vs ws : List Value} {a : Parsed} {t : List ℕ} → Comes src toks room q out vs ws s' tr a t → Comes src toks room (tok set ⨾ q) out vs ws s tr a t
    step_then c = tok_then d.here d.seen (rw d.past at c)

    pub step_mark : {q : Part Action Rule} {out : Shape} {vs ws : List Value} {a : Parsed} {t : List ℕ} → Comes src toks room q out vs (token s.at.0 ∷ ws) s' tr a t → Comes src toks room (tok set ⨾ act mark ⨾ q) out vs ws s tr a t
    step_mark c = tok_mark d.here d.seen (rw d.past at c)

    pub step_end : {vs : List Value} {n : NodeNumber} → Comes src toks room (tok set) a_list vs (list n.0 ∷ vs) s tr (read n s') tr
    step_end = rw d.past (tok_end d.here d.seen (rw d.past at d.used))

  -- another symbol stands there
  module _ {e : Refused} {r : Result State Refused} (h : s.at.0 ≤ eof_at toks) (u : s.used ≡ text_before src toks s.at.0) (k : Takes (mem (symbol_at src toks s.at.0) set) s r) (i : r ≡ Err e) (m : asked_for set s ≡ refused.Misfit s) where
    pub step_not : {q : Part Action Rule} {out : Shape} {vs ws : List Value} → Comes src toks room (tok set ⨾ q) out vs ws s tr (Err e) tr
    step_not = let d = k.other _ i in rw d.0 (tok_not h u d.1 m)

    pub step_no : {out : Shape} {vs ws : List Value} → Comes src toks room (tok set) out vs ws s tr (Err e) tr
    step_no = let d = k.other _ i in rw d.0 (tok_no h u d.1 m)
