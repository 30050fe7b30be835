-- The loop that reads the operands of a level: one law for the five of them.
-- Assumes nothing.
use mathlib.Core.Path.{◌≡◌, refl, ap, sym, ◌∙◌}
use mathlib.Core.Bool.{true, false}
use mathlib.Core.List.{List, [], ◌∷◌, ◌++◌}
use Prim.Native.Nat.{ℕ, ◌+◌, ◌≤◌, ◌<◌}
use native.Mathlib.Omega.{arith}
use lib.ListN.{length}
use lib.ListN as ListN
use Rattle.grammar.specs.Sets.{mem}
use Rattle.grammar.specs.Grammar.{Part, call, ◌⨾◌}
use Rattle.token.specs.declared.TokenNumber.{TokenNumber}
use Rattle.token.specs.declared.NodeNumber.{NodeNumber}
use Rattle.pyhyeon.specs.Machine.{Value, node}
use Rattle.pyhyeon.specs.Action.{Action}
use Rattle.pyhyeon.specs.Rules.{Rule}
use Rattle.pyhyeon.specs.Tables.{first_u, rank}
use Rattle.leaves.specs.declared.State.{State}
use Rattle.leaves.specs.declared.Added.{Added}
use Rattle.lookahead.specs.Tokens.{eof_at, text_before, symbol_at}
use Rattle.std.specs.Prelude.{Err}
use Rattle.leaves.specs.declared.Refused.{Refused}
use Rattle.leaves.specs.declared.Refused.TheVariants as refused
use Rattle.leaves.specs.Contract.{Parsed, read, asked_for, past, added, a_node, Rules, Comes, Parts, Ready, Spot}
use Rattle.lookahead.proofs.Tokens.{before_eof, Took, took}
use Rattle.joint.proofs.Bounds.{Grown, after_rule}
use Rattle.joint.proofs.Chain.{called, not_called, part_then, part_stop}
use Rattle.joint.proofs.Loops.{ready_of}
use Rattle.levels.specs.declared.Level.{Level}
use Rattle.levels.specs.Levels.{operators}
use Rattle.levels.proofs.Operators.{operand, first_same, spares_level, no_eof, no_string}

-- How a level's operands are joined. What stands before an operand is a B, nothing at first; `held` says that it lies before a state.
pub record Joint (B : Type 0) : Type 1 where
  pub level : Level
  pub nothing : B
  pub held : B → State → Type 0
  -- the rule's body; what is left of it behind the call of the operand; and once the operand is joined to what stands before it
  pub body : Part Action Rule
  pub rest : B → Part Action Rule
  pub behind : B → Part Action Rule
  -- the values at hand before the operand; that of the node m of all so far, whose last operand is n; and what then stands before the next one
  pub hand : B → List Value
  pub value : B → ℕ → ℕ → Value
  pub next : B → TokenNumber → NodeNumber → NodeNumber → B
  pub begun : (s : State) → held nothing s
  pub later : (b : B) {s s' : State} → s.at.0 ≤ s'.at.0 → s.nodes ≤ s'.nodes → held b s → held b s'
  pub hung : (b : B) {op : TokenNumber} {m n : NodeNumber} {s : State} → op.0 < s.at.0 → m.0 < s.nodes → n.0 < s.nodes → held (next b op m n) s
  -- before the first operand nothing is at hand, and it stays as it is; no operator stands behind an operand; one does
  pub starts : {src toks : List ℕ} {room : ℕ} (vs : List Value) {s : State} {tr : List ℕ} {a : Parsed} {t : List ℕ} → Comes src toks room (call (operand level) ⨾ rest nothing) a_node vs (hand nothing ++ vs) s tr a t → Comes src toks room body a_node vs vs s tr a t
  pub alone : {src toks : List ℕ} {room : ℕ} {n : NodeNumber} {s : State} {tr : List ℕ} {vs : List Value} {a : Parsed} {t : List ℕ} → Comes src toks room (behind nothing) a_node vs (value nothing n.0 n.0 ∷ vs) s tr a t → Comes src toks room (rest nothing) a_node vs (node n.0 ∷ hand nothing ++ vs) s tr a t
  pub ends : (b : B) (m n : NodeNumber) {src toks : List ℕ} {room : ℕ} {s : State} {tr : List ℕ} {vs : List Value} → s.at.0 ≤ eof_at toks → mem (symbol_at src toks s.at.0) (operators level) ≡ false → s.used ≡ text_before src toks s.at.0 →
      Comes src toks room (behind b) a_node vs (value b m.0 n.0 ∷ vs) s tr (read m s) tr
  pub turns : (b : B) (m n : NodeNumber) {src toks : List ℕ} {room : ℕ} {s : State} {tr : List ℕ} {vs : List Value} {a : Parsed} {t : List ℕ} → s.at.0 ≤ eof_at toks → mem (symbol_at src toks s.at.0) (operators level) ≡ true →
      Comes src toks room (call (operand level) ⨾ rest (next b s.at m n)) a_node vs (hand (next b s.at m n) ++ vs) (past s) tr a t → Comes src toks room (behind b) a_node vs (value b m.0 n.0 ∷ vs) s tr a t

-- The operand n is joined to what stands before it: whatever follows is read with that at hand.
pub record Goes {B : Type 0} (g : Joint B) (src toks : List ℕ) (b : B) (n : NodeNumber) (s : State) (tr : List ℕ) (r : Added) (tr' : List ℕ) : Type 0 where
  pub at : r.1.at ≡ s.at
  pub opened : r.1.opened ≡ s.opened
  pub used : r.1.used ≡ s.used
  pub nodes : (s.nodes ≤ r.1.nodes) × (r.1.nodes ≤ s.nodes + 2)
  pub there : n.0 < s.nodes → r.0.0 < r.1.nodes
  pub same : {room : ℕ} {vs : List Value} {a : Parsed} {t : List ℕ} → Comes src toks room (g.behind b) a_node vs (g.value b r.0.0 n.0 ∷ vs) r.1 tr' a t → Comes src toks room (g.rest b) a_node vs (node n.0 ∷ g.hand b ++ vs) s tr a t

pub goes_alone : {B : Type 0} (g : Joint B) {src toks : List ℕ} {n : NodeNumber} {s : State} {tr : List ℕ} → Goes g src toks g.nothing n s tr (record { 0 = n; 1 = s }) tr
goes_alone g = record { at = refl; opened = refl; used = refl; nodes = (omega arith, omega arith); there = λ h. h; same = λ c. g.alone c }

-- The loop: before the operand at st stands b, and whatever the rest comes to from there, the body comes to from u. The operand's rule may begin with
-- `more` openings beyond ten a token.
pub record Reading {B : Type 0} (g : Joint B) (src toks : List ℕ) (room more : ℕ) (u : State) (tr₀ : List ℕ) (b : B) (st : State) (tr : List ℕ) : Type 0 where
  pub ready : Ready src toks tr st more
  pub seen : mem (symbol_at src toks st.at.0) first_u ≡ true
  pub few : more + rank (operand g.level) ≤ 10
  pub on : u.at.0 ≤ st.at.0
  pub long : length tr ≡ length tr₀
  pub held : g.held b st
  pub same : (vs : List Value) {a : Parsed} {t : List ℕ} → Comes src toks room (call (operand g.level) ⨾ g.rest b) a_node vs (g.hand b ++ vs) st tr a t → Comes src toks room g.body a_node vs vs u tr₀ a t

pub reading_starts : {B : Type 0} (g : Joint B) {src toks : List ℕ} {room more : ℕ} {u : State} {tr : List ℕ} → Ready src toks tr u more → mem (symbol_at src toks u.at.0) first_u ≡ true → more + rank (operand g.level) ≤ 10 → Reading g src toks room more u tr g.nothing u tr
reading_starts g r f few = record { ready = r; seen = f; few = few; on = omega arith; long = refl; held = g.begun _; same = λ vs c. g.starts vs c }

module _ {B : Type 0} {g : Joint B} {src toks : List ℕ} {room more : ℕ} {u : State} {tr₀ : List ℕ} {b : B} {st : State} {tr : List ℕ} (i : Reading g src toks room more u tr₀ b st tr) {inner : Parsed} {tr₁ : List ℕ} (c : Rules src toks room (operand g.level) a_node st tr inner tr₁) where
  read_as : Parts src toks room (call (operand g.level)) [] a_node st tr inner tr₁
  read_as = called i.ready.here (rw (first_same g.level) i.seen) c

  -- the operand was refused
  pub reading_stops : {x : Refused} → inner ≡ Err x → (vs : List Value) → Comes src toks room g.body a_node vs vs u tr₀ (Err x) tr₁
  reading_stops e vs = i.same vs (part_stop _ read_as e)

-- the operand n was read
pub record Operand {B : Type 0} (g : Joint B) : Type 0 where
  pub src : List ℕ
  pub toks : List ℕ
  pub room : ℕ
  pub more : ℕ
  pub u : State
  pub tr₀ : List ℕ
  pub b : B
  pub st : State
  pub tr : List ℕ
  pub inner : Parsed
  pub n : NodeNumber
  pub after : State
  pub tr₁ : List ℕ
  pub reading : Reading g src toks room more u tr₀ b st tr
  pub rule : Rules src toks room (operand g.level) a_node st tr inner tr₁
  pub node : inner ≡ read n after
  pub length : ListN.length tr₁ ≡ ListN.length tr

abbrev pub operand_read : {B : Type 0} {g : Joint B} {src toks : List ℕ} {room more : ℕ} {u : State} {tr₀ : List ℕ} {b : B} {st : State} {tr : List ℕ} {inner : Parsed} {n : NodeNumber} {after : State} {tr₁ : List ℕ} → Reading g src toks room more u tr₀ b st tr → Rules src toks room (operand g.level) a_node st tr inner tr₁ → inner ≡ read n after → length tr₁ ≡ length tr → Operand g
operand_read i c e k = record { src = _; toks = _; room = _; more = _; u = _; tr₀ = _; b = _; st = _; tr = _; inner = _; n = _; after = _; tr₁ = _; reading = i; rule = c; node = e; length = k }

module _ {B : Type 0} {g : Joint B} (w : Operand g) where
  grown : Grown w.src w.toks (rank (operand g.level) + 1) w.st w.n w.after
  grown =
      let r = w.reading.ready in
      after_rule _ _ r.tokens (spares_level g.level) (before_eof first_u refl r.tokens r.here w.reading.seen) w.rule w.node

  -- it can be joined to what stands before it: there is room for a node, and for a second one
  pub operand_spot : Spot w.toks w.tr₁ w.after
  operand_spot =
      let r = w.reading.ready in
      let g = grown in
      record {
        some = omega (arith, g.on);
        token = omega (arith, g.here, r.tokens.whole);
        last = omega (arith, g.here);
        word = omega (arith, w.length, r.room, r.nodes, g.on, g.here, g.nodes);
        count = omega (arith, r.tokens.few, r.nodes, g.on, g.here, g.nodes);
      }

  pub operand_next : Spot w.toks w.tr₁ (added w.after)
  operand_next =
      let r = w.reading.ready in
      let g = grown in
      let p = operand_spot in
      record { some = p.some; token = p.token; last = p.last; word = omega (arith, w.length, r.room, r.nodes, g.on, g.here, g.nodes); count = omega (arith, r.tokens.few, r.nodes, g.on, g.here, g.nodes) }

  pub operand_held : g.held w.b w.after
  operand_held = g.later w.b (omega (arith, grown.on)) grown.kept w.reading.held

-- and joined to what stands before it, as the node `made`
pub record Turn {B : Type 0} (g : Joint B) : Type 0 where
  pub of : Operand g
  pub made : Added
  pub tr₂ : List ℕ
  pub goes : Goes g of.src of.toks of.b of.n of.after of.tr₁ made tr₂
  pub length : ListN.length tr₂ ≡ ListN.length of.tr₁

module _ {B : Type 0} {g : Joint B} (w : Turn g) where
  abbrev o : Operand g
  o = w.of

  abbrev i : Reading g o.src o.toks o.room o.more o.u o.tr₀ o.b o.st o.tr
  i = o.reading

  -- what the body comes to, from the state u on
  abbrev pub Body : List Value → Parsed → List ℕ → Type 0
  Body vs a t = Comes o.src o.toks o.room g.body a_node vs vs o.u o.tr₀ a t

  -- by what is read behind the operand
  behind_is : {vs : List Value} {a : Parsed} {t : List ℕ} → Comes o.src o.toks o.room (g.behind o.b) a_node vs (g.value o.b w.made.0.0 o.n.0 ∷ vs) w.made.1 w.tr₂ a t → Body vs a t
  behind_is {vs} x = i.same vs (part_then (read_as i o.rule) o.node (w.goes.same x))

  pub turn_long : ListN.length w.tr₂ ≡ ListN.length o.tr₀
  turn_long = w.length ∙ o.length ∙ i.long

  at_same : w.made.1.at.0 ≡ o.after.at.0
  at_same = ap (λ (x : TokenNumber). x.0) w.goes.at

  pub turn_here : w.made.1.at.0 ≤ eof_at o.toks
  turn_here = omega (arith, at_same, (grown o).here)

  used : w.made.1.used ≡ text_before o.src o.toks w.made.1.at.0
  used = w.goes.used ∙ (grown o).used ∙ ap (text_before o.src o.toks) (sym at_same)

  -- no operator stands behind it
  pub turn_ends : mem (symbol_at o.src o.toks w.made.1.at.0) (operators g.level) ≡ false → (vs : List Value) → Body vs (read w.made.0 w.made.1) w.tr₂
  turn_ends f vs = behind_is (g.ends o.b w.made.0 o.n turn_here f used)

  -- an operator does, and behind that no operand, or one
  module _ {on : State} (d : on ≡ past w.made.1) (f : mem (symbol_at o.src o.toks w.made.1.at.0) (operators g.level) ≡ true) where
    taken : Took o.src o.toks w.made.1.at.0
    taken = took (operators g.level) (no_eof g.level) (no_string g.level) i.ready.tokens turn_here f

    pub turn_misses : mem (symbol_at o.src o.toks (w.made.1.at.0 + 1)) first_u ≡ false → (vs : List Value) → Body vs (Err (refused.Missing on)) w.tr₂
    turn_misses h vs = rw d (behind_is (g.turns o.b w.made.0 o.n turn_here f (part_stop _ (not_called taken.inside (used ∙ sym taken.text) (rw (first_same g.level) h) (ap (λ (z : List ℕ). asked_for z (past w.made.1)) (first_same g.level))) refl)))

    pub turn_less : o.st.at.0 < on.at.0
    turn_less = rw d (omega (arith, at_same, (grown o).on))

    pub turn_goes : mem (symbol_at o.src o.toks (w.made.1.at.0 + 1)) first_u ≡ true → Reading g o.src o.toks o.room o.more o.u o.tr₀ (g.next o.b w.made.1.at w.made.0 o.n) on w.tr₂
    turn_goes h =
        let r = i.ready in
        let v = grown o in
        let j = w.goes in
        rw d (record {
          ready = ready_of r.tokens (omega (arith, w.length, o.length, r.room), taken.inside, omega (arith, r.nodes, v.nodes, j.nodes.1, at_same), omega (arith, r.opened, i.few, v.opened, j.opened, at_same), used ∙ sym taken.text);
          seen = h;
          few = i.few;
          on = omega (arith, i.on, v.on, at_same);
          long = turn_long;
          held = g.hung o.b (omega arith) (j.there v.node) (omega (arith, v.node, j.nodes.0));
          same = λ vs x. behind_is (g.turns o.b w.made.0 o.n turn_here f x);
        })
