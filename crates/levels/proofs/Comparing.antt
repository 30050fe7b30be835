-- The level of comparisons, C: its operands make a chain.
-- Assumes nothing.
use mathlib.Core.Path.{◌≡◌, refl}
use mathlib.Core.Bool.{true, false}
use mathlib.Core.List.{List, [], ◌∷◌, ◌++◌}
use Prim.Native.Nat.{ℕ, ◌≤◌, ◌<◌}
use native.Mathlib.Omega.{arith}
use lib.Dec.{T}
use Rattle.grammar.specs.Sets.{mem}
use Rattle.grammar.specs.Grammar.{Part, skip, act, tok, call, many, ◌⨾◌, ◌∕◌}
use Rattle.grammar.specs.Descent.{null, begins}
use Rattle.grammar.specs.Check.{low, takes}
use Rattle.token.specs.declared.TokenNumber.{TokenNumber}
use Rattle.token.specs.declared.NodeNumber.{NodeNumber}
use Rattle.pyhyeon.specs.Machine.{Value, token, node, chain}
use Rattle.pyhyeon.specs.Action.{Action, mark, compare, compare_more, compared}
use Rattle.pyhyeon.specs.Rules.{Rule, S, comparisons}
use Rattle.pyhyeon.specs.Tables.{first, least, rank, pyhyeon}
use Rattle.leaves.specs.declared.State.{State}
use Rattle.leaves.specs.declared.Added.{Added}
use Rattle.lookahead.specs.Tokens.{eof_at, text_before, symbol_at}
use Rattle.leaves.specs.Contract.{Parsed, read, past, added, a_node, Comes}
use Rattle.joint.proofs.Chain.{act_then, skip_end, many_on, many_end}
use Rattle.joint.proofs.Choices.{absent, or_first, or_next}
use Rattle.joint.proofs.Ends.{tok_mark, compared_last}
use Rattle.levels.specs.declared.Level.TheVariants as level
use Rattle.levels.specs.declared.Chain.{Chain}
use Rattle.levels.specs.declared.Chain.TheVariants as links
use Rattle.levels.specs.Levels.{lengthened, Hung, Chains, Compared}
use Rattle.levels.proofs.Operands.{Joint, Goes, goes_alone}

-- a further comparison; all of these; and the first one with these, behind an operand
abbrev further : Part Action Rule
further = tok comparisons ⨾ act mark ⨾ call S ⨾ act compare_more

abbrev chained : Part Action Rule
chained = many further ⨾ act compared

abbrev compares : Part Action Rule
compares = tok comparisons ⨾ act mark ⨾ call S ⨾ act compare ⨾ chained ∕ skip

low_further : T (low pyhyeon 100 100 (many further))
unfolding low takes least rank
low_further = tt

-- the operator and the nodes lie before the state
pub hung_none : (s : State) → Hung links.Nothing s
hung_none s = record { first = λ o l e. let z : ◌≡◌ {A = ℕ} 0 1 = cc in absurd (omega arith); further = λ o l x e. let z : ◌≡◌ {A = ℕ} 0 1 = cc in absurd (omega arith) }

hung_first : {s : State} {op : TokenNumber} {l : NodeNumber} → op.0 < s.at.0 → l.0 < s.nodes → Hung (links.First op l) s
hung_first {s} {op} {l} h k = record {
  first = λ o₁ l₁ e. let a : op ≡ o₁ = cc in let b : l ≡ l₁ = cc in rw (← a, ← b) (h, k);
  further = λ o l x e. let z : ◌≡◌ {A = ℕ} 0 1 = cc in absurd (omega arith);
}

hung_further : {s : State} {op : TokenNumber} {l x : NodeNumber} → op.0 < s.at.0 → l.0 < s.nodes → x.0 < s.nodes → Hung (links.Further op l x) s
hung_further {s} {op} {l} {x} h k p = record {
  first = λ o l e. let z : ◌≡◌ {A = ℕ} 0 1 = cc in absurd (omega arith);
  further = λ o₁ l₁ x₁ e. let a : op ≡ o₁ = cc in let b : l ≡ l₁ = cc in let d : x ≡ x₁ = cc in rw (← a, ← b, ← d) (h, k, p);
}

pub hung_next : (b : Chain) {op : TokenNumber} {m n : NodeNumber} {s : State} → op.0 < s.at.0 → m.0 < s.nodes → n.0 < s.nodes → Hung (lengthened b op m n) s
hung_next links.Nothing h k p = hung_first h k
hung_next (links.First o l) h k p = hung_further h k p
hung_next (links.Further o l x) h k p = hung_further h k p

pub hung_later : (b : Chain) {s s' : State} → s.at.0 ≤ s'.at.0 → s.nodes ≤ s'.nodes → Hung b s → Hung b s'
hung_later b h k w = record {
  first = λ o l e. let p = w.first o l e in (omega (arith, h, p.0), omega (arith, k, p.1));
  further = λ o l x e. let p = w.further o l x e in (omega (arith, h, p.0), omega (arith, k, p.1), omega (arith, k, p.2));
}

-- the values at hand before the operand, and what is left behind its call; what is left once it is compared, and the value then at hand
abbrev hand : Chain → List Value
hand links.Nothing = []
hand (links.First op l) = token op.0 ∷ node l.0 ∷ []
hand (links.Further op l x) = token op.0 ∷ chain l.0 x.0 ∷ []

abbrev rest : Chain → Part Action Rule
rest links.Nothing = compares
rest (links.First op l) = act compare ⨾ chained
rest (links.Further op l x) = act compare_more ⨾ chained

abbrev behind : Chain → Part Action Rule
behind links.Nothing = compares
behind (links.First op l) = chained
behind (links.Further op l x) = chained

abbrev value : Chain → ℕ → ℕ → Value
value links.Nothing m n = node m
value (links.First op l) m n = chain m n
value (links.Further op l x) m n = chain m n

module _ {src toks : List ℕ} {room : ℕ} {s : State} {tr : List ℕ} {vs : List Value} where
  pub compares_end : (b : Chain) (m n : NodeNumber) → s.at.0 ≤ eof_at toks → mem (symbol_at src toks s.at.0) comparisons ≡ false → s.used ≡ text_before src toks s.at.0 → Comes src toks room (behind b) a_node vs (value b m.0 n.0 ∷ vs) s tr (read m s) tr
  unfolding first begins null
  compares_end links.Nothing m n h f u = or_next h f (absent refl) (skip_end u)
  compares_end (links.First o l) m n h f u = many_end low_further h f (compared_last u)
  compares_end (links.Further o l x) m n h f u = many_end low_further h f (compared_last u)

  pub compares_turn : (b : Chain) (m n : NodeNumber) {a : Parsed} {t : List ℕ} → s.at.0 ≤ eof_at toks → mem (symbol_at src toks s.at.0) comparisons ≡ true →
      Comes src toks room (call S ⨾ rest (lengthened b s.at m n)) a_node vs (hand (lengthened b s.at m n) ++ vs) (past s) tr a t → Comes src toks room (behind b) a_node vs (value b m.0 n.0 ∷ vs) s tr a t
  unfolding first begins null
  compares_turn links.Nothing m n h f c = or_first h f (tok_mark h f c)
  compares_turn (links.First o l) m n h f c = many_on low_further h f (tok_mark h f c)
  compares_turn (links.Further o l x) m n h f c = many_on low_further h f (tok_mark h f c)

abbrev pub comparing : Joint Chain
comparing = record {
  level = level.Comparison;
  nothing = links.Nothing;
  held = Hung;
  body = call S ⨾ compares;
  rest = rest;
  behind = behind;
  hand = hand;
  value = value;
  next = lengthened;
  begun = hung_none;
  later = hung_later;
  hung = hung_next;
  starts = λ vs c. c;
  alone = λ c. c;
  ends = λ b m n h f u. compares_end b m n h f u;
  turns = λ b m n h f c. compares_turn b m n h f c;
}

goes_first : {src toks : List ℕ} {op : TokenNumber} {l n : NodeNumber} {s : State} {tr : List ℕ} {r : Added} {tr' : List ℕ} → Chains src toks compare (node n.0 ∷ token op.0 ∷ node l.0 ∷ []) n.0 s tr r (added s) tr' → Goes comparing src toks (links.First op l) n s tr r tr'
goes_first w = record {
  at = rw w.after;
  opened = rw w.after;
  used = rw w.after;
  nodes = rw w.after (omega arith, omega arith);
  there = λ h. rw w.after (omega (arith, w.node));
  same = λ c. act_then (w.same _) refl refl w.frame (rw w.after at c);
}

goes_further : {src toks : List ℕ} {op : TokenNumber} {l x n : NodeNumber} {s : State} {tr : List ℕ} {r : Added} {tr' : List ℕ} → Chains src toks compare_more (node n.0 ∷ token op.0 ∷ chain l.0 x.0 ∷ []) n.0 s tr r (added (added s)) tr' → Goes comparing src toks (links.Further op l x) n s tr r tr'
goes_further w = record {
  at = rw w.after;
  opened = rw w.after;
  used = rw w.after;
  nodes = rw w.after (omega arith, omega arith);
  there = λ h. rw w.after (omega (arith, w.node));
  same = λ c. act_then (w.same _) refl refl w.frame (rw w.after at c);
}

pub goes : {src toks : List ℕ} (b : Chain) {n : NodeNumber} {s : State} {tr : List ℕ} {r : Added} {tr' : List ℕ} → Compared src toks b n s tr r tr' → Goes comparing src toks b n s tr r tr'
goes links.Nothing j = let e = j.alone refl in rw (e.0, e.1) (goes_alone comparing)
goes (links.First op l) j = goes_first (j.first op l refl)
goes (links.Further op l x) j = goes_further (j.further op l x refl)
