-- The same for expressions: what a node, or a list, tells of the state after it. An expression spares a node.
-- Assumes nothing.
use mathlib.Core.Path.{◌≡◌, refl}
use mathlib.Core.Bool.{false}
use mathlib.Core.List.{List, [], ◌∷◌, ◌++◌}
use Prim.Native.Nat.{ℕ, ◌+◌, ◌*◌, ◌≤◌, ◌<◌}
use native.Mathlib.Omega.{arith}
use lib.Dec.{T, leb, leb→le, ltb, ltb→lt}
use Rattle.grammar.specs.Sets.{mem}
use Rattle.grammar.specs.Grammar.{Part, call}
use Rattle.grammar.specs.Check.{takes, low}
use Rattle.grammar.specs.Limits.{clean, credit, afford}
use Rattle.token.specs.Code.{Eof}
use Rattle.token.specs.declared.NodeNumber.{NodeNumber}
use Rattle.pyhyeon.specs.Machine.{Value, node, count}
use Rattle.pyhyeon.specs.Action.{Action}
use Rattle.pyhyeon.specs.Rules.{Rule, E, A, C, S, P, U, F}
use Rattle.pyhyeon.specs.Tables.{first, least, rank, pyhyeon}
use Rattle.pyhyeon.specs.Prices.{needs, gives, prices}
use Rattle.pyhyeon.proofs.Meter.{owed}
use Rattle.pyhyeon.proofs.Held.{Fit, Held}
use Rattle.leaves.specs.declared.State.{State}
use Rattle.lookahead.specs.Tokens.{eof_at, text_before, Tokens}
use Rattle.leaves.specs.Contract.{Parsed, read, Shape, a_node, a_list, Rules, Parts}
use Rattle.joint.proofs.Counts.{Counted, Pays, pays, Taking, Modest, Passed, passed_node, passed_part, passed_start, counted_rule, counted_call, counted_part}

-- from a rule at s, with so many more rules to open on its token, to the node n and the state s'
pub record Grown (src toks : List ℕ) (high : ℕ) (s : State) (n : NodeNumber) (s' : State) : Type 0 where
  pub on : s.at.0 < s'.at.0
  pub here : s'.at.0 ≤ eof_at toks
  pub kept : s.nodes ≤ s'.nodes
  pub nodes : s'.nodes + 2 * s.at.0 + 1 ≤ s.nodes + 2 * s'.at.0
  pub opened : s'.opened + 10 * s.at.0 + 10 ≤ s.opened + high + 10 * s'.at.0
  pub node : n.0 < s'.nodes
  pub used : s'.used ≡ text_before src toks s'.at.0

-- the rules of expressions, each of which gives a node and spares one
pub data Spares : Rule → Type 0 where
  spares : {r : Rule} → least r ≡ 1 → gives r ≡ 1 → needs r ≡ 0 → Spares r

-- the rules of expressions do
module _ where
  pub spares_e : Spares E
  unfolding least gives needs
  spares_e = spares refl refl refl

  pub spares_a : Spares A
  unfolding least gives needs
  spares_a = spares refl refl refl

  pub spares_c : Spares C
  unfolding least gives needs
  spares_c = spares refl refl refl

  pub spares_s : Spares S
  unfolding least gives needs
  spares_s = spares refl refl refl

  pub spares_p : Spares P
  unfolding least gives needs
  spares_p = spares refl refl refl

  pub spares_u : Spares U
  unfolding least gives needs
  spares_u = spares refl refl refl

  pub spares_f : Spares F
  unfolding least gives needs
  spares_f = spares refl refl refl

-- The test of a part that is read on a token before the end: it opens no more rules than `high` on that one, and spares a node.
pub record Bounded (high : ℕ) (p : Part Action Rule) : Type 0 where
  pub few : T (leb high 10)
  pub some : T (ltb 0 (takes least p))
  pub tidy : T (clean pyhyeon Eof p)
  pub lower : T (low pyhyeon 10 high p)
  pub pays : T (afford prices 0 p)
  pub spared : T (leb 1 (credit prices 0 p))

-- from a part at s that may be absent to the state s'
pub record Went (src toks : List ℕ) (s s' : State) : Type 0 where
  pub on : s.at.0 ≤ s'.at.0
  pub here : s'.at.0 ≤ eof_at toks
  pub kept : s.nodes ≤ s'.nodes
  pub nodes : s'.nodes + 2 * s.at.0 ≤ s.nodes + 2 * s'.at.0
  pub opened : s'.opened + 10 * s.at.0 ≤ s.opened + 10 * s'.at.0
  pub used : s'.used ≡ text_before src toks s'.at.0

taking : {high : ℕ} {p : Part Action Rule} → Bounded high p → Taking high p
taking t = record { few = t.few; some = t.some; tidy = t.tidy; lower = t.lower; pays = t.pays }

paying : {r : Rule} → Spares r → Pays r
paying (spares l g k) = pays l k

spared_of : {r : Rule} → Spares r → 1 ≤ gives r
spared_of (spares l g k) = omega (arith, g)

module _ {src toks : List ℕ} {some high spare : ℕ} {s : State} {n : NodeNumber} {s' : State} where
  grown : 0 < some → 1 ≤ spare → Counted src toks some high spare a_node s n s' → Grown src toks high s n s'
  unfolding Fit
  grown l k g = record { on = omega arith; here = g.here; kept = g.kept; nodes = omega arith; opened = g.opened; node = g.held; used = g.used }

went : {src toks : List ℕ} {out : Shape} {s : State} {n : NodeNumber} {s' : State} → Passed src toks out s n s' → Went src toks s s'
went g = record { on = g.on; here = g.here; kept = g.kept; nodes = g.nodes; opened = g.opened; used = g.used }

module _ (src toks : List ℕ) (w : Tokens src toks) {room : ℕ} {s : State} {tr : List ℕ} {a : Parsed} {tr' : List ℕ} {n : NodeNumber} {s' : State} where
  pub after_rule : {r : Rule} → Spares r → s.at.0 < eof_at toks → Rules src toks room r a_node s tr a tr' → a ≡ read n s' → Grown src toks (rank r + 1) s n s'
  after_rule p h reads e = grown (omega arith) (spared_of p) (counted_rule src toks w (paying p) h reads e)

  pub after_call : {r : Rule} → Spares r → mem Eof (first r) ≡ false → s.at.0 ≤ eof_at toks → Parts src toks room (call r) [] a_node s tr a tr' → a ≡ read n s' → Grown src toks (rank r + 1) s n s'
  after_call p outside h reads e = grown (omega arith) (spared_of p) (counted_call src toks w (paying p) outside h reads e)

  module _ {p : Part Action Rule} where
    after_from : (ins : List Value) {high : ℕ} → Bounded high p → s.at.0 < eof_at toks → owed (ins ++ []) ≡ 0 → Held s.nodes (ins ++ []) → Parts src toks room p ins a_node s tr a tr' → a ≡ read n s' → Grown src toks high s n s'
    after_from ins t h none all reads e = grown (ltb→lt 0 (takes least p) t.some) (leb→le 1 (credit prices 0 p) t.spared) (counted_part src toks w ins (taking t) h none all reads e)

    pub after_part : {high : ℕ} (m : ℕ) → Bounded high p → s.at.0 < eof_at toks → m < s.nodes → Parts src toks room p (node m ∷ []) a_node s tr a tr' → a ≡ read n s' → Grown src toks high s n s'
    unfolding owed count Held Fit
    after_part m b h l reads e = after_from (node m ∷ []) b h refl (omega arith, tt) reads e

    pub after_start : {high : ℕ} → Bounded high p → s.at.0 < eof_at toks → Parts src toks room p [] a_node s tr a tr' → a ≡ read n s' → Grown src toks high s n s'
    unfolding owed Held
    after_start b h reads e = after_from [] b h refl tt reads e

    -- a list, from nothing at hand
    pub after_list : Modest p → s.at.0 ≤ eof_at toks → Parts src toks room p [] a_list s tr a tr' → a ≡ read n s' → Went src toks s s'
    after_list t h reads e = went (passed_start src toks w t h reads e)

    -- a part that takes a node and gives one
    pub after_node : (m : ℕ) → Modest p → s.at.0 ≤ eof_at toks → m < s.nodes → Parts src toks room p (node m ∷ []) a_node s tr a tr' → a ≡ read n s' → Went src toks s s' × (n.0 < s'.nodes)
    unfolding owed count Held Fit
    after_node m t h l reads e = let g = passed_part src toks w (node m ∷ []) t h refl (omega arith, tt) reads e in (went g, passed_node g)
