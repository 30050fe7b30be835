-- The loop that reads statements and links them: one law for simples and for Lines.
-- Assumes nothing.
use mathlib.Core.Path.{◌≡◌, refl}
use mathlib.Core.Bool.{false}
use mathlib.Core.List.{List, [], ◌∷◌, ◌++◌}
use Prim.Native.Nat.{ℕ, ◌+◌, ◌*◌, ◌≤◌, ◌<◌}
use native.Mathlib.Omega.{arith}
use lib.ListN.{length}
use Rattle.std.specs.Prelude.{Option, Some, None}
use Rattle.grammar.specs.Sets.{mem}
use Rattle.grammar.specs.Grammar.{Part, act, call, ◌⨾◌}
use Rattle.token.specs.Code.{Eof}
use Rattle.token.specs.declared.NodeNumber.{NodeNumber}
use Rattle.pyhyeon.specs.Machine.{Value, growing}
use Rattle.pyhyeon.specs.Action.{Action, list_join}
use Rattle.pyhyeon.specs.Rules.{Rule}
use Rattle.pyhyeon.specs.Tables.{first, rank}
use Rattle.leaves.specs.declared.State.{State}
use Rattle.leaves.specs.Contract.{Parsed, read, Shape, Rules, Comes, Parts, Ready, Begun, Changes}
use Rattle.lookahead.proofs.Tokens.{before_eof}
use Rattle.joint.proofs.Chain.{called}
use Rattle.joint.proofs.Counts.{Pays, Came, came_rule}
use Rattle.joint.proofs.Ends.{changed_then}
use Rattle.simple.specs.declared.Gathered.{Gathered}
use Rattle.simple.specs.Lists.{Held, Appended}

-- the values at hand before a statement, and what is done with it before q
abbrev pub hand : Option Gathered → List Value
hand None = []
hand (Some g) = growing g.first.0 g.last.0 ∷ []

abbrev pub joining : Option Gathered → Part Action Rule → Part Action Rule
joining None q = q
joining (Some g) q = act list_join ⨾ q

-- nothing stands before the first statement; a list before any other
pub held_none : (s : State) → Held None s
held_none s = record { last = λ g e. absurd cc }

pub held_list : {g : Gathered} {s : State} → g.last.0 < s.nodes → Held (Some g) s
held_list {g} h = record { last = λ g₁ e. let a : g ≡ g₁ = cc in rw (← a) h }

pub held_later : {b : Option Gathered} {s s' : State} → s.nodes ≤ s'.nodes → Held b s → Held b s'
held_later k w = record { last = λ g e. omega (arith, w.last g e, k) }

-- the answer of `append` behind a list
pub appended : {src toks : List ℕ} {g : Gathered} {n : NodeNumber} {s : State} {tr tr' : List ℕ} → ((m : ℕ) → Changes src toks list_join (growing n.0 m ∷ growing g.first.0 g.last.0 ∷ []) (growing g.first.0 m ∷ []) s tr tr') →
    Appended src toks (Some g) n s tr g.first tr'
appended {g = g} w = record { alone = λ e. absurd cc; both = λ g₁ e. let a : g ≡ g₁ = cc in rw (← a) (refl, w) }

-- once it is appended, whatever follows is read with the list of all at hand
module _ {src toks : List ℕ} {room : ℕ} {q : Part Action Rule} {out : Shape} {vs ws : List Value} {n : NodeNumber} {s : State} {tr tr' : List ℕ} {m : ℕ} {a : Parsed} {t : List ℕ} where
  pub appended_then : (b : Option Gathered) {r : NodeNumber} → Appended src toks b n s tr r tr' → Comes src toks room q out vs (growing r.0 m ∷ ws) s tr' a t → Comes src toks room (joining b q) out vs (growing n.0 m ∷ hand b ++ ws) s tr a t
  appended_then None j c = let e = j.alone refl in rw (e.0, e.1) at c
  appended_then (Some g) j c = let e = j.both g refl in changed_then ws (e.1 m) (rw e.0 at c)

-- The loop: before the statement of the rule x at st stands b, and whatever the rest comes to from there, the whole comes to from u. `item` is what a
-- statement is, with what follows it, and `rest` what follows the last.
pub record Gathering (src toks : List ℕ) (room more : ℕ) (x : Rule) (out : Shape) (whole : Part Action Rule) (item : Part Action Rule → Part Action Rule) (rest : Part Action Rule) (u : State) (tr₀ : List ℕ) (b : Option Gathered) (st : State) (tr : List ℕ) : Type 0 where
  pub ready : Ready src toks tr st more
  pub begun : Begun src toks st x
  pub on : u.at.0 ≤ st.at.0
  pub long : length tr ≡ length tr₀
  pub held : Held b st
  pub same : (vs : List Value) {a : Parsed} {t : List ℕ} → Comes src toks room (item (joining b rest)) out vs (hand b ++ vs) st tr a t → Comes src toks room whole out vs vs u tr₀ a t

pub gathering_starts : {src toks : List ℕ} {room more : ℕ} {x : Rule} {out : Shape} {item : Part Action Rule → Part Action Rule} {rest : Part Action Rule} {u : State} {tr : List ℕ} → Ready src toks tr u more → Begun src toks u x →
    Gathering src toks room more x out (item rest) item rest u tr None u tr
gathering_starts w b = record { ready = w; begun = b; on = omega arith; long = refl; held = held_none _; same = λ vs c. c }

module _ {src toks : List ℕ} {room more : ℕ} {x : Rule} {out : Shape} {whole : Part Action Rule} {item : Part Action Rule → Part Action Rule} {rest : Part Action Rule} {u : State} {tr₀ : List ℕ} {b : Option Gathered} {st : State} {tr : List ℕ} (i : Gathering src toks room more x out whole item rest u tr₀ b st tr) {mid : Shape} {inner : Parsed} {tr₁ : List ℕ} (c : Rules src toks room x mid st tr inner tr₁) where
  pub gathering_read : Parts src toks room (call x) [] mid st tr inner tr₁
  gathering_read = called i.ready.here i.begun.seen c

  -- the statement was read: there is room for the nodes, and it can be put behind what is gathered
  module _ {n : NodeNumber} {after : State} (p : Pays x) (outside : mem Eof (first x) ≡ false) (e : inner ≡ read n after) where
    pub gathering_came : Came src toks (rank x + 1) mid st n after
    gathering_came = came_rule _ _ i.ready.tokens p (before_eof (first x) outside i.ready.tokens i.ready.here i.begun.seen) c e

    pub gathering_room : length tr₁ ≡ length tr → 8 * after.nodes + 8 ≤ length tr₁
    gathering_room k = let w = i.ready in let g = gathering_came in omega (arith, k, w.room, w.nodes, g.nodes, g.here)

    pub gathering_held : Held b after
    gathering_held = held_later gathering_came.kept i.held
