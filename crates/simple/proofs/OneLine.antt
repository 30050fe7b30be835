-- The loop of simples: what stands behind a Simple.
-- Assumes nothing.
use mathlib.Core.Path.{◌≡◌, refl, ◌∙◌}
use mathlib.Core.Bool.{true, false}
use mathlib.Core.List.{List, [], ◌∷◌}
use Prim.Native.Nat.{ℕ, ◌+◌, ◌-◌, ◌*◌, ◌≤◌}
use native.Mathlib.Omega.{arith}
use lib.ListN.{length}
use Rattle.std.specs.Prelude.{Option, Some, Err}
use Rattle.grammar.specs.Sets.{mem}
use Rattle.grammar.specs.Grammar.{Part, act, call, ◌⨾◌, tail}
use Rattle.grammar.specs.Descent.{null, begins}
use Rattle.token.specs.Code as code
use Rattle.token.specs.declared.NodeNumber.{NodeNumber}
use Rattle.pyhyeon.specs.Machine.{Value, growing}
use Rattle.pyhyeon.specs.Action.{Action, list_one}
use Rattle.pyhyeon.specs.Rules.{Rule, Simple}
use Rattle.pyhyeon.specs.Rules as rules
use Rattle.pyhyeon.specs.Tables.{first, first_simple, rank}
use Rattle.leaves.specs.declared.State.{State}
use Rattle.lookahead.specs.Tokens.{symbol_at}
use Rattle.leaves.specs.declared.Refused.{Refused}
use Rattle.leaves.specs.Contract.{Parsed, read, past, a_node, a_growing, Rules, Comes, Parts}
use Rattle.joint.proofs.Chain.{part_then, part_stop, list_on, list_shut, list_end}
use Rattle.joint.proofs.Counts.{Came, came_node, pays_simple}
use Rattle.joint.proofs.Ends.{one_then}
use Rattle.joint.proofs.Loops.{ready_of}
use Rattle.simple.specs.declared.Gathered.{Gathered}
use Rattle.simple.specs.Parts.{Newest, line_end_lem}
use Rattle.simple.specs.Lists.{Appended}
use Rattle.simple.proofs.Low.{low_simples}
use Rattle.joint.proofs.Taken.{Taken}
use Rattle.simple.proofs.Gathering.{Gathering, gathering_read, gathering_came, gathering_room, appended_then, held_list}

-- all after the first Simple
abbrev simples_on : Part Action Rule
simples_on = tail code.Semicolon (rules.more (call Simple)) ⨾ line_end_lem

-- a Simple, with what follows it
abbrev pub item : Part Action Rule → Part Action Rule
item q = call Simple ⨾ act list_one ⨾ q

abbrev pub Reading : (src toks : List ℕ) → ℕ → State → List ℕ → Option Gathered → State → List ℕ → Type 0
Reading src toks room u tr₀ b st tr = Gathering src toks room 2 Simple a_growing rules.simples item simples_on u tr₀ b st tr

module _ {src toks : List ℕ} {room : ℕ} {u : State} {tr₀ : List ℕ} {b : Option Gathered} {st : State} {tr : List ℕ} (i : Reading src toks room u tr₀ b st tr) {inner : Parsed} {tr₁ : List ℕ} (c : Rules src toks room Simple a_node st tr inner tr₁) where
  -- it was refused
  pub simples_stop : {x : Refused} → inner ≡ Err x → (vs : List Value) → Comes src toks room rules.simples a_growing vs vs u tr₀ (Err x) tr₁
  simples_stop e vs = i.same vs (part_stop _ (gathering_read i c) e)

  module _ {n : NodeNumber} {after : State} (e : inner ≡ read n after) where
    pub simples_came : Came src toks 9 a_node st n after
    unfolding first rank
    simples_came = gathering_came i c pays_simple refl e

    pub simples_room : length tr₁ ≡ length tr → 8 * after.nodes + 8 ≤ length tr₁
    unfolding first
    simples_room k = gathering_room i c pays_simple refl e k

    module _ {f : NodeNumber} {tr₂ : List ℕ} (j : Appended src toks b n after tr₁ f tr₂) where
      -- what all comes to, by what is read behind the Simple
      behind_is : {vs : List Value} {a : Parsed} {t : List ℕ} → Comes src toks room simples_on a_growing vs (growing f.0 n.0 ∷ vs) after tr₂ a t → Comes src toks room rules.simples a_growing vs vs u tr₀ a t
      behind_is {vs} x = i.same vs (part_then (gathering_read i c) e (one_then (appended_then b j x)))

      -- no `;` stands behind it; or one, and no Simple
      module _ (w : Newest inner) where
        last_is : after.nodes - 1 ≡ n.0
        last_is = omega (arith, w.last n after e)

        pub simples_end : {a : Parsed} {t : List ℕ} → mem (symbol_at src toks after.at.0) (code.Semicolon ∷ []) ≡ false → Parts src toks room line_end_lem (growing f.0 (after.nodes - 1) ∷ []) a_growing after tr₂ a t → (vs : List Value) →
            Comes src toks room rules.simples a_growing vs vs u tr₀ a t
        simples_end h p vs = behind_is (list_end low_simples simples_came.here h (rw last_is at (p.comes vs)))

        pub simples_shut : {a : Parsed} {t : List ℕ} → Taken src toks (code.Semicolon ∷ []) after → mem (symbol_at src toks (after.at.0 + 1)) first_simple ≡ false →
            Parts src toks room line_end_lem (growing f.0 (after.nodes - 1) ∷ []) a_growing (past after) tr₂ a t → (vs : List Value) → Comes src toks room rules.simples a_growing vs vs u tr₀ a t
        unfolding first begins null
        simples_shut d g p vs = behind_is (list_shut low_simples d.inside d.seen g (rw last_is at (p.comes vs)))

      -- a `;` and a Simple stand behind it
      pub simples_goes : length tr₁ ≡ length tr → length tr₂ ≡ length tr₁ → Taken src toks (code.Semicolon ∷ []) after → mem (symbol_at src toks (after.at.0 + 1)) first_simple ≡ true →
          Reading src toks room u tr₀ (Some (record { first = f; last = n })) (past after) tr₂
      unfolding first begins null
      simples_goes k k₂ d g =
          let w = i.ready in
          let v = simples_came in
          record {
            ready = ready_of w.tokens (omega (arith, k, k₂, w.room), d.inside, omega (arith, w.nodes, v.nodes), omega (arith, w.opened, v.opened), d.used);
            begun = record { seen = g };
            on = omega (arith, i.on, v.on);
            long = k₂ ∙ k ∙ i.long;
            held = held_list (came_node v);
            same = λ vs x. behind_is (list_on low_simples d.inside d.seen g x);
          }
