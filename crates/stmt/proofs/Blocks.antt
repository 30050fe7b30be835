-- Laws for Lines and Blocks: what is repeated takes a token, parts pass the tests of their bounds, sets with one more symbol, and an answer that is
-- handed on as it is and stands for another value.
-- Assumes nothing.
use mathlib.Core.Path.{◌≡◌, refl, sym, ◌∙◌}
use mathlib.Core.Bool.{Bool, true, false, ◌||◌}
use mathlib.Core.List.{List, [], ◌∷◌, ◌++◌}
use Prim.Native.Nat.{ℕ, ◌+◌, ◌-◌, ◌*◌, ◌≤◌}
use native.Mathlib.Omega.{arith}
use lib.Dec.{T, eqb}
use lib.ListN.{length}
use Rattle.std.specs.Prelude.{Option, Some, Ok, Err}
use Rattle.grammar.specs.Sets.{mem}
use Rattle.grammar.specs.Grammar.{Part, act, call, many, ◌⨾◌}
use Rattle.grammar.specs.Descent.{null, begins}
use Rattle.grammar.specs.Check.{low, takes}
use Rattle.grammar.specs.Limits.{clean, credit, afford}
use Rattle.token.specs.Code as code
use Rattle.token.specs.declared.NodeNumber.{NodeNumber}
use Rattle.pyhyeon.specs.Machine.{Value, growing, one}
use Rattle.pyhyeon.specs.Action.{Action, list_one, list_join, list_done, perform}
use Rattle.pyhyeon.specs.Rules.{Rule, Line, newlines}
use Rattle.pyhyeon.specs.Tables.{first, first_line, least, rank, lines_on, pyhyeon}
use Rattle.pyhyeon.specs.Prices.{writes, needs, gives}
use Rattle.leaves.specs.declared.State.{State}
use Rattle.leaves.specs.declared.Refused.{Refused}
use Rattle.leaves.specs.Contract.{Parsed, read, a_node, a_list, a_growing, Rules, Comes, Parts}
use Rattle.lookahead.specs.Run.{Run}
use Rattle.lookahead.specs.Tokens.{text_before, symbol_at}
use Rattle.leaves.proofs.Frames.{frame_none}
use Rattle.joint.proofs.Chain.{◌⨟◌, is_used, act_last, part_then, part_stop, flat_then, flat_stop, many_on, many_end}
use Rattle.joint.proofs.Ends.{list_last}
use Rattle.joint.proofs.Counts.{Modest, Came, came_growing, pays_line}
use Rattle.joint.proofs.Loops.{ready_of}
use Rattle.joint.proofs.Passing.{moved, newlines_pass, run_text}
use Rattle.simple.specs.Parts.{Newest}
use Rattle.simple.specs.declared.Gathered.{Gathered}
use Rattle.simple.specs.Lists.{Held, Appended}
use Rattle.simple.proofs.Gathering.{Gathering, gathering_read, gathering_came, gathering_room, gathering_held, appended_then, held_list, held_later}
use Rattle.stmt.specs.Parts.{inside_on}

-- a further Line
abbrev pub further : Part Action Rule
further = call Line ⨾ newlines ⨾ act list_join

pub low_lines : T (low pyhyeon 100 100 (many further))
unfolding low takes least rank
low_lines = tt

pub modest_inside : Modest inside_on
unfolding clean low takes afford credit first least rank writes needs gives
modest_inside = record { tidy = tt; lower = tt; pays = tt }

pub modest_lines : Modest lines_on
unfolding clean low takes afford credit first least rank writes needs gives
modest_lines = record { tidy = tt; lower = tt; pays = tt }

-- a set with one more symbol before it
pub with_first : (n : ℕ) (set : List ℕ) (c : ℕ) → mem c (n ∷ []) ≡ true → mem c (n ∷ set) ≡ true
with_first n set c e = go (eqb c n) e
  where
    go : (b : Bool) → (b || false) ≡ true → (b || mem c set) ≡ true
    go true e = refl
    go false e = let z : ◌≡◌ {A = ℕ} 0 1 = cc in absurd (omega arith)

pub with_other : (n : ℕ) (set : List ℕ) (c : ℕ) → mem c (n ∷ []) ≡ false → mem c (n ∷ set) ≡ mem c set
with_other n set c e = go (eqb c n) e
  where
    go : (b : Bool) → (b || false) ≡ false → (b || mem c set) ≡ mem c set
    go true e = let z : ◌≡◌ {A = ℕ} 0 1 = cc in absurd (omega arith)
    go false e = refl

module _ {src toks : List ℕ} {room : ℕ} {p : Part Action Rule} {ins : List Value} {s : State} {tr tr' : List ℕ} where
  -- a node that was written last, as a list of one
  pub one_through : (a : Parsed) → Parts src toks room p ins a_node s tr a tr' → Newest a → (vs : List Value) → Comes src toks room (p ⨟ act list_one) a_growing vs (ins ++ vs) s tr a tr'
  unfolding perform one
  one_through (Ok r) reads w vs =
      let l : r.0.0 + 1 ≡ r.1.nodes = w.last r.0 r.1 refl in
      let d : r.1.nodes - 1 ≡ r.0.0 = omega arith in
      flat_then reads refl (act_last {out = a_growing} (rw d refl) refl refl frame_none (is_used (reads.comes vs).told refl))
  one_through (Err r) reads w vs = flat_stop _ vs reads refl

  -- a list in the making, as a whole one
  pub list_through : (a : Parsed) → Parts src toks room p ins a_growing s tr a tr' → (vs : List Value) → Comes src toks room (p ⨾ act list_done) a_list vs (ins ++ vs) s tr a tr'
  list_through (Ok r) reads vs = part_then reads refl (list_last (is_used (reads.comes vs).told refl))
  list_through (Err r) reads vs = part_stop vs reads refl

-- a Line, with what follows it; and the loop that reads Lines
abbrev pub item : Part Action Rule → Part Action Rule
item q = call Line ⨾ newlines ⨾ q

abbrev pub Reading : (src toks : List ℕ) → ℕ → State → List ℕ → Option Gathered → State → List ℕ → Type 0
Reading src toks room u tr₀ b st tr = Gathering src toks room 1 Line a_list lines_on item (many further ⨾ act list_done) u tr₀ b st tr

module _ {src toks : List ℕ} {room : ℕ} {u : State} {tr₀ : List ℕ} {b : Option Gathered} {st : State} {tr : List ℕ} (i : Reading src toks room u tr₀ b st tr) {inner : Parsed} {tr₁ : List ℕ} (c : Rules src toks room Line a_growing st tr inner tr₁) where
  -- the Line was refused
  pub lines_stop : {x : Refused} → inner ≡ Err x → (vs : List Value) → Comes src toks room lines_on a_list vs vs u tr₀ (Err x) tr₁
  lines_stop e vs = i.same vs (part_stop _ (gathering_read i c) e)

  -- it was read
  module _ {n : NodeNumber} {after : State} (e : inner ≡ read n after) where
    pub lines_came : Came src toks 10 a_growing st n after
    unfolding first rank
    lines_came = gathering_came i c pays_line refl e

    pub lines_room : length tr₁ ≡ length tr → 8 * after.nodes + 8 ≤ length tr₁
    unfolding first
    lines_room k = gathering_room i c pays_line refl e k

    -- the Newlines behind it are passed, up to `end`
    module _ {end : ℕ} (g : Run src toks (code.Newline ∷ []) after.at.0 end) where
      pub lines_held : Held b (moved after end)
      unfolding first
      lines_held = held_later (omega arith) (gathering_held i c pays_line refl e)

      used : after.used ≡ text_before src toks end
      used = let x = run_text (code.Newline ∷ []) refl refl i.ready.tokens g in lines_came.used ∙ sym x

      module _ {f : NodeNumber} {tr₂ : List ℕ} (j : Appended src toks b n (moved after end) tr₁ f tr₂) where
        -- what all comes to, by what is read behind them
        behind_is : {vs : List Value} {a : Parsed} {t : List ℕ} → Comes src toks room (many further ⨾ act list_done) a_list vs (growing f.0 (after.nodes - 1) ∷ vs) (moved after end) tr₂ a t → Comes src toks room lines_on a_list vs vs u tr₀ a t
        behind_is {vs} x = i.same vs (part_then (gathering_read i c) e (newlines_pass g (appended_then b j x)))

        -- no Line stands there; or one
        pub lines_end : mem (symbol_at src toks end) first_line ≡ false → (vs : List Value) → Comes src toks room lines_on a_list vs vs u tr₀ (read f (moved after end)) tr₂
        unfolding first begins null
        lines_end h vs = behind_is (many_end low_lines g.inside h (list_last used))

        pub lines_goes : length tr₁ ≡ length tr → length tr₂ ≡ length tr₁ → mem (symbol_at src toks end) first_line ≡ true → Reading src toks room u tr₀ (Some (record { first = f; last = record { 0 = after.nodes - 1 } })) (moved after end) tr₂
        unfolding first begins null
        lines_goes k k₂ h =
            let w = i.ready in
            let v = lines_came in
            record {
              ready = ready_of w.tokens (omega (arith, k, k₂, w.room), g.inside, omega (arith, w.nodes, v.nodes, g.order), omega (arith, w.opened, v.opened, g.order), used);
              begun = record { seen = h };
              on = omega (arith, i.on, v.on, g.order);
              long = k₂ ∙ k ∙ i.long;
              held = held_list (omega (arith, came_growing v));
              same = λ vs x. behind_is (many_on low_lines g.inside h x);
            }
