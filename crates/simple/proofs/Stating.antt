-- The loop that reads the one or two t of a statement.
-- Assumes nothing.
use mathlib.Core.Path.{◌≡◌, refl, sym, ◌∙◌}
use mathlib.Core.Bool.{Bool, true, false}
use mathlib.Core.List.{List, [], ◌∷◌, ◌++◌}
use Prim.Native.Nat.{ℕ, ◌≤◌, ◌<◌}
use native.Mathlib.Omega.{arith}
use lib.ListN.{length}
use Rattle.grammar.specs.Sets.{mem}
use Rattle.grammar.specs.Descent.{null, begins}
use Rattle.token.specs.Code as code
use Rattle.token.specs.declared.NodeNumber.{NodeNumber}
use Rattle.pyhyeon.specs.Machine.{Value, node}
use Rattle.pyhyeon.specs.Rules.{Simple, plain}
use Rattle.pyhyeon.specs.Tables.{joined, first, first_e, first_simple, t_joined}
use Rattle.leaves.specs.declared.State.{State}
use Rattle.leaves.specs.declared.Added.{Added}
use Rattle.lookahead.specs.Tokens.{eof_at, text_before, symbol_at}
use Rattle.std.specs.Prelude.{Err}
use Rattle.leaves.specs.declared.Refused.{Refused}
use Rattle.leaves.specs.Contract.{Parsed, read, past, a_node, Comes, Parts, Ready, Spot, Writes}
use Rattle.lookahead.proofs.Tests.{among_first, not_first}
use Rattle.joint.proofs.Chain.{raised, tok_then, part_then, part_stop}
use Rattle.joint.proofs.Choices.{absent, starts, or_first, or_next}
use Rattle.joint.proofs.Counts.{Came, came_fresh, came_node}
use Rattle.joint.proofs.Ends.{act_wrote, tok_mark}
use Rattle.joint.proofs.Loops.{ready_of}
use Rattle.simple.specs.declared.Role.{Role}
use Rattle.simple.specs.declared.Role.TheVariants as role
use Rattle.simple.specs.Roles.{does, behind, stated, hand, targets, Placed}
use Rattle.simple.proofs.Low.{modest_t, some_t}
use Rattle.joint.proofs.Taken.{Taken, taken, taken_ready}

-- where a target lies
placed_value : {n : NodeNumber} {s : State} → n.0 < s.nodes → Placed (role.Value n) s
placed_value {n} h = record { keyword = λ k e. absurd cc; target = λ n₁ e. let a : n ≡ n₁ = cc in rw (← a) h }

-- what is behind a t: its statement's node, or the value of a target
module _ {src toks : List ℕ} {room : ℕ} {s : State} {tr : List ℕ} {vs : List Value} {n : NodeNumber} (h : s.at.0 ≤ eof_at toks) where
  behind_ends : (r : Role) {made : Added} {tr' : List ℕ} → targets src toks s.at.0 r ≡ false → s.used ≡ text_before src toks s.at.0 → Writes src toks (does r) (node n.0 ∷ hand r) s tr made tr' →
      Comes src toks room (behind r) a_node vs (node n.0 ∷ hand r ++ vs) s tr (read made.0 made.1) tr'
  unfolding begins null
  behind_ends (role.Return k) f u w = act_wrote u w
  behind_ends role.First f u w = or_next h f (absent refl) (act_wrote u w)
  behind_ends (role.Value m) f u w = act_wrote u w

  behind_turns : (r : Role) {a : Parsed} {t : List ℕ} → targets src toks s.at.0 r ≡ true → Comes src toks room (stated (role.Value n)) a_node vs (node n.0 ∷ vs) (past s) tr a t →
      Comes src toks room (behind r) a_node vs (node n.0 ∷ hand r ++ vs) s tr a t
  unfolding begins null
  behind_turns (role.Return k) f c = absurd cc
  behind_turns role.First f c = or_first h f (tok_then h f c)
  behind_turns (role.Value m) f c = absurd cc

-- a target has its `=` behind it
target_seen : (src toks : List ℕ) (i : ℕ) (r : Role) → targets src toks i r ≡ true → mem (symbol_at src toks i) (code.Equal ∷ []) ≡ true
target_seen src toks i (role.Return k) f = absurd cc
target_seen src toks i role.First f = f
target_seen src toks i (role.Value n) f = absurd cc

-- The loop: the t at st has the role r, and whatever the statement comes to from there, it comes to from u, whose t has the role `what`.
pub record Stating (src toks : List ℕ) (room : ℕ) (what : Role) (u : State) (tr₀ : List ℕ) (r : Role) (st : State) (tr : List ℕ) : Type 0 where
  pub ready : Ready src toks tr st 3
  pub long : length tr ≡ length tr₀
  pub placed : Placed r st
  pub same : (vs : List Value) {a : Parsed} {t : List ℕ} → Comes src toks room (stated r) a_node vs (hand r ++ vs) st tr a t → Comes src toks room (stated what) a_node vs (hand what ++ vs) u tr₀ a t

module _ {src toks : List ℕ} {room : ℕ} {what : Role} {u : State} {tr₀ : List ℕ} {r : Role} {st : State} {tr : List ℕ} (i : Stating src toks room what u tr₀ r st tr) {inner : Parsed} {tr₁ : List ℕ} (c : Parts src toks room t_joined [] a_node st tr inner tr₁) where
  -- the t was refused
  pub stating_stops : {x : Refused} → inner ≡ Err x → (vs : List Value) → Comes src toks room (stated what) a_node vs (hand what ++ vs) u tr₀ (Err x) tr₁
  stating_stops e vs = i.same vs (part_stop _ c e)

  -- it was read
  module _ {n : NodeNumber} {after : State} (e : inner ≡ read n after) where
    pub stating_came : Came src toks 10 a_node st n after
    stating_came = came_fresh _ _ i.ready.tokens modest_t some_t i.ready.here c e

    module _ (k : length tr₁ ≡ length tr) where
      pub stating_spot : Spot toks tr₁ after
      stating_spot =
          let w = i.ready in
          let g = stating_came in
          record {
            some = omega (arith, g.on);
            token = omega (arith, g.here, w.tokens.whole);
            last = omega (arith, g.here);
            word = omega (arith, k, w.room, w.nodes, g.here, g.nodes);
            count = omega (arith, w.tokens.few, w.nodes, g.here, g.nodes);
          }

      pub stating_placed : Placed r after
      stating_placed =
          let g = stating_came in
          record { keyword = λ k₁ d. omega (arith, i.placed.keyword k₁ d, g.on); target = λ m d. omega (arith, i.placed.target m d, g.kept) }

      -- it is the statement's last
      pub stating_ends : {x : Bool} {made : Added} {tr₂ : List ℕ} → x ≡ targets src toks after.at.0 r → x ≡ false → Writes src toks (does r) (node n.0 ∷ hand r) after tr₁ made tr₂ → (vs : List Value) →
          Comes src toks room (stated what) a_node vs (hand what ++ vs) u tr₀ (read made.0 made.1) tr₂
      stating_ends d f w vs = i.same vs (part_then c e (behind_ends stating_came.here r (sym d ∙ f) stating_came.used w))

      -- it is a target
      pub stating_goes : {x : Bool} → x ≡ targets src toks after.at.0 r → x ≡ true → Stating src toks room what u tr₀ (role.Value n) (past after) tr₁
      stating_goes d f =
          let w = i.ready in
          let g = stating_came in
          let l : Taken src toks (code.Equal ∷ []) after = taken (code.Equal ∷ []) refl refl w.tokens g.here g.used (target_seen src toks after.at.0 r (sym d ∙ f)) in
          record {
            ready = ready_of w.tokens (omega (arith, k, w.room), l.inside, omega (arith, w.nodes, g.nodes), omega (arith, w.opened, g.opened), l.used);
            long = k ∙ i.long;
            placed = placed_value (came_node g);
            same = λ vs x. i.same vs (part_then c e (behind_turns g.here r (sym d ∙ f) x));
          }

-- Where the first t of a Simple that opened at s is read, and its role: behind `return`, or at once.
pub record Opening (src toks : List ℕ) (s : State) (tr : List ℕ) (r : Role) (st : State) : Type 0 where
  pub ready : Ready src toks tr st 3
  pub same : {room : ℕ} (vs : List Value) {a : Parsed} {t : List ℕ} → Comes src toks room (stated r) a_node vs (hand r ++ vs) st tr a t → Comes src toks room (joined Simple) a_node vs vs (raised s) tr a t

module _ {src toks : List ℕ} {s : State} {tr : List ℕ} (w : Ready src toks tr s 2) where
  pub opening_return : mem (symbol_at src toks s.at.0) (code.Return ∷ []) ≡ true → Opening src toks s tr (role.Return s.at) (past (raised s))
  unfolding joined plain first begins null
  opening_return e =
      let l = taken_ready (code.Return ∷ []) refl refl w e in
      record {
        ready = ready_of w.tokens (omega (arith, w.room), l.inside, omega (arith, w.nodes), omega (arith, w.opened), l.used);
        same = λ vs c. or_first w.here e (tok_mark w.here e c);
      }

  pub opening_first : mem (symbol_at src toks s.at.0) (code.Return ∷ []) ≡ false → mem (symbol_at src toks s.at.0) first_e ≡ true → Opening src toks s tr role.First (raised s)
  unfolding joined plain first begins null
  opening_first f e = record {
    ready = ready_of w.tokens (omega (arith, w.room), w.here, w.nodes, omega (arith, w.opened), w.used);
    same = λ vs c. or_next w.here f (starts (among_first first_e (code.Break ∷ code.Continue ∷ code.Pass ∷ []) (symbol_at src toks s.at.0) e)) (or_first w.here e c);
  }

  -- the same by the tests: the token's symbol k can begin a Simple, and is none of Return, Break, Continue and Pass
  pub opening_other : {k : ℕ} → k ≡ symbol_at src toks s.at.0 → (k ≡ 8 → ⊥) → (k ≡ 13 → ⊥) → (k ≡ 14 → ⊥) → (k ≡ 15 → ⊥) → mem (symbol_at src toks s.at.0) first_simple ≡ true → Opening src toks s tr role.First (raised s)
  opening_other x r b c p f =
      let n = not_first 8 (code.Break ∷ code.Continue ∷ code.Pass ∷ first_e) x r ∙ not_first 13 (code.Continue ∷ code.Pass ∷ first_e) x b ∙ not_first 14 (code.Pass ∷ first_e) x c ∙ not_first 15 first_e x p in
      opening_first (not_first 8 [] x r) (sym n ∙ f)
