-- The ways to join an operand to what stands before it: two for the levels that group left, three for comparisons.
-- Assumes nothing.
use mathlib.Core.Path.{◌≡◌, refl}
use mathlib.Core.List.{List, [], ◌∷◌}
use Prim.Native.Nat.{ℕ}
use native.Mathlib.Omega.{arith}
use Rattle.token.specs.declared.TokenNumber.{TokenNumber}
use Rattle.token.specs.declared.NodeNumber.{NodeNumber}
use Rattle.pyhyeon.specs.Machine.{token, node, chain}
use Rattle.pyhyeon.specs.Action.{binary, compare, compare_more}
use Rattle.std.specs.Prelude.{Some, None}
use Rattle.leaves.specs.declared.State.{State}
use Rattle.leaves.specs.declared.Added.{Added}
use Rattle.leaves.specs.Contract.{added, Spot, Writes, Joins}
use Rattle.leaves.proofs.Frames.{frame_then}
use Rattle.joint.proofs.Ends.{compare_is, compare_more_is}
use Rattle.levels.specs.declared.Left.{Left}
use Rattle.levels.specs.declared.Chain.TheVariants as links
use Rattle.levels.specs.Levels.{Joined, Chains, Compared}

-- where there is room for a second node, there is for the first
pub spot_less : {toks tr : List ℕ} {s : State} → Spot toks tr (added s) → Spot toks tr s
spot_less p = record { some = p.some; token = p.token; last = p.last; word = omega (arith, p.word); count = omega (arith, p.count) }

-- joined to nothing, and by an operator
pub joined_none : {src toks : List ℕ} {n : NodeNumber} {s : State} {tr : List ℕ} → Joined src toks None n s tr (record { 0 = n; 1 = s }) tr
joined_none = record { alone = λ e. (refl, refl); both = λ x e. let z : ◌≡◌ {A = ℕ} 0 1 = cc in absurd (omega arith) }

pub joined_one : {src toks : List ℕ} {x : Left} {n : NodeNumber} {s : State} {tr : List ℕ} {r : Added} {tr' : List ℕ} → Writes src toks binary (node n.0 ∷ token x.0.0 ∷ node x.1.0 ∷ []) s tr r tr' → Joined src toks (Some x) n s tr r tr'
joined_one {x = x} w = record {
  alone = λ e. let z : ◌≡◌ {A = ℕ} 0 1 = cc in absurd (omega arith);
  both = λ x₁ e. let a : x ≡ x₁ = cc in rw (← a) w;
}

-- Compared with nothing, with an operand, and with a chain.
module _ {src toks : List ℕ} {n : NodeNumber} {s : State} {tr : List ℕ} where
  pub compared_none : Compared src toks links.Nothing n s tr (record { 0 = n; 1 = s }) tr
  compared_none = record {
    alone = λ e. (refl, refl);
    first = λ o l e. let z : ◌≡◌ {A = ℕ} 0 1 = cc in absurd (omega arith);
    further = λ o l x e. let z : ◌≡◌ {A = ℕ} 0 1 = cc in absurd (omega arith);
  }

  module _ {op : TokenNumber} {l : NodeNumber} {r : Added} {tr' : List ℕ} where
    chains_first : Writes src toks binary (node n.0 ∷ token op.0 ∷ node l.0 ∷ []) s tr r tr' → Chains src toks compare (node n.0 ∷ token op.0 ∷ node l.0 ∷ []) n.0 s tr r (added s) tr'
    chains_first w = record { node = rw w.node refl; after = w.after; same = λ vs. rw w.node (compare_is vs w); frame = w.frame }

    pub compared_first : Writes src toks binary (node n.0 ∷ token op.0 ∷ node l.0 ∷ []) s tr r tr' → Compared src toks (links.First op l) n s tr r tr'
    compared_first w = record {
      alone = λ e. let z : ◌≡◌ {A = ℕ} 0 1 = cc in absurd (omega arith);
      first = λ o₁ l₁ e. let a : op ≡ o₁ = cc in let b : l ≡ l₁ = cc in rw (← a, ← b) (chains_first w);
      further = λ o l x e. let z : ◌≡◌ {A = ℕ} 0 1 = cc in absurd (omega arith);
    }

  module _ {op : TokenNumber} {l x : NodeNumber} {m r : Added} {tr₁ tr' : List ℕ} where
    chains_further : Writes src toks binary (node n.0 ∷ token op.0 ∷ node x.0 ∷ []) s tr m tr₁ → Joins src toks l.0 m.0.0 m.1 tr₁ r tr' →
        Chains src toks compare_more (node n.0 ∷ token op.0 ∷ chain l.0 x.0 ∷ []) n.0 s tr r (added (added s)) tr'
    chains_further w j =
        let j₂ : Joins src toks l.0 s.nodes (added s) tr₁ r tr' = rw (w.after, w.node) at j in
        record { node = rw j₂.node refl; after = j₂.after; same = λ vs. rw j₂.node (compare_more_is vs w j₂); frame = frame_then w.frame j₂.frame }

    pub compared_further : Writes src toks binary (node n.0 ∷ token op.0 ∷ node x.0 ∷ []) s tr m tr₁ → Joins src toks l.0 m.0.0 m.1 tr₁ r tr' → Compared src toks (links.Further op l x) n s tr r tr'
    compared_further w j = record {
      alone = λ e. let z : ◌≡◌ {A = ℕ} 0 1 = cc in absurd (omega arith);
      first = λ o l e. let z : ◌≡◌ {A = ℕ} 0 1 = cc in absurd (omega arith);
      further = λ o₁ l₁ x₁ e. let a : op ≡ o₁ = cc in let b : l ≡ l₁ = cc in let d : x ≡ x₁ = cc in rw (← a, ← b, ← d) (chains_further w j);
    }
