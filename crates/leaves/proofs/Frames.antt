-- What the leaves leave as it is: every word of the tree but those of nodes.
-- Assumes nothing.
use mathlib.Core.Path.{◌≡◌, refl, ap, ◌∙◌}
use mathlib.Core.List.{List}
use Prim.Native.Nat.{ℕ, ◌+◌, ◌<◌}
use native.Mathlib.Omega.{arith}
use lib.ListN.{get_or}
use Rattle.ast.specs.Node.{Node}
use Rattle.ast.specs.Words.{set_span_lem, set_next_lem}
use Rattle.ast.proofs.Around.{before_put, behind_put, before_span, behind_span, before_next, behind_next}
use Rattle.leaves.specs.declared.State.{State}
use Rattle.leaves.specs.declared.Added.{Added}
use Rattle.leaves.specs.Contract.{Frame}
use Rattle.leaves.specs.Put.{Put}

-- nothing was done; one thing after the other
pub frame_none : {n : ℕ} {tr : List ℕ} → Frame n tr n tr
frame_none = record { grows = omega arith; header = λ w h. refl; behind = λ w h. refl }

pub frame_then : {n n₁ n₂ : ℕ} {tr tr₁ tr₂ : List ℕ} → Frame n tr n₁ tr₁ → Frame n₁ tr₁ n₂ tr₂ → Frame n tr n₂ tr₂
frame_then f g = record {
  grows = omega (arith, f.grows, g.grows);
  header = λ w h. g.header w h ∙ f.header w h;
  behind = λ w h. g.behind w h ∙ f.behind w (omega (arith, g.grows));
}

at_word : {tr tr' : List ℕ} (w : ℕ) → tr' ≡ tr → get_or tr' w 0 ≡ get_or tr w 0
at_word w e = ap (λ (t : List ℕ). get_or t w 0) e

-- a node behind the others
pub frame_put : {s : State} {tr tr' : List ℕ} {a : Added} {n : Node} → Put s tr n a tr' → Frame s.nodes tr (s.nodes + 1) tr'
frame_put {s} {tr} {n = n} p = record {
  grows = omega arith;
  header = λ w h. at_word w p.words ∙ before_put tr s.nodes w n (omega arith);
  behind = λ w h. at_word w p.words ∙ behind_put tr s.nodes w n (omega arith);
}

-- another span of a node, another link
module _ {tr tr' : List ℕ} {k : ℕ} where
  pub frame_span : (m a b : ℕ) → m < k → tr' ≡ set_span_lem tr m a b → Frame k tr k tr'
  frame_span m a b l e = record {
    grows = omega arith;
    header = λ w h. at_word w e ∙ before_span tr m w a b (omega arith);
    behind = λ w h. at_word w e ∙ behind_span tr m w a b (omega arith);
  }

  pub frame_next : (m x : ℕ) → m < k → tr' ≡ set_next_lem tr m x → Frame k tr k tr'
  frame_next m x l e = record {
    grows = omega arith;
    header = λ w h. at_word w e ∙ before_next tr m w x (omega arith);
    behind = λ w h. at_word w e ∙ behind_next tr m w x (omega arith);
  }
