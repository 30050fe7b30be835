-- The loop over signs: they are wrapped around the node from the last to the first.
-- Assumes nothing.
use mathlib.Core.Path.{◌≡◌, ap, sym, ◌∙◌}
use mathlib.Core.List.{List, [], ◌∷◌}
use Prim.Native.Nat.{ℕ, suc, ◌+◌, ◌*◌, ◌-◌, ◌^◌, ◌≤◌, ◌<◌}
use native.Mathlib.Omega.{arith}
use lib.ListN.{length}
use Rattle.token.specs.declared.NodeNumber.{NodeNumber}
use Rattle.pyhyeon.specs.Machine.{Value, Kept, write}
use Rattle.pyhyeon.specs.Action.{unary_node, wrap}
use Rattle.leaves.specs.declared.Added.{Added}
use Rattle.leaves.specs.declared.State.{State}
use Rattle.lookahead.specs.Tokens.{eof_at, tokens_of}
use Rattle.leaves.specs.Contract.{added, kept, Frame, Signed, Wraps}
use Rattle.leaves.proofs.Frames.{frame_then}

-- The loop of `wrap`: the signs before k around the node n come to what all the signs come to around the first node.
pub record Inv (toks tr₀ : List ℕ) (first k₀ : ℕ) (n₀ : NodeNumber) (s₀ : State) (tr : List ℕ) (k : ℕ) (n : NodeNumber) (s : State) : Type 0 where
  pub low : first ≤ k
  pub before : k < s.at.0
  pub token : 3 * s.at.0 ≤ length toks
  pub last : s.at.0 ≤ eof_at toks + 1
  pub word : 8 * (s.nodes + (k - first)) + 8 ≤ length tr
  pub count : s.nodes + (k - first) < 2 ^ 32
  pub at : s₀.at ≡ s.at
  pub opened : s₀.opened ≡ s.opened
  pub used : s₀.used ≡ s.used
  pub frame : Frame s₀.nodes tr₀ s.nodes tr
  pub same : (src : List ℕ) (vs : List Value)
      → wrap src (tokens_of src toks) (k₀ - first) first (kept s₀ tr₀ (Value.node n₀.0 ∷ vs)) ≡ wrap src (tokens_of src toks) (k - first) first (kept s tr (Value.node n.0 ∷ vs))

module _ (src toks : List ℕ) where
  wrap_last : (first k : ℕ) (x : Kept) → first < k
      → wrap src (tokens_of src toks) (k - first) first x ≡ wrap src (tokens_of src toks) (k - 1 - first) first (write 1 (unary_node src (tokens_of src toks) (k - 1) x) x)
  wrap_last first k x l =
      let e : k - first ≡ suc (k - 1 - first) = omega arith in
      let d : first + (k - 1 - first) ≡ k - 1 = omega arith in
      rw e (one (k - 1 - first) (k - 1) d)
    where
      one : (j i : ℕ) → first + j ≡ i → wrap src (tokens_of src toks) (suc j) first x ≡ wrap src (tokens_of src toks) j first (write 1 (unary_node src (tokens_of src toks) i x) x)
      one j i d = unfold wrap in (rw d)

module _ {toks tr₀ : List ℕ} {first k₀ : ℕ} {n₀ : NodeNumber} {s₀ : State} {tr : List ℕ} {k : ℕ} {n : NodeNumber} {s : State} (i : Inv toks tr₀ first k₀ n₀ s₀ tr k n s) where
  pub wrap_one : {tr' : List ℕ} {r : Added} → first < k → length tr' ≡ length tr → ((src : List ℕ) → Signed src toks (k - 1) n.0 s tr r tr') → Inv toks tr₀ first k₀ n₀ s₀ tr' (k - 1) r.0 r.1
  wrap_one {tr'} {r} l len g =
      let p = (g []).node in
      let q = (g []).after in
      rw q (record {
        low = omega arith;
        before = omega (arith, i.before);
        token = i.token;
        last = i.last;
        word = omega (arith, i.word);
        count = omega (arith, i.count);
        at = i.at;
        opened = i.opened;
        used = i.used;
        frame = frame_then i.frame (g []).frame;
        same = λ src vs.
            i.same src vs ∙ wrap_last src toks first k _ l
            ∙ ap (wrap src (tokens_of src toks) (k - 1 - first) first) ((g src).same vs ∙ ap (λ (m : ℕ). kept (added s) tr' (Value.node m ∷ vs)) (sym p));
      })

  pub wrap_all : k ≤ first → (src : List ℕ) → Wraps src toks first k₀ n₀.0 s₀ tr₀ (record { 0 = n; 1 = s }) tr
  unfolding wrap
  wrap_all l src = record {
    at = i.at;
    opened = i.opened;
    used = i.used;
    frame = i.frame;
    same = λ vs. let e : k - first ≡ 0 = omega arith in i.same src vs ∙ rw e;
  }
