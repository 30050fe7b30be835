-- What holds of a walk that the next token decides: of each way, where that token is seen or not.
-- Assumes nothing.
use mathlib.Core.Logic.{◌⊎◌, inl, inr, ⊎_elim}
use mathlib.Core.Bool.{Bool, true, false, not, ◌||◌}
use mathlib.Core.List.{List}
use Prim.Native.Nat.{ℕ}
use lib.Dec.{T}
use Rattle.grammar.specs.Sets.{sees}
use Rattle.grammar.specs.Trial.{Machine, St}
use Rattle.grammar.specs.Descent.{Answer, no, Walk, by_d, or_d}
use Rattle.grammar.proofs.Sets.{Sees, or_l, or_r, or_e}

module _ {Act : Type 0} {M : Machine Act} (X : Answer M → Type 0) where
  -- one of the set stands next, or not
  pub decided : (set : List ℕ) (v w : Walk M) (n : ℕ) (s : St M) → (Sees set s.rest → X (v n s)) → ((Sees set s.rest → ⊥) → X (w n s)) → X (by_d (sees set s.rest) v w n s)
  unfolding by_d
  decided set v w n s f g = test (sees set s.rest) (λ h. f (record { holds = h })) (λ h. g (λ k. h k.holds))
    where
      test : (b : Bool) → (T b → X (v n s)) → ((T b → ⊥) → X (w n s)) → X (by_d b v w n s)
      test true f g = f tt
      test false f g = g (λ h. h)

  -- a choice: a token of `set`; or else one of `set'`, or none is needed; or neither, and these are asked for
  pub chosen : (set set' asked : List ℕ) (b : Bool) (v w : Walk M) (n : ℕ) (s : St M) → (Sees set s.rest → X (v n s)) → ((Sees set s.rest → ⊥) → Sees set' s.rest ⊎ T b → X (w n s)) →
      ((Sees set s.rest → ⊥) → T (not b) → (Sees set' s.rest → ⊥) → X (no asked n s)) → X (or_d (sees set s.rest) (b || sees set' s.rest) asked v w n s)
  unfolding or_d
  chosen set set' asked b v w n s f g h = test (sees set s.rest) (b || sees set' s.rest) (λ i. f (record { holds = i }))
      (λ i j. g (λ k. i k.holds) (⊎_elim (λ k. inr k) (λ k. inl (record { holds = k })) (or_e b (sees set' s.rest) j)))
      (λ i j. h (λ k. i k.holds) (not_i b (λ k. j (or_l b (sees set' s.rest) k))) (λ k. j (or_r b (sees set' s.rest) k.holds)))
    where
      not_i : (a : Bool) → (T a → ⊥) → T (not a)
      not_i true f = f tt
      not_i false f = tt

      test : (a c : Bool) → (T a → X (v n s)) → ((T a → ⊥) → T c → X (w n s)) → ((T a → ⊥) → (T c → ⊥) → X (no asked n s)) → X (or_d a c asked v w n s)
      test true c f g h = f tt
      test false true f g h = g (λ i. i) tt
      test false false f g h = h (λ i. i) (λ i. i)
