-- The same count is enough for the descent: it is never stuck, and the descent of a rule is the descent of its body, with no count.
-- This is what the proof of a function of the code cites: one step of the descent, and the contracts of the functions that it calls.
-- Assumes nothing.
use mathlib.Core.Path.{◌≡◌, refl}
use mathlib.Core.Bool.{Bool, true, false, ◌||◌}
use mathlib.Core.List.{List, [], ◌∷◌}
use Prim.Native.Nat.{ℕ, zero, suc, ◌+◌, ◌*◌, ◌≤◌, ◌<◌}
use native.Mathlib.Omega.{arith}
use lib.Dec.{T, ltb→lt, leb→le}
use lib.ListN.{length}
use Rattle.grammar.specs.Sets.{sees}
use Rattle.grammar.specs.Grammar.{Part, skip, act, tok, see, call, ◌⨾◌, ◌∕◌, many, tail}
use Rattle.grammar.specs.Trial.{Machine, St, Out, take_p, enough}
use Rattle.grammar.specs.Descent.{Plan, Answer, done, no, deep, stuck, Walk, null, begins, then_d, same_d, seq_d, by_d, or_d, loop_d, tail_d, many_d, list_d, walk, enter, rule_d, descend}
use Rattle.grammar.specs.Check.{takes, after, low}
use Rattle.grammar.proofs.Sets.{and_l, and_r}
use Rattle.grammar.proofs.Whole.{Sound}
use Rattle.grammar.proofs.Enough.{Twin, twin_ok, twin_fail, after_le, Less, twin_skip, twin_act, twin_take, twin_see, enough_for}

-- both come to one answer, which is not `stuck`; P holds of the state, if they come to one
pub data TwinD {Act : Type 0} {M : Machine Act} (P : St M → Type 0) : Answer M → Answer M → Type 0 where
  both_done : {n : ℕ} {s : St M} → P s → TwinD P (done n s) (done n s)
  both_no : {asked : List ℕ} {n : ℕ} {s : St M} → TwinD P (no asked n s) (no asked n s)
  both_deep : {n : ℕ} {s : St M} → TwinD P (deep n s) (deep n s)

module _ {Act : Type 0} {M : Machine Act} where
  twin_d_same : {P : St M → Type 0} {x x' : Answer M} → TwinD P x x' → x ≡ x'
  twin_d_same (both_done h) = refl
  twin_d_same both_no = refl
  twin_d_same both_deep = refl

  then_twin : {P Q : St M → Type 0} {x x' : Answer M} {w w' : Walk M} → TwinD P x x' → ((n : ℕ) (s : St M) → P s → TwinD Q (w n s) (w' n s)) → TwinD Q (then_d x w) (then_d x' w')
  unfolding then_d
  then_twin (both_done {n} {s} h) f = f n s h
  then_twin both_no f = both_no
  then_twin both_deep f = both_deep

  map_twin : {P Q : St M → Type 0} {x x' : Answer M} → ((s : St M) → P s → Q s) → TwinD P x x' → TwinD Q x x'
  map_twin f (both_done {s} h) = both_done (f s h)
  map_twin f both_no = both_no
  map_twin f both_deep = both_deep

  same_twin : {P : St M → Type 0} (set : List ℕ) {o o' : Out M} (n : ℕ) (s : St M) → Twin P o o' → TwinD P (same_d set o n s) (same_d set o' n s)
  unfolding same_d
  same_twin set n s (twin_ok h) = both_done h
  same_twin set n s twin_fail = both_no

  by_twin : {P : St M → Type 0} (b : Bool) (v v' w w' : Walk M) (n : ℕ) (s : St M) → TwinD P (v n s) (v' n s) → TwinD P (w n s) (w' n s) → TwinD P (by_d b v w n s) (by_d b v' w' n s)
  unfolding by_d
  by_twin true v v' w w' n s h k = h
  by_twin false v v' w w' n s h k = k

  or_twin : {P : St M → Type 0} (set : List ℕ) (a b : Bool) (v v' w w' : Walk M) (n : ℕ) (s : St M) → TwinD P (v n s) (v' n s) → TwinD P (w n s) (w' n s) → TwinD P (or_d a b set v w n s) (or_d a b set v' w' n s)
  unfolding or_d
  or_twin set true b v v' w w' n s h k = h
  or_twin set false true v v' w w' n s h k = k
  or_twin set false false v v' w w' n s h k = both_no

  done_twin : (n : ℕ) (s : St M) → TwinD (Less 0 s) (done n s) (done n s)
  done_twin n s = both_done {s = s} (record { fewer = omega arith })

  loop_twin : {t : ℕ} (set : List ℕ) (v v' : Walk M) (L k k' : ℕ) → 0 < t → ((n : ℕ) (s : St M) → length s.rest ≤ L → TwinD (Less t s) (v n s) (v' n s)) →
      (n : ℕ) (s : St M) → length s.rest ≤ L → length s.rest < k → length s.rest < k' → TwinD (Less 0 s) (loop_d set v k n s) (loop_d set v' k' n s)
  unfolding loop_d seq_d
  loop_twin set v v' L zero k' pos hv n s le lt lt' = absurd (omega arith)
  loop_twin set v v' L (suc k) zero pos hv n s le lt lt' = absurd (omega arith)
  loop_twin set v v' L (suc k) (suc k') pos hv n s le lt lt' =
      by_twin (sees set s.rest) (seq_d v (loop_d set v k)) (seq_d v' (loop_d set v' k')) done done n s
      (then_twin (hv n s le) (λ n₁ s₁ h. map_twin (λ s₂ h₂. record { fewer = omega arith }) (loop_twin set v v' L k k' pos hv n₁ s₁ (omega arith) (omega arith) (omega arith))))
      (done_twin n s)

  tail_twin : {t : ℕ} (c : ℕ) (set : List ℕ) (v v' : Walk M) (L k k' : ℕ) → ((n : ℕ) (s : St M) → length s.rest < L → TwinD (Less t s) (v n s) (v' n s)) →
      (n : ℕ) (s : St M) → length s.rest ≤ L → length s.rest < k → length s.rest < k' → TwinD (Less 0 s) (tail_d c set v k n s) (tail_d c set v' k' n s)
  unfolding tail_d seq_d
  tail_twin c set v v' L zero k' hv n s le lt lt' = absurd (omega arith)
  tail_twin c set v v' L (suc k) zero hv n s le lt lt' = absurd (omega arith)
  tail_twin c set v v' L (suc k) (suc k') hv n s le lt lt' =
      by_twin (sees (c ∷ []) s.rest) _ _ done done n s
      (then_twin (same_twin (c ∷ []) n s (twin_take (c ∷ []) s)) (λ n₁ s₁ h. map_twin (λ s₂ h₂. record { fewer = omega arith })
      (by_twin (sees set s₁.rest) (seq_d v (tail_d c set v k)) (seq_d v' (tail_d c set v' k')) done done n₁ s₁
      (then_twin (hv n₁ s₁ (omega arith)) (λ n₂ s₂ h₂. map_twin (λ s₃ h₃. record { fewer = omega arith }) (tail_twin c set v v' L k k' hv n₂ s₂ (omega arith) (omega arith) (omega arith))))
      (done_twin n₁ s₁))))
      (done_twin n s)

  enter_twin : {P : St M → Type 0} (go go' : ℕ → Walk M) (b : Bool) (room n : ℕ) (s : St M) → ((m n₁ : ℕ) → TwinD P (go m n₁ s) (go' m n₁ s)) → TwinD P (enter b room go n s) (enter b room go' n s)
  unfolding enter
  enter_twin go go' false room n s h = h room (n + 1)
  enter_twin go go' true zero n s h = both_deep
  enter_twin go go' true (suc room) n s h = h room (n + 1)

  module _ {R : Type 0} (G : Plan Act R) where
    walk_twin : {env env' : R → Walk M} (B : ℕ) → ((r : R) (n : ℕ) (s : St M) → length s.rest * 100 + G.rank r < B → TwinD (Less (G.least r) s) (env r n s) (env' r n s)) →
        (p : Part Act R) (m n : ℕ) (s : St M) → T (low G 100 m p) → length s.rest * 100 + m ≤ B → TwinD (Less (takes G.least p) s) (walk G.first env p n s) (walk G.first env' p n s)
    unfolding walk takes low seq_d many_d list_d
    walk_twin B he skip m n s t le = same_twin [] n s (twin_skip s)
    walk_twin B he (act a) m n s t le = same_twin [] n s (twin_act a s)
    walk_twin B he (tok set) m n s t le = same_twin set n s (twin_take set s)
    walk_twin B he (see set) m n s t le = same_twin set n s (twin_see set s)
    walk_twin {env} {env'} B he (call r) m n s t le = by_twin (sees (G.first r) s.rest) (env r) (env' r) _ _ n s (he r n s (omega (arith, ltb→lt (G.rank r) m t))) both_no
    walk_twin B he (p ⨾ q) m n s t le =
        then_twin (walk_twin B he p m n s (search and_l) le) (λ n₁ s₁ h. map_twin (λ s₂ k. record { fewer = omega arith })
        (walk_twin B he q (after 100 (takes G.least p) m) n₁ s₁ (search (and_l, and_r)) (after_le (takes G.least p) m (length s.rest) (length s₁.rest) B h.fewer le)))
    walk_twin {env} {env'} B he (p ∕ q) m n s t le =
        or_twin _ (sees (begins G.first p) s.rest) (null q || sees (begins G.first q) s.rest) (walk G.first env p) (walk G.first env' p) (walk G.first env q) (walk G.first env' q) n s
        (map_twin (λ s₁ h. record { fewer = omega arith }) (walk_twin B he p m n s (search and_l) le))
        (map_twin (λ s₁ h. record { fewer = omega arith }) (walk_twin B he q m n s (search (and_l, and_r)) le))
    walk_twin {env} {env'} B he (many p) m n s t le =
        loop_twin (begins G.first p) (walk G.first env p) (walk G.first env' p) (length s.rest) (suc (length s.rest)) (suc (length s.rest))
        (ltb→lt 0 (takes G.least p) (search and_l)) (λ n₁ s₁ l. walk_twin B he p m n₁ s₁ (search (and_l, and_r)) (omega arith)) n s (omega arith) (omega arith) (omega arith)
    walk_twin {env} {env'} B he (tail c p) m n s t le =
        tail_twin c (begins G.first p) (walk G.first env p) (walk G.first env' p) (length s.rest) (suc (length s.rest)) (suc (length s.rest))
        (λ n₁ s₁ l. walk_twin B he p 100 n₁ s₁ t (omega arith)) n s (omega arith) (omega arith) (omega arith)

    module _ (good : (r : R) → Sound G r) where
      rule_twin : (k k' room : ℕ) (r : R) (n : ℕ) (s : St M) → length s.rest * 100 + G.rank r < k → length s.rest * 100 + G.rank r < k' → TwinD (Less (G.least r) s) (rule_d G k room r n s) (rule_d G k' room r n s)
      unfolding rule_d
      rule_twin zero k' room r n s lt lt' = absurd (omega arith)
      rule_twin (suc k) zero room r n s lt lt' = absurd (omega arith)
      rule_twin (suc k) (suc k') room r n s lt lt' = enter_twin _ _ (G.opens r) room n s (λ m n₁.
          map_twin (λ s' h. record { fewer = omega (arith, leb→le (G.least r) (takes G.least (G.body r)) (good r).enough) })
          (walk_twin (length s.rest * 100 + G.rank r) (λ r' n₂ s' below. rule_twin k k' m r' n₂ s' (omega arith) (omega arith)) (G.body r) (G.rank r) n₁ s (good r).lower (omega arith)))

      -- the descent always answers, and a rule that it comes through takes at least so many tokens
      stuck_never : {P : St M → Type 0} {x x' : Answer M} → TwinD P x x' → x ≡ stuck → ⊥
      stuck_never (both_done h) e = let z : ◌≡◌ {A = ℕ} 0 1 = cc in omega arith
      stuck_never both_no e = let z : ◌≡◌ {A = ℕ} 0 1 = cc in omega arith
      stuck_never both_deep e = let z : ◌≡◌ {A = ℕ} 0 1 = cc in omega arith

      pub descend_takes : (room : ℕ) (r : R) (n : ℕ) (s : St M) → TwinD (Less (G.least r) s) (descend G room r n s) (descend G room r n s)
      unfolding descend
      descend_takes room r n s = rule_twin (enough s) (enough s) room r n s (enough_for G good r s) (enough_for G good r s)

      pub descent_answers : (room : ℕ) (r : R) (n : ℕ) (s : St M) → descend G room r n s ≡ stuck → ⊥
      descent_answers room r n s e = stuck_never (descend_takes room r n s) e

      descend_from : (k room : ℕ) (r : R) (n : ℕ) (s : St M) → length s.rest * 100 + G.rank r < k → rule_d G k room r n s ≡ enter (G.opens r) room (λ m. walk G.first (λ r'. descend G m r') (G.body r)) n s
      unfolding rule_d descend
      descend_from zero room r n s lt = absurd (omega arith)
      descend_from (suc k) room r n s lt = twin_d_same (enter_twin {P = Less (takes G.least (G.body r)) s} _ _ (G.opens r) room n s (λ m n₁.
          walk_twin (length s.rest * 100 + G.rank r) (λ r' n₂ s' below. rule_twin k (enough s') m r' n₂ s' (omega arith) (enough_for G good r' s')) (G.body r) (G.rank r) n₁ s (good r).lower (omega arith)))

      -- a rule is its body
      pub descend_is : (room : ℕ) (r : R) (n : ℕ) (s : St M) → descend G room r n s ≡ enter (G.opens r) room (λ m. walk G.first (λ r'. descend G m r') (G.body r)) n s
      unfolding descend
      descend_is room r n s = descend_from (enough s) room r n s (enough_for G good r s)

      -- a part of it, at any state
      part_twin : (room : ℕ) (p : Part Act R) (m : ℕ) → T (low G 100 m p) → (n : ℕ) (s : St M) → TwinD (Less (takes G.least p) s) (walk G.first (descend G room) p n s) (walk G.first (descend G room) p n s)
      unfolding descend
      part_twin room p m t n s = walk_twin (length s.rest * 100 + m) (λ r' n₁ s' below. rule_twin (enough s') (enough s') room r' n₁ s' (enough_for G good r' s') (enough_for G good r' s')) p m n s t (omega arith)

      -- a loop goes round, or stops
      pub many_from : (room m : ℕ) (p : Part Act R) → T (low G 100 m (many p)) → (n : ℕ) (s : St M) →
          let v : Walk M = walk G.first (descend G room) p in
          many_d (begins G.first p) v n s ≡ by_d (sees (begins G.first p) s.rest) (seq_d v (many_d (begins G.first p) v)) done n s
      unfolding many_d loop_d seq_d low
      many_from room m p t n s =
          let v : Walk M = walk G.first (descend G room) p in
          let B : List ℕ = begins G.first p in
          let pos : 0 < takes G.least p = ltb→lt 0 (takes G.least p) (search and_l) in
          let lower : T (low G 100 m p) = search (and_l, and_r) in
          twin_d_same {P = Less 0 s} (by_twin (sees B s.rest) _ _ done done n s
          (then_twin (part_twin room p m lower n s) (λ n₁ s₁ h. map_twin (λ s₂ h₂. record { fewer = omega arith })
          (loop_twin B v v (length s.rest) (length s.rest) (suc (length s₁.rest)) pos (λ n₂ s₂ _. part_twin room p m lower n₂ s₂) n₁ s₁ (omega arith) (omega arith) (omega arith))))
          (done_twin n s))

      pub many_is : (room : ℕ) (p : Part Act R) → T (low G 100 100 (many p)) → (n : ℕ) (s : St M) →
          let v : Walk M = walk G.first (descend G room) p in
          many_d (begins G.first p) v n s ≡ by_d (sees (begins G.first p) s.rest) (seq_d v (many_d (begins G.first p) v)) done n s
      many_is room p t n s = many_from room 100 p t n s

      -- and so does the rest of a list
      pub list_is : (room c : ℕ) (p : Part Act R) → T (low G 100 100 p) → (n : ℕ) (s : St M) →
          let v : Walk M = walk G.first (descend G room) p in
          let B : List ℕ = begins G.first p in
          list_d c B v n s ≡
          by_d (sees (c ∷ []) s.rest) (seq_d (λ n₁ s₁. same_d (c ∷ []) (take_p (c ∷ []) s₁) n₁ s₁) (λ n₁ s₁. by_d (sees B s₁.rest) (seq_d v (list_d c B v)) done n₁ s₁)) done n s
      unfolding list_d tail_d seq_d
      list_is room c p lower n s =
          let v : Walk M = walk G.first (descend G room) p in
          let B : List ℕ = begins G.first p in
          twin_d_same {P = Less 0 s} (by_twin (sees (c ∷ []) s.rest) _ _ done done n s
          (then_twin (same_twin (c ∷ []) n s (twin_take (c ∷ []) s)) (λ n₁ s₁ h. map_twin (λ s₂ h₂. record { fewer = omega arith })
          (by_twin {P = Less 0 s₁} (sees B s₁.rest) _ _ done done n₁ s₁
          (then_twin (part_twin room p 100 lower n₁ s₁) (λ n₂ s₂ h₂. map_twin (λ s₃ h₃. record { fewer = omega arith })
          (tail_twin c B v v (length s.rest) (length s.rest) (suc (length s₂.rest)) (λ n₃ s₃ _. part_twin room p 100 lower n₃ s₃) n₂ s₂ (omega arith) (omega arith) (omega arith))))
          (done_twin n₁ s₁))))
          (done_twin n s))
