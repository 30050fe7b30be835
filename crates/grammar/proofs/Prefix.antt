-- Refusals 14, 15 and 16 stand at the first token that does not fit: no input that begins with the same tokens, up to that one and with it, is accepted.
-- Two inputs are compared that begin alike, and go on with v and with v'. As long as the descent stands in what they share it does the same in both.
-- Assumes nothing.
use mathlib.Core.Path.{◌≡◌, refl}
use mathlib.Core.Bool.{Bool, true, false, ◌||◌}
use mathlib.Core.List.{List, [], ◌∷◌, ◌++◌}
use Prim.Native.Nat.{ℕ, zero, suc, ◌+◌, ◌≤◌, ◌<◌}
use native.Mathlib.Omega.{arith}
use lib.ListN.{length}
use Rattle.grammar.specs.Sets.{mem, sees}
use Rattle.grammar.specs.Grammar.{Part, skip, act, tok, see, call, ◌⨾◌, ◌∕◌, many, tail}
use Rattle.grammar.specs.Trial.{Machine, St, Out, ok_if, skip_p, take_from, take_p, see_p, act_p, enough}
use Rattle.grammar.specs.Descent.{Plan, Answer, done, no, deep, stuck, Walk, null, begins, then_d, same_d, seq_d, by_d, or_d, loop_d, tail_d, many_d, list_d, walk, enter, rule_d, descend}
use Rattle.grammar.proofs.Enough.{Twin, twin_ok, twin_fail, Less, twin_skip, twin_act, twin_take, twin_see}

-- at most as many tokens are left as v has: the descent has left what the two share
pub data Short {Act : Type 0} {M : Machine Act} (v : List ℕ) : Answer M → Type 0 where
  short_done : {n : ℕ} {s : St M} → length s.rest ≤ length v → Short v (done n s)
  short_no : {asked : List ℕ} {n : ℕ} {s : St M} → length s.rest ≤ length v → Short v (no asked n s)
  short_deep : {n : ℕ} {s : St M} → length s.rest ≤ length v → Short v (deep n s)
  short_stuck : Short v stuck

module _ {Act : Type 0} {M : Machine Act} (v : List ℕ) where
  then_short : {x : Answer M} {w : Walk M} → Short v x → ((n : ℕ) (s : St M) → length s.rest ≤ length v → Short v (w n s)) → Short v (then_d x w)
  unfolding then_d
  then_short (short_done {n} {s} h) f = f n s h
  then_short (short_no h) f = short_no h
  then_short (short_deep h) f = short_deep h
  then_short short_stuck f = short_stuck

  by_short : (b : Bool) (p q : Walk M) (n : ℕ) (s : St M) → Short v (p n s) → Short v (q n s) → Short v (by_d b p q n s)
  unfolding by_d
  by_short true p q n s h k = h
  by_short false p q n s h k = k

  or_short : (set : List ℕ) (a b : Bool) (p q : Walk M) (n : ℕ) (s : St M) → length s.rest ≤ length v → Short v (p n s) → Short v (q n s) → Short v (or_d a b set p q n s)
  unfolding or_d
  or_short set true b p q n s le h k = h
  or_short set false true p q n s le h k = k
  or_short set false false p q n s le h k = short_no le

  same_short : (set : List ℕ) {m : ℕ} {o o' : Out M} (n : ℕ) (s : St M) → length s.rest ≤ length v → Twin (Less m s) o o' → Short v (same_d set o n s)
  unfolding same_d
  same_short set n s le (twin_ok {s = s₁} h) = short_done {s = s₁} (omega arith)
  same_short set n s le twin_fail = short_no le

  loop_short : (set : List ℕ) (p : Walk M) → ((n : ℕ) (s : St M) → length s.rest ≤ length v → Short v (p n s)) → (k n : ℕ) (s : St M) → length s.rest ≤ length v → Short v (loop_d set p k n s)
  unfolding loop_d seq_d
  loop_short set p hp zero n s le = short_stuck
  loop_short set p hp (suc k) n s le = by_short (sees set s.rest) (seq_d p (loop_d set p k)) done n s (then_short (hp n s le) (loop_short set p hp k)) (short_done le)

  tail_short : (c : ℕ) (set : List ℕ) (p : Walk M) → ((n : ℕ) (s : St M) → length s.rest ≤ length v → Short v (p n s)) → (k n : ℕ) (s : St M) → length s.rest ≤ length v → Short v (tail_d c set p k n s)
  unfolding tail_d seq_d
  tail_short c set p hp zero n s le = short_stuck
  tail_short c set p hp (suc k) n s le = by_short (sees (c ∷ []) s.rest) _ done n s
      (then_short (same_short (c ∷ []) n s le (twin_take (c ∷ []) s)) (λ n₁ s₁ le₁. by_short (sees set s₁.rest) (seq_d p (tail_d c set p k)) done n₁ s₁ (then_short (hp n₁ s₁ le₁) (tail_short c set p hp k)) (short_done le₁)))
      (short_done le)

  enter_short : (go : ℕ → Walk M) (b : Bool) (room n : ℕ) (s : St M) → length s.rest ≤ length v → ((m n₁ : ℕ) → Short v (go m n₁ s)) → Short v (enter b room go n s)
  unfolding enter
  enter_short go false room n s le h = h room (n + 1)
  enter_short go true zero n s le h = short_deep le
  enter_short go true (suc room) n s le h = h room (n + 1)

  walk_short : {R : Type 0} (first : R → List ℕ) (env : R → Walk M) → ((r : R) (n : ℕ) (s : St M) → length s.rest ≤ length v → Short v (env r n s)) →
      (p : Part Act R) (n : ℕ) (s : St M) → length s.rest ≤ length v → Short v (walk first env p n s)
  unfolding walk seq_d many_d list_d
  walk_short first env he skip n s le = same_short [] n s le (twin_skip s)
  walk_short first env he (act a) n s le = same_short [] n s le (twin_act a s)
  walk_short first env he (tok set) n s le = same_short set n s le (twin_take set s)
  walk_short first env he (see set) n s le = same_short set n s le (twin_see set s)
  walk_short first env he (call r) n s le = by_short (sees (first r) s.rest) (env r) _ n s (he r n s le) (short_no le)
  walk_short first env he (p ⨾ q) n s le = then_short (walk_short first env he p n s le) (walk_short first env he q)
  walk_short first env he (p ∕ q) n s le = or_short _ (sees (begins first p) s.rest) (null q || sees (begins first q) s.rest) (walk first env p) (walk first env q) n s le (walk_short first env he p n s le) (walk_short first env he q n s le)
  walk_short first env he (many p) n s le = loop_short (begins first p) (walk first env p) (walk_short first env he p) (suc (length s.rest)) n s le
  walk_short first env he (tail c p) n s le = tail_short c (begins first p) (walk first env p) (walk_short first env he p) (suc (length s.rest)) n s le

  rule_short : {R : Type 0} (G : Plan Act R) (k room : ℕ) (r : R) (n : ℕ) (s : St M) → length s.rest ≤ length v → Short v (rule_d G k room r n s)
  unfolding rule_d
  rule_short G zero room r n s le = short_stuck
  rule_short G (suc k) room r n s le = enter_short _ (G.opens r) room n s le (λ m n₁. walk_short G.first (λ r'. rule_d G k m r') (λ r'. rule_short G k m r') (G.body r) n₁ s le)

module _ {Act : Type 0} {M : Machine Act} (v v' : List ℕ) where
  -- the two inputs, where they share w
  abbrev left : List ℕ → M.Kept → St M
  left w k = record { rest = w ++ v; kept = k }

  abbrev right : List ℕ → M.Kept → St M
  right w k = record { rest = w ++ v'; kept = k }

  -- the same in both, in what they share; or the first has left that
  pub data Near : Answer M → Answer M → Type 0 where
    near_done : (n x : ℕ) (w : List ℕ) (k : M.Kept) → Near (done n (left (x ∷ w) k)) (done n (right (x ∷ w) k))
    near_no : {asked : List ℕ} (n x : ℕ) (w : List ℕ) (k : M.Kept) → Near (no asked n (left (x ∷ w) k)) (no asked n (right (x ∷ w) k))
    near_deep : (n x : ℕ) (w : List ℕ) (k : M.Kept) → Near (deep n (left (x ∷ w) k)) (deep n (right (x ∷ w) k))
    beyond : {a b : Answer M} → Short v a → Near a b
    stuck_right : {a : Answer M} → Near a stuck

  -- the walk does the same in both, and never comes back to what they share
  record Nears (p q : Walk M) : Type 0 where
    near : (n x : ℕ) (w : List ℕ) (k : M.Kept) → Near (p n (left (x ∷ w) k)) (q n (right (x ∷ w) k))
    short : (n : ℕ) (s : St M) → length s.rest ≤ length v → Short v (p n s)

  then_near : {a b : Answer M} {p q : Walk M} → Near a b → Nears p q → Near (then_d a p) (then_d b q)
  unfolding then_d
  then_near (near_done n x w k) f = f.near n x w k
  then_near (near_no n x w k) f = near_no n x w k
  then_near (near_deep n x w k) f = near_deep n x w k
  then_near (beyond h) f = beyond (then_short v h f.short)
  then_near stuck_right f = stuck_right

  by_near : (b : Bool) (p p' q q' : Walk M) (n : ℕ) (s s' : St M) → Near (p n s) (p' n s') → Near (q n s) (q' n s') → Near (by_d b p q n s) (by_d b p' q' n s')
  unfolding by_d
  by_near true p p' q q' n s s' h k = h
  by_near false p p' q q' n s s' h k = k

  or_near : (set : List ℕ) (a b : Bool) (p p' q q' : Walk M) (n x : ℕ) (w : List ℕ) (k : M.Kept) → Near (p n (left (x ∷ w) k)) (p' n (right (x ∷ w) k)) → Near (q n (left (x ∷ w) k)) (q' n (right (x ∷ w) k)) →
      Near (or_d a b set p q n (left (x ∷ w) k)) (or_d a b set p' q' n (right (x ∷ w) k))
  unfolding or_d
  or_near set true b p p' q q' n x w k h i = h
  or_near set false true p p' q q' n x w k h i = i
  or_near set false false p p' q q' n x w k h i = near_no n x w k

  came : (n : ℕ) (w : List ℕ) (k : M.Kept) → Near (done n (left w k)) (done n (right w k))
  came n [] k = beyond (short_done {s = left [] k} (omega arith))
  came n (x ∷ w) k = near_done n x w k

  if_near : (set : List ℕ) (b : Bool) (n x : ℕ) (w : List ℕ) (k : M.Kept) (w₁ : List ℕ) (k₁ : M.Kept) → Near (same_d set (ok_if b (left w₁ k₁)) n (left (x ∷ w) k)) (same_d set (ok_if b (right w₁ k₁)) n (right (x ∷ w) k))
  unfolding same_d ok_if
  if_near set true n x w k w₁ k₁ = came n w₁ k₁
  if_near set false n x w k w₁ k₁ = near_no n x w k

  take_near : (set : List ℕ) (n x : ℕ) (w : List ℕ) (k : M.Kept) → Near (same_d set (take_p set (left (x ∷ w) k)) n (left (x ∷ w) k)) (same_d set (take_p set (right (x ∷ w) k)) n (right (x ∷ w) k))
  unfolding take_p take_from
  take_near set n x w k = if_near set (mem x set) n x w k w (M.shift x k)

  see_near : (set : List ℕ) (n x : ℕ) (w : List ℕ) (k : M.Kept) → Near (same_d set (see_p set (left (x ∷ w) k)) n (left (x ∷ w) k)) (same_d set (see_p set (right (x ∷ w) k)) n (right (x ∷ w) k))
  unfolding see_p
  see_near set n x w k = if_near set (mem x set) n x w k (x ∷ w) k

  loop_near : (set : List ℕ) (p q : Walk M) → Nears p q → (i j n x : ℕ) (w : List ℕ) (k : M.Kept) → Near (loop_d set p i n (left (x ∷ w) k)) (loop_d set q j n (right (x ∷ w) k))
  unfolding loop_d seq_d
  loop_near set p q h zero j n x w k = beyond short_stuck
  loop_near set p q h (suc i) zero n x w k = stuck_right
  loop_near set p q h (suc i) (suc j) n x w k =
      by_near (mem x set) (seq_d p (loop_d set p i)) (seq_d q (loop_d set q j)) done done n (left (x ∷ w) k) (right (x ∷ w) k)
      (then_near (h.near n x w k) (record { near = loop_near set p q h i j; short = loop_short v set p h.short i })) (near_done n x w k)

  tail_near : (c : ℕ) (set : List ℕ) (p q : Walk M) → Nears p q → (i j n x : ℕ) (w : List ℕ) (k : M.Kept) → Near (tail_d c set p i n (left (x ∷ w) k)) (tail_d c set q j n (right (x ∷ w) k))
  unfolding tail_d seq_d
  tail_near c set p q h zero j n x w k = beyond short_stuck
  tail_near c set p q h (suc i) zero n x w k = stuck_right
  tail_near c set p q h (suc i) (suc j) n x w k =
      by_near (mem x (c ∷ [])) _ _ done done n (left (x ∷ w) k) (right (x ∷ w) k)
      (then_near (take_near (c ∷ []) n x w k) (record {
        near = λ n₁ x₁ w₁ k₁. by_near (mem x₁ set) (seq_d p (tail_d c set p i)) (seq_d q (tail_d c set q j)) done done n₁ (left (x₁ ∷ w₁) k₁) (right (x₁ ∷ w₁) k₁)
            (then_near (h.near n₁ x₁ w₁ k₁) (record { near = tail_near c set p q h i j; short = tail_short v c set p h.short i })) (near_done n₁ x₁ w₁ k₁);
        short = λ n₁ s₁ le. by_short v (sees set s₁.rest) (seq_d p (tail_d c set p i)) done n₁ s₁ (then_short v (h.short n₁ s₁ le) (tail_short v c set p h.short i)) (short_done le);
      }))
      (near_done n x w k)

  enter_near : (go go' : ℕ → Walk M) (b : Bool) (room n x : ℕ) (w : List ℕ) (k : M.Kept) → ((m n₁ : ℕ) → Near (go m n₁ (left (x ∷ w) k)) (go' m n₁ (right (x ∷ w) k))) →
      Near (enter b room go n (left (x ∷ w) k)) (enter b room go' n (right (x ∷ w) k))
  unfolding enter
  enter_near go go' false room n x w k h = h room (n + 1)
  enter_near go go' true zero n x w k h = near_deep n x w k
  enter_near go go' true (suc room) n x w k h = h room (n + 1)

  module _ {R : Type 0} (first : R → List ℕ) (env env' : R → Walk M) (he : (r : R) → Nears (env r) (env' r)) where
    part_short : (p : Part Act R) (n : ℕ) (s : St M) → length s.rest ≤ length v → Short v (walk first env p n s)
    part_short p = walk_short v first env (λ r. (he r).short) p

    walk_near : (p : Part Act R) (n x : ℕ) (w : List ℕ) (k : M.Kept) → Near (walk first env p n (left (x ∷ w) k)) (walk first env' p n (right (x ∷ w) k))
    unfolding walk seq_d many_d list_d skip_p act_p same_d
    walk_near skip n x w k = near_done n x w k
    walk_near (act a) n x w k = near_done n x w (M.run a k)
    walk_near (tok set) n x w k = take_near set n x w k
    walk_near (see set) n x w k = see_near set n x w k
    walk_near (call r) n x w k = by_near (mem x (first r)) (env r) (env' r) _ _ n (left (x ∷ w) k) (right (x ∷ w) k) ((he r).near n x w k) (near_no n x w k)
    walk_near (p ⨾ q) n x w k = then_near (walk_near p n x w k) (record { near = walk_near q; short = part_short q })
    walk_near (p ∕ q) n x w k =
        or_near _ (mem x (begins first p)) (null q || mem x (begins first q)) (walk first env p) (walk first env' p) (walk first env q) (walk first env' q) n x w k (walk_near p n x w k) (walk_near q n x w k)
    walk_near (many p) n x w k = loop_near (begins first p) (walk first env p) (walk first env' p) (record { near = walk_near p; short = part_short p }) _ _ n x w k
    walk_near (tail c p) n x w k = tail_near c (begins first p) (walk first env p) (walk first env' p) (record { near = walk_near p; short = part_short p }) _ _ n x w k

  rule_near : {R : Type 0} (G : Plan Act R) (i j room : ℕ) (r : R) (n x : ℕ) (w : List ℕ) (k : M.Kept) → Near (rule_d G i room r n (left (x ∷ w) k)) (rule_d G j room r n (right (x ∷ w) k))
  unfolding rule_d
  rule_near G zero j room r n x w k = beyond short_stuck
  rule_near G (suc i) zero room r n x w k = stuck_right
  rule_near G (suc i) (suc j) room r n x w k = enter_near _ _ (G.opens r) room n x w k (λ m n₁.
      walk_near G.first (λ r'. rule_d G i m r') (λ r'. rule_d G j m r') (λ r'. record { near = rule_near G i j m r'; short = rule_short v G i m r' }) (G.body r) n₁ x w k)

  not_short : {a : Answer M} {asked : List ℕ} (n : ℕ) (s : St M) → Short v a → a ≡ no asked n s → length v < length s.rest → ⊥
  not_short n s (short_done h) e lt = let z : ◌≡◌ {A = ℕ} 0 1 = cc in omega arith
  not_short n s (short_no {s = s₁} h) e lt = let z : length s.rest ≡ length s₁.rest = cc in omega arith
  not_short n s (short_deep h) e lt = let z : ◌≡◌ {A = ℕ} 0 1 = cc in omega arith
  not_short n s short_stuck e lt = let z : ◌≡◌ {A = ℕ} 0 1 = cc in omega arith

  near_refusal : {a b : Answer M} {asked : List ℕ} (m : ℕ) (s : St M) → Near a b → (b ≡ stuck → ⊥) → a ≡ no asked m s → length v < length s.rest → (s₁ : St M) × (b ≡ no asked m s₁)
  near_refusal m s (near_done n x w k) f e lt = (s, cc)
  near_refusal m s (near_no n x w k) f e lt = (right (x ∷ w) k, cc)
  near_refusal m s (near_deep n x w k) f e lt = (s, cc)
  near_refusal m s (beyond h) f e lt = absurd (not_short m s h e lt)
  near_refusal m s stuck_right f e lt = absurd (f refl)

  -- the descent refuses the one at a token that the two share: it refuses the other
  pub same_refusal : {R : Type 0} {asked : List ℕ} (G : Plan Act R) (room : ℕ) (r : R) (n m : ℕ) (w : List ℕ) (k : M.Kept) (s : St M) → (descend G room r n (right w k) ≡ stuck → ⊥) →
      descend G room r n (left w k) ≡ no asked m s → length v < length s.rest → (s₁ : St M) × (descend G room r n (right w k) ≡ no asked m s₁)
  unfolding descend
  same_refusal G room r n m [] k s f e lt = absurd (not_short m s (rule_short v G (enough (left [] k)) room r n (left [] k) (omega arith)) e lt)
  same_refusal G room r n m (x ∷ w) k s f e lt = near_refusal m s (rule_near G (enough (left (x ∷ w) k)) (enough (right (x ∷ w) k)) room r n x w k) f e lt
