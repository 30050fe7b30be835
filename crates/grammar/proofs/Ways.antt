-- The ways to read a part: what some choice of alternatives and repetitions can come to, with no token looked at ahead. The descent finds them: where one of
-- the tokens that can stand after a way does stand there, it comes to where the way leads. Of every language whose tables pass the tests.
-- Assumes nothing.
use mathlib.Core.Path.{◌≡◌, refl, ◌∙◌}
use mathlib.Core.Bool.{Bool, true, false, not}
use mathlib.Core.List.{List, [], ◌∷◌, ◌++◌}
use Prim.Native.Nat.{ℕ, suc, ◌+◌}
use lib.Dec.{T, eqb, eqb_refl}
use Rattle.grammar.specs.Sets.{mem, sees}
use Rattle.grammar.specs.Grammar.{Part, skip, act, tok, see, call, ◌⨾◌, ◌∕◌, many, tail}
use Rattle.grammar.specs.Trial.{Machine, St, ok_if, skip_p, take_from, take_p, see_p, act_p}
use Rattle.grammar.specs.Descent.{Plan, Answer, done, Walk, null, begins, then_d, same_d, seq_d, by_d, list_d, walk, enter, descend}
use Rattle.grammar.specs.Check.{next, fits, takes, after, low}
use Rattle.grammar.specs.Complete.{alive, complete}
use Rattle.grammar.proofs.Sets.{Sees, and_l, and_r, or_l, sees_within, sees_apart}
use Rattle.grammar.proofs.Begin.{Begun, by, none, begun_seq, begun_left, begun_right, begun_after, begun_by, next_seen}
use Rattle.grammar.proofs.Choice.{decided, chosen}
use Rattle.grammar.proofs.Whole.{Sound}
use Rattle.grammar.proofs.Step.{descend_is, many_from, list_is}

-- `Way G M m p l k l' k'`: with room for m marked rules, p can lead from the tokens l and what is kept, k, to l' and k'.
pub data Way {Act R : Type 0} (G : Plan Act R) (M : Machine Act) : ℕ → Part Act R → List ℕ → M.Kept → List ℕ → M.Kept → Type 0 where
  w_skip : {m : ℕ} {l : List ℕ} {k : M.Kept} → Way G M m skip l k l k
  w_act : {m : ℕ} {l : List ℕ} {k : M.Kept} {a : Act} → Way G M m (act a) l k l (M.run a k)
  w_tok : {m t : ℕ} {set l : List ℕ} {k : M.Kept} → T (mem t set) → Way G M m (tok set) (t ∷ l) k l (M.shift t k)
  w_see : {m : ℕ} {set l : List ℕ} {k : M.Kept} → T (sees set l) → Way G M m (see set) l k l k
  w_call : {m : ℕ} {r : R} {l l' : List ℕ} {k k' : M.Kept} → T (not (G.opens r)) → Way G M m (G.body r) l k l' k' → Way G M m (call r) l k l' k'
  w_open : {m : ℕ} {r : R} {l l' : List ℕ} {k k' : M.Kept} → T (G.opens r) → Way G M m (G.body r) l k l' k' → Way G M (suc m) (call r) l k l' k'
  w_seq : {m : ℕ} {p q : Part Act R} {l l₁ l₂ : List ℕ} {k k₁ k₂ : M.Kept} → Way G M m p l k l₁ k₁ → Way G M m q l₁ k₁ l₂ k₂ → Way G M m (p ⨾ q) l k l₂ k₂
  w_left : {m : ℕ} {p q : Part Act R} {l l' : List ℕ} {k k' : M.Kept} → Way G M m p l k l' k' → Way G M m (p ∕ q) l k l' k'
  w_right : {m : ℕ} {p q : Part Act R} {l l' : List ℕ} {k k' : M.Kept} → Way G M m q l k l' k' → Way G M m (p ∕ q) l k l' k'
  w_none : {m : ℕ} {p : Part Act R} {l : List ℕ} {k : M.Kept} → Way G M m (many p) l k l k
  w_more : {m : ℕ} {p : Part Act R} {l l₁ l₂ : List ℕ} {k k₁ k₂ : M.Kept} → Way G M m p l k l₁ k₁ → Way G M m (many p) l₁ k₁ l₂ k₂ → Way G M m (many p) l k l₂ k₂
  -- the rest of a list: nothing; a trailing separator; a separator, a member and the rest
  w_end : {m c : ℕ} {p : Part Act R} {l : List ℕ} {k : M.Kept} → Way G M m (tail c p) l k l k
  w_trail : {m c : ℕ} {p : Part Act R} {l : List ℕ} {k : M.Kept} → Way G M m (tail c p) (c ∷ l) k l (M.shift c k)
  w_item : {m c : ℕ} {p : Part Act R} {l l₁ l₂ : List ℕ} {k k₁ k₂ : M.Kept} → Way G M m p l (M.shift c k) l₁ k₁ → Way G M m (tail c p) l₁ k₁ l₂ k₂ →
      Way G M m (tail c p) (c ∷ l) k l₂ k₂

-- a repetition goes on
pub many_snoc : {Act R : Type 0} {G : Plan Act R} {M : Machine Act} {m : ℕ} {q : Part Act R} {l l₁ l₂ : List ℕ} {k k₁ k₂ : M.Kept} →
    Way G M m (many q) l k l₁ k₁ → Way G M m q l₁ k₁ l₂ k₂ → Way G M m (many q) l k l₂ k₂
many_snoc w_none u = w_more u w_none
many_snoc (w_more v w) u = w_more v (many_snoc w u)

-- the descent comes to this state, with some count of openings
pub record Comes {Act : Type 0} {M : Machine Act} (x : Answer M) (s : St M) : Type 0 where
  pub count : ℕ
  pub is : x ≡ done count s

itself : (c : ℕ) (l : List ℕ) → Sees (c ∷ []) (c ∷ l)
itself c l = record { holds = or_l (eqb c c) false (eqb_refl c) }

module _ {Act : Type 0} {M : Machine Act} where
  -- a state
  abbrev at : List ℕ → M.Kept → St M
  at l k = record { rest = l; kept = k }

  comes_by : {x y : Answer M} {s : St M} → x ≡ y → Comes y s → Comes x s
  comes_by e h = record { count = h.count; is = e ∙ h.is }

  comes_if : (set : List ℕ) (b : Bool) (s s₀ : St M) (n : ℕ) → T b → Comes (same_d set (ok_if b s) n s₀) s
  unfolding ok_if same_d
  comes_if set true s s₀ n t = record { count = n; is = refl }
  comes_if set false s s₀ n t = absurd t

  comes_then : {x : Answer M} {s s₂ : St M} (w : Walk M) → Comes x s → ((n : ℕ) → Comes (w n s) s₂) → Comes (then_d x w) s₂
  unfolding then_d
  comes_then w h f = record { count = (f h.count).count; is = rw h.is (f h.count).is }

  comes_free : (b : Bool) (room : ℕ) (go : ℕ → Walk M) (n : ℕ) (s s' : St M) → T (not b) → Comes (go room (n + 1) s) s' → Comes (enter b room go n s) s'
  unfolding enter
  comes_free true room go n s s' t h = absurd t
  comes_free false room go n s s' t h = h

  comes_marked : (b : Bool) (room : ℕ) (go : ℕ → Walk M) (n : ℕ) (s s' : St M) → T b → Comes (go room (n + 1) s) s' → Comes (enter b (suc room) go n s) s'
  unfolding enter
  comes_marked true room go n s s' t h = h
  comes_marked false room go n s s' t h = absurd t

living : {Act R : Type 0} (is_token : ℕ → Bool) (G : Plan Act R) (height : R → ℕ) (r : R) → T (complete is_token G height r) → T (alive is_token G height (G.follow r) (G.body r))
unfolding complete
living is_token G height r t = search and_r

module _ {Act R : Type 0} (G : Plan Act R) (good : (r : R) → Sound G r) {M : Machine Act} where
  -- a way is begun by a token that can begin its part, or takes none
  begun : {m : ℕ} {p : Part Act R} {l l' : List ℕ} {k k' : M.Kept} → Way G M m p l k l' k' → Begun {M = M} (begins G.first p) (null p) (at l k) (at l' k')
  unfolding begins null
  begun w_skip = none tt refl
  begun w_act = none tt refl
  begun (w_tok h) = by (record { holds = h })
  begun (w_see h) = by (record { holds = h })
  begun (w_call {r} n w) = by (sees_within (G.first r) (good r).starts (begun_by (null (G.body r)) (good r).full (begun w)))
  begun (w_open {r} n w) = by (sees_within (G.first r) (good r).starts (begun_by (null (G.body r)) (good r).full (begun w)))
  begun (w_seq v w) = begun_seq (begun v) (begun w)
  begun (w_left {p} {q} v) = begun_left (begins G.first q) (null q) (begun v)
  begun (w_right {p} {q} v) = begun_right (begins G.first p) (null p) (begun v)
  begun w_none = none tt refl
  begun (w_more v w) = begun_after (begun v) (begun w)
  begun w_end = none tt refl
  begun (w_trail {c} {l}) = by (itself c l)
  begun (w_item {c} {l} v w) = by (itself c l)

  -- a rule comes to where its body does
  called : (m : ℕ) (r : R) (n : ℕ) (s s' : St M) → T (not (G.opens r)) → Comes (walk G.first (descend G m) (G.body r) (n + 1) s) s' → Comes (descend G m r n s) s'
  called m r n s s' i h = comes_by (descend_is G good m r n s) (comes_free (G.opens r) m _ n s s' i h)

  opened : (m : ℕ) (r : R) (n : ℕ) (s s' : St M) → T (G.opens r) → Comes (walk G.first (descend G m) (G.body r) (n + 1) s) s' → Comes (descend G (suc m) r n s) s'
  opened m r n s s' i h = comes_by (descend_is G good (suc m) r n s) (comes_marked (G.opens r) m _ n s s' i h)

  -- a separator that stands next is taken, and then the list goes on
  behind : (m c : ℕ) (p : Part Act R) (l : List ℕ) (k : M.Kept) (s' : St M) (n : ℕ) →
      let B : List ℕ = begins G.first p in
      let v : Walk M = walk G.first (descend G m) p in
      ((n₁ : ℕ) → Comes (by_d (sees B l) (seq_d v (list_d c B v)) done n₁ (at l (M.shift c k))) s') →
      Comes (by_d (sees (c ∷ []) (c ∷ l)) (seq_d (λ n₁ s₁. same_d (c ∷ []) (take_p (c ∷ []) s₁) n₁ s₁) (λ n₁ s₁. by_d (sees B s₁.rest) (seq_d v (list_d c B v)) done n₁ s₁)) done n (at (c ∷ l) k)) s'
  unfolding seq_d take_p take_from
  behind m c p l k s' n f = decided (λ x. Comes x s') (c ∷ []) _ done n (at (c ∷ l) k)
      (λ i. comes_then _ (comes_if (c ∷ []) (mem c (c ∷ [])) (at l (M.shift c k)) (at (c ∷ l) k) n i.holds) f) (λ i. absurd (i (itself c l)))

  module _ (is_token : ℕ → Bool) (height : R → ℕ) (tested : (r : R) → T (complete is_token G height r)) where
    -- A part, where one of K stands behind it: `fits` says that the next token decides, and `alive` besides that no list stands before a separator of its own.
    found : {m : ℕ} {p : Part Act R} {l l' : List ℕ} {k k' : M.Kept} → Way G M m p l k l' k' → (K : List ℕ) (b : ℕ) → T (fits G K p) → T (low G 100 b p) → T (alive is_token G height K p) →
        Sees K l' → (n : ℕ) → Comes {M = M} (walk G.first (descend G m) p n (at l k)) (at l' k')
    unfolding walk null begins fits low alive skip_p act_p take_p take_from see_p same_d seq_d then_d
    found w_skip K b t u a h n = record { count = n; is = refl }
    found w_act K b t u a h n = record { count = n; is = refl }
    found (w_tok {t = c} {set} {l} {k} i) K b t u a h n = comes_if set (mem c set) (at l (M.shift c k)) (at (c ∷ l) k) n i
    found (w_see {set} {l} {k} i) K b t u a h n = comes_if set (sees set l) (at l k) (at l k) n i
    found (w_call {m} {r} {l} {l'} {k} {k'} i w) K b t u a h n = decided (λ x. Comes x (at l' k')) (G.first r) (descend G m r) _ n (at l k)
        (λ _. called m r n (at l k) (at l' k') i (found w (G.follow r) (G.rank r) (good r).decided (good r).lower (living is_token G height r (tested r)) (sees_within (G.follow r) t h) (n + 1))) (λ f. absurd (f (begun_by false tt (begun (w_call i w)))))
    found (w_open {m} {r} {l} {l'} {k} {k'} i w) K b t u a h n = decided (λ x. Comes x (at l' k')) (G.first r) (descend G (suc m) r) _ n (at l k)
        (λ _. opened m r n (at l k) (at l' k') i (found w (G.follow r) (G.rank r) (good r).decided (good r).lower (living is_token G height r (tested r)) (sees_within (G.follow r) t h) (n + 1))) (λ f. absurd (f (begun_by false tt (begun (w_open i w)))))
    found (w_seq {m} {p} {q} v w) K b t u a h n = comes_then (walk G.first (descend G m) q)
        (found v (next G.first q K) b (search and_l) (search and_l) (search (and_l, and_r)) (next_seen (begun w) h) n)
        (λ n₁. found w K (after 100 (takes G.least p) b) (search (and_l, and_r)) (search (and_l, and_r)) (search (and_l, and_r)) h n₁)
    found (w_left {m} {p} {q} {l} {l'} {k} {k'} v) K b t u a h n =
        let first : Sees (begins G.first p) l = begun_by (null p) (search (and_l, and_r)) (begun v) in
        chosen (λ x. Comes x (at l' k')) (begins G.first p) (begins G.first q) _ (null q) (walk G.first (descend G m) p) (walk G.first (descend G m) q) n (at l k)
        (λ _. found v K b (search (and_l, and_r)) (search and_l) (search and_l) h n) (λ f _. absurd (f first)) (λ f _ _. absurd (f first))
    found (w_right {m} {p} {q} {l} {l'} {k} {k'} v) K b t u a h n =
        chosen (λ x. Comes x (at l' k')) (begins G.first p) (begins G.first q) _ (null q) (walk G.first (descend G m) p) (walk G.first (descend G m) q) n (at l k)
        (λ i. absurd (sees_apart {b = next G.first q K} (search (and_l, and_r)) i (next_seen (begun v) h)))
        (λ _ _. found v K b (search (and_l, and_r)) (search (and_l, and_r)) (search (and_l, and_r)) h n) (λ _ i f. absurd (f (begun_by (null q) i (begun v))))
    found (w_none {m} {p} {l} {k}) K b t u a h n = comes_by (many_from G good m b p u n (at l k))
        (decided (λ x. Comes x (at l k)) (begins G.first p) _ done n (at l k) (λ i. absurd (sees_apart {b = K} (search (and_l, and_r)) i h)) (λ _. record { count = n; is = refl }))
    found (w_more {m} {p} {l} {l₁} {l₂} {k} {k₁} {k₂} v w) K b t u a h n = comes_by (many_from G good m b p u n (at l k))
        (decided (λ x. Comes x (at l₂ k₂)) (begins G.first p) _ done n (at l k)
        (λ _. comes_then (walk G.first (descend G m) (many p)) (found v (begins G.first p ++ K) b (search (and_l, and_r)) (search (and_l, and_r)) a (next_seen (begun w) h) n) (λ n₁. found w K b t u a h n₁))
        (λ f. absurd (f (begun_by (null p) (search (and_l, and_r)) (begun v)))))
    found (w_end {m} {c} {p} {l} {k}) K b t u a h n = comes_by (list_is G good m c p u n (at l k))
        (decided (λ x. Comes x (at l k)) (c ∷ []) _ done n (at l k) (λ i. absurd (sees_apart {b = K} (search and_l) i h)) (λ _. record { count = n; is = refl }))
    found (w_trail {m} {c} {p} {l} {k}) K b t u a h n = comes_by (list_is G good m c p u n (at (c ∷ l) k))
        (behind m c p l k (at l (M.shift c k)) n (λ n₁. decided (λ x. Comes x (at l (M.shift c k))) (begins G.first p) _ done n₁ (at l (M.shift c k))
        (λ i. absurd (sees_apart {b = K} (search (and_l, and_r)) i h)) (λ _. record { count = n₁; is = refl })))
    found (w_item {m} {c} {p} {l} {l₁} {l₂} {k} {k₁} {k₂} v w) K b t u a h n = comes_by (list_is G good m c p u n (at (c ∷ l) k))
        (behind m c p l k (at l₂ k₂) n (λ n₁. decided (λ x. Comes x (at l₂ k₂)) (begins G.first p) _ done n₁ (at l (M.shift c k))
        (λ _. comes_then (walk G.first (descend G m) (tail c p)) (found v (c ∷ K) 100 (search (and_l, and_r)) u (search (and_l, and_r)) (next_seen (begun w) h) n₁) (λ n₂. found w K b t u a h n₂))
        (λ f. absurd (f (begun_by (null p) (search (and_l, and_r)) (begun v))))))

    -- a rule
    pub reads : {m : ℕ} {r : R} {l l' : List ℕ} {k k' : M.Kept} → Way G M m (call r) l k l' k' → Sees (G.follow r) l' → (n : ℕ) → Comes {M = M} (descend G m r n (at l k)) (at l' k')
    reads (w_call {m} {r} {l} {l'} {k} {k'} i w) h n = called m r n (at l k) (at l' k') i (found w (G.follow r) (G.rank r) (good r).decided (good r).lower (living is_token G height r (tested r)) h (n + 1))
    reads (w_open {m} {r} {l} {l'} {k} {k'} i w) h n = opened m r n (at l k) (at l' k') i (found w (G.follow r) (G.rank r) (good r).decided (good r).lower (living is_token G height r (tested r)) h (n + 1))
