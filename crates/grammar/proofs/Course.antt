-- Where the descent is refused, having taken the tokens w of a part, some tokens more finish the part, and the part asks there for what was asked for: the
-- induction over the walk. `P w l` says here that w is read, before l, and `N w l asked` that it is taken and l is refused; for a part p they are `Reads G p`
-- and `Refuses G p`. All that finishes is made of tokens, which `is_token` tells.
-- Assumes nothing.
use mathlib.Core.Path.{◌≡◌, refl, ap, sym, ◌∙◌}
use mathlib.Core.Logic.{inl, inr, ⊎_elim}
use mathlib.Core.Bool.{Bool, true, false}
use mathlib.Core.List.{List, [], ◌∷◌, ◌++◌, append_assoc, append-nil}
use Prim.Native.Nat.{ℕ, zero, suc, ◌+◌, ◌<◌}
use native.Mathlib.Omega.{arith}
use lib.Dec.{T, eqb, eqb_refl, ltb→lt}
use lib.ListN.{length}
use Rattle.grammar.specs.Sets.{mem, sees, apart}
use Rattle.grammar.specs.Grammar.{Part, skip, act, tok, see, call, ◌⨾◌, ◌∕◌, many, tail}
use Rattle.grammar.specs.Trial.{Machine, St, ok, ok_if, skip_p, take_from, take_p, see_p, act_p, enough}
use Rattle.grammar.specs.Descent.{Plan, Answer, done, no, deep, stuck, Walk, null, begins, then_d, same_d, seq_d, loop_d, tail_d, many_d, list_d, walk, enter, rule_d, descend}
use Rattle.grammar.specs.Check.{next, fits}
use Rattle.grammar.specs.Complete.{offers, ready, alive, complete}
use Rattle.grammar.specs.Misfit.{every}
use Rattle.grammar.proofs.Sets.{Sees, and_l, and_r, and_i, or_l, or_r, or_e, sees_one, sees_within, sees_apart}
use Rattle.grammar.proofs.Agree.{is_if}
use Rattle.grammar.proofs.Choice.{decided, chosen}
use Rattle.grammar.proofs.Whole.{Sound}
use Rattle.grammar.proofs.Reading.{Reads, by_skip, by_act, by_tok, by_see, by_call, by_seq, by_left, by_right, many_stop, many_more, tail_stop, tail_last, tail_more, Same, same_head, reads_local, reads_next}
use Rattle.grammar.proofs.Asking.{Refuses, no_tok, no_see, no_call, no_choice, in_call, in_first, in_second, in_left, in_right, in_many, on_many, in_tail, on_tail}

module _ (is_token : ℕ → Bool) where
  -- lists of tokens, joined
  pub every_both : (a b : List ℕ) → T (every is_token a) → T (every is_token b) → T (every is_token (a ++ b))
  every_both [] b h k = k
  every_both (c ∷ a) b h k = and_i (is_token c) (every is_token (a ++ b)) (and_l (is_token c) (every is_token a) h) (every_both a b (and_r (is_token c) (every is_token a) h) k)

  -- the token that a set offers
  pub offered : (set : List ℕ) → T (offers is_token set) → (c : ℕ) × T (mem c set) × T (is_token c)
  offered [] h = absurd h
  offered (c ∷ set) h = ⊎_elim
      (λ i. (c, or_l (eqb c c) (mem c set) (eqb_refl c), i))
      (λ k. let (d, m, i) = offered set k in (d, or_r (eqb d c) (mem d set) m, i))
      (or_e (is_token c) (offers is_token set) h)

  -- what finishes P after w: tokens with which w is read, before any token of K
  pub record Finish (K : List ℕ) (P : List ℕ → List ℕ → Type 0) (w : List ℕ) : Type 0 where
    pub rest : List ℕ
    pub are : T (every is_token rest)
    pub reads : (l : List ℕ) → Sees K l → P (w ++ rest) l

  -- Nothing is taken yet, or what is taken can be finished. (A part of which nothing is taken may have no reading, as a way of a choice that is not gone.)
  data Going (K : List ℕ) (P : List ℕ → List ℕ → Type 0) : List ℕ → Type 0 where
    none : Going K P []
    some : {w : List ℕ} → Finish K P w → Going K P w

  -- What a walk of P from l comes to. If it comes through, it has read P; if it is refused, N says so; the tokens w that it has taken can be finished.
  data Course {Act : Type 0} {M : Machine Act} (K : List ℕ) (P : List ℕ → List ℕ → Type 0) (N : List ℕ → List ℕ → List ℕ → Type 0) (l : List ℕ) : Answer M → Type 0 where
    came : {n : ℕ} {s : St M} (w : List ℕ) → l ≡ w ++ s.rest → P w s.rest → Going K P w → Course K P N l (done n s)
    held : {asked : List ℕ} {n : ℕ} {s : St M} (w : List ℕ) → l ≡ w ++ s.rest → N w s.rest asked → Going K P w → Course K P N l (no asked n s)
    too_deep : {n : ℕ} {s : St M} → Course K P N l (deep n s)
    no_count : Course K P N l stuck

  -- One after the other, P and then Q make S: P looks only at the next token (`near`), which is one of K₁ (`ahead`); where nothing of Q is taken yet, a
  -- reading of it stands for it (`new`). Where Q is refused, by O, S is, by U (`refuse`).
  record Joins (K₁ K : List ℕ) (P Q S : List ℕ → List ℕ → Type 0) (O U : List ℕ → List ℕ → List ℕ → Type 0) : Type 0 where
    near : {w l l' : List ℕ} → Same l l' → P w l → P w l'
    ahead : {w l : List ℕ} → Q w l → Sees K l → Sees K₁ (w ++ l)
    join : {v w l : List ℕ} → P v (w ++ l) → Q w l → S (v ++ w) l
    new : Finish K Q []
    refuse : {v w l asked : List ℕ} → P v (w ++ l) → O w l asked → U (v ++ w) l asked

  module _ {K₁ K : List ℕ} {P Q S : List ℕ → List ℕ → Type 0} {O U : List ℕ → List ℕ → List ℕ → Type 0} (j : Joins K₁ K P Q S O U) where
    -- what is taken is of P
    at_seam : {w : List ℕ} → Going K₁ P w → Going K S w
    at_seam none = none
    at_seam {w} (some f) = some (record { rest = f.rest ++ j.new.rest; are = every_both f.rest j.new.rest f.are j.new.are; reads = λ l h. rw append_assoc at (j.join (f.reads (j.new.rest ++ l) (j.ahead (j.new.reads l h) h)) (j.new.reads l h)) })

    -- it is P, and w of Q
    past : (v w l : List ℕ) → P v (w ++ l) → Going K₁ P v → Going K Q w → Going K S (v ++ w)
    past v [] l x g o = rw append-nil (at_seam g)
    past v (t ∷ w) l x g (some f) = some {w = v ++ (t ∷ w)} (record { rest = f.rest; are = f.are; reads = λ l₁ h. rw append_assoc (j.join (j.near (same_head t (w ++ l) ((w ++ f.rest) ++ l₁)) x) (f.reads l₁ h)) })

    onward : {Act : Type 0} {M : Machine Act} {l l₁ : List ℕ} {y : Answer M} (v : List ℕ) → l ≡ v ++ l₁ → P v l₁ → Going K₁ P v → Course K Q O l₁ y → Course K S U l y
    onward v e x g (came {s} w e₁ y o) = came (v ++ w) (e ∙ ap (λ (z : List ℕ). v ++ z) e₁ ∙ sym (append_assoc v w s.rest)) (j.join (rw e₁ at x) y) (past v w s.rest (rw e₁ at x) g o)
    onward v e x g (held {s} w e₁ y o) = held (v ++ w) (e ∙ ap (λ (z : List ℕ). v ++ z) e₁ ∙ sym (append_assoc v w s.rest)) (j.refuse (rw e₁ at x) y) (past v w s.rest (rw e₁ at x) g o)
    onward v e x g too_deep = too_deep
    onward v e x g no_count = no_count

    -- `here` is for a refusal of P, where it began
    then_course : {Act : Type 0} {M : Machine Act} {N : List ℕ → List ℕ → List ℕ → Type 0} {l : List ℕ} {x : Answer M} {q : Walk M} → ((w l₁ asked : List ℕ) → l ≡ w ++ l₁ → N w l₁ asked → U w l₁ asked) →
        Course K₁ P N l x → ((n : ℕ) (s : St M) → Course K Q O s.rest (q n s)) → Course K S U l (then_d x q)
    unfolding then_d
    then_course here (came {n} {s} v e x g) f = onward v e x g (f n s)
    then_course here (held {asked} {s} v e x g) f = held v e (here v s.rest asked e x) (at_seam g)
    then_course here too_deep f = too_deep
    then_course here no_count f = no_count

  -- what is read as P is read as S
  going_map : {P S : List ℕ → List ℕ → Type 0} {K L w : List ℕ} → ((l : List ℕ) → Sees K l → Sees L l) → ((v l : List ℕ) → Sees K l → P v l → S v l) → Going L P w → Going K S w
  going_map weak f none = none
  going_map {w} weak f (some x) = some (record { rest = x.rest; are = x.are; reads = λ l h. f (w ++ x.rest) l h (x.reads l (weak l h)) })

  -- what is read behind c
  behind_going : {S : List ℕ → List ℕ → Type 0} {K w : List ℕ} (c : ℕ) → Finish K (λ v l. S (c ∷ v) l) [] → Going K (λ v l. S (c ∷ v) l) w → Going K S (c ∷ w)
  behind_going c end none = some (record { rest = end.rest; are = end.are; reads = end.reads })
  behind_going c end (some f) = some (record { rest = f.rest; are = f.are; reads = f.reads })

  module _ {Act : Type 0} {M : Machine Act} {K : List ℕ} where
    -- the same of a walk; `here` and `off` are for what is read and refused, where it began, and `later` for what can be read
    module _ {P S : List ℕ → List ℕ → Type 0} {N U : List ℕ → List ℕ → List ℕ → Type 0} {L l : List ℕ} (weak : (l₁ : List ℕ) → Sees K l₁ → Sees L l₁)
        (here : (w l₁ : List ℕ) → l ≡ w ++ l₁ → P w l₁ → S w l₁) (off : (w l₁ asked : List ℕ) → l ≡ w ++ l₁ → N w l₁ asked → U w l₁ asked) (later : (w l₁ : List ℕ) → Sees K l₁ → P w l₁ → S w l₁) where
      course_map : {x : Answer M} → Course L P N l x → Course K S U l x
      course_map (came {s} w e x g) = came w e (here w s.rest e x) (going_map weak later g)
      course_map (held {asked} {s} w e x g) = held w e (off w s.rest asked e x) (going_map weak later g)
      course_map too_deep = too_deep
      course_map no_count = no_count

    -- and behind a separator, which can be the last token
    module _ {S : List ℕ → List ℕ → Type 0} {U : List ℕ → List ℕ → List ℕ → Type 0} {l l₁ : List ℕ} (c : ℕ) (e : l ≡ c ∷ l₁) (end : Finish K (λ w l₂. S (c ∷ w) l₂) []) where
      behind : {x : Answer M} → Course K (λ w l₂. S (c ∷ w) l₂) (λ w l₂ asked. U (c ∷ w) l₂ asked) l₁ x → Course K S U l x
      behind (came w e₁ x g) = came (c ∷ w) (e ∙ ap (λ (z : List ℕ). c ∷ z) e₁) x (behind_going c end g)
      behind (held w e₁ x g) = held (c ∷ w) (e ∙ ap (λ (z : List ℕ). c ∷ z) e₁) x (behind_going c end g)
      behind too_deep = too_deep
      behind no_count = no_count

  module _ {Act : Type 0} {M : Machine Act} where
    -- a separator that stands next is taken
    separator : (c : ℕ) (s : St M) → Sees (c ∷ []) s.rest → (l : List ℕ) × (k : M.Kept) × (s.rest ≡ c ∷ l) × (take_p (c ∷ []) s ≡ ok (record { rest = l; kept = k }))
    unfolding take_p take_from
    separator c s h =
        let (l, e) = sees_one c s.rest h in
        let k : M.Kept = M.shift c s.kept in
        (l, k, e, ap (λ (z : List ℕ). take_from {M = M} (c ∷ []) z s.kept) e ∙ is_if (mem c (c ∷ [])) (record { rest = l; kept = k }) (or_l (eqb c c) false (eqb_refl c)))

  module _ {Act R : Type 0} (G : Plan Act R) (good : (r : R) → Sound G r) where
    both : {K : List ℕ} {p q : Part Act R} → Finish (next G.first q K) (Reads G p) [] → Finish K (Reads G q) [] → Finish K (Reads G (p ⨾ q)) []
    both f g = record { rest = f.rest ++ g.rest; are = every_both f.rest g.rest f.are g.are; reads = λ l k. by_seq (f.reads (g.rest ++ l) (reads_next good (g.reads l k) k)) (g.reads l k) }

    -- A part that is ready has a reading, where the rules below the height h have one.
    fresh : (height : R → ℕ) (h : ℕ) → ((r : R) → height r < h → Finish (G.follow r) (Reads G (G.body r)) []) → (K : List ℕ) (p : Part Act R) → T (fits G K p) → T (ready is_token G height h K p) → Finish K (Reads G p) []
    unfolding fits ready
    fresh height h low K skip t u = record { rest = []; are = tt; reads = λ l k. by_skip }
    fresh height h low K (act a) t u = record { rest = []; are = tt; reads = λ l k. by_act }
    fresh height h low K (tok set) t u = let (c, m, i) = offered set u in record { rest = c ∷ []; are = and_i (is_token c) true i tt; reads = λ l k. by_tok m }
    fresh height h low K (see set) t u = record { rest = []; are = tt; reads = λ l k. by_see (sees_within set u k) }
    fresh height h low K (call r) t u =
        let f = low r (ltb→lt (height r) h u) in
        record { rest = f.rest; are = f.are; reads = λ l k. by_call (f.reads l (sees_within (G.follow r) t k)) }
    fresh height h low K (p ⨾ q) t u =
        both (fresh height h low (next G.first q K) p (search and_l) (search and_l)) (fresh height h low K q (search (and_l, and_r)) (search (and_l, and_r)))
    fresh height h low K (p ∕ q) t u = ⊎_elim
        (λ v. let f = fresh height h low K p (search (and_l, and_r)) v in record { rest = f.rest; are = f.are; reads = λ l k. by_left (f.reads l k) })
        (λ v. let g = fresh height h low K q (search (and_l, and_r)) v in
        record { rest = g.rest; are = g.are; reads = λ l k. by_right (λ e. sees_apart {b = next G.first q K} (search (and_l, and_r)) e (reads_next good (g.reads l k) k)) (g.reads l k) })
        (or_e (ready is_token G height h K p) (ready is_token G height h K q) u)
    fresh height h low K (many p) t u = record { rest = []; are = tt; reads = λ l k. many_stop {p = p} (λ e. sees_apart {b = K} (search (and_l, and_r)) e k) }
    fresh height h low K (tail c p) t u = record { rest = []; are = tt; reads = λ l k. tail_stop (λ e. sees_apart {b = K} u e k) }

    module _ (height : R → ℕ) (tested : (r : R) → T (complete is_token G height r)) where
      -- every rule has a reading
      fresh_below : (h : ℕ) (r : R) → height r < h → Finish (G.follow r) (Reads G (G.body r)) []
      unfolding complete
      fresh_below zero r lt = absurd (omega arith)
      fresh_below (suc h) r lt =
          let t = tested r in
          fresh height (height r) (λ r' below. fresh_below h r' (omega arith)) (G.follow r) (G.body r) (good r).decided (search and_l)

      -- so, where no height is asked, a rule and a part
      fresh_rule : (r : R) → Finish (G.follow r) (Reads G (G.body r)) []
      fresh_rule r = fresh_below (suc (height r)) r (omega arith)

      pub fresh_part : (K : List ℕ) (p : Part Act R) → T (fits G K p) → T (ready is_token G height 100 K p) → Finish K (Reads G p) []
      fresh_part K p t u = fresh height 100 (λ r _. fresh_rule r) K p t u

      module _ {M : Machine Act} where
        take_course : {K : List ℕ} (set l : List ℕ) (k : M.Kept) (n : ℕ) → Course {M = M} K (Reads G (tok set)) (Refuses G (tok set)) l (same_d set (take_from set l k) n (record { rest = l; kept = k }))
        unfolding take_from same_d ok_if
        take_course set [] k n = held [] refl (no_tok (λ h. h.holds)) none
        take_course {K} set (t ∷ ts) k n = test (mem t set) (λ h. h) (λ h. h)
          where
            test : (b : Bool) → (T b → T (mem t set)) → (T (mem t set) → T b) → Course {M = M} K (Reads G (tok set)) (Refuses G (tok set)) (t ∷ ts) (same_d set (ok_if b (record { rest = ts; kept = M.shift t k })) n (record { rest = t ∷ ts; kept = k }))
            test true f g = came (t ∷ []) refl (by_tok (f tt)) (some (record { rest = []; are = tt; reads = λ l h. by_tok (f tt) }))
            test false f g = held [] refl (no_tok (λ h. g h.holds)) none

        see_course : {K : List ℕ} (set : List ℕ) (n : ℕ) (s : St M) → Course {M = M} K (Reads G (see set)) (Refuses G (see set)) s.rest (same_d set (ok_if (sees set s.rest) s) n s)
        unfolding same_d ok_if
        see_course {K} set n s = test (sees set s.rest) (λ h. record { holds = h }) (λ h. h.holds)
          where
            test : (b : Bool) → (T b → Sees set s.rest) → (Sees set s.rest → T b) → Course {M = M} K (Reads G (see set)) (Refuses G (see set)) s.rest (same_d set (ok_if b s) n s)
            test true f g = came [] refl (by_see (f tt)) none
            test false f g = held [] refl (no_see g) none

        loop_course : {K : List ℕ} (p : Part Act R) (v : Walk M) → T (fits G K (many p)) → ((n : ℕ) (s : St M) → Course (begins G.first p ++ K) (Reads G p) (Refuses G p) s.rest (v n s)) →
            (i n : ℕ) (s : St M) → Course K (Reads G (many p)) (Refuses G (many p)) s.rest (loop_d (begins G.first p) v i n s)
        unfolding loop_d seq_d fits ready begins null
        loop_course p v t hv zero n s = no_count
        loop_course {K} p v t hv (suc i) n s = decided (Course K (Reads G (many p)) (Refuses G (many p)) s.rest) (begins G.first p) (seq_d v (loop_d (begins G.first p) v i)) done n s
            (λ h. then_course (record { near = reads_local; ahead = reads_next good; join = many_more; new = fresh_part K (many p) t tt; refuse = on_many }) (λ w l asked e x. in_many (rw e at h) x) (hv n s) (loop_course p v t hv i))
            (λ f. came [] refl (many_stop f) none)

        tail_course : {K : List ℕ} (c : ℕ) (p : Part Act R) (v : Walk M) → T (fits G K (tail c p)) → T (apart (c ∷ []) K) → ((n : ℕ) (s : St M) → Course (c ∷ K) (Reads G p) (Refuses G p) s.rest (v n s)) →
            (i n : ℕ) (s : St M) → Course K (Reads G (tail c p)) (Refuses G (tail c p)) s.rest (tail_d c (begins G.first p) v i n s)
        unfolding tail_d seq_d then_d same_d fits ready begins null
        tail_course c p v t u hv zero n s = no_count
        tail_course {K} c p v t u hv (suc i) n s =
            let B : List ℕ = begins G.first p in
            decided (Course K (Reads G (tail c p)) (Refuses G (tail c p)) s.rest) (c ∷ []) _ done n s
            (λ h. let (l, k, e, e₁) = separator c s h in rw e₁ (behind c e
            (record { rest = []; are = tt; reads = λ l₁ h₁. tail_last (λ b. sees_apart {b = K} (search (and_l, and_r)) b h₁) })
            (decided (Course K (λ w l₁. Reads G (tail c p) (c ∷ w) l₁) (λ w l₁ asked. Refuses G (tail c p) (c ∷ w) l₁ asked) l) B (seq_d v (tail_d c B v i)) done n (record { rest = l; kept = k })
            (λ b. then_course (record { near = reads_local; ahead = reads_next good; join = tail_more; new = fresh_part K (tail c p) t u; refuse = on_tail }) (λ w l₁ asked e₂ x. in_tail (rw e₂ at b) x) (hv n (record { rest = l; kept = k })) (tail_course c p v t u hv i))
            (λ f. came [] refl (tail_last f) none))))
            (λ f. came [] refl (tail_stop f) none)

        -- a part, where the rules do so
        walk_course : {env : R → Walk M} → ((r : R) (n : ℕ) (s : St M) → Course (G.follow r) (Reads G (G.body r)) (Refuses G (G.body r)) s.rest (env r n s)) →
            (K : List ℕ) (p : Part Act R) → T (fits G K p) → T (alive is_token G height K p) → (n : ℕ) (s : St M) → Course K (Reads G p) (Refuses G p) s.rest (walk G.first env p n s)
        unfolding walk fits alive skip_p act_p take_p see_p same_d seq_d many_d list_d
        walk_course he K skip t u n s = came [] refl by_skip none
        walk_course he K (act a) t u n s = came [] refl by_act none
        walk_course he K (tok set) t u n s = take_course set s.rest s.kept n
        walk_course he K (see set) t u n s = see_course set n s
        walk_course {env} he K (call r) t u n s = decided (Course K (Reads G (call r)) (Refuses G (call r)) s.rest) (G.first r) (env r) (no (G.first r)) n s
            (λ h. course_map (λ l k. sees_within (G.follow r) t k) (λ w l e x. by_call x) (λ w l asked e x. in_call (rw e at h) x) (λ w l k x. by_call x) (he r n s))
            (λ f. held [] refl (no_call f) none)
        walk_course he K (p ⨾ q) t u n s = then_course
            (record { near = reads_local; ahead = reads_next good; join = by_seq; new = fresh_part K q (search (and_l, and_r)) (search (and_l, and_r)); refuse = in_second })
            (λ w l asked e x. in_first x) (walk_course he (next G.first q K) p (search and_l) (search (and_l, and_r)) n s) (walk_course he K q (search (and_l, and_r)) (search (and_l, and_r)))
        walk_course {env} he K (p ∕ q) t u n s = chosen (Course K (Reads G (p ∕ q)) (Refuses G (p ∕ q)) s.rest) (begins G.first p) (begins G.first q) _ (null q) (walk G.first env p) (walk G.first env q) n s
            (λ h. course_map (λ l k. k) (λ w l e x. by_left x) (λ w l asked e x. in_left (rw e at h) x) (λ w l k x. by_left x) (walk_course he K p (search (and_l, and_r)) (search and_l) n s))
            (λ f g. course_map (λ l h. h) (λ w l e x. by_right (λ b. f (rw e b)) x) (λ w l asked e x. in_right (λ b. f (rw e b)) (⊎_elim (λ b. inl (rw e at b)) (λ b. inr b) g) x)
            (λ w l h x. by_right (λ b. sees_apart {b = next G.first q K} (search (and_l, and_r)) b (reads_next good x h)) x)
            (walk_course he K q (search (and_l, and_r)) (search (and_l, and_r)) n s))
            (λ f m g. held [] refl (no_choice f m g) none)
        walk_course {env} he K (many p) t u n s = loop_course p (walk G.first env p) t (walk_course he (begins G.first p ++ K) p (search (and_l, and_r)) u) (suc (length s.rest)) n s
        walk_course {env} he K (tail c p) t u n s =
            tail_course c p (walk G.first env p) t (search and_l) (walk_course he (c ∷ K) p (search (and_l, and_r)) (search (and_l, and_r))) (suc (length s.rest)) n s

        enter_course : {K l : List ℕ} {P : List ℕ → List ℕ → Type 0} {N : List ℕ → List ℕ → List ℕ → Type 0} (go : ℕ → Walk M) (b : Bool) (room n : ℕ) (s : St M) → ((m n₁ : ℕ) → Course K P N l (go m n₁ s)) → Course K P N l (enter b room go n s)
        unfolding enter
        enter_course go false room n s h = h room (n + 1)
        enter_course go true zero n s h = too_deep
        enter_course go true (suc room) n s h = h room (n + 1)

        rule_course : (k room : ℕ) (r : R) (n : ℕ) (s : St M) → Course (G.follow r) (Reads G (G.body r)) (Refuses G (G.body r)) s.rest (rule_d G k room r n s)
        unfolding rule_d complete
        rule_course zero room r n s = no_count
        rule_course (suc k) room r n s =
            let t = tested r in
            enter_course _ (G.opens r) room n s (λ m n₁. walk_course (rule_course k m) (G.follow r) (G.body r) (good r).decided (search (and_l, and_r)) n₁ s)

        finished : {l : List ℕ} {x : Answer M} {r : R} {asked : List ℕ} (m : ℕ) (s : St M) → Course (G.follow r) (Reads G (G.body r)) (Refuses G (G.body r)) l x → x ≡ no asked m s →
            (w : List ℕ) × (l ≡ w ++ s.rest) × Finish (G.follow r) (Reads G (G.body r)) w × Refuses G (G.body r) w s.rest asked
        finished m s (came w e₁ x g) e = absurd (let z : ◌≡◌ {A = ℕ} 0 1 = cc in omega arith)
        finished {r} {asked} m s (held {asked = a} {s = s₁} w e₁ x none) e = let z : s₁ ≡ s = cc in let y : a ≡ asked = cc in ([], e₁ ∙ cc, fresh_rule r, rw (z, y) at x)
        finished {asked} m s (held {asked = a} {s = s₁} w e₁ x (some f)) e = let z : s₁ ≡ s = cc in let y : a ≡ asked = cc in (w, e₁ ∙ cc, f, rw (z, y) at x)
        finished m s too_deep e = absurd (let z : ◌≡◌ {A = ℕ} 0 1 = cc in omega arith)
        finished m s no_count e = absurd (let z : ◌≡◌ {A = ℕ} 0 1 = cc in omega arith)

        -- where a rule is refused, what it has taken can be finished, and what it asks for there is what was asked for
        pub refused_course : {asked : List ℕ} (room : ℕ) (r : R) (n m : ℕ) (s s₁ : St M) → descend G room r n s ≡ no asked m s₁ →
            (w : List ℕ) × (s.rest ≡ w ++ s₁.rest) × Finish (G.follow r) (Reads G (G.body r)) w × Refuses G (G.body r) w s₁.rest asked
        unfolding descend
        refused_course room r n m s s₁ e = finished m s₁ (rule_course (enough s) room r n s) e
