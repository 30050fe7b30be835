-- Where the descent refuses, each token that it asked for can stand: it and the tokens before it begin a list that can be finished.
-- Assumes nothing.
use mathlib.Core.Path.{◌≡◌, refl}
use mathlib.Core.Logic.{⊎_elim}
use mathlib.Core.Bool.{Bool, false}
use mathlib.Core.List.{List, [], ◌∷◌, ◌++◌, append_assoc, append-nil}
use Prim.Native.Nat.{ℕ, zero, suc, ◌<◌}
use native.Mathlib.Omega.{arith}
use lib.Dec.{T, eqb, eqb→eq, ltb→lt}
use Rattle.grammar.specs.Sets.{mem, sees, only, apart}
use Rattle.grammar.specs.Grammar.{Part, skip, act, tok, see, call, ◌⨾◌, ◌∕◌, many, tail}
use Rattle.grammar.specs.Descent.{Plan, null, begins}
use Rattle.grammar.specs.Check.{next, fits, takes, after, low, tight}
use Rattle.grammar.specs.Complete.{alive, complete}
use Rattle.grammar.specs.Misfit.{every}
use Rattle.grammar.proofs.Sets.{Sees, and_l, and_r, or_e, not_e, mem_within, mem_either, mem_only, sees_right, sees_within, sees_apart}
use Rattle.grammar.proofs.Whole.{Sound}
use Rattle.grammar.proofs.Reading.{Reads, by_skip, by_act, by_tok, by_see, by_call, by_seq, by_left, by_right, many_stop, many_more, tail_stop, tail_last, tail_more, same_head, reads_local, reads_next}
use Rattle.grammar.proofs.Course.{every_both, Finish, fresh_part}
use Rattle.grammar.proofs.Asking.{Refuses, no_tok, no_see, no_call, no_choice, in_call, in_first, in_second, in_left, in_right, in_many, on_many, in_tail, on_tail}
use Rattle.grammar.proofs.Wanting.{unseen}

null_takes : {Act R : Type 0} (least : R → ℕ) (p : Part Act R) → T (null p) → takes least p ≡ 0
unfolding null takes
null_takes least skip t = refl
null_takes least (act a) t = refl
null_takes least (tok set) t = absurd t
null_takes least (see set) t = absurd t
null_takes least (call r) t = absurd t
null_takes least (p ⨾ q) t = omega (arith, null_takes least p (and_l (null p) (null q) t), null_takes least q (and_r (null p) (null q) t))
null_takes least (p ∕ q) t = ⊎_elim (λ h. omega (arith, null_takes least p h)) (λ h. omega (arith, null_takes least q h)) (or_e (null p) (null q) t)
null_takes least (many p) t = refl
null_takes least (tail c p) t = refl

-- t can stand after w: what finishes P behind it, before any token of K
pub record CanStand (is_token : ℕ → Bool) (K : List ℕ) (P : List ℕ → List ℕ → Type 0) (w : List ℕ) (t : ℕ) : Type 0 where
  pub rest : List ℕ
  pub are : T (every is_token rest)
  pub reads : (l : List ℕ) → Sees K l → P (w ++ (t ∷ rest)) l

-- once, and then no more
many_once : {Act R : Type 0} {G : Plan Act R} {p : Part Act R} {w l : List ℕ} → Reads G p w l → (Sees (begins G.first p) l → ⊥) → Reads G (many p) w l
many_once {w} x f = rw append-nil at (many_more {w = []} x (many_stop f))

tail_once : {Act R : Type 0} {G : Plan Act R} {c : ℕ} {p : Part Act R} {w l : List ℕ} → Reads G p w l → (Sees (c ∷ []) l → ⊥) → Reads G (tail c p) (c ∷ w) l
tail_once {w} x f = rw append-nil at (tail_more {w = []} x (tail_stop f))

module _ (is_token : ℕ → Bool) {Act R : Type 0} (G : Plan Act R) (good : (r : R) → Sound G r) (height : R → ℕ) (tested : (r : R) → T (complete is_token G height r)) where
  apart_next : {w l : List ℕ} (K : List ℕ) (p q : Part Act R) → T (apart (begins G.first p) (next G.first q K)) → Sees K l → Reads G q w l → Sees (begins G.first p) (w ++ l) → ⊥
  apart_next K p q t h y e = sees_apart {b = next G.first q K} t e (reads_next good y h)

  -- what is null reads nothing
  pub null_read : (K : List ℕ) (p : Part Act R) → T (fits G K p) → T (alive is_token G height K p) → T (null p) → (l : List ℕ) → Sees K l → Reads G p [] l
  unfolding fits alive null
  null_read K skip t u n l h = by_skip
  null_read K (act a) t u n l h = by_act
  null_read K (tok set) t u n l h = absurd n
  null_read K (see set) t u n l h = absurd n
  null_read K (call r) t u n l h = absurd n
  null_read K (p ⨾ q) t u n l h =
      let y : Reads G q [] l = null_read K q (search (and_l, and_r)) (search (and_l, and_r)) (search (and_l, and_r)) l h in
      by_seq {w = []} (null_read (next G.first q K) p (search and_l) (search (and_l, and_r)) (search and_l) l (reads_next good y h)) y
  null_read K (p ∕ q) t u n l h = ⊎_elim
      (λ n₁. absurd (not_e (null p) (search (and_l, and_r)) n₁))
      (λ n₁. let y : Reads G q [] l = null_read K q (search (and_l, and_r)) (search (and_l, and_r)) n₁ l h in
      by_right {w = []} (λ b. sees_apart {b = next G.first q K} (search (and_l, and_r)) b (reads_next good y h)) y)
      (or_e (null p) (null q) n)
  null_read K (many p) t u n l h = many_stop {p = p} (λ e. sees_apart {b = K} (search (and_l, and_r)) e h)
  null_read K (tail c p) t u n l h = tail_stop {c = c} (λ e. sees_apart {b = K} (search and_l) e h)

  -- what stopped before l₀, which it did not see, stops before any token of K
  module _ (l₀ : List ℕ) (blind : (r : R) → T (unseen l₀ (G.body r))) where
    pub steady : {p : Part Act R} {w : List ℕ} (K : List ℕ) → T (fits G K p) → T (alive is_token G height K p) → T (unseen l₀ p) → Reads G p w l₀ → (l : List ℕ) → Sees K l → Reads G p w l
    unfolding fits alive unseen complete
    steady K t u b by_skip l h = by_skip
    steady K t u b by_act l h = by_act
    steady K t u b (by_tok x) l h = by_tok x
    steady K t u b (by_see {set} x) l h = absurd (not_e (sees set l₀) b x.holds)
    steady K t u b (by_call {r} x) l h =
        let c = tested r in
        by_call (steady (G.follow r) (good r).decided (search (and_l, and_r)) (blind r) x l (sees_within (G.follow r) t h))
    steady K t u b (by_seq {p} {q} {w = []} x y) l h =
        let y₁ : Reads G q [] l = steady K (search (and_l, and_r)) (search (and_l, and_r)) (search (and_l, and_r)) y l h in
        by_seq {w = []} (steady (next G.first q K) (search and_l) (search (and_l, and_r)) (search and_l) x l (reads_next good y₁ h)) y₁
    steady K t u b (by_seq {p} {q} {w = c ∷ w} x y) l h =
        by_seq {w = c ∷ w} (reads_local (same_head c (w ++ l₀) (w ++ l)) x) (steady K (search (and_l, and_r)) (search (and_l, and_r)) (search (and_l, and_r)) y l h)
    steady K t u b (by_left {p} {q} x) l h = by_left (steady K (search (and_l, and_r)) (search and_l) (search and_l) x l h)
    steady K t u b (by_right {p} {q} {w} f x) l h =
        let y : Reads G q w l = steady K (search (and_l, and_r)) (search (and_l, and_r)) (search (and_l, and_r)) x l h in
        by_right {p = p} (apart_next K p q (search (and_l, and_r)) h y) y
    steady K t u b (many_stop {p} f) l h = many_stop {p = p} (λ e. sees_apart {b = K} (search (and_l, and_r)) e h)
    steady K t u b (many_more {p} {w = []} x y) l h =
        let y₁ : Reads G (many p) [] l = steady K t u b y l h in
        many_more {w = []} (steady (begins G.first p ++ K) (search (and_l, and_r)) u b x l (sees_right (begins G.first p) h)) y₁
    steady K t u b (many_more {p} {w = c ∷ w} x y) l h = many_more {w = c ∷ w} (reads_local (same_head c (w ++ l₀) (w ++ l)) x) (steady K t u b y l h)
    steady K t u b (tail_stop {c} f) l h = tail_stop {c = c} (λ e. sees_apart {b = K} (search and_l) e h)
    steady K t u b (tail_last {c} {p} f) l h = tail_last {p = p} (λ e. sees_apart {b = K} (search (and_l, and_r)) e h)
    steady K t u b (tail_more {c} {p} {w = []} x y) l h =
        tail_more {w = []} (steady (c ∷ K) (search (and_l, and_r)) (search (and_l, and_r)) b x l (sees_right (c ∷ []) h)) (steady K t u b y l h)
    steady K t u b (tail_more {c} {p} {w = d ∷ w} x y) l h = tail_more {w = d ∷ w} (reads_local (same_head d (w ++ l₀) (w ++ l)) x) (steady K t u b y l h)

  -- A part that the token t can begin has a reading that it begins, where the rules of a rank below m do.
  module _ (t : ℕ) (tightly : (r : R) → T (tight G r)) (blind : (r : R) → T (unseen (t ∷ []) (G.body r))) where
    started : (K : List ℕ) (m : ℕ) → ((r : R) → G.rank r < m → T (mem t (G.first r)) → Finish is_token (G.follow r) (Reads G (G.body r)) (t ∷ [])) →
        (p : Part Act R) → T (fits G K p) → T (alive is_token G height K p) → T (low G 100 m p) → T (unseen (t ∷ []) p) → T (mem t (begins G.first p)) → Finish is_token K (Reads G p) (t ∷ [])
    unfolding fits alive low unseen begins
    started K m he skip f a u b h = absurd h
    started K m he (act x) f a u b h = absurd h
    started K m he (tok set) f a u b h = record { rest = []; are = tt; reads = λ l k. by_tok h }
    started K m he (see set) f a u b h = absurd (not_e (mem t set) b h)
    started K m he (call r) f a u b h =
        let g = he r (ltb→lt (G.rank r) m u) h in
        record { rest = g.rest; are = g.are; reads = λ l k. by_call (g.reads l (sees_within (G.follow r) f k)) }
    started K m he (p ⨾ q) f a u b h = ⊎_elim
        (λ i. begun_first (started (next G.first q K) m he p (search and_l) (search (and_l, and_r)) (search and_l) (search and_l) i)
        (fresh_part is_token G good height tested K q (search (and_l, and_r)) (search (and_l, and_r))))
        (λ i. let (n, j) = mem_only t (null p) (begins G.first q) i in
        let z : takes G.least p ≡ 0 = null_takes G.least p n in
        let lowq : T (low G 100 (after 100 (takes G.least p) m) q) = search (and_l, and_r) in
        begun_second (null_read (next G.first q K) p (search and_l) (search (and_l, and_r)) n)
        (started K m he q (search (and_l, and_r)) (search (and_l, and_r)) (rw z at lowq) (search (and_l, and_r)) j))
        (mem_either t (begins G.first p) (only (null p) (begins G.first q)) h)
      where
        begun_first : {p q : Part Act R} → Finish is_token (next G.first q K) (Reads G p) (t ∷ []) → Finish is_token K (Reads G q) [] → Finish is_token K (Reads G (p ⨾ q)) (t ∷ [])
        begun_first f g = record { rest = f.rest ++ g.rest; are = every_both is_token f.rest g.rest f.are g.are; reads = λ l k. by_seq (f.reads (g.rest ++ l) (reads_next good (g.reads l k) k)) (g.reads l k) }

        begun_second : {p q : Part Act R} → ((l : List ℕ) → Sees (next G.first q K) l → Reads G p [] l) → Finish is_token K (Reads G q) (t ∷ []) → Finish is_token K (Reads G (p ⨾ q)) (t ∷ [])
        begun_second f g = record { rest = g.rest; are = g.are; reads = λ l k. by_seq (f ((t ∷ g.rest) ++ l) (reads_next good (g.reads l k) k)) (g.reads l k) }
    started K m he (p ∕ q) f a u b h = ⊎_elim
        (λ i. let g = started K m he p (search (and_l, and_r)) (search and_l) (search and_l) (search and_l) i in record { rest = g.rest; are = g.are; reads = λ l k. by_left (g.reads l k) })
        (λ i. let g = started K m he q (search (and_l, and_r)) (search (and_l, and_r)) (search (and_l, and_r)) (search (and_l, and_r)) i in
        record { rest = g.rest; are = g.are; reads = λ l k. by_right {p = p} (λ e. sees_apart {b = next G.first q K} (search (and_l, and_r)) e (reads_next good (g.reads l k) k)) (g.reads l k) })
        (mem_either t (begins G.first p) (begins G.first q) h)
    started K m he (many p) f a u b h =
        let g = started (begins G.first p ++ K) m he p (search (and_l, and_r)) a (search (and_l, and_r)) b h in
        record { rest = g.rest; are = g.are; reads = λ l k. many_once (g.reads l (sees_right (begins G.first p) k)) (λ e. sees_apart {b = K} (search (and_l, and_r)) e k) }
    started K m he (tail c p) f a u b h =
        let z : t ≡ c = ⊎_elim (λ e. eqb→eq t c e) (λ e. absurd e) (or_e (eqb t c) false h) in
        rw z (record { rest = []; are = tt; reads = λ l k. tail_last {p = p} (λ e. sees_apart {b = K} (search (and_l, and_r)) e k) })

    started_below : (n : ℕ) (r : R) → G.rank r < n → T (mem t (G.first r)) → Finish is_token (G.follow r) (Reads G (G.body r)) (t ∷ [])
    unfolding complete tight
    started_below zero r lt h = absurd (omega arith)
    started_below (suc n) r lt h =
        let c = tested r in
        started (G.follow r) (G.rank r) (λ r' below i. started_below n r' (omega arith) i) (G.body r) (good r).decided (search (and_l, and_r)) (good r).lower (blind r)
        (mem_within t (G.first r) (begins G.first (G.body r)) (tightly r) h)

    started_rule : (r : R) → T (mem t (G.first r)) → Finish is_token (G.follow r) (Reads G (G.body r)) (t ∷ [])
    started_rule r h = started_below (suc (G.rank r)) r (omega arith) h

    module _ (l₀ : List ℕ) (blind₀ : (r : R) → T (unseen l₀ (G.body r))) where
      ahead : {p : Part Act R} {v : List ℕ} (K : List ℕ) → T (fits G K p) → T (alive is_token G height K p) → T (unseen l₀ p) → (w u : List ℕ) → Reads G p v (w ++ l₀) → Sees K (w ++ (t ∷ u)) → Reads G p v (w ++ (t ∷ u))
      ahead K f a b [] u x h = steady l₀ blind₀ K f a b x (t ∷ u) h
      ahead K f a b (c ∷ w) u x h = reads_local (same_head c (w ++ l₀) (w ++ (t ∷ u))) x

      -- p before what finishes q, and one after the other
      module _ (K : List ℕ) {p : Part Act R} {v w : List ℕ} (q : Part Act R) (f : T (fits G (next G.first q K) p)) (a : T (alive is_token G height (next G.first q K) p)) (b : T (unseen l₀ p)) (x : Reads G p v (w ++ l₀)) (g : CanStand is_token K (Reads G q) w t) where
        before : (l : List ℕ) → Sees K l → Reads G p v ((w ++ (t ∷ g.rest)) ++ l)
        before l h = rw (append_assoc w (t ∷ g.rest) l) (ahead (next G.first q K) f a b w (g.rest ++ l) x (rw (append_assoc w (t ∷ g.rest) l) at (reads_next good (g.reads l h) h)))

        stands_after : (S : List ℕ → List ℕ → Type 0) → ((u l : List ℕ) → Reads G p v (u ++ l) → Reads G q u l → S (v ++ u) l) → CanStand is_token K S (v ++ w) t
        stands_after S join = record { rest = g.rest; are = g.are; reads = λ l h. rw (append_assoc v w (t ∷ g.rest)) (join (w ++ (t ∷ g.rest)) l (before l h) (g.reads l h)) }

      stands_first : {K w : List ℕ} {p q : Part Act R} → Finish is_token K (Reads G q) [] → CanStand is_token (next G.first q K) (Reads G p) w t → CanStand is_token K (Reads G (p ⨾ q)) w t
      stands_first {w} i g = record { rest = g.rest ++ i.rest; are = every_both is_token g.rest i.rest g.are i.are; reads = λ l h. rw (append_assoc w (t ∷ g.rest) i.rest) at (by_seq (g.reads (i.rest ++ l) (reads_next good (i.reads l h) h)) (i.reads l h)) }

      stands_as : {K L w : List ℕ} {P S : List ℕ → List ℕ → Type 0} → ((l : List ℕ) → Sees K l → Sees L l) → ((u l : List ℕ) → Sees K l → P u l → S u l) → CanStand is_token L P w t → CanStand is_token K S w t
      stands_as {w} weak f g = record { rest = g.rest; are = g.are; reads = λ l h. f (w ++ (t ∷ g.rest)) l h (g.reads l (weak l h)) }

      stands_behind : {K w : List ℕ} {S : List ℕ → List ℕ → Type 0} (c : ℕ) → CanStand is_token K (λ u l. S (c ∷ u) l) w t → CanStand is_token K S (c ∷ w) t
      stands_behind c g = record { rest = g.rest; are = g.are; reads = g.reads }

      stands_now : {K : List ℕ} {P : List ℕ → List ℕ → Type 0} → Finish is_token K P (t ∷ []) → CanStand is_token K P [] t
      stands_now g = record { rest = g.rest; are = g.are; reads = g.reads }

      -- each token that is asked for can stand where the part refuses
      pub can_stand : {p : Part Act R} {w asked : List ℕ} (K : List ℕ) (m : ℕ) → T (fits G K p) → T (alive is_token G height K p) → T (low G 100 m p) → T (unseen l₀ p) → T (unseen (t ∷ []) p) → Refuses G p w l₀ asked → T (mem t asked) → CanStand is_token K (Reads G p) w t
      unfolding fits alive low unseen complete begins null
      can_stand K m f a o b b₁ (no_tok x) h = record { rest = []; are = tt; reads = λ l k. by_tok h }
      can_stand K m f a o b b₁ (no_see {set} x) h = absurd (not_e (mem t set) b₁ h)
      can_stand K m f a o b b₁ (no_call {r} x) h = stands_as (λ l k. sees_within (G.follow r) f k) (λ u l k y. by_call y) (stands_now (started_rule r h))
      can_stand K m f a o b b₁ (no_choice {p} {q} x n y) h = stands_now (started K m (λ r _ i. started_rule r i) (p ∕ q) f a o b₁ h)
      can_stand K m f a o b b₁ (in_call {r} s x) h =
          let c = tested r in
          stands_as (λ l k. sees_within (G.follow r) f k) (λ u l k y. by_call y) (can_stand (G.follow r) (G.rank r) (good r).decided (search (and_l, and_r)) (good r).lower (blind₀ r) (blind r) x h)
      can_stand K m f a o b b₁ (in_first {p} {q} x) h =
          stands_first (fresh_part is_token G good height tested K q (search (and_l, and_r)) (search (and_l, and_r)))
          (can_stand (next G.first q K) m (search and_l) (search (and_l, and_r)) (search and_l) (search and_l) (search and_l) x h)
      can_stand K m f a o b b₁ (in_second {p} {q} x y) h =
          stands_after K q (search and_l) (search (and_l, and_r)) (search and_l) x
          (can_stand K (after 100 (takes G.least p) m) (search (and_l, and_r)) (search (and_l, and_r)) (search (and_l, and_r)) (search (and_l, and_r)) (search (and_l, and_r)) y h) (Reads G (p ⨾ q)) (λ u l i j. by_seq i j)
      can_stand K m f a o b b₁ (in_left s x) h = stands_as (λ l k. k) (λ u l k y. by_left y) (can_stand K m (search (and_l, and_r)) (search and_l) (search and_l) (search and_l) (search and_l) x h)
      can_stand K m f a o b b₁ (in_right {p} {q} s i x) h =
          stands_as (λ l k. k) (λ u l k y. by_right {p = p} (apart_next K p q (search (and_l, and_r)) k y) y)
          (can_stand K m (search (and_l, and_r)) (search (and_l, and_r)) (search (and_l, and_r)) (search (and_l, and_r)) (search (and_l, and_r)) x h)
      can_stand K m f a o b b₁ (in_many {p} s x) h =
          stands_as (λ l k. sees_right (begins G.first p) k) (λ u l k y. many_once y (λ e. sees_apart {b = K} (search (and_l, and_r)) e k))
          (can_stand (begins G.first p ++ K) m (search (and_l, and_r)) a (search (and_l, and_r)) b b₁ x h)
      can_stand K m f a o b b₁ (on_many {p} x y) h =
          stands_after K (many p) (search (and_l, and_r)) a b x (can_stand K m f a o b b₁ y h) (Reads G (many p)) (λ u l i j. many_more i j)
      can_stand K m f a o b b₁ (in_tail {c} {p} s x) h =
          stands_behind c (stands_as (λ l k. sees_right (c ∷ []) k) (λ u l k y. tail_once {c = c} y (λ e. sees_apart {b = K} (search and_l) e k))
          (can_stand (c ∷ K) 100 (search (and_l, and_r)) (search (and_l, and_r)) o b b₁ x h))
      can_stand K m f a o b b₁ (on_tail {c} {p} {v} x y) h =
          stands_behind c (stands_after K (tail c p) (search (and_l, and_r)) (search (and_l, and_r)) b x (can_stand K m f a o b b₁ y h) (λ u l. Reads G (tail c p) (c ∷ u) l) (λ u l i j. tail_more i j))
