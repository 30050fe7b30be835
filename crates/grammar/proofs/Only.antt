-- Where the descent asks for tokens of X alone, and the test passes, no other token can stand: with any other it refuses there, and asks for the same. And
-- what a part can ask for passes a test that the sets of its rules pass.
-- Assumes nothing.
use mathlib.Core.Path.{◌≡◌, refl}
use mathlib.Core.Logic.{◌⊎◌, inl, inr, ⊎_elim}
use mathlib.Core.Bool.{Bool, true, false, not, ◌&&◌, ◌||◌}
use mathlib.Core.List.{List, [], ◌∷◌, ◌++◌}
use Prim.Native.Nat.{ℕ}
use native.Mathlib.Omega.{arith}
use lib.Dec.{T}
use Rattle.grammar.specs.Sets.{sees, only, within}
use Rattle.grammar.specs.Grammar.{Part}
use Rattle.grammar.specs.Descent.{Plan, null, begins}
use Rattle.grammar.specs.Check.{next, fits, tight}
use Rattle.grammar.proofs.Sets.{Sees, and_l, and_r, and_i, or_l, or_r, or_e, not_e, sees_left, sees_right, sees_either, sees_none, sees_if, sees_within}
use Rattle.grammar.proofs.Whole.{Sound}
use Rattle.grammar.proofs.Reading.{Reads, by_skip, by_act, by_tok, by_see, by_call, by_seq, by_left, by_right, many_stop, many_more, tail_stop, tail_last, tail_more, same_head, reads_local}
use Rattle.grammar.proofs.Asking.{Refuses, no_tok, no_see, no_call, no_choice, in_call, in_first, in_second, in_left, in_right, in_many, on_many, in_tail, on_tail}
use Rattle.grammar.proofs.Wanting.{unseen, exposed, firm, shows, direct}

none_is : {c : ℕ} {l : List ℕ} → c ∷ l ≡ [] → ⊥
none_is e = let z : ◌≡◌ {A = ℕ} 0 1 = cc in omega arith

-- at once, where that is not left out
let_in : (a b : Bool) → T (not b || a) → T b ⊎ (◌≡◌ {A = List ℕ} [] [] → ⊥) → T a
let_in a true t h = t
let_in a false t h = absurd (⊎_elim (λ n. n) (λ f. f refl) h)

module _ {Act R : Type 0} (G : Plan Act R) (good : (r : R) → Sound G r) (tightly : (r : R) → T (tight G r)) (l₀ : List ℕ) (blind : (r : R) → T (unseen l₀ (G.body r))) where
  -- a part that reads nothing is null, and no token stands next that can begin it
  reads_none : {p : Part Act R} {w : List ℕ} (K : List ℕ) → T (fits G K p) → T (unseen l₀ p) → Reads G p w l₀ → w ≡ [] → T (null p) × (Sees (begins G.first p) l₀ → ⊥)
  unfolding fits unseen null begins
  reads_none K f u by_skip e = (tt, sees_none)
  reads_none K f u by_act e = (tt, sees_none)
  reads_none K f u (by_tok h) e = absurd (none_is e)
  reads_none K f u (by_see {set} h) e = absurd (not_e (sees set l₀) u h.holds)
  reads_none K f u (by_call {r} x) e = let i = reads_none (G.follow r) (good r).decided (blind r) x e in absurd (not_e (null (G.body r)) (good r).full i.0)
  reads_none K f u (by_seq {p} {q} {v = []} {w = []} x y) e =
      let (n, i) = reads_none (next G.first q K) (search and_l) (search and_l) x refl in
      let (m, j) = reads_none K (search (and_l, and_r)) (search (and_l, and_r)) y refl in
      (and_i (null p) (null q) n m, λ h. ⊎_elim i (λ k. j (sees_if (null p) k).1) (sees_either (only (null p) (begins G.first q)) h))
  reads_none K f u (by_seq {v = []} {w = c ∷ w} x y) e = absurd (none_is e)
  reads_none K f u (by_seq {v = c ∷ v} x y) e = absurd (none_is e)
  reads_none K f u (by_left {p} {q} x) e = let i = reads_none K (search (and_l, and_r)) (search and_l) x e in absurd (not_e (null p) (search (and_l, and_r)) i.0)
  reads_none K f u (by_right {p} {q} {w} g x) e =
      let (m, j) = reads_none K (search (and_l, and_r)) (search (and_l, and_r)) x e in
      (or_r (null p) (null q) m, λ h. ⊎_elim (λ i. g (rw e i)) j (sees_either (begins G.first q) h))
  reads_none K f u (many_stop g) e = (tt, g)
  reads_none K f u (many_more {p} {v = []} {w = []} x y) e = let i = reads_none (begins G.first p ++ K) (search (and_l, and_r)) u x refl in absurd (not_e (null p) (search (and_l, and_r)) i.0)
  reads_none K f u (many_more {v = []} {w = c ∷ w} x y) e = absurd (none_is e)
  reads_none K f u (many_more {v = c ∷ v} x y) e = absurd (none_is e)
  reads_none K f u (tail_stop g) e = (tt, g)
  reads_none K f u (tail_last g) e = absurd (none_is e)
  reads_none K f u (tail_more x y) e = absurd (none_is e)

  -- a part that is begun, or null, does not refuse at once
  not_at_once : {p : Part Act R} {w asked : List ℕ} (K : List ℕ) → T (fits G K p) → T (unseen l₀ p) → Refuses G p w l₀ asked → w ≡ [] → Sees (begins G.first p) l₀ ⊎ T (null p) → ⊥
  unfolding fits unseen null begins tight
  not_at_once K f u (no_tok g) e h = ⊎_elim g (λ n. n) h
  not_at_once K f u (no_see g) e h = ⊎_elim g (λ n. n) h
  not_at_once K f u (no_call g) e h = ⊎_elim g (λ n. n) h
  not_at_once K f u (no_choice {p} {q} g n g₁) e h = ⊎_elim (λ i. ⊎_elim g g₁ (sees_either (begins G.first q) i))
      (λ i. ⊎_elim (λ j. not_e (null p) (search (and_l, and_r)) j) (λ j. not_e (null q) n j) (or_e (null p) (null q) i)) h
  not_at_once K f u (in_call {r} s x) e h = not_at_once (G.follow r) (good r).decided (blind r) x e (inl (sees_within (begins G.first (G.body r)) (tightly r) (rw e at s)))
  not_at_once K f u (in_first {p} {q} x) e h = not_at_once (next G.first q K) (search and_l) (search and_l) x e
      (⊎_elim (λ i. ⊎_elim (λ j. inl j) (λ j. inr (sees_if (null p) j).0) (sees_either (only (null p) (begins G.first q)) i)) (λ n. inr (and_l (null p) (null q) n)) h)
  not_at_once K f u (in_second {p} {q} {v = []} {w = []} x y) e h =
      let (n, i) = reads_none (next G.first q K) (search and_l) (search and_l) x refl in
      not_at_once K (search (and_l, and_r)) (search (and_l, and_r)) y refl
      (⊎_elim (λ j. ⊎_elim (λ k. absurd (i k)) (λ k. inl (sees_if (null p) k).1) (sees_either (only (null p) (begins G.first q)) j)) (λ m. inr (and_r (null p) (null q) m)) h)
  not_at_once K f u (in_second {v = []} {w = c ∷ w} x y) e h = none_is e
  not_at_once K f u (in_second {v = c ∷ v} x y) e h = none_is e
  not_at_once K f u (in_left s x) e h = not_at_once K (search (and_l, and_r)) (search and_l) x e (inl (rw e at s))
  not_at_once K f u (in_right {q} g i x) e h = not_at_once K (search (and_l, and_r)) (search (and_l, and_r)) x e (⊎_elim (λ j. inl (rw e at j)) (λ j. inr j) i)
  not_at_once K f u (in_many {p} s x) e h = not_at_once (begins G.first p ++ K) (search (and_l, and_r)) u x e (inl (rw e at s))
  not_at_once K f u (on_many {p} {v = []} {w = []} x y) e h = not_at_once K f u y refl (inr tt)
  not_at_once K f u (on_many {v = []} {w = c ∷ w} x y) e h = none_is e
  not_at_once K f u (on_many {v = c ∷ v} x y) e h = none_is e
  not_at_once K f u (in_tail s x) e h = none_is e
  not_at_once K f u (on_tail x y) e h = none_is e

  module _ (X : List ℕ) where
    -- what refuses at once, and asks for tokens of X alone, is exposed
    at_once : {p : Part Act R} {w asked : List ℕ} (K : List ℕ) → T (fits G K p) → T (unseen l₀ p) → Refuses G p w l₀ asked → w ≡ [] → T (within asked X) → T (exposed G X p)
    unfolding fits unseen exposed null begins tight
    at_once K f u (no_tok g) e c = c
    at_once K f u (no_see g) e c = c
    at_once K f u (no_call g) e c = c
    at_once K f u (no_choice g n g₁) e c = c
    at_once K f u (in_call {r} s x) e c = absurd (not_at_once (G.follow r) (good r).decided (blind r) x e (inl (sees_within (begins G.first (G.body r)) (tightly r) (rw e at s))))
    at_once K f u (in_first {p} {q} x) e c = or_l (exposed G X p) (null p && exposed G X q) (at_once (next G.first q K) (search and_l) (search and_l) x e c)
    at_once K f u (in_second {p} {q} {v = []} {w = []} x y) e c =
        let i = reads_none (next G.first q K) (search and_l) (search and_l) x refl in
        or_r (exposed G X p) (null p && exposed G X q) (and_i (null p) (exposed G X q) i.0 (at_once K (search (and_l, and_r)) (search (and_l, and_r)) y refl c))
    at_once K f u (in_second {v = []} {w = d ∷ w} x y) e c = absurd (none_is e)
    at_once K f u (in_second {v = d ∷ v} x y) e c = absurd (none_is e)
    at_once K f u (in_left s x) e c = absurd (not_at_once K (search (and_l, and_r)) (search and_l) x e (inl (rw e at s)))
    at_once K f u (in_right g i x) e c = absurd (not_at_once K (search (and_l, and_r)) (search (and_l, and_r)) x e (⊎_elim (λ j. inl (rw e at j)) (λ j. inr j) i))
    at_once K f u (in_many {p} s x) e c = absurd (not_at_once (begins G.first p ++ K) (search (and_l, and_r)) u x e (inl (rw e at s)))
    at_once K f u (on_many {v = []} {w = []} x y) e c = absurd (not_at_once K f u y refl (inr tt))
    at_once K f u (on_many {v = []} {w = d ∷ w} x y) e c = absurd (none_is e)
    at_once K f u (on_many {v = d ∷ v} x y) e c = absurd (none_is e)
    at_once K f u (in_tail s x) e c = absurd (none_is e)
    at_once K f u (on_tail x y) e c = absurd (none_is e)

    module _ (l : List ℕ) (other : Sees X l → ⊥) where
      -- a part that is firm stops before l as well
      firmly : {p : Part Act R} {w : List ℕ} → T (firm G X p) → Reads G p w l₀ → Reads G p w l
      unfolding firm
      firmly i by_skip = by_skip
      firmly i by_act = by_act
      firmly i (by_tok h) = by_tok h
      firmly i (by_see h) = absurd i
      firmly i (by_call x) = absurd i
      firmly i (by_seq {w = []} x y) = by_seq {w = []} (firmly (search and_l) x) (firmly (search (and_l, and_r)) y)
      firmly i (by_seq {w = c ∷ w} x y) = by_seq {w = c ∷ w} (reads_local (same_head c (w ++ l₀) (w ++ l)) x) (firmly (search (and_l, and_r)) y)
      firmly i (by_left x) = by_left (firmly (search (and_l, and_r)) x)
      firmly i (by_right {p} {w = []} g x) = by_right {p = p} {w = []} (λ h. other (sees_within {a = begins G.first p} X (search (and_l, and_r)) h)) (firmly (search (and_l, and_r)) x)
      firmly i (by_right {p} {w = c ∷ w} g x) = by_right {p = p} {w = c ∷ w} (λ h. g (record { holds = h.holds })) (firmly (search (and_l, and_r)) x)
      firmly i (many_stop {p} g) = many_stop {p = p} (λ h. other (sees_within {a = begins G.first p} X (search and_l) h))
      firmly i (many_more {w = []} x y) = many_more {w = []} (firmly (search (and_l, and_r)) x) (firmly i y)
      firmly i (many_more {w = c ∷ w} x y) = many_more {w = c ∷ w} (reads_local (same_head c (w ++ l₀) (w ++ l)) x) (firmly i y)
      firmly i (tail_stop g) = absurd i
      firmly i (tail_last g) = absurd i
      firmly i (tail_more x y) = absurd i

      module _ (shown : (r : R) → T (shows G X (G.body r))) where
        -- what is asked for before l₀ is asked for before l
        pub asks_too : {p : Part Act R} {w asked : List ℕ} (K : List ℕ) → T (fits G K p) → T (unseen l₀ p) → T (shows G X p) → T (within asked X) → Refuses G p w l₀ asked → Refuses G p w l asked
        unfolding fits unseen shows null begins tight
        asks_too K f u s c (no_tok g) = no_tok (λ h. other (sees_within X c h))
        asks_too K f u s c (no_see g) = no_see (λ h. other (sees_within X c h))
        asks_too K f u s c (no_call g) = no_call (λ h. other (sees_within X c h))
        asks_too K f u s c (no_choice {p} {q} g n g₁) = no_choice (λ h. other (sees_within X c (sees_left (begins G.first q) h))) n (λ h. other (sees_within X c (sees_right (begins G.first p) h)))
        asks_too K f u s c (in_call {r} {w = []} h x) = absurd (not_at_once (G.follow r) (good r).decided (blind r) x refl (inl (sees_within (begins G.first (G.body r)) (tightly r) h)))
        asks_too K f u s c (in_call {r} {w = d ∷ w} h x) = in_call (record { holds = h.holds }) (asks_too (G.follow r) (good r).decided (blind r) (shown r) c x)
        asks_too K f u s c (in_first {p} {q} x) = in_first (asks_too (next G.first q K) (search and_l) (search and_l) (search (and_l, and_r)) c x)
        asks_too K f u s c (in_second {p} {q} {w = []} x y) =
            let e : T (exposed G X q) = at_once K (search (and_l, and_r)) (search (and_l, and_r)) y refl c in
            in_second {w = []} (⊎_elim (λ n. absurd (not_e (exposed G X q) n e)) (λ i. firmly i x) (or_e (not (exposed G X q)) (firm G X p) (search and_l)))
            (asks_too K (search (and_l, and_r)) (search (and_l, and_r)) (search (and_l, and_r)) c y)
        asks_too K f u s c (in_second {p} {q} {w = d ∷ w} x y) =
            in_second {w = d ∷ w} (reads_local (same_head d (w ++ l₀) (w ++ l)) x) (asks_too K (search (and_l, and_r)) (search (and_l, and_r)) (search (and_l, and_r)) c y)
        asks_too K f u s c (in_left {w = []} h x) = absurd (not_at_once K (search (and_l, and_r)) (search and_l) x refl (inl h))
        asks_too K f u s c (in_left {w = d ∷ w} h x) = in_left {w = d ∷ w} (record { holds = h.holds }) (asks_too K (search (and_l, and_r)) (search and_l) (search and_l) c x)
        asks_too K f u s c (in_right {w = []} g i x) = absurd (not_at_once K (search (and_l, and_r)) (search (and_l, and_r)) x refl i)
        asks_too K f u s c (in_right {p} {w = d ∷ w} g i x) =
            in_right {p = p} {w = d ∷ w} (λ h. g (record { holds = h.holds })) (⊎_elim (λ h. inl (record { holds = h.holds })) (λ n. inr n) i) (asks_too K (search (and_l, and_r)) (search (and_l, and_r)) (search (and_l, and_r)) c x)
        asks_too K f u s c (in_many {p} {w = []} h x) = absurd (not_at_once (begins G.first p ++ K) (search (and_l, and_r)) u x refl (inl h))
        asks_too K f u s c (in_many {p} {w = d ∷ w} h x) = in_many {w = d ∷ w} (record { holds = h.holds }) (asks_too (begins G.first p ++ K) (search (and_l, and_r)) u s c x)
        asks_too K f u s c (on_many {w = []} x y) = absurd (not_at_once K f u y refl (inr tt))
        asks_too K f u s c (on_many {w = d ∷ w} x y) = on_many {w = d ∷ w} (reads_local (same_head d (w ++ l₀) (w ++ l)) x) (asks_too K f u s c y)
        asks_too K f u s c (in_tail {c = b} {p} {w = []} h x) = absurd (not_at_once (b ∷ K) (search (and_l, and_r)) u x refl (inl h))
        asks_too K f u s c (in_tail {c = b} {p} {w = d ∷ w} h x) = in_tail {w = d ∷ w} (record { holds = h.holds }) (asks_too (b ∷ K) (search (and_l, and_r)) u s c x)
        asks_too K f u s c (on_tail {w = []} x y) = absurd (not_at_once K f u y refl (inr tt))
        asks_too K f u s c (on_tail {w = d ∷ w} x y) = on_tail {w = d ∷ w} (reads_local (same_head d (w ++ l₀) (w ++ l)) x) (asks_too K f u s c y)

  -- what is asked for passes: if b, or where a token is taken before
  module _ (pass : List ℕ → Bool) (called : R → Bool) (directly : (r : R) → T (called r) → T (direct G pass called false (G.body r))) where
    pub passes : {p : Part Act R} {w asked : List ℕ} (K : List ℕ) (b : Bool) → T (fits G K p) → T (unseen l₀ p) → T (direct G pass called b p) → T b ⊎ (w ≡ [] → ⊥) → Refuses G p w l₀ asked → T (pass asked)
    unfolding fits unseen direct null begins tight
    passes K b f u t h (no_tok {set} g) = let_in (pass set) b t h
    passes K b f u t h (no_see {set} g) = let_in (pass set) b t h
    passes K b f u t h (no_call {r} g) = let_in (pass (G.first r)) b (search (and_l, and_r)) h
    passes K b f u t h (no_choice {p} {q} g n g₁) =
        ⊎_elim (λ m. absurd (not_e (null q) n m)) (λ i. i) (or_e (null q) (pass (begins G.first p ++ begins G.first q)) (let_in (null q || pass (begins G.first p ++ begins G.first q)) b (search and_l) h))
    passes K b f u t h (in_call {r} {w = []} s x) = absurd (not_at_once (G.follow r) (good r).decided (blind r) x refl (inl (sees_within (begins G.first (G.body r)) (tightly r) s)))
    passes K b f u t h (in_call {r} {w = d ∷ w} s x) = passes (G.follow r) false (good r).decided (blind r) (directly r (search and_l)) (inr none_is) x
    passes K b f u t h (in_first {p} {q} x) = passes (next G.first q K) b (search and_l) (search and_l) (search and_l) h x
    passes K b f u t h (in_second {p} {q} x y) = passes K true (search (and_l, and_r)) (search (and_l, and_r)) (search (and_l, and_r)) (inl tt) y
    passes K b f u t h (in_left {w = []} s x) = absurd (not_at_once K (search (and_l, and_r)) (search and_l) x refl (inl s))
    passes K b f u t h (in_left {w = d ∷ w} s x) = passes K false (search (and_l, and_r)) (search and_l) (search (and_l, and_r)) (inr none_is) x
    passes K b f u t h (in_right {w = []} g i x) = absurd (not_at_once K (search (and_l, and_r)) (search (and_l, and_r)) x refl i)
    passes K b f u t h (in_right {w = d ∷ w} g i x) = passes K false (search (and_l, and_r)) (search (and_l, and_r)) (search (and_l, and_r)) (inr none_is) x
    passes K b f u t h (in_many {p} {w = []} s x) = absurd (not_at_once (begins G.first p ++ K) (search (and_l, and_r)) u x refl (inl s))
    passes K b f u t h (in_many {p} {w = d ∷ w} s x) = passes (begins G.first p ++ K) false (search (and_l, and_r)) u t (inr none_is) x
    passes K b f u t h (on_many {w = []} x y) = absurd (not_at_once K f u y refl (inr tt))
    passes K b f u t h (on_many {w = d ∷ w} x y) = passes K b f u t (inr none_is) y
    passes K b f u t h (in_tail {c} {p} {w = []} s x) = absurd (not_at_once (c ∷ K) (search (and_l, and_r)) u x refl (inl s))
    passes K b f u t h (in_tail {c} {p} {w = d ∷ w} s x) = passes (c ∷ K) false (search (and_l, and_r)) u t (inr none_is) x
    passes K b f u t h (on_tail {w = []} x y) = absurd (not_at_once K f u y refl (inr tt))
    passes K b f u t h (on_tail {w = d ∷ w} x y) = passes K b f u t (inr none_is) y
