-- Where a part refuses, the trial of it does not come to a token of K: it fails, or stops before another token.
-- Assumes nothing.
use mathlib.Core.Path.{◌≡◌, refl}
use mathlib.Core.Bool.{Bool}
use mathlib.Core.List.{List, ◌∷◌, ◌++◌, append_assoc}
use Prim.Native.Nat.{ℕ}
use native.Mathlib.Omega.{arith}
use lib.Dec.{T, ltb→lt}
use lib.ListN.{length}
use Rattle.grammar.specs.Sets.{sees, only}
use Rattle.grammar.specs.Grammar.{Part}
use Rattle.grammar.specs.Trial.{Machine, St, Out, ok, fail, out, Parser, and_then, or_else, or_stay, seq_p, alt_p, loop, many_p, see_p, tail_p, eval}
use Rattle.grammar.specs.Descent.{Plan, null, begins}
use Rattle.grammar.specs.Check.{next, fits, takes, after, low}
use Rattle.grammar.proofs.Sets.{Sees, and_l, and_r, sees_within, sees_apart}
use Rattle.grammar.proofs.Begin.{On, on_ok, on_fail, on_out, on_map, on_if, Begun, Begins, loop_at, begins_part, begins_tail, next_seen, unbegun}
use Rattle.grammar.proofs.Agree.{not_taken}
use Rattle.grammar.proofs.Whole.{Sound}
use Rattle.grammar.proofs.Enough.{Twin, twin_ok, twin_fail, parse_is}
use Rattle.grammar.proofs.Led.{of_led, took, take_on, part_answers, begins_parse, unfit, again, tail_one, tail_again, reads_led}
use Rattle.grammar.proofs.Asking.{Refuses, no_tok, no_see, no_call, no_choice, in_call, in_first, in_second, in_left, in_right, in_many, on_many, in_tail, on_tail}

module _ {Act : Type 0} {M : Machine Act} where
  -- if it fits, no token of K stands next
  abbrev pub Off : List ℕ → Out M → Type 0
  Off K o = On (λ s. Sees K s.rest → ⊥) o

  off_begins : {A K : List ℕ} {a : Bool} {s : St M} {o : Out M} → (Sees (A ++ only a K) s.rest → ⊥) → On (λ s₁. Begun A a s s₁) o → Off K o
  off_begins f h = on_map (λ s₁ b k. f (next_seen b k)) h

  off_then : {B K : List ℕ} {b : Bool} {o : Out M} (q : Parser M) → Begins B b q → Off (B ++ only b K) o → Off K (and_then o q)
  unfolding and_then
  off_then q bq (on_ok {s} h) = off_begins h (bq.at s)
  off_then q bq on_fail = on_fail
  off_then q bq on_out = on_out

  off_else : {K : List ℕ} {o : Out M} (q : Parser M) (s : St M) → Off K (q s) → Off K o → Off K (or_else o q s)
  unfolding or_else
  off_else q s f (on_ok h) = on_ok h
  off_else q s f on_fail = f
  off_else q s f on_out = on_out

  off_stay : {A K : List ℕ} {a : Bool} {p : Parser M} {o : Out M} (n : ℕ) (s : St M) → Begins A a p → (Sees K s.rest → ⊥) → Off (A ++ K) o → Off K (or_stay o (loop p n) s)
  unfolding or_stay
  off_stay n s bp f (on_ok {s = s₁} h) = off_begins h (loop_at bp n s₁)
  off_stay n s bp f on_fail = on_ok f
  off_stay n s bp f on_out = on_out

  off_see : {K : List ℕ} (set l : List ℕ) (k : M.Kept) → (Sees set l → ⊥) → Off K (see_p {M = M} set (record { rest = l; kept = k }))
  unfolding see_p
  off_see set l k g = on_if (sees set l) (record { rest = l; kept = k }) (λ h. absurd (g (record { holds = h })))

  off_on : {K : List ℕ} {o : Out M} {s : St M} (q : Parser M) → o ≡ ok s → Off K (q s) → Off K (and_then o q)
  unfolding and_then
  off_on q e h = rw e h

  off_other : {K : List ℕ} {o : Out M} (q : Parser M) (s : St M) → o ≡ fail → Off K (q s) → Off K (or_else o q s)
  unfolding or_else
  off_other q s e h = rw e h

  never_out : {P : St M → Type 0} {o o' : Out M} → Twin P o o' → o ≡ out → ⊥
  never_out (twin_ok h) e = let z : ◌≡◌ {A = ℕ} 0 1 = cc in omega arith
  never_out twin_fail e = let z : ◌≡◌ {A = ℕ} 0 1 = cc in omega arith

  module _ {R : Type 0} (G : Plan Act R) (good : (r : R) → Sound G r) where
    begins_on : (p : Part Act R) → Begins (begins G.first p) (null p) (take_on {M = M} G good p)
    begins_on p = begins_part G.first (begins_parse G good) p

    -- after a separator
    off_member : {K : List ℕ} {o : Out M} (c : ℕ) (p : Part Act R) (l : List ℕ) (k : M.Kept) → T (low G 100 100 p) → (Sees K l → ⊥) → take_on G good p (record { rest = l; kept = M.shift c k }) ≡ o → Off (c ∷ K) o →
        Off K (tail_p c (take_on G good p) (record { rest = c ∷ l; kept = k }))
    off_member c p l k u f e (on_ok {s} h) =
        rw (tail_again G good c p (record { rest = c ∷ l; kept = k }) (record { rest = l; kept = M.shift c k }) s u (took c l k) e) (off_begins h ((begins_tail c (begins_on p)).at s))
    off_member c p l k u f e on_fail = rw (tail_one G good c (take_on G good p) (record { rest = c ∷ l; kept = k }) (record { rest = l; kept = M.shift c k }) (took c l k) e) (on_ok f)
    off_member c p l k u f e on_out = absurd (never_out (part_answers G good p 100 (record { rest = l; kept = M.shift c k }) u) e)

    pub refuses_off : {p : Part Act R} {w l asked : List ℕ} (K : List ℕ) (m : ℕ) → T (fits G K p) → T (low G 100 m p) → Refuses G p w l asked → (k : M.Kept) → Off K (take_on G good p (record { rest = w ++ l; kept = k }))
    unfolding eval fits low takes seq_p alt_p many_p loop
    refuses_off K m f u (no_tok {set} {l} g) k = rw (not_taken {M = M} set (record { rest = l; kept = k }) g) on_fail
    refuses_off K m f u (no_see {set} {l} g) k = off_see set l k g
    refuses_off K m f u (no_call {r} {l} g) k = on_map (λ s h. absurd h) (unbegun (begins_parse G good r) tt (record { rest = l; kept = k }) g)
    refuses_off K m f u (no_choice {p} {q} {l} g n g₁) k =
        off_other (take_on G good q) (record { rest = l; kept = k }) (unfit G good p m (record { rest = l; kept = k }) (search (and_l, and_r)) (search and_l) g)
        (on_map (λ s h. absurd h) (unbegun (begins_on q) n (record { rest = l; kept = k }) g₁))
    refuses_off K m f u (in_call {r} {w} {l} s x) k =
        rw (parse_is {M = M} G good r (record { rest = w ++ l; kept = k })) (on_map (λ s₁ h i. h (sees_within (G.follow r) f i)) (refuses_off (G.follow r) (G.rank r) (good r).decided (good r).lower x k))
    refuses_off K m f u (in_first {p} {q} x) k = off_then (take_on G good q) (begins_on q) (refuses_off (next G.first q K) m (search and_l) (search and_l) x k)
    refuses_off K m f u (in_second {p} {q} {v} {w} {l} x y) k =
        let (k₁, e) = of_led (reads_led {M = M} G good (next G.first q K) m (search and_l) (search and_l) x k) in
        rw (append_assoc v w l) (off_on (take_on G good q) e (refuses_off K (after 100 (takes G.least p) m) (search (and_l, and_r)) (search (and_l, and_r)) y k₁))
    refuses_off K m f u (in_left {p} {q} {w} {l} h x) k =
        off_else (take_on G good q) (record { rest = w ++ l; kept = k }) (off_begins (λ i. sees_apart {b = next G.first q K} (search (and_l, and_r)) h i) ((begins_on q).at (record { rest = w ++ l; kept = k })))
        (refuses_off K m (search (and_l, and_r)) (search and_l) x k)
    refuses_off K m f u (in_right {p} {q} {w} {l} g i x) k =
        off_other (take_on G good q) (record { rest = w ++ l; kept = k }) (unfit G good p m (record { rest = w ++ l; kept = k }) (search (and_l, and_r)) (search and_l) g)
        (refuses_off K m (search (and_l, and_r)) (search (and_l, and_r)) x k)
    refuses_off K m f u (in_many {p} {w} {l} h x) k =
        off_stay (length (w ++ l)) (record { rest = w ++ l; kept = k }) (begins_on p) (λ i. sees_apart {b = K} (search (and_l, and_r)) h i)
        (refuses_off (begins G.first p ++ K) m (search (and_l, and_r)) (search (and_l, and_r)) x k)
    refuses_off K m f u (on_many {p} {v} {w} {l} x y) k =
        let (k₁, e) = of_led (reads_led {M = M} G good (begins G.first p ++ K) m (search (and_l, and_r)) (search (and_l, and_r)) x k) in
        rw (append_assoc v w l, again G good p m (record { rest = v ++ (w ++ l); kept = k }) (record { rest = w ++ l; kept = k₁ }) (search (and_l, and_r)) (ltb→lt 0 (takes G.least p) (search and_l)) e)
        (refuses_off K m f u y k₁)
    refuses_off K m f u (in_tail {c} {p} {w} {l} h x) k =
        off_member c p (w ++ l) k u (λ i. sees_apart {b = K} (search (and_l, and_r)) h i) refl (refuses_off (c ∷ K) 100 (search (and_l, and_r)) u x (M.shift c k))
    refuses_off K m f u (on_tail {c} {p} {v} {w} {l} x y) k =
        let (k₁, e) = of_led (reads_led {M = M} G good (c ∷ K) 100 (search (and_l, and_r)) u x (M.shift c k)) in
        rw (append_assoc v w l, tail_again G good c p (record { rest = c ∷ (v ++ (w ++ l)); kept = k }) (record { rest = v ++ (w ++ l); kept = M.shift c k }) (record { rest = w ++ l; kept = k₁ }) u (took c (v ++ (w ++ l)) k) e)
        (refuses_off K m f u y k₁)
