-- What holds of the descent at its end: P where it comes through, Q where it refuses. It composes, part by part.
-- Assumes nothing.
use mathlib.Core.Path.{◌≡◌, subst}
use mathlib.Core.Bool.{Bool, true, false}
use mathlib.Core.List.{List, [], ◌∷◌}
use Prim.Native.Nat.{ℕ, zero, suc, ◌+◌}
use lib.Dec.{T}
use Rattle.grammar.specs.Sets.{sees}
use Rattle.grammar.specs.Trial.{Machine, St, Out, take_p}
use Rattle.grammar.specs.Descent.{Answer, done, no, deep, stuck, Walk, then_d, same_d, seq_d, by_d, or_d, loop_d, tail_d, enter}
use Rattle.grammar.proofs.Begin.{On, on_ok, on_fail, on_out}

-- P and Q speak of the count of openings and of the state
pub data Ends {Act : Type 0} {M : Machine Act} (P Q : ℕ → St M → Type 0) : Answer M → Type 0 where
  ends_done : {n : ℕ} {s : St M} → P n s → Ends P Q (done n s)
  ends_no : {asked : List ℕ} {n : ℕ} {s : St M} → Q n s → Ends P Q (no asked n s)
  ends_deep : {n : ℕ} {s : St M} → Q n s → Ends P Q (deep n s)
  ends_stuck : Ends P Q stuck

module _ {Act : Type 0} {M : Machine Act} where
  -- what it says, where the end is known
  of_done : {P Q : ℕ → St M → Type 0} {n : ℕ} {s : St M} → Ends P Q (done n s) → P n s
  of_done (ends_done h) = h

  of_no : {P Q : ℕ → St M → Type 0} {asked : List ℕ} {n : ℕ} {s : St M} → Ends P Q (no asked n s) → Q n s
  of_no (ends_no h) = h

  of_deep : {P Q : ℕ → St M → Type 0} {n : ℕ} {s : St M} → Ends P Q (deep n s) → Q n s
  of_deep (ends_deep h) = h

  pub at_done : {P Q : ℕ → St M → Type 0} {x : Answer M} {n : ℕ} {s : St M} → Ends P Q x → x ≡ done n s → P n s
  at_done {P} {Q} h e = of_done (subst (Ends P Q) e h)

  pub at_no : {P Q : ℕ → St M → Type 0} {x : Answer M} {asked : List ℕ} {n : ℕ} {s : St M} → Ends P Q x → x ≡ no asked n s → Q n s
  at_no {P} {Q} h e = of_no (subst (Ends P Q) e h)

  -- two facts at once
  pub ends_both : {P P' Q Q' : ℕ → St M → Type 0} {x : Answer M} → Ends P Q x → Ends P' Q' x → Ends (λ n s. P n s × P' n s) (λ n s. Q n s × Q' n s) x
  ends_both (ends_done h) k = ends_done (h, of_done k)
  ends_both (ends_no h) k = ends_no (h, of_no k)
  ends_both (ends_deep h) k = ends_deep (h, of_deep k)
  ends_both ends_stuck k = ends_stuck

  pub ends_map : {P P' Q Q' : ℕ → St M → Type 0} {x : Answer M} → ((n : ℕ) (s : St M) → P n s → P' n s) → ((n : ℕ) (s : St M) → Q n s → Q' n s) → Ends P Q x → Ends P' Q' x
  ends_map f g (ends_done {n} {s} h) = ends_done (f n s h)
  ends_map f g (ends_no {n} {s} h) = ends_no (g n s h)
  ends_map f g (ends_deep {n} {s} h) = ends_deep (g n s h)
  ends_map f g ends_stuck = ends_stuck

  -- one after the other
  pub ends_then : {P P' Q : ℕ → St M → Type 0} {x : Answer M} {w : Walk M} → Ends P Q x → ((n : ℕ) (s : St M) → P n s → Ends P' Q (w n s)) → Ends P' Q (then_d x w)
  unfolding then_d
  ends_then (ends_done {n} {s} h) f = f n s h
  ends_then (ends_no h) f = ends_no h
  ends_then (ends_deep h) f = ends_deep h
  ends_then ends_stuck f = ends_stuck

  -- a token decides
  pub ends_by : {P Q : ℕ → St M → Type 0} (b : Bool) (v w : Walk M) (n : ℕ) (s : St M) → (T b → Ends P Q (v n s)) → Ends P Q (w n s) → Ends P Q (by_d b v w n s)
  unfolding by_d
  ends_by true v w n s f h = f tt
  ends_by false v w n s f h = h

  -- a choice
  pub ends_or : {P Q : ℕ → St M → Type 0} (set : List ℕ) (a b : Bool) (v w : Walk M) (n : ℕ) (s : St M) → (T a → Ends P Q (v n s)) → Ends P Q (w n s) → Q n s → Ends P Q (or_d a b set v w n s)
  unfolding or_d
  ends_or set true b v w n s f h g = f tt
  ends_or set false true v w n s f h g = h
  ends_or set false false v w n s f h g = ends_no g

  -- no decision
  pub ends_same : {H : St M → Type 0} {P Q : ℕ → St M → Type 0} (set : List ℕ) {o : Out M} (n : ℕ) (s : St M) → On H o → ((s' : St M) → H s' → P n s') → Q n s → Ends P Q (same_d set o n s)
  unfolding same_d
  ends_same set n s (on_ok {s = s'} h) f g = ends_done (f s' h)
  ends_same set n s on_fail f g = ends_no g
  ends_same set n s on_out f g = ends_stuck

  -- What is repeated, with an invariant I.
  pub ends_loop : {I Q : ℕ → St M → Type 0} (set : List ℕ) (v : Walk M) → ((n : ℕ) (s : St M) → I n s → Ends I Q (v n s)) → (k n : ℕ) (s : St M) → I n s → Ends I Q (loop_d set v k n s)
  unfolding loop_d seq_d
  ends_loop set v hv zero n s i = ends_stuck
  ends_loop set v hv (suc k) n s i = ends_by (sees set s.rest) (seq_d v (loop_d set v k)) done n s (λ _. ends_then (hv n s i) (ends_loop set v hv k)) (ends_done i)

  -- The rest of a list, with an invariant I, and J after a separator.
  pub ends_tail : {I J Q : ℕ → St M → Type 0} (c : ℕ) (set : List ℕ) (v : Walk M) → ((n : ℕ) (s : St M) → I n s → Ends J Q (same_d (c ∷ []) (take_p (c ∷ []) s) n s)) →
      ((n : ℕ) (s : St M) → J n s → I n s) → ((n : ℕ) (s : St M) → J n s → Ends I Q (v n s)) → (k n : ℕ) (s : St M) → I n s → Ends I Q (tail_d c set v k n s)
  unfolding tail_d seq_d
  ends_tail c set v hc ji hv zero n s i = ends_stuck
  ends_tail c set v hc ji hv (suc k) n s i = ends_by (sees (c ∷ []) s.rest) _ done n s
      (λ _. ends_then (hc n s i) (λ n₁ s₁ j. ends_by (sees set s₁.rest) (seq_d v (tail_d c set v k)) done n₁ s₁
      (λ _. ends_then (hv n₁ s₁ j) (ends_tail c set v hc ji hv k)) (ends_done (ji n₁ s₁ j))))
      (ends_done i)

  -- a rule is opened
  pub ends_enter : {P Q : ℕ → St M → Type 0} (go : ℕ → Walk M) (b : Bool) (room n : ℕ) (s : St M) → Q n s → ((m : ℕ) → Ends P Q (go m (n + 1) s)) → Ends P Q (enter b room go n s)
  unfolding enter
  ends_enter go false room n s g h = h room
  ends_enter go true zero n s g h = ends_deep g
  ends_enter go true (suc room) n s g h = h room
