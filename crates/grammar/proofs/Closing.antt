-- What is asked for passes a test, or it is the end of the input: that is asked for at the end of a part alone, and there the part can end.
-- Assumes nothing.
use mathlib.Core.Logic.{◌⊎◌, inl, inr, ⊎_elim}
use mathlib.Core.Bool.{Bool, true, false, ◌&&◌}
use mathlib.Core.List.{List, [], ◌∷◌, ◌++◌, append-nil}
use Prim.Native.Nat.{ℕ}
use lib.Dec.{T}
use Rattle.grammar.specs.Sets.{within}
use Rattle.grammar.specs.Grammar.{Part}
use Rattle.grammar.specs.Descent.{Plan, null}
use Rattle.grammar.specs.Check.{next, fits, tight}
use Rattle.grammar.specs.Complete.{alive, complete}
use Rattle.grammar.proofs.Sets.{Sees, and_l, and_r, or_e, sees_within}
use Rattle.grammar.proofs.Whole.{Sound}
use Rattle.grammar.proofs.Reading.{Reads, by_see, by_seq, same_head, reads_local, reads_next}
use Rattle.grammar.proofs.Asking.{Refuses, no_tok, no_see, no_call, no_choice, in_call, in_first, in_second, in_left, in_right, in_many, on_many, in_tail, on_tail}
use Rattle.grammar.proofs.Wanting.{unseen, direct, closing}
use Rattle.grammar.proofs.Wanted.{null_read, steady}
use Rattle.grammar.proofs.Only.{passes}

module _ (is_token : ℕ → Bool) {Act R : Type 0} (G : Plan Act R) (good : (r : R) → Sound G r) (height : R → ℕ) (tested : (r : R) → T (complete is_token G height r)) (tightly : (r : R) → T (tight G r)) (l₀ : List ℕ) (blind : (r : R) → T (unseen l₀ (G.body r)))
    (pass : List ℕ → Bool) (called : R → Bool) (directly : (r : R) → T (called r) → T (direct G pass called false (G.body r))) where
  -- p before what q reads
  before_end : {p q : Part Act R} {v : List ℕ} (K w l : List ℕ) → T (fits G (next G.first q K) p) → T (alive is_token G height (next G.first q K) p) → T (unseen l₀ p) → Reads G p v (w ++ l₀) → Reads G q w l → Sees K l → Reads G p v (w ++ l)
  before_end {q} K [] l f a u x y h = steady is_token G good height tested l₀ blind (next G.first q K) f a u x l (reads_next good y h)
  before_end K (c ∷ w) l f a u x y h = reads_local (same_head c (w ++ l₀) (w ++ l)) x

  quiet : {p : Part Act R} {w asked : List ℕ} (K : List ℕ) → T (fits G K p) → T (unseen l₀ p) → T (direct G pass called true p) → Refuses G p w l₀ asked → T (pass asked)
  quiet K f u t x = passes G good tightly l₀ blind pass called directly K true f u t (inl tt) x

  -- what the part asks for passes, or else it can end there
  pub closes : {p : Part Act R} {w asked : List ℕ} (K : List ℕ) → T (fits G K p) → T (alive is_token G height K p) → T (unseen l₀ p) → T (closing G pass called K p) → Refuses G p w l₀ asked →
      T (pass asked) ⊎ ((l : List ℕ) → Sees K l → Reads G p w l)
  unfolding fits alive unseen closing null
  closes K f a u t (no_tok g) = inl t
  closes K f a u t (no_see {set} g) = ⊎_elim (λ i. inl i) (λ i. inr (λ l h. by_see (sees_within set i h))) (or_e (pass set) (within K set) t)
  closes K f a u t (no_call g) = absurd t
  closes K f a u t (no_choice g n g₁) = absurd t
  closes K f a u t (in_call s x) = absurd t
  closes K f a u t (in_first {p} {q} {w} x) = ⊎_elim
      (λ i. inl (quiet (next G.first q K) (search and_l) (search and_l) (and_l (direct G pass called true p) (closing G pass called K q) i) x))
      (λ i. ⊎_elim (λ j. inl j)
      (λ j. inr (λ l h. let y : Reads G q [] l = null_read is_token G good height tested K q (search (and_l, and_r)) (search (and_l, and_r)) (search (and_l, and_r)) l h in rw append-nil at (by_seq {w = []} (j l (reads_next good y h)) y)))
      (closes (next G.first q K) (search and_l) (search (and_l, and_r)) (search and_l) (search (and_l, and_r)) x))
      (or_e (direct G pass called true p && closing G pass called K q) (closing G pass called (next G.first q K) p && null q && direct G pass called true q) t)
  closes K f a u t (in_second {p} {q} {v} {w} x y) = ⊎_elim
      (λ i. ⊎_elim (λ j. inl j) (λ j. inr (λ l h. by_seq (before_end K w l (search and_l) (search (and_l, and_r)) (search and_l) x (j l h) h) (j l h)))
      (closes K (search (and_l, and_r)) (search (and_l, and_r)) (search (and_l, and_r)) (and_r (direct G pass called true p) (closing G pass called K q) i) y))
      (λ i. inl (quiet K (search (and_l, and_r)) (search (and_l, and_r)) (search and_r) y))
      (or_e (direct G pass called true p && closing G pass called K q) (closing G pass called (next G.first q K) p && null q && direct G pass called true q) t)
  closes K f a u t (in_left s x) = absurd t
  closes K f a u t (in_right g i x) = absurd t
  closes K f a u t (in_many s x) = absurd t
  closes K f a u t (on_many x y) = absurd t
  closes K f a u t (in_tail s x) = absurd t
  closes K f a u t (on_tail x y) = absurd t
