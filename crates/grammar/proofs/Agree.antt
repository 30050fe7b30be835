-- The trial and the descent agree, part by part.
-- Assumes nothing.
use mathlib.Core.Path.{◌≡◌, refl}
use mathlib.Core.Bool.{Bool, true, false, not, ◌||◌}
use mathlib.Core.List.{List, [], ◌∷◌, ◌++◌}
use Prim.Native.Nat.{ℕ, zero, suc}
use lib.Dec.{T}
use lib.ListN.{length}
use Rattle.grammar.specs.Sets.{mem, sees, only, within, apart}
use Rattle.grammar.specs.Trial.{Machine, St, Out, ok, fail, out, Parser, and_then, or_else, or_stay, seq_p, alt_p, loop, many_p, skip_p, ok_if, take_from, take_p, tail_p}
use Rattle.grammar.specs.Descent.{Answer, done, no, deep, Walk, then_d, same_d, seq_d, by_d, or_d, loop_d, tail_d, many_d, list_d}
use Rattle.grammar.proofs.Sets.{Sees, sees_apart, sees_within}
use Rattle.grammar.proofs.Choice.{decided, chosen}
use Rattle.grammar.proofs.Begin.{On, on_ok, on_fail, on_out, on_map, Begins, loop_at, tail_at, next_seen, unbegun}

-- What the trial comes to, and what the descent does, where one of K is to stand after.
-- Both come to one state; both refuse; the descent is too deep; the trial ran out;
-- or the trial stops before a token that is none of K, and the descent refuses.
pub data Agree {Act : Type 0} {M : Machine Act} (K : List ℕ) : Out M → Answer M → Type 0 where
  met : {s : St M} (n : ℕ) → Agree K (ok s) (done n s)
  both_no : {asked : List ℕ} {n : ℕ} {s : St M} → Agree K fail (no asked n s)
  too_deep : {o : Out M} {n : ℕ} {s : St M} → Agree K o (deep n s)
  ran_out : {x : Answer M} → Agree K out x
  stray : {asked : List ℕ} {n : ℕ} {s s₁ : St M} → (Sees K s.rest → ⊥) → Agree K (ok s) (no asked n s₁)

module _ {Act : Type 0} {M : Machine Act} where
  pub record Agrees (K : List ℕ) (p : Parser M) (w : Walk M) : Type 0 where
    pub at : (n : ℕ) (s : St M) → Agree K (p s) (w n s)

  refused : {K : List ℕ} {o : Out M} {asked : List ℕ} {n : ℕ} {s : St M} → On (λ s'. Sees K s'.rest → ⊥) o → Agree K o (no asked n s)
  refused (on_ok h) = stray h
  refused on_fail = both_no
  refused on_out = ran_out

  -- no decision
  pub agrees_same : {K : List ℕ} (set : List ℕ) (p : Parser M) → Agrees K p (λ n s. same_d set (p s) n s)
  unfolding same_d
  agrees_same {K} set p = record { at = λ n s. test n s (p s) }
    where
      test : (n : ℕ) (s : St M) (o : Out M) → Agree K o (same_d set o n s)
      test n s (ok s') = met n
      test n s fail = both_no
      test n s out = ran_out

  -- a rule
  weaken : {K L : List ℕ} {o : Out M} {x : Answer M} → T (within K L) → Agree L o x → Agree K o x
  weaken w (met n) = met n
  weaken w both_no = both_no
  weaken w too_deep = too_deep
  weaken w ran_out = ran_out
  weaken {L} w (stray h) = stray (λ k. h (sees_within L w k))

  pub agrees_call : {A K L : List ℕ} {p : Parser M} {v : Walk M} → Begins A false p → T (within K L) → Agrees L p v → Agrees K p (λ n s. by_d (sees A s.rest) v (no A) n s)
  agrees_call {A} {K} {p = p} {v = v} bp w hv = record { at = λ n s. decided (Agree K (p s)) A v (no A) n s (λ _. weaken w (hv.at n s)) (λ f. refused (on_map (λ s' h _. h) (unbegun bp tt s f))) }

  -- one after the other
  seq_at : {K B : List ℕ} {b : Bool} {q : Parser M} {w : Walk M} {o : Out M} {x : Answer M} → Begins B b q → Agrees K q w → Agree (B ++ only b K) o x → Agree K (and_then o q) (then_d x w)
  unfolding and_then then_d
  seq_at bq hw (met {s} n) = hw.at n s
  seq_at bq hw both_no = both_no
  seq_at bq hw too_deep = too_deep
  seq_at bq hw ran_out = ran_out
  seq_at bq hw (stray {s} h) = refused (on_map (λ s' g k. h (next_seen g k)) (bq.at s))

  pub agrees_seq : {K B : List ℕ} {b : Bool} {p q : Parser M} {v w : Walk M} → Begins B b q → Agrees (B ++ only b K) p v → Agrees K q w → Agrees K (seq_p p q) (seq_d v w)
  unfolding seq_p seq_d
  agrees_seq bq hv hw = record { at = λ n s. seq_at bq hw (hv.at n s) }

  -- a choice
  alt_left : {K : List ℕ} {o : Out M} {x : Answer M} (q : Parser M) (s : St M) → On (λ s'. Sees K s'.rest → ⊥) (q s) → Agree K o x → Agree K (or_else o q s) x
  unfolding or_else
  alt_left q s f (met n) = met n
  alt_left q s f both_no = refused f
  alt_left q s f too_deep = too_deep
  alt_left q s f ran_out = ran_out
  alt_left q s f (stray h) = stray h

  alt_right : {K : List ℕ} {o : Out M} {x : Answer M} (q : Parser M) (s : St M) → On (λ _. ⊥) o → Agree K (q s) x → Agree K (or_else o q s) x
  unfolding or_else
  alt_right q s (on_ok h) k = absurd h
  alt_right q s on_fail k = k
  alt_right q s on_out k = ran_out

  pub agrees_alt : {K A B : List ℕ} {a b : Bool} {p q : Parser M} {v w : Walk M} (asked : List ℕ) → Begins A a p → Begins B b q → T (not a) → T (apart A (B ++ only b K)) → Agrees K p v → Agrees K q w →
      Agrees K (alt_p p q) (λ n s. or_d (sees A s.rest) (b || sees B s.rest) asked v w n s)
  unfolding alt_p
  agrees_alt {K} {A} {B} {b = b} {p = p} {q = q} {v = v} {w = w} asked bp bq na ap hv hw = record {
    at = λ n s. chosen (Agree K (or_else (p s) q s)) A B asked b v w n s
        (λ h. alt_left q s (on_map (λ s' g k. sees_apart ap h (next_seen g k)) (bq.at s)) (hv.at n s))
        (λ f _. alt_right q s (unbegun bp na s f) (hw.at n s))
        (λ f nb g. alt_right q s (unbegun bp na s f) (refused (on_map (λ s' h _. h) (unbegun bq nb s g))));
  }

  -- what is repeated
  loop_stop : {K : List ℕ} {o : Out M} (q : Parser M) (n : ℕ) (s : St M) → On (λ _. ⊥) o → Agree K (or_stay o q s) (done n s)
  unfolding or_stay
  loop_stop q n s (on_ok h) = absurd h
  loop_stop q n s on_fail = met n
  loop_stop q n s on_out = ran_out

  loop_step : {K A : List ℕ} {a : Bool} {p : Parser M} {o : Out M} {x : Answer M} (v : Walk M) (k : ℕ) (s : St M) → Begins A a p → T (apart A K) → Sees A s.rest →
      ((n : ℕ) (s₁ : St M) → Agree K (loop p k s₁) (loop_d A v k n s₁)) → Agree (A ++ K) o x → Agree K (or_stay o (loop p k) s) (then_d x (loop_d A v k))
  unfolding or_stay then_d
  loop_step v k s bp ap h ih (met {s = s₁} n) = ih n s₁
  loop_step v k s bp ap h ih both_no = stray (sees_apart ap h)
  loop_step v k s bp ap h ih too_deep = too_deep
  loop_step v k s bp ap h ih ran_out = ran_out
  loop_step v k s bp ap h ih (stray {s = s₁} f) = refused (on_map (λ s' g e. f (next_seen g e)) (loop_at bp k s₁))

  agree_loop : {K A : List ℕ} {a : Bool} {p : Parser M} {v : Walk M} → Begins A a p → T (not a) → T (apart A K) → Agrees (A ++ K) p v →
      (k n : ℕ) (s : St M) → Agree K (loop p k s) (loop_d A v k n s)
  unfolding loop loop_d seq_d
  agree_loop bp na ap hv zero n s = ran_out
  agree_loop {K} {A} {p = p} {v = v} bp na ap hv (suc k) n s = decided (Agree K (loop p (suc k) s)) A (seq_d v (loop_d A v k)) done n s
      (λ h. loop_step v k s bp ap h (agree_loop bp na ap hv k) (hv.at n s))
      (λ f. loop_stop (loop p k) n s (unbegun bp na s f))

  pub agrees_many : {K A : List ℕ} {a : Bool} {p : Parser M} {v : Walk M} → Begins A a p → T (not a) → T (apart A K) → Agrees (A ++ K) p v →
      Agrees K (many_p p) (many_d A v)
  unfolding many_p many_d
  agrees_many bp na ap hv = record { at = λ n s. agree_loop bp na ap hv (suc (length s.rest)) n s }

  -- the rest of a list
  pub is_if : (b : Bool) (s : St M) → T b → ok_if b s ≡ ok s
  unfolding ok_if
  is_if true s t = refl
  is_if false s t = absurd t

  not_if : (b : Bool) (s : St M) → (T b → ⊥) → ok_if b s ≡ fail
  unfolding ok_if
  not_if true s f = absurd (f tt)
  not_if false s f = refl

  pub not_taken : (set : List ℕ) (s : St M) → (Sees set s.rest → ⊥) → take_p set s ≡ fail
  unfolding take_p take_from
  not_taken set s f = from s.rest s.kept f
    where
      from : (l : List ℕ) (k : M.Kept) → (Sees set l → ⊥) → take_from {M = M} set l k ≡ fail
      from [] k f = refl
      from (t ∷ ts) k f = not_if (mem t set) (record { rest = ts; kept = M.shift t k }) (λ h. f (record { holds = h }))

  taken : (set : List ℕ) (s : St M) → Sees set s.rest → (s₁ : St M) × (take_p set s ≡ ok s₁)
  unfolding take_p take_from
  taken set s h = from s.rest s.kept h
    where
      from : (l : List ℕ) (k : M.Kept) → Sees set l → (s₁ : St M) × (take_from set l k ≡ ok s₁)
      from [] k h = absurd h.holds
      from (t ∷ ts) k h = (record { rest = ts; kept = M.shift t k }, is_if (mem t set) (record { rest = ts; kept = M.shift t k }) h.holds)

  module _ (c : ℕ) (p : Parser M) where
    abbrev item : Parser M
    item = seq_p (take_p (c ∷ [])) p

    abbrev last : Parser M
    last = alt_p (take_p (c ∷ [])) skip_p

    -- where there is no separator, or one, which is `last`
    last_none : (s : St M) → take_p (c ∷ []) s ≡ fail → last s ≡ ok s
    unfolding alt_p or_else skip_p
    last_none s e = rw e refl

    last_one : (s s₁ : St M) → take_p (c ∷ []) s ≡ ok s₁ → last s ≡ ok s₁
    unfolding alt_p or_else
    last_one s s₁ e = rw e refl

    -- the separator is taken: what the member comes to
    member : {K A : List ℕ} {a : Bool} {o : Out M} {x : Answer M} (v : Walk M) (k : ℕ) (s s₁ : St M) → take_p (c ∷ []) s ≡ ok s₁ → Begins A a p → T (apart A K) → Sees A s₁.rest →
        ((n : ℕ) (s₂ : St M) → Agree K (and_then (loop item k s₂) last) (tail_d c A v k n s₂)) → Agree (c ∷ K) o x → Agree K (and_then (or_stay o (loop item k) s) last) (then_d x (tail_d c A v k))
    unfolding or_stay then_d and_then
    member v k s s₁ e bp ap h ih (met {s = s₂} n) = ih n s₂
    member v k s s₁ e bp ap h ih both_no = rw (last_one s s₁ e) (stray (sees_apart ap h))
    member v k s s₁ e bp ap h ih too_deep = too_deep
    member v k s s₁ e bp ap h ih ran_out = ran_out
    member v k s s₁ e bp ap h ih (stray {s = s₂} f) = refused (on_map (λ s' g y. f (next_seen g y)) (tail_at c bp k s₂))

    no_member : {K : List ℕ} {o : Out M} (q : Parser M) (n : ℕ) (s s₁ : St M) → take_p (c ∷ []) s ≡ ok s₁ → On (λ _. ⊥) o → Agree K (and_then (or_stay o q s) last) (done n s₁)
    unfolding or_stay and_then
    no_member q n s s₁ e (on_ok h) = absurd h
    no_member q n s s₁ e on_fail = rw (last_one s s₁ e) (met n)
    no_member q n s s₁ e on_out = ran_out

    agree_tail : {K A : List ℕ} {a : Bool} {v : Walk M} → Begins A a p → T (not a) → T (apart A K) → Agrees (c ∷ K) p v →
        (k n : ℕ) (s : St M) → Agree K (and_then (loop item k s) last) (tail_d c A v k n s)
    unfolding loop tail_d seq_d seq_p and_then then_d same_d or_stay
    agree_tail bp na ap hv zero n s = ran_out
    agree_tail {K} {A} {v} bp na ap hv (suc k) n s = decided (Agree K (and_then (loop item (suc k) s) last)) (c ∷ []) _ done n s
        (λ h. let (s₁, e) = taken (c ∷ []) s h in rw e (decided (Agree K _) A (seq_d v (tail_d c A v k)) done n s₁
        (λ h₁. member v k s s₁ e bp ap h₁ (agree_tail bp na ap hv k) (hv.at n s₁))
        (λ f. no_member (loop item k) n s s₁ e (unbegun bp na s₁ f))))
        (λ f. rw (not_taken (c ∷ []) s f) (rw (last_none s (not_taken (c ∷ []) s f)) (met n)))

    pub agrees_tail : {K A : List ℕ} {a : Bool} {v : Walk M} → Begins A a p → T (not a) → T (apart A K) → Agrees (c ∷ K) p v →
        Agrees K (tail_p c p) (list_d c A v)
    unfolding tail_p seq_p many_p list_d
    agrees_tail bp na ap hv = record { at = λ n s. agree_tail bp na ap hv (suc (length s.rest)) n s }
