-- Where a part fits, it was begun by a token that can begin it, or took none.
-- Assumes nothing.
use mathlib.Core.Path.{◌≡◌, refl, subst, sym, ◌∙◌}
use mathlib.Core.Bool.{Bool, true, false, not, ◌&&◌, ◌||◌}
use mathlib.Core.List.{List, [], ◌∷◌, ◌++◌}
use Prim.Native.Nat.{ℕ, zero, suc}
use lib.Dec.{T}
use lib.ListN.{length}
use Rattle.grammar.specs.Sets.{mem, sees, only}
use Rattle.grammar.specs.Grammar.{Part, skip, act, tok, see, call, ◌⨾◌, ◌∕◌, many, tail}
use Rattle.grammar.specs.Trial.{Machine, St, Out, ok, fail, out, Parser, and_then, or_else, or_stay, seq_p, alt_p, loop, many_p, skip_p, ok_if, take_from, take_p, see_p, act_p, tail_p, eval}
use Rattle.grammar.specs.Descent.{null, begins}
use Rattle.grammar.proofs.Sets.{Sees, and_i, or_l, or_r, sees_left, sees_right, sees_only, not_e}

-- P holds of the state that a part leads to, if it fits
pub data On {Act : Type 0} {M : Machine Act} (P : St M → Type 0) : Out M → Type 0 where
  on_ok : {s : St M} → P s → On P (ok s)
  on_fail : On P fail
  on_out : On P out

moved : {set l l' : List ℕ} → l ≡ l' → Sees set l' → Sees set l
moved {set} e h = subst (Sees set) (sym e) h

module _ {Act : Type 0} {M : Machine Act} where
  -- nothing is said of it
  pub any : (o : Out M) → On (λ _. Unit {0}) o
  any (ok s) = on_ok tt
  any fail = on_fail
  any out = on_out

  pub on_then : {P Q : St M → Type 0} {o : Out M} {q : Parser M} → On P o → ((s : St M) → P s → On Q (q s)) → On Q (and_then o q)
  unfolding and_then
  on_then (on_ok {s} h) f = f s h
  on_then on_fail f = on_fail
  on_then on_out f = on_out

  pub on_else : {P : St M → Type 0} {o : Out M} (q : Parser M) (s : St M) → On P o → On P (q s) → On P (or_else o q s)
  unfolding or_else
  on_else q s (on_ok h) k = on_ok h
  on_else q s on_fail k = k
  on_else q s on_out k = on_out

  pub on_stay : {P Q : St M → Type 0} {o : Out M} {q : Parser M} (s : St M) → On P o → ((s' : St M) → P s' → On Q (q s')) → Q s → On Q (or_stay o q s)
  unfolding or_stay
  on_stay s (on_ok {s = s'} h) f k = f s' h
  on_stay s on_fail f k = on_ok k
  on_stay s on_out f k = on_out

  pub on_map : {P Q : St M → Type 0} {o : Out M} → ((s : St M) → P s → Q s) → On P o → On Q o
  on_map f (on_ok {s} h) = on_ok (f s h)
  on_map f on_fail = on_fail
  on_map f on_out = on_out

  -- begun by a token of the set, or, if b, with no token taken
  pub data Begun (set : List ℕ) (b : Bool) (s s' : St M) : Type 0 where
    by : Sees set s.rest → Begun set b s s'
    none : T b → s.rest ≡ s'.rest → Begun set b s s'

  pub record Begins (set : List ℕ) (b : Bool) (p : Parser M) : Type 0 where
    pub at : (s : St M) → On (Begun set b s) (p s)

  pub on_if : {P : St M → Type 0} (b : Bool) (s : St M) → (T b → P s) → On P (ok_if b s)
  unfolding ok_if
  on_if true s f = on_ok (f tt)
  on_if false s f = on_fail

  take_at : (set : List ℕ) (l : List ℕ) (k : M.Kept) → On (Begun set false (record { rest = l; kept = k })) (take_from set l k)
  unfolding take_from
  take_at set [] k = on_fail
  take_at set (t ∷ ts) k = on_if (mem t set) (record { rest = ts; kept = M.shift t k }) (λ h. by (record { holds = h }))

  pub begins_take : (set : List ℕ) → Begins set false (take_p set)
  unfolding take_p
  begins_take set = record { at = λ s. take_at set s.rest s.kept }

  begins_see : (set : List ℕ) → Begins set false (see_p set)
  unfolding see_p
  begins_see set = record { at = λ s. on_if (sees set s.rest) s (λ h. by (record { holds = h })) }

  begins_skip : Begins [] true skip_p
  unfolding skip_p
  begins_skip = record { at = λ s. on_ok (none tt refl) }

  begins_act : (a : Act) → Begins [] true (act_p a)
  unfolding act_p
  begins_act a = record { at = λ s. on_ok (none tt refl) }

  pub begun_seq : {A B : List ℕ} {a b : Bool} {s s₁ s₂ : St M} → Begun A a s s₁ → Begun B b s₁ s₂ → Begun (A ++ only a B) (a && b) s s₂
  begun_seq {B} {a} (by h) k = by (sees_left (only a B) h)
  begun_seq {A} {a} (none t e) (by k) = by (sees_right A (sees_only a t (moved e k)))
  begun_seq {a} {b} (none t e) (none t' e') = none (and_i a b t t') (e ∙ e')

  begins_seq : {A B : List ℕ} {a b : Bool} {p q : Parser M} → Begins A a p → Begins B b q → Begins (A ++ only a B) (a && b) (seq_p p q)
  unfolding seq_p
  begins_seq hp hq = record { at = λ s. on_then (hp.at s) (λ s₁ h. on_map (λ s₂ k. begun_seq h k) (hq.at s₁)) }

  pub begun_left : {A : List ℕ} {a : Bool} {s s' : St M} (B : List ℕ) (b : Bool) → Begun A a s s' → Begun (A ++ B) (a || b) s s'
  begun_left B b (by h) = by (sees_left B h)
  begun_left {a} B b (none t e) = none (or_l a b t) e

  pub begun_right : {B : List ℕ} {b : Bool} {s s' : St M} (A : List ℕ) (a : Bool) → Begun B b s s' → Begun (A ++ B) (a || b) s s'
  begun_right A a (by h) = by (sees_right A h)
  begun_right {b} A a (none t e) = none (or_r a b t) e

  begins_alt : {A B : List ℕ} {a b : Bool} {p q : Parser M} → Begins A a p → Begins B b q → Begins (A ++ B) (a || b) (alt_p p q)
  unfolding alt_p
  begins_alt {A} {B} {a} {b} {q} hp hq = record { at = λ s. on_else q s (on_map (λ s₁ h. begun_left B b h) (hp.at s)) (on_map (λ s₁ h. begun_right A a h) (hq.at s)) }

  -- first no token, and then this
  pub begun_after : {A : List ℕ} {a : Bool} {s s₁ s₂ : St M} → Begun A a s s₁ → Begun A true s₁ s₂ → Begun A true s s₂
  begun_after (by h) k = by h
  begun_after (none t e) (by k) = by (moved e k)
  begun_after (none t e) (none t' e') = none tt (e ∙ e')

  pub loop_at : {A : List ℕ} {a : Bool} {p : Parser M} → Begins A a p → (k : ℕ) (s : St M) → On (Begun A true s) (loop p k s)
  unfolding loop
  loop_at hp zero s = on_out
  loop_at hp (suc k) s = on_stay s (hp.at s) (λ s₁ h. on_map (λ s₂ h'. begun_after h h') (loop_at hp k s₁)) (none tt refl)

  begins_many : {A : List ℕ} {a : Bool} {p : Parser M} → Begins A a p → Begins A true (many_p p)
  unfolding many_p
  begins_many hp = record { at = λ s. loop_at hp (suc (length s.rest)) s }

  -- the rest of a list, by the count of its members
  begun_list : {c : ℕ} {a : Bool} {s s₁ s₂ : St M} → Begun (c ∷ []) true s s₁ → Begun (c ∷ []) a s₁ s₂ → Begun (c ∷ []) true s s₂
  begun_list (by h) k = by h
  begun_list (none t e) (by k) = by (moved e k)
  begun_list (none t e) (none t' e') = none tt (e ∙ e')

  pub tail_at : {A : List ℕ} {a : Bool} {p : Parser M} (c : ℕ) → Begins A a p → (k : ℕ) (s : St M) →
      On (Begun (c ∷ []) true s) (and_then (loop (seq_p (take_p (c ∷ [])) p) k s) (alt_p (take_p (c ∷ [])) skip_p))
  tail_at c hp k s =
      on_then (loop_at (begins_seq (begins_take (c ∷ [])) hp) k s) (λ s₁ h. on_map (λ s₂ h'. begun_list h h') ((begins_alt (begins_take (c ∷ [])) begins_skip).at s₁))

  pub begins_tail : {A : List ℕ} {a : Bool} {p : Parser M} (c : ℕ) → Begins A a p → Begins (c ∷ []) true (tail_p c p)
  unfolding tail_p seq_p many_p
  begins_tail c hp = record { at = λ s. tail_at c hp (suc (length s.rest)) s }

  -- a part, where the rules are so
  pub begins_part : {R : Type 0} (first : R → List ℕ) {env : R → Parser M} → ((r : R) → Begins (first r) false (env r)) → (p : Part Act R) → Begins (begins first p) (null p) (eval env p)
  unfolding eval begins null
  begins_part first h skip = begins_skip
  begins_part first h (act a) = begins_act a
  begins_part first h (tok set) = begins_take set
  begins_part first h (see set) = begins_see set
  begins_part first h (call r) = h r
  begins_part first h (p ⨾ q) = begins_seq (begins_part first h p) (begins_part first h q)
  begins_part first h (p ∕ q) = begins_alt (begins_part first h p) (begins_part first h q)
  begins_part first h (many p) = begins_many (begins_part first h p)
  begins_part first h (tail c p) = begins_tail c (begins_part first h p)

  -- where one of K stands after, one of these stood before
  pub next_seen : {A : List ℕ} {a : Bool} {s s' : St M} {K : List ℕ} → Begun A a s s' → Sees K s'.rest → Sees (A ++ only a K) s.rest
  next_seen {a} {K} (by h) k = sees_left (only a K) h
  next_seen {A} {a} (none t e) k = sees_right A (sees_only a t (moved e k))

  -- a part that is never without a token was begun by one
  pub begun_by : {set : List ℕ} (b : Bool) {s s' : St M} → T (not b) → Begun set b s s' → Sees set s.rest
  begun_by b n (by h) = h
  begun_by b n (none t e) = absurd (not_e b n t)

  -- so where no such token stands it does not fit
  pub unbegun : {A : List ℕ} {a : Bool} {p : Parser M} → Begins A a p → T (not a) → (s : St M) → (Sees A s.rest → ⊥) → On (λ _. ⊥) (p s)
  unbegun {a} hp n s f = on_map (λ s' h. f (begun_by a n h)) (hp.at s)
