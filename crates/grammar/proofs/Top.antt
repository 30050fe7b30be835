-- The theorem, of every language whose tables pass the test: refusal 13 set aside, the descent accepts exactly what the trial accepts,
-- and both come to the same state.
-- Assumes nothing.
use mathlib.Core.Path.{◌≡◌, refl, ap, sym, subst, ◌∙◌, fun_ext}
use mathlib.Core.Logic.{◌⊎◌, inl, inr, ⊎_elim}
use mathlib.Core.Bool.{◌&&◌}
use mathlib.Core.List.{List, ◌++◌}
use Prim.Native.Nat.{ℕ, zero, suc, ◌<◌}
use native.Mathlib.Omega.{arith}
use lib.Dec.{T}
use lib.ListN.{length}
use Rattle.grammar.specs.Sets.{sees}
use Rattle.grammar.specs.Grammar.{Part, skip, act, tok, see, call, ◌⨾◌, ◌∕◌, many, tail}
use Rattle.grammar.specs.Trial.{Machine, St, Out, ok, fail, out, Parser, seq_p, alt_p, see_p, act_p, skip_p, eval, rule, enough, parse}
use Rattle.grammar.specs.Descent.{Plan, Answer, done, no, deep, descend}
use Rattle.grammar.specs.Check.{sound, idle, stops}
use Rattle.grammar.proofs.Sets.{Sees, and_l, and_r, or_e, sees_within}
use Rattle.grammar.proofs.Begin.{On, on_ok, any, on_then, on_else, on_if}
use Rattle.grammar.proofs.Agree.{Agree, met, both_no, too_deep, ran_out, stray}
use Rattle.grammar.proofs.Whole.{Sound, tested, agrees_rule}
use Rattle.grammar.proofs.Step.{descent_answers}
use Rattle.grammar.proofs.Prefix.{same_refusal}
use Rattle.grammar.proofs.Enough.{Twin, twin_ok, twin_fail, twin_parse, parse_is}

-- What is to be shown of a language: `plain` has its rules as the trial takes them, and G as the descent does, with its tables.
pub record Language {Act R : Type 0} (plain : R → Part Act R) (G : Plan Act R) (start : R) : Type 1 where
  pub passes : (r : R) → T (sound G r)
  pub alike : {M : Machine Act} (env : R → Parser M) (r : R) → eval env (plain r) ≡ eval env (G.body r)
  pub ends : T (stops (G.follow start) (G.body start))

-- What the two may come to: both accept, with one state; both refuse; or the descent refuses with 13.
pub data Verdict {Act : Type 0} {M : Machine Act} : Out M → Answer M → Type 0 where
  accepted : {s : St M} (n : ℕ) → Verdict (ok s) (done n s)
  refused : {asked : List ℕ} {s : St M} (n : ℕ) → Verdict fail (no asked n s)
  thirteen : {o : Out M} {s : St M} (n : ℕ) → Verdict o (deep n s)

module _ {Act : Type 0} {M : Machine Act} where
  of_ok : {P : St M → Type 0} {s : St M} → On P (ok s) → P s
  of_ok (on_ok h) = h

  -- a part that is idle leaves the tokens
  idle_at : {R : Type 0} (env : R → Parser M) (K : List ℕ) (p : Part Act R) → T (idle p) → (s : St M) → Sees K s.rest → On (λ s'. Sees K s'.rest) (eval env p s)
  unfolding eval idle skip_p act_p seq_p
  idle_at env K skip t s h = on_ok h
  idle_at env K (act a) t s h = on_ok h
  idle_at env K (tok set) t s h = absurd t
  idle_at env K (see set) t s h = absurd t
  idle_at env K (call r) t s h = absurd t
  idle_at env K (p ⨾ q) t s h = on_then (idle_at env K p (search and_l) s h) (λ s₁ h₁. idle_at env K q (search (and_l, and_r)) s₁ h₁)
  idle_at env K (p ∕ q) t s h = absurd t
  idle_at env K (many p) t s h = absurd t
  idle_at env K (tail c p) t s h = absurd t

  stops_at : {R : Type 0} (env : R → Parser M) (K : List ℕ) (p : Part Act R) → T (stops K p) → (s : St M) → On (λ s'. Sees K s'.rest) (eval env p s)
  unfolding eval stops see_p seq_p alt_p
  stops_at env K skip t s = absurd t
  stops_at env K (act a) t s = absurd t
  stops_at env K (tok set) t s = absurd t
  stops_at env K (see set) t s = on_if (sees set s.rest) s (λ h. sees_within {a = set} K t (record { holds = h }))
  stops_at env K (call r) t s = absurd t
  stops_at env K (p ⨾ q) t s = ⊎_elim
      (λ h. on_then (stops_at env K p (and_r (idle q) (stops K p) h) s) (λ s₁ h₁. idle_at env K q (and_l (idle q) (stops K p) h) s₁ h₁))
      (λ h. on_then (any (eval env p s)) (λ s₁ _. stops_at env K q h s₁))
      (or_e (idle q && stops K p) (stops K q) t)
  stops_at env K (p ∕ q) t s = on_else (eval env q) s (stops_at env K p (search and_l) s) (stops_at env K q (search (and_l, and_r)) s)
  stops_at env K (many p) t s = absurd t
  stops_at env K (tail c p) t s = absurd t

  verdict : {K : List ℕ} {P : St M → Type 0} {o : Out M} {x : Answer M} → Twin P o o → On (λ s'. Sees K s'.rest) o → Agree K o x → Verdict o x
  verdict l e (met n) = accepted n
  verdict l e (both_no {n}) = refused n
  verdict l e (too_deep {n}) = thirteen n
  verdict {K} {P} l e ran_out = elim l [ ]
  verdict l (on_ok h) (stray f) = absurd (f h)

  answers : {P : St M → Type 0} {o o' : Out M} → Twin P o o' → o ≡ out → ⊥
  answers (twin_ok h) e = let z : ◌≡◌ {A = ℕ} 0 1 = cc in omega arith
  answers twin_fail e = let z : ◌≡◌ {A = ℕ} 0 1 = cc in omega arith

  from_done : {o : Out M} {x : Answer M} (n : ℕ) (s' : St M) → Verdict o x → x ≡ done n s' → o ≡ ok s'
  from_done n s' (accepted m) e = cc
  from_done n s' (refused m) e = cc
  from_done n s' (thirteen m) e = cc

  from_no : {o : Out M} {x : Answer M} {asked : List ℕ} (n : ℕ) (s' : St M) → Verdict o x → x ≡ no asked n s' → o ≡ fail
  from_no n s' (accepted m) e = cc
  from_no n s' (refused m) e = cc
  from_no n s' (thirteen m) e = cc

  from_ok : {o : Out M} {x : Answer M} (s' : St M) → Verdict o x → o ≡ ok s' → ((n : ℕ) × (x ≡ done n s')) ⊎ ((m : ℕ) × (s₁ : St M) × (x ≡ deep m s₁))
  from_ok s' (accepted m) e = inl (m, cc)
  from_ok s' (refused {s} m) e = inr (m, s, cc)
  from_ok s' (thirteen {s} m) e = inr (m, s, refl)

module _ {Act R : Type 0} {plain : R → Part Act R} {G : Plan Act R} {start : R} (L : Language plain G start) where
  pub good : (r : R) → Sound G r
  good r = tested G r (L.passes r)

  module _ {M : Machine Act} where
    -- the rules as the trial takes them, and as the descent does, come to the same under the trial
    same_rule : (n : ℕ) (r : R) (s : St M) → rule plain n r s ≡ rule G.body n r s
    unfolding rule
    same_rule zero r s = refl
    same_rule (suc n) r s =
        ap (λ (env : R → Parser M). eval env (plain r) s) (fun_ext (λ r'. fun_ext (λ s'. same_rule n r' s')))
        ∙ ap (λ (p : Parser M). p s) (L.alike (rule G.body n) r)

    pub same_parse : (r : R) (s : St M) → parse plain r s ≡ parse G.body r s
    unfolding parse
    same_parse r s = same_rule (enough s) r s

    -- the trial of a rule is that of its body: no count is left
    pub rule_is : (r : R) (s : St M) → parse plain r s ≡ eval (parse plain) (plain r) s
    rule_is r s =
        same_parse r s ∙ parse_is G good r s ∙ ap (λ (p : Parser M). p s) (sym (L.alike (parse G.body) r))
        ∙ ap (λ (env : R → Parser M). eval env (plain r) s) (fun_ext (λ r'. fun_ext (λ s'. sym (same_parse r' s'))))

    -- the trial always answers
    pub trial_answers : (r : R) (s : St M) → parse plain r s ≡ out → ⊥
    trial_answers r s e = answers (twin_parse G good r s) (sym (same_parse r s) ∙ e)

    pub parse_ends : (s : St M) → On (λ s'. Sees (G.follow start) s'.rest) (parse G.body start s)
    parse_ends s = rw (parse_is G good start s) (stops_at (parse G.body) (G.follow start) (G.body start) L.ends s)

    agreed : (room n : ℕ) (s : St M) → Agree (G.follow start) (parse G.body start s) (descend G room start n s)
    unfolding parse descend
    agreed room n s = agrees_rule G good (enough s) room start n s

    pub theorem : (room n : ℕ) (s : St M) → Verdict (parse plain start s) (descend G room start n s)
    theorem room n s = rw (same_parse start s) (verdict (twin_parse G good start s) (parse_ends s) (agreed room n s))

    -- (A) what the descent accepts the trial accepts, with the same state
    pub descent→trial : (room n m : ℕ) (s s' : St M) → descend G room start n s ≡ done m s' → parse plain start s ≡ ok s'
    descent→trial room n m s s' e = from_done m s' (theorem room n s) e

    -- (B) what the trial accepts the descent accepts, with the same state, or refuses with 13
    pub trial→descent : (room n : ℕ) (s s' : St M) → parse plain start s ≡ ok s' → ((m : ℕ) × (descend G room start n s ≡ done m s')) ⊎ ((m : ℕ) × (s₁ : St M) × (descend G room start n s ≡ deep m s₁))
    trial→descent room n s s' e = from_ok s' (theorem room n s) e

    -- what the descent refuses with 14, 15 or 16 the trial refuses
    pub refusal→trial : {asked : List ℕ} (room n m : ℕ) (s s₁ : St M) → descend G room start n s ≡ no asked m s₁ → parse plain start s ≡ fail
    refusal→trial room n m s s₁ e = from_no m s₁ (theorem room n s) e

    -- where the descent accepts, one of the tokens that can stand after the whole stands next
    pub accepted_at : (room n m : ℕ) (s s' : St M) → descend G room start n s ≡ done m s' → Sees (G.follow start) s'.rest
    accepted_at room n m s s' e = of_ok (subst (On (λ s₁. Sees (G.follow start) s₁.rest)) (sym (same_parse start s) ∙ descent→trial room n m s s' e) (parse_ends s))

    -- Refusals 14, 15 and 16 stand at the first token that does not fit. The descent refuses w and then v at s₁, at a token of w, as more tokens are left than
    -- v has: then no input that begins with w is accepted.
    pub first_misfit : {asked : List ℕ} (room n m : ℕ) (w v v' : List ℕ) (k : M.Kept) (s₁ : St M) → descend G room start n (record { rest = w ++ v; kept = k }) ≡ no asked m s₁ → length v < length s₁.rest →
        parse {M = M} plain start (record { rest = w ++ v'; kept = k }) ≡ fail
    first_misfit room n m w v v' k s₁ e lt =
        let (s₂, e₂) = same_refusal v v' G room start n m w k s₁ (descent_answers G good room start n (record { rest = w ++ v'; kept = k })) e lt in
        refusal→trial room n m (record { rest = w ++ v'; kept = k }) s₂ e₂
