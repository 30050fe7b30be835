-- The tokens that the descent takes: a rule that is come through takes as many as its table says, and never the end;
-- a refusal stands at the end or before it.
-- Assumes nothing.
use mathlib.Core.Path.{◌≡◌, refl, ap, ◌∙◌}
use mathlib.Core.Bool.{◌||◌}
use mathlib.Core.List.{[], ◌∷◌}
use Prim.Native.Nat.{ℕ, zero, suc, ◌+◌, ◌≤◌}
use native.Mathlib.Omega.{arith}
use lib.Dec.{T, leb, leb→le}
use lib.ListN.{length}
use Rattle.grammar.specs.Sets.{sees}
use Rattle.grammar.specs.Grammar.{Part, skip, act, tok, see, call, ◌⨾◌, ◌∕◌, many, tail}
use Rattle.grammar.specs.Trial.{Machine, St, skip_p, see_p, act_p}
use Rattle.grammar.specs.Descent.{Plan, Walk, null, begins, same_d, seq_d, many_d, list_d, walk, rule_d}
use Rattle.grammar.specs.Check.{takes, low}
use Rattle.grammar.specs.Limits.{Prices, Meter, before, clean, credit, afford, modest}
use Rattle.grammar.proofs.Sets.{and_l, and_r}
use Rattle.grammar.proofs.Begin.{on_if}
use Rattle.grammar.proofs.Ends.{Ends, ends_done, ends_no, ends_stuck, ends_map, ends_then, ends_by, ends_or, ends_same, ends_loop, ends_tail, ends_enter}
use Rattle.grammar.proofs.Tokens.{Took, takes_one}

-- the parts of the test of one rule
pub record Modest {Act R : Type 0} (G : Plan Act R) (Q : Prices Act R) (r : R) : Type 0 where
  pub tidy : T (clean G Q.eof (G.body r))
  pub enough : T (leb (G.least r) (takes G.least (G.body r)))
  pub ranked : T (leb (G.rank r) Q.width)
  pub lower : T (low G Q.width (G.rank r) (G.body r))
  pub affords : T (afford Q (Q.needs r) (G.body r))
  pub leaves : T (leb (Q.gives r) (credit Q (Q.needs r) (G.body r)))

pub measured : {Act R : Type 0} (G : Plan Act R) (Q : Prices Act R) (r : R) → T (modest G Q r) → Modest G Q r
unfolding modest
measured G Q r t = record {
  tidy = search (and_l, and_r) depth 7;
  enough = search (and_l, and_r) depth 7;
  ranked = search (and_l, and_r);
  lower = search (and_l, and_r);
  affords = search (and_l, and_r);
  leaves = search and_r;
}

module _ {Act : Type 0} {M : Machine Act} {f : Act → ℕ} (Z : Meter M f) (c : ℕ) where
  -- At least m tokens were taken, and c was not: the number of the next token and the tokens before c keep their sum.
  pub record Went (m : ℕ) (s s' : St M) : Type 0 where
    pub fewer : before c s'.rest + m ≤ before c s.rest
    pub sum : Z.place s'.kept + before c s'.rest ≡ Z.place s.kept + before c s.rest

  went_same : (s : St M) → Went 0 s s
  went_same s = record { fewer = omega arith; sum = refl }

  went_less : {m m' : ℕ} {s s' : St M} → m' ≤ m → Went m s s' → Went m' s s'
  went_less le h = record { fewer = omega arith; sum = h.sum }

  went_on : {m m' : ℕ} {s s₁ s₂ : St M} → Went m s s₁ → Went m' s₁ s₂ → Went (m + m') s s₂
  went_on h k = record { fewer = omega arith; sum = k.sum ∙ h.sum }

  -- so much for a refusal, and for what may take no token
  went_far : {m m' : ℕ} {s s₁ s₂ : St M} → Went m s s₁ → Went m' s₁ s₂ → Went 0 s s₂
  went_far h k = record { fewer = omega arith; sum = k.sum ∙ h.sum }

  went_take : {s s' : St M} → Took c s s' → Went 1 s s'
  went_take {s} {s'} h =
      let e : Z.place s'.kept ≡ Z.place s.kept + 1 = ap Z.place h.moved ∙ Z.place_shift h.token s.kept in
      let b : before c s.rest ≡ suc (before c s'.rest) = h.fewer in
      record { fewer = omega arith; sum = omega arith }

  went_act : (a : Act) (s : St M) → Went 0 s (record { rest = s.rest; kept = M.run a s.kept })
  went_act a s = record { fewer = omega arith; sum = omega (arith, Z.place_run a s.kept) }

  module _ {R : Type 0} (G : Plan Act R) where
    -- a part, where the rules do so
    pub went_part : {env : R → Walk M} → ((r : R) (n : ℕ) (s : St M) → Ends (λ _ s'. Went (G.least r) s s') (λ _ s'. Went 0 s s') (env r n s)) →
        (p : Part Act R) → T (clean G c p) → (n : ℕ) (s : St M) → Ends (λ _ s'. Went (takes G.least p) s s') (λ _ s'. Went 0 s s') (walk G.first env p n s)
    unfolding walk takes clean skip_p act_p see_p same_d seq_d many_d list_d
    went_part he skip t n s = ends_done (went_same s)
    went_part he (act a) t n s = ends_done (went_act a s)
    went_part he (tok set) t n s = ends_same set n s (takes_one c set t s) (λ s' h. went_take h) (went_same s)
    went_part he (see set) t n s = ends_same set n s (on_if {P = Went 0 s} (sees set s.rest) s (λ _. went_same s)) (λ s' h. h) (went_same s)
    went_part {env} he (call r) t n s = ends_by (sees (G.first r) s.rest) (env r) _ n s (λ _. he r n s) (ends_no (went_same s))
    went_part he (p ⨾ q) t n s =
        ends_then (went_part he p (search and_l) n s) (λ n₁ s₁ h. ends_map (λ n₂ s₂ k. went_on h k) (λ n₂ s₂ k. went_far h k) (went_part he q (search (and_l, and_r)) n₁ s₁))
    went_part {env} he (p ∕ q) t n s =
        ends_or _ (sees (begins G.first p) s.rest) (null q || sees (begins G.first q) s.rest) (walk G.first env p) (walk G.first env q) n s
        (λ _. ends_map (λ n₁ s₁ h. went_less (omega arith) h) (λ n₁ s₁ h. h) (went_part he p (search and_l) n s))
        (ends_map (λ n₁ s₁ h. went_less (omega arith) h) (λ n₁ s₁ h. h) (went_part he q (search (and_l, and_r)) n s))
        (went_same s)
    went_part {env} he (many p) t n s =
        ends_loop (begins G.first p) (walk G.first env p)
        (λ n₁ s₁ i. ends_map (λ n₂ s₂ k. went_far i k) (λ n₂ s₂ k. went_far i k) (went_part he p t n₁ s₁)) (suc (length s.rest)) n s (went_same s)
    went_part {env} he (tail k p) t n s =
        ends_tail {J = λ _ s'. Went 0 s s'} k (begins G.first p) (walk G.first env p)
        (λ n₁ s₁ i. ends_same (k ∷ []) n₁ s₁ (takes_one c (k ∷ []) (search and_l) s₁) (λ s₂ h. went_far i (went_take h)) i) (λ n₁ s₁ j. j)
        (λ n₁ s₁ i. ends_map (λ n₂ s₂ k. went_far i k) (λ n₂ s₂ k. went_far i k) (went_part he p (search (and_l, and_r)) n₁ s₁)) (suc (length s.rest)) n s (went_same s)

module _ {Act : Type 0} {M : Machine Act} {R : Type 0} (G : Plan Act R) (Q : Prices Act R) (Z : Meter M Q.writes) (fit : (r : R) → Modest G Q r) where
  pub rule_went : (k room : ℕ) (r : R) (n : ℕ) (s : St M) → Ends (λ _ s'. Went Z Q.eof (G.least r) s s') (λ _ s'. Went Z Q.eof 0 s s') (rule_d G k room r n s)
  unfolding rule_d
  rule_went zero room r n s = ends_stuck
  rule_went (suc k) room r n s = ends_enter _ (G.opens r) room n s (went_same Z Q.eof s) (λ m.
      ends_map (λ n₁ s₁ h. went_less Z Q.eof (leb→le (G.least r) (takes G.least (G.body r)) (fit r).enough) h) (λ n₁ s₁ h. h)
      (went_part Z Q.eof G (λ r' n₁ s₁. rule_went k m r' n₁ s₁) (G.body r) (fit r).tidy (n + 1) s))
