-- The nodes that the descent's actions write: each token pays for so many, and no action writes what is not paid for.
-- What is written, what the tokens to come will pay for, and the credit at hand stay below one sum N.
-- Assumes nothing.
use mathlib.Core.Bool.{◌||◌}
use mathlib.Core.List.{[], ◌∷◌}
use Prim.Native.Nat.{ℕ, zero, suc, ◌+◌, ◌-◌, ◌≤◌}
use native.Mathlib.Omega.{arith}
use lib.Dec.{T, leb→le}
use lib.ListN.{length}
use Rattle.grammar.specs.Sets.{sees}
use Rattle.grammar.specs.Grammar.{Part, skip, act, tok, see, call, ◌⨾◌, ◌∕◌, many, tail}
use Rattle.grammar.specs.Trial.{Machine, St, skip_p, see_p, act_p}
use Rattle.grammar.specs.Descent.{Plan, Walk, null, begins, same_d, seq_d, many_d, list_d, walk, rule_d}
use Rattle.grammar.specs.Limits.{Prices, Meter, worth, clean, credit, afford, spare}
use Rattle.grammar.proofs.Sets.{and_l, and_r}
use Rattle.grammar.proofs.Begin.{on_if}
use Rattle.grammar.proofs.Ends.{Ends, ends_done, ends_no, ends_stuck, ends_map, ends_then, ends_by, ends_or, ends_same, ends_loop, ends_tail, ends_enter}
use Rattle.grammar.proofs.Tokens.{Took, takes_one}
use Rattle.grammar.proofs.Progress.{Modest}

module _ {Act : Type 0} {M : Machine Act} {R : Type 0} (G : Plan Act R) (Q : Prices Act R) (Z : Meter M Q.writes) where
  worth_take : {s s' : St M} → Took Q.eof s s' → worth Q Z s' + Q.pay ≤ worth Q Z s
  unfolding worth
  worth_take {s} {s'} h = rw (h.fewer, h.moved) (omega (arith, Z.nodes_shift h.token s.kept))

  worth_act : (a : Act) (s : St M) → worth Q Z (record { rest = s.rest; kept = M.run a s.kept }) ≤ worth Q Z s + Q.writes a
  unfolding worth
  worth_act a s = omega (arith, Z.nodes_run a s.kept)

  -- what is spared is of what was given
  spare_in : (p : Part Act R) (c : ℕ) → spare Q c p ≤ c
  unfolding spare
  spare_in skip c = omega arith
  spare_in (act a) c = omega arith
  spare_in (tok set) c = omega arith
  spare_in (see set) c = omega arith
  spare_in (call r) c = omega arith
  spare_in (p ⨾ q) c = omega (arith, spare_in p c)
  spare_in (p ∕ q) c = omega (arith, spare_in p c)
  spare_in (many p) c = omega arith
  spare_in (tail k p) c = omega arith

  -- a part, where the rules do so, with the credit c
  pub wrote_part : {env : R → Walk M} →
      ((N : ℕ) (r : R) (n : ℕ) (s : St M) → worth Q Z s + Q.needs r ≤ N → Ends (λ _ s'. worth Q Z s' + Q.gives r ≤ N) (λ _ s'. worth Q Z s' ≤ N) (env r n s)) →
      (N : ℕ) (p : Part Act R) (c : ℕ) → T (afford Q c p) → T (clean G Q.eof p) → (n : ℕ) (s : St M) → worth Q Z s + c ≤ N →
      Ends (λ _ s'. worth Q Z s' + credit Q c p ≤ N) (λ _ s'. worth Q Z s' + spare Q c p ≤ N) (walk G.first env p n s)
  unfolding walk clean credit afford spare skip_p act_p see_p same_d seq_d many_d list_d
  wrote_part he N skip c a t n s h = ends_done h
  wrote_part he N (act b) c a t n s h = ends_done {s = record { rest = s.rest; kept = M.run b s.kept }} (omega (arith, worth_act b s, leb→le (Q.writes b) c a))
  wrote_part he N (tok set) c a t n s h = ends_same set n s (takes_one Q.eof set t s) (λ s' k. omega (arith, worth_take k)) h
  wrote_part he N (see set) c a t n s h = ends_same set n s (on_if {P = λ s'. worth Q Z s' + c ≤ N} (sees set s.rest) s (λ _. h)) (λ s' k. k) h
  wrote_part {env} he N (call r) c a t n s h =
      let le : Q.needs r ≤ c = leb→le (Q.needs r) c a in
      ends_by (sees (G.first r) s.rest) (env r) _ n s
      (λ _. ends_map (λ n₁ s₁ k. omega arith) (λ n₁ s₁ k. omega arith) (he (N - (c - Q.needs r)) r n s (omega arith)))
      (ends_no (omega arith))
  wrote_part he N (p ⨾ q) c a t n s h =
      ends_then (ends_map (λ n₁ s₁ k. k) (λ n₁ s₁ k. omega arith) (wrote_part he N p c (search and_l) (search and_l) n s h))
      (λ n₁ s₁ h₁. ends_map (λ n₂ s₂ k. k) (λ n₂ s₂ k. omega arith) (wrote_part he N q (credit Q c p) (search (and_l, and_r)) (search (and_l, and_r)) n₁ s₁ h₁))
  wrote_part {env} he N (p ∕ q) c a t n s h =
      ends_or _ (sees (begins G.first p) s.rest) (null q || sees (begins G.first q) s.rest) (walk G.first env p) (walk G.first env q) n s
      (λ _. ends_map (λ n₁ s₁ k. omega arith) (λ n₁ s₁ k. omega arith) (wrote_part he N p c (search and_l) (search and_l) n s h))
      (ends_map (λ n₁ s₁ k. omega arith) (λ n₁ s₁ k. omega arith) (wrote_part he N q c (search (and_l, and_r)) (search (and_l, and_r)) n s h))
      (omega (arith, spare_in p c))
  wrote_part {env} he N (many p) c a t n s h =
      let le : c ≤ credit Q c p = leb→le c (credit Q c p) (search (and_l, and_r)) in
      ends_loop (begins G.first p) (walk G.first env p)
      (λ n₁ s₁ i. ends_map (λ n₂ s₂ k. omega arith) (λ n₂ s₂ k. omega arith) (wrote_part he N p c (search and_l) t n₁ s₁ i))
      (suc (length s.rest)) n s h
  wrote_part {env} he N (tail k p) c a t n s h =
      let le : c ≤ credit Q (c + Q.pay) p = leb→le c (credit Q (c + Q.pay) p) (search (and_l, and_r)) in
      ends_tail {J = λ _ s₁. worth Q Z s₁ + (c + Q.pay) ≤ N} k (begins G.first p) (walk G.first env p)
      (λ n₁ s₁ i. ends_same (k ∷ []) n₁ s₁ (takes_one Q.eof (k ∷ []) (search and_l) s₁) (λ s₂ j. omega (arith, worth_take j)) (omega arith))
      (λ n₁ s₁ j. omega arith)
      (λ n₁ s₁ j. ends_map (λ n₂ s₂ i. omega arith) (λ n₂ s₂ i. omega arith) (wrote_part he N p (c + Q.pay) (search and_l) (search (and_l, and_r)) n₁ s₁ j))
      (suc (length s.rest)) n s h

  module _ (fit : (r : R) → Modest G Q r) where
    -- a rule; where it is refused, what it spares of what it needs is still there
    pub rule_wrote : (k room N : ℕ) (r : R) (n : ℕ) (s : St M) → worth Q Z s + Q.needs r ≤ N →
        Ends (λ _ s'. worth Q Z s' + Q.gives r ≤ N) (λ _ s'. worth Q Z s' + spare Q (Q.needs r) (G.body r) ≤ N) (rule_d G k room r n s)
    unfolding rule_d
    rule_wrote zero room N r n s h = ends_stuck
    rule_wrote (suc k) room N r n s h = ends_enter _ (G.opens r) room n s (omega (arith, spare_in (G.body r) (Q.needs r))) (λ m.
        ends_map (λ n₁ s₁ i. omega (arith, leb→le (Q.gives r) (credit Q (Q.needs r) (G.body r)) (fit r).leaves)) (λ n₁ s₁ i. i)
        (wrote_part (λ N₁ r' n₁ s₁ i. ends_map (λ n₂ s₂ j. j) (λ n₂ s₂ j. omega arith) (rule_wrote k m N₁ r' n₁ s₁ i)) N (G.body r) (Q.needs r) (fit r).affords (fit r).tidy (n + 1) s h))
