-- A hundred nested rules for each token that is left are enough: the trial never runs out, and any two counts that are enough come to the same.
-- So the trial of a rule is the trial of its body, with no count.
-- Assumes nothing.
use mathlib.Core.Path.{◌≡◌, refl}
use mathlib.Core.Bool.{Bool, true, false}
use mathlib.Core.List.{List, [], ◌∷◌}
use Prim.Native.Nat.{ℕ, zero, suc, ◌+◌, ◌*◌, ◌≤◌, ◌<◌}
use native.Mathlib.Omega.{arith}
use lib.Dec.{T, ltb→lt, leb→le}
use lib.ListN.{length}
use Rattle.grammar.specs.Sets.{mem, sees}
use Rattle.grammar.specs.Grammar.{Part, skip, act, tok, see, call, ◌⨾◌, ◌∕◌, many, tail}
use Rattle.grammar.specs.Trial.{Machine, St, Out, ok, fail, Parser, and_then, or_else, or_stay, seq_p, alt_p, loop, many_p, skip_p, ok_if, take_from, take_p, see_p, act_p, tail_p, eval, rule, enough, parse}
use Rattle.grammar.specs.Descent.{Plan}
use Rattle.grammar.specs.Check.{takes, after, low}
use Rattle.grammar.proofs.Sets.{and_l, and_r}
use Rattle.grammar.proofs.Whole.{Sound}

-- both come to one state, of which P holds, or both fail; neither ran out
pub data Twin {Act : Type 0} {M : Machine Act} (P : St M → Type 0) : Out M → Out M → Type 0 where
  twin_ok : {s : St M} → P s → Twin P (ok s) (ok s)
  twin_fail : Twin P fail fail

-- the bound after a part that took k tokens
pub after_le : (k m l l₁ B : ℕ) → l₁ + k ≤ l → l * 100 + m ≤ B → l₁ * 100 + after 100 k m ≤ B
after_le zero m l l₁ B h e = omega arith
after_le (suc k) m l l₁ B h e = omega arith

module _ {Act : Type 0} {M : Machine Act} where
  -- at least m tokens are taken
  pub record Less (m : ℕ) (s s' : St M) : Type 0 where
    pub fewer : length s'.rest + m ≤ length s.rest

  pub twin_same : {P : St M → Type 0} {o o' : Out M} → Twin P o o' → o ≡ o'
  twin_same (twin_ok h) = refl
  twin_same twin_fail = refl

  twin_then : {P Q : St M → Type 0} {o o' : Out M} {q q' : Parser M} → Twin P o o' → ((s : St M) → P s → Twin Q (q s) (q' s)) → Twin Q (and_then o q) (and_then o' q')
  unfolding and_then
  twin_then (twin_ok {s} h) f = f s h
  twin_then twin_fail f = twin_fail

  twin_else : {P : St M → Type 0} {o o' : Out M} (q q' : Parser M) (s : St M) → Twin P o o' → Twin P (q s) (q' s) → Twin P (or_else o q s) (or_else o' q' s)
  unfolding or_else
  twin_else q q' s (twin_ok h) k = twin_ok h
  twin_else q q' s twin_fail k = k

  twin_stay : {P Q : St M → Type 0} {o o' : Out M} {q q' : Parser M} (s : St M) → Twin P o o' → ((s₁ : St M) → P s₁ → Twin Q (q s₁) (q' s₁)) → Q s → Twin Q (or_stay o q s) (or_stay o' q' s)
  unfolding or_stay
  twin_stay s (twin_ok {s = s₁} h) f k = f s₁ h
  twin_stay s twin_fail f k = twin_ok k

  pub twin_map : {P Q : St M → Type 0} {o o' : Out M} → ((s : St M) → P s → Q s) → Twin P o o' → Twin Q o o'
  twin_map f (twin_ok {s} h) = twin_ok (f s h)
  twin_map f twin_fail = twin_fail

  twin_if : {P : St M → Type 0} (b : Bool) (s : St M) → P s → Twin P (ok_if b s) (ok_if b s)
  unfolding ok_if
  twin_if true s h = twin_ok h
  twin_if false s h = twin_fail

  take-from : (set l : List ℕ) (k : M.Kept) → Twin (Less 1 (record { rest = l; kept = k })) (take_from set l k) (take_from set l k)
  unfolding take_from
  take-from set [] k = twin_fail
  take-from set (t ∷ ts) k = twin_if (mem t set) (record { rest = ts; kept = M.shift t k }) (record { fewer = omega arith })

  pub twin_take : (set : List ℕ) (s : St M) → Twin (Less 1 s) (take_p set s) (take_p set s)
  unfolding take_p
  twin_take set s = take-from set s.rest s.kept

  pub twin_skip : (s : St M) → Twin (Less 0 s) (skip_p s) (skip_p s)
  unfolding skip_p
  twin_skip s = twin_ok {s = s} (record { fewer = omega arith })

  pub twin_see : (set : List ℕ) (s : St M) → Twin (Less 0 s) (see_p set s) (see_p set s)
  unfolding see_p
  twin_see set s = twin_if (sees set s.rest) s (record { fewer = omega arith })

  pub twin_act : (a : Act) (s : St M) → Twin (Less 0 s) (act_p a s) (act_p a s)
  unfolding act_p
  twin_act a s = twin_ok {s = record { rest = s.rest; kept = M.run a s.kept }} (record { fewer = omega arith })

  -- what is repeated: two counts above the number of tokens
  pub twin_loop : {t : ℕ} {p p' : Parser M} (L k k' : ℕ) → 0 < t → ((s : St M) → length s.rest ≤ L → Twin (Less t s) (p s) (p' s)) →
      (s : St M) → length s.rest ≤ L → length s.rest < k → length s.rest < k' → Twin (Less 0 s) (loop p k s) (loop p' k' s)
  unfolding loop
  twin_loop L zero k' pos hp s le lt lt' = absurd (omega arith)
  twin_loop L (suc k) zero pos hp s le lt lt' = absurd (omega arith)
  twin_loop L (suc k) (suc k') pos hp s le lt lt' =
      twin_stay s (hp s le) (λ s₁ h. twin_map (λ s₂ h₂. record { fewer = omega arith }) (twin_loop L k k' pos hp s₁ (omega arith) (omega arith) (omega arith))) (record { fewer = omega arith })

  twin_many : {t : ℕ} {p p' : Parser M} → 0 < t → (s : St M) → ((s₁ : St M) → length s₁.rest ≤ length s.rest → Twin (Less t s₁) (p s₁) (p' s₁)) → Twin (Less 0 s) (many_p p s) (many_p p' s)
  unfolding many_p
  twin_many pos s hp = twin_loop (length s.rest) (suc (length s.rest)) (suc (length s.rest)) pos hp s (omega arith) (omega arith) (omega arith)

  twin_tail : {t : ℕ} {p p' : Parser M} (c : ℕ) (s : St M) → ((s₁ : St M) → length s₁.rest < length s.rest → Twin (Less t s₁) (p s₁) (p' s₁)) → Twin (Less 0 s) (tail_p c p s) (tail_p c p' s)
  unfolding tail_p seq_p alt_p
  twin_tail {t} c s hp =
      twin_then (twin_many {t = 1} (omega arith) s (λ s₁ le. twin_then (twin_take (c ∷ []) s₁) (λ s₂ h. twin_map (λ s₃ k. record { fewer = omega arith }) (hp s₂ (omega arith)))))
      (λ s₁ h. twin_map (λ s₂ k. record { fewer = omega arith })
      (twin_else skip_p skip_p s₁ (twin_map (λ s₂ k. record { fewer = omega arith }) (twin_take (c ∷ []) s₁)) (twin_skip s₁)))

  module _ {R : Type 0} (G : Plan Act R) where
    -- a part, where the rules do so whose tokens and rank stay below B
    pub twin_part : {env env' : R → Parser M} (B : ℕ) → ((r : R) (s : St M) → length s.rest * 100 + G.rank r < B → Twin (Less (G.least r) s) (env r s) (env' r s)) →
        (p : Part Act R) (m : ℕ) (s : St M) → T (low G 100 m p) → length s.rest * 100 + m ≤ B → Twin (Less (takes G.least p) s) (eval env p s) (eval env' p s)
    unfolding eval takes low seq_p alt_p
    twin_part B he skip m s t le = twin_skip s
    twin_part B he (act a) m s t le = twin_act a s
    twin_part B he (tok set) m s t le = twin_take set s
    twin_part B he (see set) m s t le = twin_see set s
    twin_part B he (call r) m s t le = he r s (omega (arith, ltb→lt (G.rank r) m t))
    twin_part B he (p ⨾ q) m s t le =
        twin_then (twin_part B he p m s (search and_l) le) (λ s₁ h. twin_map (λ s₂ k. record { fewer = omega arith })
        (twin_part B he q (after 100 (takes G.least p) m) s₁ (search (and_l, and_r)) (after_le (takes G.least p) m (length s.rest) (length s₁.rest) B h.fewer le)))
    twin_part {env} {env'} B he (p ∕ q) m s t le =
        twin_else (eval env q) (eval env' q) s (twin_map (λ s₁ h. record { fewer = omega arith }) (twin_part B he p m s (search and_l) le))
        (twin_map (λ s₁ h. record { fewer = omega arith }) (twin_part B he q m s (search (and_l, and_r)) le))
    twin_part B he (many p) m s t le =
        twin_many (ltb→lt 0 (takes G.least p) (search and_l)) s (λ s₁ l. twin_part B he p m s₁ (search (and_l, and_r)) (omega arith))
    twin_part B he (tail c p) m s t le = twin_tail c s (λ s₁ l. twin_part B he p 100 s₁ t (omega arith))

    module _ (good : (r : R) → Sound G r) where
      pub twin_rule : (n n' : ℕ) (r : R) (s : St M) → length s.rest * 100 + G.rank r < n → length s.rest * 100 + G.rank r < n' → Twin (Less (G.least r) s) (rule G.body n r s) (rule G.body n' r s)
      unfolding rule
      twin_rule zero n' r s lt lt' = absurd (omega arith)
      twin_rule (suc n) zero r s lt lt' = absurd (omega arith)
      twin_rule (suc n) (suc n') r s lt lt' =
          twin_map (λ s' h. record { fewer = omega (arith, leb→le (G.least r) (takes G.least (G.body r)) (good r).enough) })
          (twin_part (length s.rest * 100 + G.rank r) (λ r' s' below. twin_rule n n' r' s' (omega arith) (omega arith)) (G.body r) (G.rank r) s (good r).lower (omega arith))

      pub enough_for : (r : R) (s : St M) → length s.rest * 100 + G.rank r < enough s
      unfolding enough
      enough_for r s = omega (arith, ltb→lt (G.rank r) 100 (good r).ranked)

      -- the trial answers
      pub twin_parse : (r : R) (s : St M) → Twin (Less (G.least r) s) (parse G.body r s) (parse G.body r s)
      unfolding parse
      twin_parse r s = twin_rule (enough s) (enough s) r s (enough_for r s) (enough_for r s)

      -- a rule is its body
      parse_from : (n : ℕ) (r : R) (s : St M) → length s.rest * 100 + G.rank r < n → rule G.body n r s ≡ eval (parse G.body) (G.body r) s
      unfolding rule parse
      parse_from zero r s lt = absurd (omega arith)
      parse_from (suc n) r s lt =
          twin_same (twin_part (length s.rest * 100 + G.rank r) (λ r' s' below. twin_rule n (enough s') r' s' (omega arith) (enough_for r' s')) (G.body r) (G.rank r) s (good r).lower (omega arith))

      pub parse_is : (r : R) (s : St M) → parse G.body r s ≡ eval (parse G.body) (G.body r) s
      unfolding parse
      parse_is r s = parse_from (enough s) r s (enough_for r s)
