-- The rules that the descent opens: at most so many on each token before the end, and one more for the rule of the whole input.
-- What is opened, and what may still be opened, stay below one sum N.
-- Assumes nothing.
use mathlib.Core.Path.{◌≡◌, refl}
use mathlib.Core.Bool.{not, ◌||◌}
use mathlib.Core.List.{List, [], ◌∷◌}
use Prim.Native.Nat.{ℕ, zero, suc, ◌+◌, ◌*◌, ◌≤◌, ◌<◌}
use native.Mathlib.Nat.{add-zero, add-suc}
use native.Mathlib.Omega.{arith}
use lib.Dec.{T, ltb→lt, leb→le}
use lib.ListN.{length}
use Rattle.grammar.specs.Sets.{mem, sees}
use Rattle.grammar.specs.Grammar.{Part, skip, act, tok, see, call, ◌⨾◌, ◌∕◌, many, tail}
use Rattle.grammar.specs.Trial.{Machine, St, skip_p, see_p, act_p}
use Rattle.grammar.specs.Descent.{Plan, Walk, null, begins, same_d, seq_d, many_d, list_d, walk, rule_d}
use Rattle.grammar.specs.Check.{takes, after, low}
use Rattle.grammar.specs.Limits.{Prices, before, to_come, ahead, clean}
use Rattle.grammar.proofs.Sets.{and_l, and_r}
use Rattle.grammar.proofs.Begin.{on_if}
use Rattle.grammar.proofs.Ends.{Ends, ends_done, ends_no, ends_stuck, ends_map, ends_then, ends_by, ends_or, ends_same, ends_loop, ends_tail, ends_enter}
use Rattle.grammar.proofs.Tokens.{seen_before, Took, takes_one}
use Rattle.grammar.proofs.Progress.{Modest}

-- what may still be opened: by the bound on the token at hand
come_most : (w m m' b : ℕ) → m ≤ m' → to_come w m b ≤ to_come w m' b
unfolding to_come
come_most w m m' zero le = omega arith
come_most w m m' (suc b) le = omega arith

-- with the whole width on the token at hand
pub come_all : (w b : ℕ) → to_come w w b ≡ w * b
unfolding to_come
come_all w zero = omega arith
come_all w (suc b) = omega arith

-- with a token at hand
pub come_some : (w m b : ℕ) → 0 < b → to_come w m b + w ≡ m + w * b
unfolding to_come
come_some w m zero pos = absurd (omega arith)
come_some w m (suc b) pos = omega arith

-- with nothing on the token at hand
pub come_none : (w b : ℕ) → w * b ≤ to_come w 0 b + w
unfolding to_come
come_none w zero = omega arith
come_none w (suc b) = omega arith

-- a token is taken: what was left for it is forgone
come_take : (w m b b' : ℕ) → b ≡ suc b' → to_come w w b' ≤ to_come w m b
unfolding to_come
come_take w m b b' e = rw e (omega (arith, come_all w b'))

-- a rule is opened on a token before the end
come_open : (w m m' b : ℕ) → m < m' → 0 < b → suc (to_come w m b) ≤ to_come w m' b
unfolding to_come
come_open w m m' zero lt pos = absurd (omega arith)
come_open w m m' (suc b) lt pos = omega arith

-- the bound on the token at hand: it never goes down, and after a token it is w
after_in : (w k m : ℕ) → m ≤ w → after w k m ≤ w
after_in w zero m le = le
after_in w (suc k) m le = omega arith

after_most : (w k k' m : ℕ) → k ≤ k' → m ≤ w → after w k m ≤ after w k' m
after_most w zero zero m le h = omega arith
after_most w zero (suc k') m le h = h
after_most w (suc k) zero m le h = absurd (omega arith)
after_most w (suc k) (suc k') m le h = omega arith

pub after_is : (w k m : ℕ) → 0 < k → after w k m ≡ w
after_is w zero m pos = absurd (omega arith)
after_is w (suc k) m pos = refl

pub after_all : (w k : ℕ) → after w k w ≡ w
after_all w zero = refl
after_all w (suc k) = refl

after_both : (w k k' m : ℕ) → after w (k + k') m ≡ after w k' (after w k m)
after_both w k zero m = rw (add-zero k) refl
after_both w k (suc k') m = rw (add-suc k k') refl

module _ {Act : Type 0} {M : Machine Act} {R : Type 0} (G : Plan Act R) (Q : Prices Act R) where
  open Q use {width as w}

  -- the same at a state
  pub ahead_most : (m m' : ℕ) (s : St M) → m ≤ m' → ahead Q m s ≤ ahead Q m' s
  unfolding ahead
  ahead_most m m' s le = come_most w m m' (before Q.eof s.rest) le

  pub ahead_take : {s s' : St M} (m : ℕ) → Took Q.eof s s' → ahead Q w s' ≤ ahead Q m s
  unfolding ahead
  ahead_take {s} {s'} m h = come_take w m (before Q.eof s.rest) (before Q.eof s'.rest) h.fewer

  pub ahead_open : (m m' : ℕ) (set : List ℕ) (s : St M) → m < m' → T (not (mem Q.eof set)) → T (sees set s.rest) → suc (ahead Q m s) ≤ ahead Q m' s
  unfolding ahead
  ahead_open m m' set s lt out h = come_open w m m' (before Q.eof s.rest) lt (seen_before Q.eof set s.rest out h)

  module _ (N : ℕ) where
    -- fewer tokens were taken at the least: a lower bound on the token at hand
    lower : (k k' m n : ℕ) (s : St M) → k ≤ k' → m ≤ w → n + ahead Q (after w k' m) s ≤ N → n + ahead Q (after w k m) s ≤ N
    lower k k' m n s le h i = omega (arith, ahead_most (after w k m) (after w k' m) s (after_most w k k' m le h))

    lower_all : (m n : ℕ) (s : St M) → m ≤ w → n + ahead Q w s ≤ N → n + ahead Q m s ≤ N
    lower_all m n s le i = omega (arith, ahead_most m w s le)

    -- where it is refused, no more is opened on the token at hand
    none_here : (m n : ℕ) (s : St M) → n + ahead Q m s ≤ N → n + ahead Q 0 s ≤ N
    none_here m n s i = omega (arith, ahead_most 0 m s (omega arith))

    -- a part, where the rules do so
    pub opens_part : {env : R → Walk M} →
        ((r : R) (n : ℕ) (s : St M) → n + 1 + ahead Q (G.rank r) s ≤ N → Ends (λ n' s'. n' + ahead Q (after w (G.least r) (G.rank r)) s' ≤ N) (λ n' s'. n' + ahead Q 0 s' ≤ N) (env r n s)) →
        (p : Part Act R) (m : ℕ) → T (low G w m p) → T (clean G Q.eof p) → m ≤ w → (n : ℕ) (s : St M) → n + ahead Q m s ≤ N →
        Ends (λ n' s'. n' + ahead Q (after w (takes G.least p) m) s' ≤ N) (λ n' s'. n' + ahead Q 0 s' ≤ N) (walk G.first env p n s)
    unfolding walk takes low clean skip_p act_p see_p same_d seq_d many_d list_d ahead
    opens_part he skip m l t le n s h = ends_done h
    opens_part he (act a) m l t le n s h = ends_done h
    opens_part he (tok set) m l t le n s h = ends_same set n s (takes_one Q.eof set t s) (λ s' k. omega (arith, ahead_take m k)) (none_here m n s h)
    opens_part he (see set) m l t le n s h = ends_same set n s (on_if {P = λ s'. n + ahead Q m s' ≤ N} (sees set s.rest) s (λ _. h)) (λ s' k. k) (none_here m n s h)
    opens_part {env} he (call r) m l t le n s h =
        let takes_some : 0 < G.least r = ltb→lt 0 (G.least r) (search and_l) in
        ends_by (sees (G.first r) s.rest) (env r) _ n s
        (λ seen. ends_map
        (λ n₁ s₁ k. rw (after_is w (G.least r) m takes_some) (rw (after_is w (G.least r) (G.rank r) takes_some) at k))
        (λ n₁ s₁ k. k)
        (he r n s (omega (arith, ahead_open (G.rank r) m (G.first r) s (ltb→lt (G.rank r) m l) (search (and_l, and_r)) seen))))
        (ends_no (none_here m n s h))
    opens_part he (p ⨾ q) m l t le n s h =
        ends_then (opens_part he p m (search and_l) (search and_l) le n s h)
        (λ n₁ s₁ h₁. ends_map (λ n₂ s₂ k. rw (after_both w (takes G.least p) (takes G.least q) m) k) (λ n₂ s₂ k. k)
        (opens_part he q (after w (takes G.least p) m) (search (and_l, and_r)) (search (and_l, and_r)) (after_in w (takes G.least p) m le) n₁ s₁ h₁))
    opens_part {env} he (p ∕ q) m l t le n s h =
        ends_or _ (sees (begins G.first p) s.rest) (null q || sees (begins G.first q) s.rest) (walk G.first env p) (walk G.first env q) n s
        (λ _. ends_map (λ n₁ s₁ k. lower (takes G.least (p ∕ q)) (takes G.least p) m n₁ s₁ (omega arith) le k) (λ n₁ s₁ k. k) (opens_part he p m (search and_l) (search and_l) le n s h))
        (ends_map (λ n₁ s₁ k. lower (takes G.least (p ∕ q)) (takes G.least q) m n₁ s₁ (omega arith) le k) (λ n₁ s₁ k. k) (opens_part he q m (search (and_l, and_r)) (search (and_l, and_r)) le n s h))
        (none_here m n s h)
    opens_part {env} he (many p) m l t le n s h =
        ends_loop (begins G.first p) (walk G.first env p)
        (λ n₁ s₁ i. ends_map (λ n₂ s₂ k. lower 0 (takes G.least p) m n₂ s₂ (omega arith) le k) (λ n₂ s₂ k. k) (opens_part he p m (search (and_l, and_r)) t le n₁ s₁ i))
        (suc (length s.rest)) n s h
    opens_part {env} he (tail k p) m l t le n s h =
        ends_tail {J = λ n₁ s₁. n₁ + ahead Q w s₁ ≤ N} k (begins G.first p) (walk G.first env p)
        (λ n₁ s₁ i. ends_same (k ∷ []) n₁ s₁ (takes_one Q.eof (k ∷ []) (search and_l) s₁) (λ s₂ j. omega (arith, ahead_take m j)) (none_here m n₁ s₁ i))
        (λ n₁ s₁ j. lower_all m n₁ s₁ le j)
        (λ n₁ s₁ j. ends_map (λ n₂ s₂ i. lower_all m n₂ s₂ le (lower 0 (takes G.least p) w n₂ s₂ (omega arith) (omega arith) i)) (λ n₂ s₂ i. i)
        (opens_part he p w l (search (and_l, and_r)) (omega arith) n₁ s₁ j))
        (suc (length s.rest)) n s h

  -- A rule, and those within it. N is for what is opened so far, this one, and what may still be opened on its tokens.
  module _ (fit : (r : R) → Modest G Q r) where
    pub rule_opens : (N k room : ℕ) (r : R) (n : ℕ) (s : St M) → n + 1 + ahead Q (G.rank r) s ≤ N →
        Ends (λ n' s'. n' + ahead Q (after w (G.least r) (G.rank r)) s' ≤ N) (λ n' s'. n' + ahead Q 0 s' ≤ N) (rule_d G k room r n s)
    unfolding rule_d
    rule_opens N zero room r n s h = ends_stuck
    rule_opens N (suc k) room r n s h =
        let ranked : G.rank r ≤ w = leb→le (G.rank r) w (fit r).ranked in
        let least : G.least r ≤ takes G.least (G.body r) = leb→le (G.least r) (takes G.least (G.body r)) (fit r).enough in
        ends_enter _ (G.opens r) room n s (none_here N (G.rank r) n s (omega arith)) (λ m.
        ends_map (λ n₁ s₁ i. lower N (G.least r) (takes G.least (G.body r)) (G.rank r) n₁ s₁ least ranked i) (λ n₁ s₁ i. i)
        (opens_part N (λ r' n₁ s₁ i. rule_opens N k m r' n₁ s₁ i) (G.body r) (G.rank r) (fit r).lower (fit r).tidy ranked (n + 1) s h))
