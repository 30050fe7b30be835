-- Which tokens can stand where the descent refuses, by what it asked for there: each token that it asked for, and, where the test says so, no other than
-- those of X. Of whole inputs; that the descent refuses so is Late.antt, `at_refusal`.
-- Assumes nothing.
use mathlib.Core.Path.{◌≡◌, sym, ◌∙◌}
use mathlib.Core.Logic.{◌⊎◌, inl, inr, ⊎_elim}
use mathlib.Core.Bool.{Bool, true, false}
use mathlib.Core.List.{List, [], ◌∷◌, ◌++◌, append-nil}
use Prim.Native.Nat.{ℕ}
use native.Mathlib.Omega.{arith}
use lib.Dec.{T}
use Rattle.grammar.specs.Sets.{mem, within}
use Rattle.grammar.specs.Grammar.{Part}
use Rattle.grammar.specs.Trial.{Machine, St, Out, ok, eval, parse}
use Rattle.grammar.specs.Descent.{Plan}
use Rattle.grammar.specs.Check.{tight}
use Rattle.grammar.specs.Complete.{offers, complete}
use Rattle.grammar.specs.Misfit.{every, Accepts}
use Rattle.grammar.proofs.Sets.{Sees, and_l, and_r, and_i}
use Rattle.grammar.proofs.Begin.{On, on_ok, on_fail, on_out}
use Rattle.grammar.proofs.Enough.{parse_is}
use Rattle.grammar.proofs.Asking.{Refuses}
use Rattle.grammar.proofs.Course.{every_both, offered}
use Rattle.grammar.proofs.Wanting.{unseen, shows, direct, closing}
use Rattle.grammar.proofs.Wanted.{can_stand}
use Rattle.grammar.proofs.Only.{asks_too}
use Rattle.grammar.proofs.Fails.{Off, refuses_off}
use Rattle.grammar.proofs.Closing.{closes}
use Rattle.grammar.proofs.Top.{Language, good, same_parse, parse_ends}
use Rattle.grammar.proofs.Late.{accepted_before}

-- what comes to a token of K, and to none, does not fit
not_both : {Act : Type 0} {M : Machine Act} {K : List ℕ} {o : Out M} (s : St M) → o ≡ ok s → Off K o → On (λ s₁. Sees K s₁.rest) o → ⊥
not_both s e (on_ok f) (on_ok h) = f h
not_both s e on_fail h = let z : ◌≡◌ {A = ℕ} 0 1 = cc in omega arith
not_both s e on_out h = let z : ◌≡◌ {A = ℕ} 0 1 = cc in omega arith

module _ {Act R : Type 0} {plain : R → Part Act R} {G : Plan Act R} {start : R} (L : Language plain G start)
    (is_token : ℕ → Bool) (height : R → ℕ) (tested : (r : R) → T (complete is_token G height r)) (last : T (offers is_token (G.follow start))) (tightly : (r : R) → T (tight G r)) {M : Machine Act}
    {w l₀ asked : List ℕ} (x : Refuses G (G.body start) w l₀ asked) (blind : (r : R) → T (unseen l₀ (G.body r))) (k : M.Kept) where
  -- each token that is asked for can stand there, with more tokens behind it
  pub asked_stands : (t : ℕ) → ((r : R) → T (unseen (t ∷ []) (G.body r))) → T (mem t asked) → (c : List ℕ) × T (every is_token c) × Accepts M plain start k (w ++ (t ∷ c))
  unfolding complete
  asked_stands t hidden h =
      let c = tested start in
      let g = can_stand is_token G (good L) height tested t tightly hidden l₀ blind (G.follow start) (G.rank start) (good L start).decided (search (and_l, and_r)) (good L start).lower (blind start) (hidden start) x h in
      let (u, m, i) = offered is_token (G.follow start) last in (
        g.rest ++ (u ∷ []),
        every_both is_token g.rest (u ∷ []) g.are (and_i (is_token u) true i tt),
        accepted_before L is_token height tested last w k (t ∷ g.rest) g.reads (u ∷ []) (record { holds = m }),
      )

  -- where all that is asked for is among X, only tokens of X can stand there
  pub only_these : (X : List ℕ) → ((r : R) → T (shows G X (G.body r))) → T (within asked X) → (t : ℕ) (c : List ℕ) → Accepts M plain start k (w ++ (t ∷ c)) → T (mem t X)
  only_these X shown h t c (s, e) = test (mem t X) (λ n. n)
    where
      test : (b : Bool) → (T (mem t X) → T b) → T b
      test true f = tt
      test false f =
          let y = asks_too G (good L) tightly l₀ blind X (t ∷ c) (λ i. f i.holds) shown (G.follow start) (good L start).decided (blind start) (shown start) h x in
          let s₀ : St M = record { rest = w ++ (t ∷ c); kept = k } in
          let off : Off (G.follow start) (eval (parse G.body) (G.body start) s₀) = refuses_off {M = M} G (good L) (G.follow start) (G.rank start) (good L start).decided (good L start).lower y k in
          not_both s (sym (same_parse L start s₀) ∙ e) (rw (parse_is {M = M} G (good L) start s₀) off) (parse_ends L s₀)

  -- what is asked for passes, or else the input can end there
  pub end_stands : (pass : List ℕ → Bool) (called : R → Bool) → ((r : R) → T (called r) → T (direct G pass called false (G.body r))) → T (closing G pass called (G.follow start) (G.body start)) →
      T (pass asked) ⊎ ((l : List ℕ) → Sees (G.follow start) l → Accepts M plain start k (w ++ l))
  unfolding complete
  end_stands pass called directly close =
      let c = tested start in
      ⊎_elim (λ i. inl i) (λ f. inr (λ l h. accepted_before L is_token height tested last w k [] (λ l₁ i. rw append-nil (f l₁ i)) l h))
      (closes is_token G (good L) height tested tightly l₀ blind pass called directly (G.follow start) (good L start).decided (search (and_l, and_r)) (blind start) close x)
