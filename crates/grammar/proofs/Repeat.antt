-- Laws of the trial: what is repeated is used up behind its repetition, so that repeating it there again makes no difference.
-- Assumes nothing.
use mathlib.Core.Path.{◌≡◌, refl, ap, fun_ext}
use mathlib.Core.Bool.{Bool, true, false}
use mathlib.Core.List.{List, [], ◌∷◌}
use Prim.Native.Nat.{ℕ, zero, suc, ◌<◌}
use native.Mathlib.Omega.{arith}
use lib.Dec.{T}
use lib.ListN.{length}
use Rattle.grammar.specs.Sets.{mem}
use Rattle.grammar.specs.Trial.{Machine, St, Out, ok, Parser, and_then, or_stay, seq_p, alt_p, loop, many_p, ok_if, take_from, take_p, act_p}
use Rattle.grammar.proofs.Sets.{Sees}
use Rattle.grammar.proofs.Begin.{On, on_ok, on_fail, on_out, on_then, any}
use Rattle.grammar.proofs.Agree.{not_taken}

module _ {Act : Type 0} {M : Machine Act} (set : List ℕ) where
  -- no token of the set stands next
  abbrev pub Past : St M → Type 0
  Past s = Sees set s.rest → ⊥

  abbrev pub all : Parser M
  all = many_p (take_p set)

  -- where none stands next, none is taken
  pub all_none : (s : St M) → Past s → all s ≡ ok s
  unfolding many_p loop or_stay
  all_none s f = rw (not_taken set s f) refl

  -- it leads to where none stands next
  pub record Ahead (o : Out M) : Type 0 where
    pub state : St M
    pub comes : o ≡ ok state
    pub past : Past state

  past_if : (n : ℕ) (s s₁ : St M) (b : Bool) → (T b → Ahead (loop (take_p set) n s₁)) → ((T b → ⊥) → Past s) → Ahead (or_stay (ok_if b s₁) (loop (take_p set) n) s)
  unfolding or_stay ok_if
  past_if n s s₁ true f g = f tt
  past_if n s s₁ false f g = record { state = s; comes = refl; past = g (λ h. h) }

  past_from : (n : ℕ) (l : List ℕ) (k : M.Kept) → length l < n → Ahead (loop (take_p set) n (record { rest = l; kept = k }))
  unfolding loop take_p take_from or_stay
  past_from zero l k lt = absurd (omega arith)
  past_from (suc n) [] k lt = record { state = record { rest = []; kept = k }; comes = refl; past = λ h. h.holds }
  past_from (suc n) (t ∷ ts) k lt =
      past_if n (record { rest = t ∷ ts; kept = k }) (record { rest = ts; kept = M.shift t k }) (mem t set)
      (λ _. past_from n ts (M.shift t k) (omega arith)) (λ f h. f h.holds)

  all_past : (s : St M) → Ahead (all s)
  unfolding many_p
  all_past s = past_from (suc (length s.rest)) s.rest s.kept (omega arith)

  -- behind it, two parts that do the same where none stands next are alike
  behind : (f g : Parser M) → ((s : St M) → Past s → f s ≡ g s) → seq_p all f ≡ seq_p all g
  unfolding seq_p and_then
  behind f g h = fun_ext (λ s. let a = all_past s in rw a.comes (h a.state a.past))

  -- so it need not be repeated there at once
  once_at : (q n z : Parser M) (s : St M) → Past s → seq_p (alt_p (seq_p all q) n) z s ≡ seq_p (alt_p q n) z s
  unfolding seq_p alt_p and_then
  once_at q n z s past = rw (all_none s past) refl

  pub once : (q n z : Parser M) → seq_p all (seq_p (alt_p (seq_p all q) n) z) ≡ seq_p all (seq_p (alt_p q n) z)
  once q n z = behind (seq_p (alt_p (seq_p all q) n) z) (seq_p (alt_p q n) z) (once_at q n z)

  -- nor before each part of a repetition that ends in it
  module _ (b : Parser M) (ends : (s : St M) → On Past (b s)) where
    stay_same : (v w : Parser M) (s : St M) → ((s₁ : St M) → Past s₁ → v s₁ ≡ w s₁) → {o : Out M} → On Past o → or_stay o v s ≡ or_stay o w s
    unfolding or_stay
    stay_same v w s h (on_ok {s = s₁} past) = h s₁ past
    stay_same v w s h on_fail = refl
    stay_same v w s h on_out = refl

    loop_same : (n : ℕ) (s : St M) → Past s → loop (seq_p all b) n s ≡ loop b n s
    unfolding loop seq_p and_then
    loop_same zero s past = refl
    loop_same (suc n) s past = rw (all_none s past) (stay_same (loop (seq_p all b) n) (loop b n) s (loop_same n) (ends s))

    between_at : (z : Parser M) (s : St M) → Past s → seq_p (many_p (seq_p all b)) z s ≡ seq_p (many_p b) z s
    unfolding seq_p many_p
    between_at z s past = ap (λ (o : Out M). and_then o z) (loop_same (suc (length s.rest)) s past)

    pub between : (z : Parser M) → seq_p all (seq_p (many_p (seq_p all b)) z) ≡ seq_p all (seq_p (many_p b) z)
    between z = behind (seq_p (many_p (seq_p all b)) z) (seq_p (many_p b) z) (between_at z)

  -- such a repetition: a part, then it, then an action
  ends_past : (p : Parser M) (a : Act) (s : St M) → On Past (seq_p p (seq_p all (act_p a)) s)
  unfolding seq_p and_then act_p
  ends_past p a s = on_then (any (p s)) (λ s₁ _. let h = all_past s₁ in rw h.comes (on_ok h.past))

  pub between_parts : (p : Parser M) (a : Act) (z : Parser M) →
      seq_p all (seq_p (many_p (seq_p all (seq_p p (seq_p all (act_p a))))) z) ≡ seq_p all (seq_p (many_p (seq_p p (seq_p all (act_p a)))) z)
  between_parts p a z = between (seq_p p (seq_p all (act_p a))) (ends_past p a) z
