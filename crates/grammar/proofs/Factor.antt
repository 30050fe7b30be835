-- Laws of the trial: alternatives that begin alike may be taken together. They hold of any parts, and ask nothing of what follows.
-- Assumes nothing.
use mathlib.Core.Path.{◌≡◌, refl, ap, sym, subst, ◌∙◌, fun_ext}
use mathlib.Core.Bool.{Bool, true, false, ◌||◌}
use mathlib.Core.List.{List, [], ◌∷◌}
use Prim.Native.Nat.{ℕ}
use lib.Dec.{T, eqb, eqb→eq}
use Rattle.grammar.specs.Sets.{mem, sees, apart}
use Rattle.grammar.specs.Trial.{Machine, St, Out, ok, fail, out, Parser, and_then, or_else, seq_p, alt_p, ok_if, skip_p, take_from, take_p, act_p}
use Rattle.grammar.proofs.Sets.{Sees, sees_apart}
use Rattle.grammar.proofs.Agree.{not_taken}

module _ {Act : Type 0} {M : Machine Act} where
  then_assoc : (o : Out M) (q r : Parser M) → and_then (and_then o q) r ≡ and_then o (seq_p q r)
  unfolding and_then seq_p
  then_assoc (ok s) q r = refl
  then_assoc fail q r = refl
  then_assoc out q r = refl

  pub seq_assoc : (p q r : Parser M) → seq_p (seq_p p q) r ≡ seq_p p (seq_p q r)
  unfolding seq_p
  seq_assoc p q r = fun_ext (λ s. then_assoc (p s) q r)

  else_assoc : (o : Out M) (q r : Parser M) (s : St M) → or_else (or_else o q s) r s ≡ or_else o (alt_p q r) s
  unfolding or_else alt_p
  else_assoc (ok s') q r s = refl
  else_assoc fail q r s = refl
  else_assoc out q r s = refl

  pub alt_assoc : (p q r : Parser M) → alt_p (alt_p p q) r ≡ alt_p p (alt_p q r)
  unfolding alt_p
  alt_assoc p q r = fun_ext (λ s. else_assoc (p s) q r s)

  -- p a / p b is p (a / b)
  else_at : (o : Out M) (q r : Parser M) (s s₁ : St M) → q s ≡ r s₁ → or_else o q s ≡ or_else o r s₁
  unfolding or_else
  else_at (ok s') q r s s₁ e = refl
  else_at fail q r s s₁ e = e
  else_at out q r s s₁ e = refl

  factor_at : (p a b : Parser M) (s : St M) (o : Out M) → p s ≡ o → or_else (and_then o a) (seq_p p b) s ≡ and_then o (alt_p a b)
  unfolding and_then or_else seq_p alt_p
  factor_at p a b s (ok s₁) e = else_at (a s₁) (seq_p p b) b s s₁ (rw e refl)
  factor_at p a b s fail e = rw e refl
  factor_at p a b s out e = refl

  pub factor : (p a b : Parser M) → alt_p (seq_p p a) (seq_p p b) ≡ seq_p p (alt_p a b)
  unfolding alt_p seq_p
  factor p a b = fun_ext (λ s. factor_at p a b s (p s) refl)

  -- the same before a further alternative
  pub factor_more : (p a b c : Parser M) → alt_p (seq_p p a) (alt_p (seq_p p b) c) ≡ alt_p (seq_p p (alt_p a b)) c
  factor_more p a b c = sym (alt_assoc (seq_p p a) (seq_p p b) c) ∙ ap (λ (q : Parser M). alt_p q c) (factor p a b)

  -- (p or nothing) and an action is p and it / it alone, since an action never fails
  skip_at : (d : Act) (o : Out M) (s : St M) → and_then (or_else o skip_p s) (act_p d) ≡ or_else (and_then o (act_p d)) (act_p d) s
  unfolding and_then or_else skip_p act_p
  skip_at d (ok s') s = refl
  skip_at d fail s = refl
  skip_at d out s = refl

  pub skip_act : (p : Parser M) (d : Act) → seq_p (alt_p p skip_p) (act_p d) ≡ alt_p (seq_p p (act_p d)) (act_p d)
  unfolding seq_p alt_p
  skip_act p d = fun_ext (λ s. skip_at d (p s) s)

  -- a / b / (p or nothing) y is a / b / p y, where y cannot follow at once once a has failed
  else_fail : (o : Out M) (q : Parser M) (s : St M) → or_else o q s ≡ fail → o ≡ fail
  unfolding or_else
  else_fail (ok s') q s e = e
  else_fail fail q s e = refl
  else_fail out q s e = e

  absent_at : (p n y : Parser M) (s : St M) (o : Out M) → seq_p n y s ≡ fail → and_then (or_else o n s) y ≡ and_then o y
  unfolding and_then or_else seq_p
  absent_at p n y s (ok s') e = refl
  absent_at p n y s fail e = e
  absent_at p n y s out e = refl

  absent_else : (p n y : Parser M) (s : St M) (o : Out M) → (o ≡ fail → seq_p n y s ≡ fail) → or_else o (seq_p (alt_p p n) y) s ≡ or_else o (seq_p p y) s
  unfolding or_else seq_p alt_p
  absent_else p n y s (ok s') f = refl
  absent_else p n y s fail f = absent_at p n y s (p s) (f refl)
  absent_else p n y s out f = refl

  pub absent : (a p n y : Parser M) → ((s : St M) → a s ≡ fail → seq_p n y s ≡ fail) → alt_p a (seq_p (alt_p p n) y) ≡ alt_p a (seq_p p y)
  unfolding alt_p
  absent a p n y f = fun_ext (λ s. absent_else p n y s (a s) (f s))

  -- such a y begins with a token that a is made of
  act_fail : (d : Act) (o : Out M) → and_then o (act_p d) ≡ fail → o ≡ fail
  unfolding and_then act_p
  act_fail d (ok s) e = cc
  act_fail d fail e = refl
  act_fail d out e = e

  if_fail : (b : Bool) (s s' : St M) → ok_if b s ≡ fail → ok_if b s' ≡ fail
  unfolding ok_if
  if_fail true s s' e = cc
  if_fail false s s' e = refl

  take_fail : (set : List ℕ) (l : List ℕ) (k k' : M.Kept) → take_from {M = M} set l k ≡ fail → take_from {M = M} set l k' ≡ fail
  unfolding take_from
  take_fail set [] k k' e = refl
  take_fail set (t ∷ ts) k k' e = if_fail (mem t set) (record { rest = ts; kept = M.shift t k }) (record { rest = ts; kept = M.shift t k' }) e

  shut : (set : List ℕ) (d k : Act) (z : Parser M) (s : St M) → seq_p (take_p set) (act_p d) s ≡ fail → seq_p (act_p k) (seq_p (take_p set) z) s ≡ fail
  unfolding seq_p act_p take_p and_then
  shut set d k z s e = rw (take_fail set s.rest s.kept (M.run k s.kept) (act_fail d (take_p set s) e)) refl

  pub shut_first : (set : List ℕ) (d k : Act) (b p z : Parser M) →
      alt_p (seq_p (take_p set) (act_p d)) (alt_p b (seq_p (alt_p p (act_p k)) (seq_p (take_p set) z))) ≡ alt_p (seq_p (take_p set) (act_p d)) (alt_p b (seq_p p (seq_p (take_p set) z)))
  unfolding alt_p
  shut_first set d k b p z =
      sym (alt_assoc (seq_p (take_p set) (act_p d)) b (seq_p (alt_p p (act_p k)) (seq_p (take_p set) z)))
      ∙ absent (alt_p (seq_p (take_p set) (act_p d)) b) p (act_p k) (seq_p (take_p set) z) (λ s e. shut set d k z s (else_fail (seq_p (take_p set) (act_p d) s) b s e))
      ∙ alt_assoc (seq_p (take_p set) (act_p d)) b (seq_p p (seq_p (take_p set) z))

  -- the same where b is that part
  pub shut_next : (set : List ℕ) (d k : Act) (p z c : Parser M) →
      alt_p (seq_p (take_p set) (act_p d)) (alt_p (seq_p (alt_p p (act_p k)) (seq_p (take_p set) z)) c) ≡ alt_p (seq_p (take_p set) (act_p d)) (alt_p (seq_p p (seq_p (take_p set) z)) c)
  shut_next set d k p z c =
      sym (alt_assoc (seq_p (take_p set) (act_p d)) (seq_p (alt_p p (act_p k)) (seq_p (take_p set) z)) c)
      ∙ ap (λ (q : Parser M). alt_p q c) (absent (seq_p (take_p set) (act_p d)) p (act_p k) (seq_p (take_p set) z) (shut set d k z))
      ∙ alt_assoc (seq_p (take_p set) (act_p d)) (seq_p p (seq_p (take_p set) z)) c

  -- Two alternatives of which one fails at every state may change places: so do two that begin with different tokens.
  swap_at : (p q c : Parser M) (s : St M) → p s ≡ fail → or_else (p s) (alt_p q c) s ≡ or_else (q s) (alt_p p c) s
  unfolding or_else alt_p
  swap_at p q c s e = rw e (from (q s))
    where
      from : (o : Out M) → or_else o c s ≡ or_else o (alt_p p c) s
      from (ok s') = refl
      from fail = rw e refl
      from out = refl

  none_taken : (set : List ℕ) (z : Parser M) (s : St M) → (Sees set s.rest → ⊥) → seq_p (take_p set) z s ≡ fail
  unfolding seq_p and_then
  none_taken set z s f = rw (not_taken set s f) refl

  pub swap : (a b : List ℕ) (x y c : Parser M) → T (apart a b) → alt_p (seq_p (take_p a) x) (alt_p (seq_p (take_p b) y) c) ≡ alt_p (seq_p (take_p b) y) (alt_p (seq_p (take_p a) x) c)
  unfolding alt_p
  swap a b x y c h = fun_ext (λ s. at s (sees a s.rest) refl)
    where
      at : (s : St M) (m : Bool) → sees a s.rest ≡ m → alt_p (seq_p (take_p a) x) (alt_p (seq_p (take_p b) y) c) s ≡ alt_p (seq_p (take_p b) y) (alt_p (seq_p (take_p a) x) c) s
      at s true e = sym (swap_at (seq_p (take_p b) y) (seq_p (take_p a) x) c s (none_taken b y s (λ k. sees_apart h (record { holds = subst T (sym e) tt }) k)))
      at s false e = swap_at (seq_p (take_p a) x) (seq_p (take_p b) y) c s (none_taken a x s (λ k. subst T e k.holds))

  -- One token of several is the first, or one of the others. The first is none of the others, so what follows it cannot make a difference.
  -- For a name that is also a token by itself, as `t`: write it first in the set, and list this law beside `join`.
  else_same : (o : Out M) (r : Parser M) (s : St M) → r s ≡ fail → o ≡ or_else o r s
  unfolding or_else
  else_same (ok s') r s e = refl
  else_same fail r s e = sym e
  else_same out r s e = refl

  split_if : (b m : Bool) (s₁ : St M) (q r : Parser M) (s : St M) → (T b → m ≡ false) → r s ≡ and_then (ok_if m s₁) q →
      and_then (ok_if (b || m) s₁) q ≡ or_else (and_then (ok_if (b || false) s₁) q) r s
  unfolding ok_if and_then or_else
  split_if true m s₁ q r s f e = else_same (q s₁) r s (e ∙ ap (λ (x : Bool). and_then (ok_if x s₁) q) (f tt))
  split_if false m s₁ q r s f e = sym e

  split_at : (c d : ℕ) (set : List ℕ) (q : Parser M) → mem c (d ∷ set) ≡ false → (l : List ℕ) (k : M.Kept) →
      seq_p (take_p (c ∷ d ∷ set)) q (record { rest = l; kept = k }) ≡ alt_p (seq_p (take_p (c ∷ [])) q) (seq_p (take_p (d ∷ set)) q) (record { rest = l; kept = k })
  unfolding seq_p alt_p take_p take_from and_then or_else
  split_at c d set q n [] k = refl
  split_at c d set q n (t ∷ ts) k =
      split_if (eqb t c) (mem t (d ∷ set)) (record { rest = ts; kept = M.shift t k }) q (seq_p (take_p (d ∷ set)) q) (record { rest = t ∷ ts; kept = k })
      (λ h. ap (λ (x : ℕ). mem x (d ∷ set)) (eqb→eq t c h) ∙ n) refl

  pub split_tok : (c d : ℕ) (set : List ℕ) (q : Parser M) → mem c (d ∷ set) ≡ false → seq_p (take_p (c ∷ d ∷ set)) q ≡ alt_p (seq_p (take_p (c ∷ [])) q) (seq_p (take_p (d ∷ set)) q)
  split_tok c d set q n = fun_ext (λ s. split_at c d set q n s.rest s.kept)

pub ruleset join = (seq_assoc, alt_assoc, factor, factor_more, shut_first, shut_next)
