-- The tokens that stand before the end of the input: one that is taken is one of them.
-- Assumes nothing.
use mathlib.Core.Path.{◌≡◌, refl, subst, ap, ◌∙◌}
use mathlib.Core.Bool.{Bool, true, false, not}
use mathlib.Core.List.{List, [], ◌∷◌, ◌++◌}
use Prim.Native.Nat.{ℕ, zero, suc, ◌+◌, ◌≤◌, ◌<◌}
use native.Mathlib.Omega.{arith}
use lib.Dec.{T, eqb, eqb→eq, eqb_refl, not_T}
use lib.ListN.{length, drop}
use Rattle.grammar.specs.Sets.{mem, sees}
use Rattle.grammar.specs.Trial.{Machine, St, take_from, take_p}
use Rattle.grammar.specs.Limits.{unless, before}
use Rattle.grammar.proofs.Sets.{Sees, not_e, or_l, or_r, sees_one}
use Rattle.grammar.proofs.Begin.{On, on_fail, on_if}

counted : (b : Bool) (n : ℕ) → (T b → ⊥) → unless b n ≡ suc n
counted true n f = absurd (f tt)
counted false n f = refl

-- a token of a set without c stands before c
one_more : (c t : ℕ) (set ts : List ℕ) → T (not (mem c set)) → T (mem t set) → before c (t ∷ ts) ≡ suc (before c ts)
one_more c t set ts out h = counted (eqb t c) (before c ts) (λ e. not_e (mem c set) out (subst (λ (x : ℕ). T (mem x set)) (eqb→eq t c e) h))

pub seen_before : (c : ℕ) (set l : List ℕ) → T (not (mem c set)) → T (sees set l) → 0 < before c l
seen_before c set [] out h = absurd h
seen_before c set (t ∷ ts) out h = let e : before c (t ∷ ts) ≡ suc (before c ts) = one_more c t set ts out h in omega arith

-- where c stands next, none stands before it
ended : (b : Bool) (n : ℕ) → T b → unless b n ≡ 0
ended true n h = refl
ended false n h = absurd h

pub none_before : (c : ℕ) {l : List ℕ} → Sees (c ∷ []) l → before c l ≡ 0
none_before c {l} h = let (ts, e) = sees_one c l h in ap (before c) e ∙ ended (eqb c c) (before c ts) (eqb_refl c)

-- so of an input that is w and then c, with no c in w
pub before_is : (c : ℕ) (w v : List ℕ) → T (not (mem c w)) → before c (w ++ (c ∷ v)) ≡ length w
before_is c [] v out = ended (eqb c c) (before c v) (eqb_refl c)
before_is c (x ∷ w) v out =
    one_more c x (x ∷ w) (w ++ (c ∷ v)) out (or_l (eqb x x) (mem x w) (eqb_refl x))
    ∙ ap suc (before_is c w v (not_T (mem c w) (λ h. not_e (mem c (x ∷ w)) out (or_r (eqb c x) (mem c w) h))))

-- from the i-th token on there are i fewer
pub before_drop : (c i : ℕ) (l : List ℕ) → i ≤ before c l → before c (drop i l) + i ≡ before c l
before_drop c zero l le = omega arith
before_drop c (suc i) [] le = absurd (omega arith)
before_drop c (suc i) (t ∷ ts) le = from (eqb t c) (before c ts) le (λ le₁. before_drop c i ts le₁)
  where
    from : (b : Bool) (n : ℕ) → suc i ≤ unless b n → (i ≤ n → before c (drop i ts) + i ≡ n) → before c (drop i ts) + suc i ≡ unless b n
    from true n le f = absurd (omega arith)
    from false n le f = let e : before c (drop i ts) + i ≡ n = f (omega arith) in omega arith

-- so a token that is seen there, and is not c, has a number below that of c
pub seen_within : (c i : ℕ) (set l : List ℕ) → T (not (mem c set)) → i ≤ before c l → T (sees set (drop i l)) → i < before c l
seen_within c i set l out le h = omega (arith, before_drop c i l le, seen_before c set (drop i l) out h)

module _ {Act : Type 0} {M : Machine Act} where
  -- a token before c was taken
  pub record Took (c : ℕ) (s s' : St M) : Type 0 where
    pub fewer : before c s.rest ≡ suc (before c s'.rest)
    pub token : ℕ
    pub moved : s'.kept ≡ M.shift token s.kept

  take-from : (c : ℕ) (set : List ℕ) → T (not (mem c set)) → (l : List ℕ) (k : M.Kept) → On (Took c (record { rest = l; kept = k })) (take_from set l k)
  unfolding take_from
  take-from c set out [] k = on_fail
  take-from c set out (t ∷ ts) k = on_if (mem t set) (record { rest = ts; kept = M.shift t k }) (λ h. record { fewer = one_more c t set ts out h; token = t; moved = refl })

  pub takes_one : (c : ℕ) (set : List ℕ) → T (not (mem c set)) → (s : St M) → On (Took c s) (take_p set s)
  unfolding take_p
  takes_one c set out s = take-from c set out s.rest s.kept
