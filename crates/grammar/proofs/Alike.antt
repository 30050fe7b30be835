-- Two machines over one grammar: a relation between what they keep that every token and every action preserves goes through the trial.
-- With the relation that always holds: whether a part fits depends on the tokens alone.
-- Assumes nothing.
use mathlib.Core.Path.{◌≡◌, refl}
use mathlib.Core.Bool.{Bool, true, false}
use mathlib.Core.List.{List, [], ◌∷◌}
use Prim.Native.Nat.{ℕ, zero, suc, ◌+◌, ◌*◌}
use native.Mathlib.Omega.{arith}
use lib.ListN.{length}
use Rattle.grammar.specs.Sets.{mem, sees}
use Rattle.grammar.specs.Grammar.{Part, skip, act, tok, see, call, ◌⨾◌, ◌∕◌, many, tail}
use Rattle.grammar.specs.Trial.{Machine, St, Out, ok, fail, out, Parser, and_then, or_else, or_stay, seq_p, alt_p, loop, many_p, skip_p, ok_if, take_from, take_p, see_p, act_p, tail_p, eval, rule, enough, parse}

-- two machines, and how what they keep is related
pub record Pair (Act : Type 0) : Type 1 where
  pub left : Machine Act
  pub right : Machine Act
  pub Rel : left.Kept → right.Kept → Type 0
  pub shifts : (c : ℕ) (k : left.Kept) (k' : right.Kept) → Rel k k' → Rel (left.shift c k) (right.shift c k')
  pub runs : (a : Act) (k : left.Kept) (k' : right.Kept) → Rel k k' → Rel (left.run a k) (right.run a k')

-- two states with the same tokens left
pub data Near {Act : Type 0} (P : Pair Act) : St P.left → St P.right → Type 0 where
  near : (l : List ℕ) {k : P.left.Kept} {k' : P.right.Kept} → P.Rel k k' → Near P (record { rest = l; kept = k }) (record { rest = l; kept = k' })

-- two trials that go the same way
pub data Like {Act : Type 0} (P : Pair Act) : Out P.left → Out P.right → Type 0 where
  like_ok : {s : St P.left} {s' : St P.right} → Near P s s' → Like P (ok s) (ok s')
  like_fail : Like P fail fail
  like_out : Like P out out

-- two parsers that go the same way from any two states that are near
pub record Sims {Act : Type 0} (P : Pair Act) (p : Parser P.left) (q : Parser P.right) : Type 0 where
  pub at : {s : St P.left} {s' : St P.right} → Near P s s' → Like P (p s) (q s')

module _ {Act : Type 0} {P : Pair Act} where
  like_if : (b : Bool) {s : St P.left} {s' : St P.right} → Near P s s' → Like P (ok_if b s) (ok_if b s')
  unfolding ok_if
  like_if true h = like_ok h
  like_if false h = like_fail

  like_then : {p : Parser P.left} {q : Parser P.right} {o : Out P.left} {o' : Out P.right} → Sims P p q → Like P o o' → Like P (and_then o p) (and_then o' q)
  unfolding and_then
  like_then f (like_ok h) = f.at h
  like_then f like_fail = like_fail
  like_then f like_out = like_out

  like_else : {p : Parser P.left} {q : Parser P.right} {o : Out P.left} {o' : Out P.right} {s : St P.left} {s' : St P.right} → Sims P p q → Near P s s' → Like P o o' → Like P (or_else o p s) (or_else o' q s')
  unfolding or_else
  like_else f h (like_ok h₁) = like_ok h₁
  like_else f h like_fail = f.at h
  like_else f h like_out = like_out

  like_stay : {p : Parser P.left} {q : Parser P.right} {o : Out P.left} {o' : Out P.right} {s : St P.left} {s' : St P.right} → Sims P p q → Near P s s' → Like P o o' → Like P (or_stay o p s) (or_stay o' q s')
  unfolding or_stay
  like_stay f h (like_ok h₁) = f.at h₁
  like_stay f h like_fail = like_ok h
  like_stay f h like_out = like_out

  sims_skip : Sims P skip_p skip_p
  unfolding skip_p
  sims_skip = record { at = like_ok }

  sims_see : (set : List ℕ) → Sims P (see_p set) (see_p set)
  unfolding see_p
  sims_see set = record { at = go }
    where
      go : {s : St P.left} {s' : St P.right} → Near P s s' → Like P (see_p set s) (see_p set s')
      go (near l h) = like_if (sees set l) (near l h)

  sims_seq : {p q : Parser P.left} {p' q' : Parser P.right} → Sims P p p' → Sims P q q' → Sims P (seq_p p q) (seq_p p' q')
  unfolding seq_p
  sims_seq f g = record { at = λ h. like_then g (f.at h) }

  sims_alt : {p q : Parser P.left} {p' q' : Parser P.right} → Sims P p p' → Sims P q q' → Sims P (alt_p p q) (alt_p p' q')
  unfolding alt_p
  sims_alt f g = record { at = λ h. like_else g h (f.at h) }

  sims_loop : {p : Parser P.left} {q : Parser P.right} → Sims P p q → (n : ℕ) → Sims P (loop p n) (loop q n)
  unfolding loop
  sims_loop f zero = record { at = λ h. like_out }
  sims_loop f (suc n) = record { at = λ h. like_stay (sims_loop f n) h (f.at h) }

  sims_many : {p : Parser P.left} {q : Parser P.right} → Sims P p q → Sims P (many_p p) (many_p q)
  unfolding many_p
  sims_many {p} {q} f = record { at = go }
    where
      go : {s : St P.left} {s' : St P.right} → Near P s s' → Like P (many_p p s) (many_p q s')
      go (near l h) = (sims_loop f (suc (length l))).at (near l h)

  like_take : (set l : List ℕ) (k : P.left.Kept) (k' : P.right.Kept) → P.Rel k k' → Like P (take_from set l k) (take_from set l k')
  unfolding take_from
  like_take set [] k k' h = like_fail
  like_take set (t ∷ ts) k k' h = like_if (mem t set) (near ts (P.shifts t k k' h))

  sims_take : (set : List ℕ) → Sims P (take_p set) (take_p set)
  unfolding take_p
  sims_take set = record { at = go }
    where
      go : {s : St P.left} {s' : St P.right} → Near P s s' → Like P (take_p set s) (take_p set s')
      go (near l {k} {k'} h) = like_take set l k k' h

  sims_act : (a : Act) → Sims P (act_p a) (act_p a)
  unfolding act_p
  sims_act a = record { at = go }
    where
      go : {s : St P.left} {s' : St P.right} → Near P s s' → Like P (act_p a s) (act_p a s')
      go (near l h) = like_ok (near l (P.runs a _ _ h))

  module _ {R : Type 0} (body : R → Part Act R) where
    sims_part : {env : R → Parser P.left} {env' : R → Parser P.right} → ((r : R) → Sims P (env r) (env' r)) → (p : Part Act R) → Sims P (eval env p) (eval env' p)
    unfolding eval tail_p
    sims_part he skip = sims_skip
    sims_part he (act a) = sims_act a
    sims_part he (tok set) = sims_take set
    sims_part he (see set) = sims_see set
    sims_part he (call r) = he r
    sims_part he (p ⨾ q) = sims_seq (sims_part he p) (sims_part he q)
    sims_part he (p ∕ q) = sims_alt (sims_part he p) (sims_part he q)
    sims_part he (many p) = sims_many (sims_part he p)
    sims_part he (tail c p) = sims_seq (sims_many (sims_seq (sims_take (c ∷ [])) (sims_part he p))) (sims_alt (sims_take (c ∷ [])) sims_skip)

    sims_rule : (n : ℕ) (r : R) → Sims P (rule {M = P.left} body n r) (rule {M = P.right} body n r)
    unfolding rule
    sims_rule zero r = record { at = λ h. like_out }
    sims_rule (suc n) r = record { at = λ h. (sims_part (sims_rule n) (body r)).at h }

    pub sims_parse : (r : R) → Sims P (parse {M = P.left} body r) (parse {M = P.right} body r)
    unfolding parse enough
    sims_parse r = record { at = go }
      where
        go : {s : St P.left} {s' : St P.right} → Near P s s' → Like P (parse body r s) (parse body r s')
        go (near l h) = (sims_rule (length l * 100 + 100) r).at (near l h)

-- whether a rule fits depends on the tokens alone
module _ {Act : Type 0} (M N : Machine Act) {R : Type 0} (body : R → Part Act R) (r : R) where
  abbrev blind : Pair Act
  blind = record { left = M; right = N; Rel = λ _ _. Unit {0}; shifts = λ c k k' h. tt; runs = λ a k k' h. tt }

  fails : {o : Out M} {o' : Out N} → Like blind o o' → o ≡ fail → o' ≡ fail
  fails (like_ok h) e = cc
  fails like_fail e = cc
  fails like_out e = cc

  pub fails_alike : (l : List ℕ) (k : M.Kept) (k' : N.Kept) → parse {M = M} body r (record { rest = l; kept = k }) ≡ fail → parse {M = N} body r (record { rest = l; kept = k' }) ≡ fail
  fails_alike l k k' e = fails ((sims_parse {P = blind} body r).at (near l tt)) e

  fits : {o : Out M} {o' : Out N} (s : St M) → Like blind o o' → o ≡ ok s → (s' : St N) × (o' ≡ ok s')
  fits s (like_ok {s'} h) e = (s', refl)
  fits s like_fail e = absurd (let z : ◌≡◌ {A = ℕ} 0 1 = cc in omega arith)
  fits s like_out e = absurd (let z : ◌≡◌ {A = ℕ} 0 1 = cc in omega arith)

  pub fits_alike : (l : List ℕ) (k : M.Kept) (k' : N.Kept) (s : St M) → parse {M = M} body r (record { rest = l; kept = k }) ≡ ok s → (s' : St N) × (parse {M = N} body r (record { rest = l; kept = k' }) ≡ ok s')
  fits_alike l k k' s e = fits s ((sims_parse {P = blind} body r).at (near l tt)) e
