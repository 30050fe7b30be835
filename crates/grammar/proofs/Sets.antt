-- What the tests on sets of token codes say.
-- Assumes nothing.
use mathlib.Core.Path.{◌≡◌, subst, sym, ap}
use mathlib.Core.Logic.{◌⊎◌, inl, inr, ⊎_elim}
use mathlib.Core.Bool.{Bool, true, false, not, ◌&&◌, ◌||◌}
use mathlib.Core.List.{List, [], ◌∷◌, ◌++◌}
use Prim.Native.Nat.{ℕ}
use lib.Dec.{T, eqb, eqb→eq}
use Rattle.grammar.specs.Sets.{mem, sees, within, apart, only}

-- The next token is in the set. A record, so that antt finds the set and the list by itself: of a test `T (sees set l)`, which computes, it does not.
pub record Sees (set l : List ℕ) : Type 0 where
  pub holds : T (sees set l)

pub and_l : (a b : Bool) → T (a && b) → T a
and_l true b t = tt
and_l false b t = t

pub and_r : (a b : Bool) → T (a && b) → T b
and_r true b t = t
and_r false b t = absurd t

pub and_i : (a b : Bool) → T a → T b → T (a && b)
and_i true b p q = q
and_i false b p q = p

pub or_l : (a b : Bool) → T a → T (a || b)
or_l true b t = tt
or_l false b t = absurd t

pub or_r : (a b : Bool) → T b → T (a || b)
or_r true b t = tt
or_r false b t = t

pub or_e : (a b : Bool) → T (a || b) → T a ⊎ T b
or_e true b t = inl tt
or_e false b t = inr t

pub not_e : (a : Bool) → T (not a) → T a → ⊥
not_e true n t = n
not_e false n t = t

mem_one : (x c : ℕ) → T (mem x (c ∷ [])) → x ≡ c
mem_one x c t = ⊎_elim (λ h. eqb→eq x c h) (λ h. absurd h) (or_e (eqb x c) false t)

mem_left : (x : ℕ) (a b : List ℕ) → T (mem x a) → T (mem x (a ++ b))
mem_left x [] b t = absurd t
mem_left x (y ∷ a) b t = ⊎_elim (λ h. or_l (eqb x y) (mem x (a ++ b)) h) (λ h. or_r (eqb x y) (mem x (a ++ b)) (mem_left x a b h)) (or_e (eqb x y) (mem x a) t)

mem_right : (x : ℕ) (a b : List ℕ) → T (mem x b) → T (mem x (a ++ b))
mem_right x [] b t = t
mem_right x (y ∷ a) b t = or_r (eqb x y) (mem x (a ++ b)) (mem_right x a b t)

pub mem_within : (x : ℕ) (a b : List ℕ) → T (within a b) → T (mem x a) → T (mem x b)
mem_within x [] b w t = absurd t
mem_within x (y ∷ a) b w t =
    ⊎_elim (λ h. subst (λ (z : ℕ). T (mem z b)) (sym (eqb→eq x y h)) (and_l (mem y b) (within a b) w)) (mem_within x a b (and_r (mem y b) (within a b) w))
    (or_e (eqb x y) (mem x a) t)

pub mem_either : (x : ℕ) (a b : List ℕ) → T (mem x (a ++ b)) → T (mem x a) ⊎ T (mem x b)
mem_either x [] b t = inr t
mem_either x (y ∷ a) b t =
    ⊎_elim (λ h. inl (or_l (eqb x y) (mem x a) h)) (λ h. ⊎_elim (λ i. inl (or_r (eqb x y) (mem x a) i)) (λ i. inr i) (mem_either x a b h))
    (or_e (eqb x y) (mem x (a ++ b)) t)

pub mem_only : (x : ℕ) (b : Bool) (a : List ℕ) → T (mem x (only b a)) → T b × T (mem x a)
mem_only x true a t = (tt, t)
mem_only x false a t = absurd t

pub mem_apart : (x : ℕ) (a b : List ℕ) → T (apart a b) → T (mem x a) → T (mem x b) → ⊥
mem_apart x [] b w t u = t
mem_apart x (y ∷ a) b w t u =
    ⊎_elim (λ h. not_e (mem y b) (and_l (not (mem y b)) (apart a b) w) (subst (λ (z : ℕ). T (mem z b)) (eqb→eq x y h) u))
    (λ h. mem_apart x a b (and_r (not (mem y b)) (apart a b) w) h u)
    (or_e (eqb x y) (mem x a) t)

-- the same of the next token
pub sees_one : (c : ℕ) (l : List ℕ) → Sees (c ∷ []) l → (r : List ℕ) × (l ≡ c ∷ r)
sees_one c [] h = absurd h.holds
sees_one c (t ∷ r) h = (r, ap (λ (x : ℕ). x ∷ r) (mem_one t c h.holds))

pub sees_left : {a l : List ℕ} (b : List ℕ) → Sees a l → Sees (a ++ b) l
sees_left {a} {l = []} b h = absurd h.holds
sees_left {a} {l = t ∷ ts} b h = record { holds = mem_left t a b h.holds }

pub sees_right : {b l : List ℕ} (a : List ℕ) → Sees b l → Sees (a ++ b) l
sees_right {b} {l = []} a h = absurd h.holds
sees_right {b} {l = t ∷ ts} a h = record { holds = mem_right t a b h.holds }

pub sees_within : {a l : List ℕ} (b : List ℕ) → T (within a b) → Sees a l → Sees b l
sees_within {a} {l = []} b w h = absurd h.holds
sees_within {a} {l = t ∷ ts} b w h = record { holds = mem_within t a b w h.holds }

pub sees_apart : {a b l : List ℕ} → T (apart a b) → Sees a l → Sees b l → ⊥
sees_apart {l = []} w h k = h.holds
sees_apart {a} {b} {l = t ∷ ts} w h k = mem_apart t a b w h.holds k.holds

pub sees_either : {a l : List ℕ} (b : List ℕ) → Sees (a ++ b) l → Sees a l ⊎ Sees b l
sees_either {l = []} b h = absurd h.holds
sees_either {a} {l = t ∷ ts} b h = ⊎_elim (λ i. inl (record { holds = i })) (λ i. inr (record { holds = i })) (mem_either t a b h.holds)

pub sees_none : {l : List ℕ} → Sees [] l → ⊥
sees_none {l = []} h = h.holds
sees_none {l = t ∷ ts} h = h.holds

pub sees_if : {k l : List ℕ} (b : Bool) → Sees (only b k) l → T b × Sees k l
sees_if {l = []} b h = absurd h.holds
sees_if {k} {l = t ∷ ts} b h = let i = mem_only t b k h.holds in (i.0, record { holds = i.1 })

pub sees_only : {k l : List ℕ} (b : Bool) → T b → Sees k l → Sees (only b k) l
sees_only true t h = h
sees_only false t h = absurd t
