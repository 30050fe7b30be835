-- A rule that holds at each byte of a range, proved by one test that antt computes, one byte after the other, and what an arm of a `match` on
-- a byte knows.
-- Assumes nothing.
use mathlib.Core.Path.{◌≡◌, refl, subst}
use mathlib.Core.Bool.{Bool, true, false, ◌&&◌, ◌||◌}
use mathlib.Core.List.{List, [], ◌∷◌}
use mathlib.Core.Logic.{◌⊎◌, inl, inr, ⊎_elim}
use Prim.Native.Nat.{ℕ, zero, suc, ◌+◌, ◌<◌, ◌≤◌}
use native.Mathlib.Omega.{arith}
use native.Mathlib.Decide.{ℕ_discrete}
use lib.Dec.{T, eqb}
use Rattle.source.proofs.Bools.{or_rest}
use borrow.Author.Tests.{ne_eqb}

-- p holds at the n numbers from lo
abbrev pub holds : (ℕ → Bool) → ℕ → ℕ → Bool
holds p lo zero = true
holds p lo (suc n) = p lo && holds p (suc lo) n

both_left : (a b : Bool) → T (a && b) → T a
both_left true b t = tt
both_left false b t = t

both_right : (a b : Bool) → T (a && b) → T b
both_right true b t = t
both_right false b t = absurd t

is_true : (b : Bool) → T b → b ≡ true
is_true true t = refl
is_true false t = absurd t

first_or_later : (lo b : ℕ) → lo ≤ b → (lo ≡ b) ⊎ (suc lo ≤ b)
first_or_later lo b h = go (ℕ_discrete lo b)
  where
    go : Dec (lo ≡ b) → (lo ≡ b) ⊎ (suc lo ≤ b)
    go (yes e) = inl e
    go (no ne) = inr (omega arith)

range : (p : ℕ → Bool) (n lo : ℕ) → T (holds p lo n) → (b : ℕ) → lo ≤ b → b < lo + n → T (p b)
range p zero lo t b h k = absurd (omega arith)
range p (suc n) lo t b h k =
    ⊎_elim (λ e. subst (λ (x : ℕ). T (p x)) e (both_left (p lo) (holds p (suc lo) n) t))
    (λ l. range p n (suc lo) (both_right (p lo) (holds p (suc lo) n) t) b l (omega arith))
    (first_or_later lo b h)

-- where antt computes that p holds from lo to hi, n of them, it holds at each b between
pub at_each : (p : ℕ → Bool) (lo n : ℕ) → T (holds p lo n) → (b : ℕ) → lo ≤ b → b < lo + n → p b ≡ true
at_each p lo n t b h k = is_true (p b) (range p n lo t b h k)

-- what the `_` of a `match` knows, and each of its ranges: the byte is none of the single bytes ks that its arms name. These are listed the last
-- first, as the facts of the arms nest
abbrev pub NotIn : List ℕ → ℕ → Type 0
NotIn [] b = Unit {0}
NotIn (k ∷ ks) b = NotIn ks b × (b ≡ k → ⊥)

abbrev pub is_in : List ℕ → ℕ → Bool
is_in [] b = false
is_in (k ∷ ks) b = eqb b k || is_in ks b

not_in : (ks : List ℕ) (b : ℕ) → NotIn ks b → is_in ks b ≡ false
not_in [] b h = refl
not_in (k ∷ ks) b h = rw (ne_eqb b k h.1) (not_in ks b h.0)

-- where antt computes that p holds at each byte from lo on, n of them, but for ks, it holds at each such b that is none of ks
pub arm : (ks : List ℕ) (p : ℕ → Bool) (lo n : ℕ) → T (holds (λ (x : ℕ). is_in ks x || p x) lo n) → (b : ℕ) → lo ≤ b → b < lo + n → NotIn ks b → p b ≡ true
arm ks p lo n t b l h o = or_rest (is_in ks b) (p b) (at_each (λ (x : ℕ). is_in ks x || p x) lo n t b l h) (not_in ks b o)
