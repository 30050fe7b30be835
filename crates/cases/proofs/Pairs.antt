-- Laws of hexadecimal digits: one, and a pair at a time.
-- Assumes nothing.
use mathlib.Core.Path.{◌≡◌, refl, sym, ap, ◌∙◌}
use mathlib.Core.List.{List, [], ◌∷◌}
use Prim.Native.Nat.{ℕ, zero, suc, ◌+◌, ◌-◌, ◌*◌, ◌<◌, ◌≤◌}
use native.Mathlib.Numerals.{add-one}
use native.Mathlib.Omega.{arith}
use lib.Dec.{T, eqb}
use lib.ListN.{length, get_or, set, take, drop}
use Rattle.std.proofs.lemmas.Grind.{common_steps}
use lib.Seq.{sets}
use borrow.Author.Tests.{eqb-true}
use Rattle.source.proofs.Ranges.{holds, at_each}
use Rattle.cases.specs.Hex.{nibble_of, unhexed}

-- a formula for the digits of a range, by one test that antt computes
pub in-range : (v : ℕ → ℕ) (lo n : ℕ) → T (holds (λ (x : ℕ). eqb (v x) (nibble_of x)) lo n) → (b : ℕ) → lo ≤ b → b < lo + n → v b ≡ nibble_of b
in-range v lo n t b h k = eqb-true (v b) (nibble_of b) (at_each (λ (x : ℕ). eqb (v x) (nibble_of x)) lo n t b h k)

-- a pair in front
pub pair : (l : List ℕ) → 2 ≤ length l → unhexed l ≡ (nibble_of (get_or l 0 0) * 16 + nibble_of (get_or l 1 0)) ∷ unhexed (take (length l - 2) (drop 2 l))
unfolding unhexed
pair [] h = absurd (omega (arith, h))
pair (a ∷ []) h = absurd (omega (arith, h))
pair (a ∷ b ∷ l) h = let e : take (length (a ∷ b ∷ l) - 2) l ≡ l = grind (arith, common_steps) in rw e refl

-- a digit left over, or the end
pub none : (l : List ℕ) → length l < 2 → unhexed l ≡ []
unfolding unhexed
none [] h = refl
none (a ∷ []) h = refl
none (a ∷ b ∷ l) h = absurd (omega (arith, h))

take_none : (k : ℕ) → take {A = ℕ} k [] ≡ []
take_none zero = refl
take_none (suc k) = refl

-- ---- a loop that writes as many bytes as there is room for

-- what is to be written of the digits that are left, at n
abbrev pub left : List ℕ → List ℕ → ℕ → List ℕ
left out₀ digits n = take (length out₀ - n) (unhexed digits)

-- it makes of out what all of it makes of out at first, out₀; and the ends are the same
abbrev pub Todo : List ℕ → List ℕ → List ℕ → ℕ → List ℕ → Type 0
Todo s out₀ digits n out =
    (length (take (length out₀) (unhexed s)) ≡ n + length (left out₀ digits n))
    × (sets out₀ 0 (take (length out₀) (unhexed s)) ≡ sets out n (left out₀ digits n))

module _ (s out₀ digits : List ℕ) (n : ℕ) (out : List ℕ) (t : Todo s out₀ digits n out) where
  pub one_byte : (v : ℕ) (rest : List ℕ) → n < length out₀ → unhexed digits ≡ v ∷ unhexed rest → Todo s out₀ rest (n + 1) (set out n v)
  one_byte v rest h e =
      let k : length out₀ - n ≡ suc (length out₀ - (n + 1)) = omega arith in
      let d : left out₀ digits n ≡ v ∷ left out₀ rest (n + 1) = rw (e, k) in (
        t.0 ∙ ap (λ (l : List ℕ). n + length l) d ∙ omega arith,
        t.1 ∙ ap (sets out n) d ∙ ap (λ (j : ℕ). sets (set out n v) j (left out₀ rest (n + 1))) (sym (add-one n)),
      )

  pub written : left out₀ digits n ≡ [] → (out ≡ sets out₀ 0 (take (length out₀) (unhexed s))) × (n ≡ length (take (length out₀) (unhexed s)))
  written e = (sym (t.1 ∙ ap (sets out n) e), sym (t.0 ∙ ap (λ (l : List ℕ). n + length l) e ∙ omega arith))

  -- no room is left
  pub full : n ≡ length out₀ → left out₀ digits n ≡ []
  full h = let k : length out₀ - n ≡ 0 = omega arith in rw k

  -- no pair is left
  pub ended : unhexed digits ≡ [] → left out₀ digits n ≡ []
  ended e = ap (take (length out₀ - n)) e ∙ take_none (length out₀ - n)
