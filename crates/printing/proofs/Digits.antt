-- The digits of a number are written, the last one first.
-- Assumes nothing.
use mathlib.Core.Path.{◌≡◌}
use mathlib.Core.List.{List, [], ◌∷◌}
use Prim.Native.Nat.{ℕ, suc, ◌+◌, ◌-◌, ◌/◌, ◌%◌, ◌≤◌, ◌<◌}
use native.Mathlib.Omega.{arith}
use lib.ListN.{length}
use Rattle.numbers.specs.Digits.{digits}
use Rattle.numbers.proofs.Written.{few, no_digit, one_digit, more_digits}
use Rattle.printing.specs.Wrote.{Wrote}
use Rattle.printing.proofs.Writing.{none, both, long}

module _ {out : List ℕ} {at : ℕ} (most n : ℕ) where
  pub wrote_none : most ≡ 0 → at ≤ length out → Wrote (digits most n) out at out at
  wrote_none z h = rw (no_digit most n z) (none out at h)

  pub wrote_one : {out' : List ℕ} {r : ℕ} (d : ℕ) → (most ≡ 0 → ⊥) → n < 10 → d ≡ 48 + n → Wrote (d ∷ []) out at out' r → Wrote (digits most n) out at out' r
  wrote_one d z h e w = rw (one_digit most n z h, ← e) w

  pub wrote_more : {out₁ out₂ : List ℕ} {r₁ r₂ : ℕ} (d : ℕ) → (most ≡ 0 → ⊥) → 10 ≤ n → d ≡ 48 + n % 10
      → Wrote (digits (most - 1) (n / 10)) out at out₁ r₁ → Wrote (d ∷ []) out₁ r₁ out₂ r₂ → Wrote (digits most n) out at out₂ r₂
  wrote_more d z h e v w = rw (more_digits most n z h, ← e) (both v w)

-- where a number ends that was written with a space before it, or with none
pub ends : (most n at r : ℕ) (out out' : List ℕ) → Wrote (digits most n) out at out' r → (r ≤ at + most) × (length out' ≡ length out)
ends most n at r out out' w = (omega (arith, few most n), long (digits most n) out out' at r w)

pub spaced_ends : (most n at r : ℕ) (out out' : List ℕ) → Wrote (32 ∷ digits most n) out at out' r → (r ≤ at + suc most) × (length out' ≡ length out)
spaced_ends most n at r out out' w = (omega (arith, few most n), long (32 ∷ digits most n) out out' at r w)
