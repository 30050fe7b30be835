-- The digits of a number, the last one first.
-- Assumes nothing.
use mathlib.Core.Path.{◌≡◌, refl, ◌∙◌}
use mathlib.Core.List.{[], ◌∷◌}
use Prim.Native.Nat.{ℕ, zero, suc, ◌+◌, ◌-◌, ◌/◌, ◌%◌, ◌^◌, ◌≤◌, ◌<◌}
use native.Mathlib.Numerals.{unary_clauses}
use native.Mathlib.Omega.{arith}
use Rattle.numbers.specs.Digits.{digits}
use Rattle.numbers.proofs.Written.{one_digit, more_digits}
use Rattle.writing.specs.Wrote.{Wrote}
use Rattle.writing.specs.declared.back.Back.{Back}
use Rattle.writing.proofs.Writes.{Left, left_all, left_less, left_none}

-- what is left of the digits of n are those of m
pub record Rest (n m : ℕ) (o p : Back) : Type 0 where
  pub most : ℕ
  pub small : m < 10 ^ suc most
  pub left : Left (digits 19 n) (digits (suc most) m) o p

pub rest_all : {n : ℕ} (o : Back) → n < 10 ^ 19 → Rest n n o o
rest_all {n} o h = record { most = 18; small = h; left = left_all (digits 19 n) o }

pub rest_less : {n m d : ℕ} {o p q : Back} → Rest n m o p → 10 ≤ m → d ≡ 48 + m % 10 → Wrote (d ∷ []) p q → Rest n (m / 10) o q
rest_less {n} {m} {d} {o} {p} {q} r h e w = go r.most r.small r.left
  where
    go : (most : ℕ) → m < 10 ^ suc most → Left (digits 19 n) (digits (suc most) m) o p → Rest n (m / 10) o q
    go zero s l = absurd (omega arith)
    go (suc most) s l =
        let k : suc (suc most) - 1 ≡ suc most = omega arith in
        record {
          most = most;
          small = omega (arith, simp unary_clauses at s);
          left = left_less l (more_digits (suc (suc most)) m (λ z. omega arith) h ∙ rw (k, e)) w;
        }

pub rest_last : {n m d : ℕ} {o p q : Back} → Rest n m o p → m < 10 → d ≡ 48 + m → Wrote (d ∷ []) p q → Wrote (digits 19 n) o q
rest_last {m = m} r h e w = left_none (left_less {rest = []} r.left (one_digit (suc r.most) m (λ z. omega arith) h ∙ rw e) w) refl
