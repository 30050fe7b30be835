-- A signed number of 64 bits and its two halves: each is the other's.
-- Assumes nothing.
use mathlib.Core.Path.{◌≡◌, refl, ap}
use mathlib.Core.Bool.{Bool, true, false, cond}
use Prim.Native.Nat.{ℕ, suc, ◌+◌, ◌-◌, ◌*◌, ◌/◌, ◌%◌, ◌^◌, ◌<◌, ◌≤◌}
use native.Mathlib.Omega.{arith}
use lib.Dec.{ltb}
use lib.IntN.{ℤ, pos, negsuc}
use borrow.Author.Tests.{lt-ltb, le-ltb, ltb-true, ltb-false}
use Rattle.numbers.specs.Bits.{halves_of, twos_complement, int_of}
use Rattle.numbers.specs.Integer.{in_i64}

module _ (low high : ℕ) (l : low < 2 ^ 32) (h : high < 2 ^ 32) where
  -- the number has these halves
  pub int_halves : halves_of (twos_complement (int_of low high)) ≡ record { low = low; high = high }
  int_halves = go (ltb high (2 ^ 31))
    where
      halves : (n : ℕ) → n ≡ low + 2 ^ 32 * high → halves_of n ≡ record { low = low; high = high }
      halves n e =
          let a : n % 2 ^ 32 ≡ low = omega arith in
          let b : n / 2 ^ 32 ≡ high = omega arith in
          rw (a, b)

      go : (t : Bool) → halves_of (twos_complement (cond t (pos (low + 2 ^ 32 * high)) (negsuc (2 ^ 64 - suc (low + 2 ^ 32 * high))))) ≡ record { low = low; high = high }
      go true = halves _ refl
      go false = halves _ (omega arith)

  -- and is an Int
  pub int_within : in_i64 (int_of low high) ≡ true
  int_within = go (ltb high (2 ^ 31)) (ltb-true high (2 ^ 31)) (ltb-false high (2 ^ 31))
    where
      go : (t : Bool) → (t ≡ true → high < 2 ^ 31) → (t ≡ false → 2 ^ 31 ≤ high) → in_i64 (cond t (pos (low + 2 ^ 32 * high)) (negsuc (2 ^ 64 - suc (low + 2 ^ 32 * high)))) ≡ true
      go true f g = lt-ltb (low + 2 ^ 32 * high) (2 ^ 63) (omega (arith, f refl))
      go false f g = lt-ltb (2 ^ 64 - suc (low + 2 ^ 32 * high)) (2 ^ 63) (omega (arith, g refl))

-- the halves have this number
pub halves_int : (z : ℤ) → in_i64 z ≡ true → int_of (halves_of (twos_complement z)).low (halves_of (twos_complement z)).high ≡ z
halves_int (pos n) e =
    let k = ltb-true n (2 ^ 63) e in
    let a : n % 2 ^ 32 + 2 ^ 32 * (n / 2 ^ 32) ≡ n = omega arith in
    rw (lt-ltb (n / 2 ^ 32) (2 ^ 31) (omega arith)) (ap pos a)
halves_int (negsuc n) e =
    let k = ltb-true n (2 ^ 63) e in
    let m = 2 ^ 64 - suc n in
    let a : 2 ^ 64 - suc (m % 2 ^ 32 + 2 ^ 32 * (m / 2 ^ 32)) ≡ n = omega arith in
    rw (le-ltb (m / 2 ^ 32) (2 ^ 31) (omega arith)) (ap negsuc a)

-- and are words
pub halves_below : (z : ℤ) → in_i64 z ≡ true → ((halves_of (twos_complement z)).low < 2 ^ 32) × ((halves_of (twos_complement z)).high < 2 ^ 32)
halves_below (pos n) e = let k = ltb-true n (2 ^ 63) e in (omega arith, omega arith)
halves_below (negsuc n) e = let k = ltb-true n (2 ^ 63) e in (omega arith, omega arith)
