-- Bit 7 of eight bytes at once: the mask leaves nothing of their number exactly where all are below 128.
-- Assumes nothing.
use mathlib.Core.Path.{◌≡◌, refl, sym, ap, ◌∙◌}
use mathlib.Core.Bool.{Bool, true, false, cond, ◌&&◌}
use mathlib.Core.List.{List, ◌∷◌}
use Prim.Native.Nat.{ℕ, zero, suc, ◌+◌, ◌*◌, ◌<◌, ◌≤◌, zero-le}
use native.Mathlib.Nat.{add-zero}
use native.Mathlib.Omega.{arith}
use lib.Dec.{eqb}
use lib.ListN.{length, get_or, drop}
use lib.Bits.{bit_and, and_block}
use borrow.Author.Tests.{eqb-true, ne_eqb}
use Rattle.source.proofs.Ranges.{at_each}
use Rattle.source.proofs.Lists.{at_cons}
use Rattle.utf8.specs.Table.{fits, eight}
use Rattle.utf8.proofs.Lows.{low, lows}

-- bit 7 of so many bytes
abbrev mask : ℕ → ℕ
mask zero = 0
mask (suc n) = mask n * 256 + 128

bit : (b : ℕ) → b < 256 → bit_and b 128 ≡ cond (low b) 0 128
bit b h = eqb-true (bit_and b 128) (cond (low b) 0 128) (at_each (λ (x : ℕ). eqb (bit_and x 128) (cond (low x) 0 128)) 0 256 tt b zero-le h)

-- nothing of the bytes above this one, and nothing of this one
both : (m : ℕ) (t : Bool) → eqb (m * 256 + cond t 0 128) 0 ≡ (t && eqb m 0)
both zero true = refl
both (suc m) true = ne_eqb (suc m * 256 + 0) 0 (λ z. omega arith) ∙ sym (ne_eqb (suc m) 0 (λ z. omega arith))
both m false = ne_eqb (m * 256 + 128) 0 (λ z. omega arith)

module _ (s : List ℕ) (i : ℕ) (bytes : (k : ℕ) → get_or s k 0 < 256) where
  -- n bytes as one number, the first, at i + k, the lowest
  abbrev number : ℕ → ℕ → ℕ
  number k zero = 0
  number k (suc n) = number (suc k) n * 256 + get_or s (i + k) 0

  masked : (n k : ℕ) → i + k + n ≤ length s → eqb (bit_and (number k n) (mask n)) 0 ≡ fits (lows n) (drop (i + k) s)
  masked zero k h = refl
  masked (suc n) k h =
      let next : i + k + 1 ≡ i + suc k = omega arith in
      ap (λ (x : ℕ). eqb x 0)
      (and_block 8 (number (suc k) n) (mask n) (get_or s (i + k) 0) 128 (bytes (i + k)) (omega arith)
      ∙ ap (λ (x : ℕ). bit_and (number (suc k) n) (mask n) * 256 + x) (bit (get_or s (i + k) 0) (bytes (i + k))))
      ∙ both (bit_and (number (suc k) n) (mask n)) (low (get_or s (i + k) 0))
      ∙ ap (λ (t : Bool). low (get_or s (i + k) 0) && t) (masked n (suc k) (omega arith))
      ∙ sym (ap (fits (lows (suc n))) (at_cons s (i + k) (omega arith) ∙ ap (λ (j : ℕ). get_or s (i + k) 0 ∷ drop j s) next))

  -- eight bytes, pushed one by one, the last first
  pub eight_masked : i + 8 ≤ length s → {a b c d e f g h : ℕ} → a ≡ 0 * 256 + get_or s (i + 7) 0 → b ≡ a * 256 + get_or s (i + 6) 0 → c ≡ b * 256 + get_or s (i + 5) 0 → d ≡ c * 256 + get_or s (i + 4) 0 → e ≡ d * 256 + get_or s (i + 3) 0 → f ≡ e * 256 + get_or s (i + 2) 0 → g ≡ f * 256 + get_or s (i + 1) 0 → h ≡ g * 256 + get_or s i 0 → eqb (bit_and h 0x8080808080808080) 0 ≡ fits eight (drop i s)
  unfolding eight
  eight_masked room {h = h} pa pb pc pd pe pf pg ph =
      let here : get_or s (i + 0) 0 ≡ get_or s i 0 = ap (λ (j : ℕ). get_or s j 0) (add-zero i) in
      let whole : h ≡ number 0 8 = omega (arith, pa, pb, pc, pd, pe, pf, pg, ph, here) in
      ap (λ (x : ℕ). eqb (bit_and x 0x8080808080808080) 0) whole ∙ masked 8 0 (omega arith) ∙ ap (λ (j : ℕ). fits (lows 8) (drop j s)) (add-zero i)
