-- Bytes below 128, and rows of them.
-- Assumes nothing.
use mathlib.Core.Path.{◌≡◌, refl}
use mathlib.Core.Bool.{Bool, true, false}
use mathlib.Core.List.{List}
use Prim.Native.Nat.{ℕ, ◌-◌, ◌<◌, ◌≤◌, zero-le}
use native.Mathlib.Omega.{arith}
use lib.Dec.{leb}
use lib.ListN.{length, drop, length-drop, replicate}
use borrow.Author.Tests.{le-leb, leb-true}
use Rattle.source.specs.Bytes.{between}
use Rattle.source.proofs.Bools.{and_right}
use Rattle.utf8.specs.Table.{Row, fits, eight}
use Rattle.utf8.proofs.Rows.{fits_length}

abbrev pub low : ℕ → Bool
low b = between 0x00 0x7F b

-- so many bytes below 128, as a row; `eight` is eight of them
abbrev pub lows : ℕ → Row
lows n = replicate n (0x00, 0x7F)

pub is_low : (b : ℕ) → b < 128 → low b ≡ true
is_low b h = rw (le-leb 0 b zero-le, le-leb b 127 (omega arith))

pub low_below : (b : ℕ) → low b ≡ true → b < 128
low_below b e = omega (arith, leb-true b 127 (and_right (leb 0 b) (leb b 127) e))

-- fewer than eight bytes are left
pub too_few : (s : List ℕ) (i : ℕ) → length s - i < 8 → fits eight (drop i s) ≡ false
unfolding eight
too_few s i h = go (fits (lows 8) (drop i s)) (fits_length (lows 8) (drop i s))
  where
    go : (t : Bool) → (t ≡ true → 8 ≤ length (drop i s)) → t ≡ false
    go true l = absurd (omega (arith, l refl, length-drop i s, h))
    go false l = refl
