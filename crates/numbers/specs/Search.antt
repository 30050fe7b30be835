-- What the private search for a byte answers. Only its contract cites this.
-- Assumes nothing.
use Rattle.std.specs.Prelude.{ℕ, ◌≤◌, ◌≡◌, List, length, take}
use Rattle.numbers.specs.Digits.{place}

-- r is the place of the first x or y in s. The last field is what lending `&s[..r]` asks, so a caller that lends it shows nothing.
pub record Found (x y : ℕ) (s : List ℕ) (r : ℕ) : Type 0 where
  pub is : r ≡ place x y s
  pub within : r ≤ length s
  pub counted : r ≡ length (take r s)
