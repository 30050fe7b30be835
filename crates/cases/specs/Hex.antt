-- Bytes in hexadecimal, two digits each, the high one first.
-- Assumes nothing.
use Rattle.std.specs.Prelude.{ℕ, ◌+◌, ◌-◌, ◌*◌, cond, List, [], ◌∷◌}
use Rattle.source.specs.Bytes.{between, digit}

-- the value of a digit, 0 to 9 or a to f; any other byte counts as 0
abbrev pub nibble_of : ℕ → ℕ
nibble_of b = cond (digit b) (b - 48) (cond (between 97 102 b) (b - 87) 0)

-- the bytes that digits spell; one left over spells none
unfoldable pub unhexed : List ℕ → List ℕ
unhexed (a ∷ b ∷ l) = (nibble_of a * 16 + nibble_of b) ∷ unhexed l
unhexed (a ∷ []) = []
unhexed [] = []
