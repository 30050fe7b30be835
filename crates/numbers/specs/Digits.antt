-- The digits of a literal joined into a number, its sign, and the place of a byte in it; and the digits that a number is written with.
-- Assumes nothing.
use Rattle.std.specs.Prelude.{ℕ, zero, suc, ◌+◌, ◌-◌, ◌*◌, ◌/◌, ◌%◌, Bool, cond, ◌||◌, List, [], ◌∷◌, ◌++◌, eqb, ltb, get_or}
use Rattle.source.specs.Bytes.{digit}

-- the byte b, if it is a digit, joined to the right of n; a sign and a dot leave n as it is
unfoldable pub step : ℕ → ℕ → ℕ
step n b = cond (digit b) (10 * n + (b - 48)) n

-- the digits of a text joined to the right of n, in base ten
unfoldable pub number : ℕ → List ℕ → ℕ
unfolding step
number n [] = n
number n (b ∷ r) = number (step n b) r

-- the text begins with a minus (45)
abbrev pub is_minus : List ℕ → Bool
is_minus s = eqb (get_or s 0 0) 45

-- how many bytes stand before the first that is x or y: all of them where none is
unfoldable pub place : ℕ → ℕ → List ℕ → ℕ
place x y [] = 0
place x y (b ∷ r) = cond (eqb b x || eqb b y) 0 (suc (place x y r))

-- the digits of n in base ten, where it has at most so many: the laws `digits_value` and `digits_shortest` (proofs/Written.antt) say that they are n and that no
-- fewer are
unfoldable pub digits : ℕ → ℕ → List ℕ
digits zero n = []
digits (suc most) n = cond (ltb n 10) ((48 + n) ∷ []) (digits most (n / 10) ++ ((48 + n % 10) ∷ []))
