-- What a call of the check alone comes to: question 5's definition and the rounds beside it, as words of 64 bits.
-- Assumes nothing.
use Rattle.std.specs.Prelude.{ℕ, ◌≡◌, cond, List, ◌∷◌, drop, Option, Some, None}
use Rattle.utf8.specs.Table.{utf8_error_lem, rounds}
use Rattle.ffi.specs.Called.{few}

-- "UTF-8 by Unicode table 3-7? No: 5"
abbrev pub number : Option ℕ → ℕ
number None = 0
number (Some place) = 5

-- "first byte of the bad sequence"; "acceptance has number 0 and place 0"
abbrev pub place : Option ℕ → ℕ
place None = 0
place (Some i) = i

-- The number r that is returned for a text of any length, and the answer's slice before and after. With fewer than two words nothing is written,
-- and 4294967295 is returned.
pub record Checks (src : List ℕ) (r : ℕ) (answer₀ answer : List ℕ) : Type 0 where
  -- the number
  pub returned : r ≡ cond (few 2 answer₀) 4294967295 (number (utf8_error_lem src))
  -- the place and the rounds, in a refusal as well, and behind them the words that were there
  pub answer_is : answer ≡ cond (few 2 answer₀) answer₀ (place (utf8_error_lem src) ∷ rounds src ∷ drop 2 answer₀)
