-- The character at a place: the well-formed sequence there and its code point (The Unicode Standard, chapter 3, table 3-6 "UTF-8 Bit Distribution").
-- Assumes nothing.
use Rattle.std.specs.Prelude.{ℕ, ◌+◌, ◌*◌, ◌-◌, ◌%◌, ◌≤◌, ◌≡◌, List, [], ◌∷◌, length, take, drop, ◌<◌, Option, MatchOption}
use Rattle.utf8.specs.Table.{sequence_length}
use Rattle.utf8.specs.declared.character.Character.{Character}

-- table 3-6, row by row: 0xxxxxxx; 110yyyyy 10xxxxxx; 1110zzzz 10yyyyyy 10xxxxxx; 11110uuu 10uuzzzz 10yyyyyy 10xxxxxx. The bits behind those marks, joined.
-- No bytes are no character, and have the number 0; no sequence is longer than four, so the last clause's l is empty
abbrev pub code_point : List ℕ → ℕ
code_point [] = 0
code_point (a ∷ []) = a
code_point (a ∷ b ∷ []) = a % 32 * 64 + b % 64
code_point (a ∷ b ∷ d ∷ []) = (a % 16 * 64 + b % 64) * 64 + d % 64
code_point (a ∷ b ∷ d ∷ e ∷ l) = ((a % 8 * 64 + b % 64) * 64 + d % 64) * 64 + e % 64

-- the code point of the sequence at the front of a list
unfoldable pub first_code : List ℕ → ℕ
first_code l = code_point (take (sequence_length l) l)

-- c is the character at the place `at` of s: its code point and its length
pub record Stands (s : List ℕ) (at : ℕ) (c : Character) : Type 0 where
  pub code_is : c.code ≡ first_code (drop at s)
  pub len_is : c.len ≡ sequence_length (drop at s)
  pub begins : 0 < c.len
  -- (follows; for callers)
  pub within : c.len ≤ length s - at

-- r is the character at the place `at` of s, and none where no well-formed sequence begins
abbrev pub Decoded : List ℕ → ℕ → Option Character → Type 0
Decoded s at r = MatchOption r (sequence_length (drop at s) ≡ 0) (Stands s at)
