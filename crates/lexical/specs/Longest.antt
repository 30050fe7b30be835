-- The token at a place by the words that stand there: "The longest match wins; at equal length a keyword beats a name" (01, Raw tokens). The
-- keywords stand before the name in the table, and of entries with words as long the first wins.
-- Assumes nothing.
use Rattle.std.specs.Prelude.{ℕ, ◌-◌, ◌≤◌, ◌<◌, ◌≡◌, length, drop, Option, Some, None}
use mathlib.Core.List.{List, ◌∷◌, ◌++◌, Memᴰ}
use Rattle.source.specs.Bytes.{part}
use Rattle.raw_token.specs.Table.{Pattern, Entry, table}
use Rattle.raw_token.specs.declared.RawToken.{RawToken}
use Rattle.lexical.specs.Matches.{Matches}

-- the word w of p stands at the front of l
pub record Front (p : Pattern) (l w : List ℕ) : Type 0 where
  pub word : Matches p w
  pub rest : List ℕ
  pub is : l ≡ w ++ rest

-- the bytes from `at` up to `end` are a word of an entry with the code; no word of an entry there is longer (`Memᴰ e es`: e is one of es);
-- and each of the entries before has only shorter ones
pub record Longest (s : List ℕ) (at code end : ℕ) : Type 0 where
  pub some : at < end
  pub within : end ≤ length s
  pub pattern : Pattern
  pub before : List Entry
  pub after : List Entry
  pub entry : table ≡ before ++ (code, pattern) ∷ after
  pub word : Matches pattern (part s at end)
  pub longest : (e : Entry) → Memᴰ e table → (w : List ℕ) → Front e.1 (drop at s) w → length w ≤ end - at
  pub first : (e : Entry) → Memᴰ e before → (w : List ℕ) → Front e.1 (drop at s) w → length w < end - at

-- what the sentence says of the token at a place; where there is none, no entry has a word there
abbrev pub Wins : List ℕ → ℕ → Option RawToken → Type 0
Wins s at (Some t) = Longest s at t.code t.end
Wins s at None = (e : Entry) → Memᴰ e table → (w : List ℕ) → Front e.1 (drop at s) w → ⊥
