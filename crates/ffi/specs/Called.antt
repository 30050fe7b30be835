-- What a call from C or Rust comes to: the reader's own definitions, with the answer's six numbers as words.
-- Assumes nothing.
use Rattle.std.specs.Prelude.{ℕ, ◌≤◌, ◌≡◌, Bool, cond, List, [], ◌∷◌, ◌++◌, ltb, length, drop}
use Rattle.areas.specs.Area.{token_area}
use Rattle.reader.specs.Answer.{Numbers, numbers_of}
use Rattle.reader.specs.Outcome.{tree_area, after, outcome}

-- "An answer holds number, place, T, N, text bytes, openings"
abbrev pub words : Numbers → List ℕ
words a = a.number ∷ a.place ∷ a.tokens ∷ a.nodes ∷ a.text ∷ a.openings ∷ []

-- the answer's slice has fewer than so many words
abbrev pub few : ℕ → List ℕ → Bool
few least answer = ltb (length answer) least

-- The number r that is returned for a source, and the four lent slices before and after. With fewer than six words for the answer nothing is
-- written anywhere, and 4294967295 is returned; else all is the reader's outcome for slices of these lengths.
pub record Called (src : List ℕ) (r : ℕ) (tokens₀ text₀ tree₀ answer₀ tokens text tree answer : List ℕ) : Type 0 where
  -- the number
  pub returned : r ≡ cond (few 6 answer₀) 4294967295 (numbers_of (outcome src (length tokens₀) (length text₀) (length tree₀)).answer).number
  -- the six numbers, and behind them the words that were there
  pub answer_is : answer ≡ cond (few 6 answer₀) answer₀ (words (numbers_of (outcome src (length tokens₀) (length text₀) (length tree₀)).answer) ++ drop 6 answer₀)
  -- the whole of the token slice, of the text slice and of the tree slice
  pub tokens_are : tokens ≡ cond (few 6 answer₀) tokens₀ (after (outcome src (length tokens₀) (length text₀) (length tree₀)).tokens (token_area (length src)) tokens₀)
  pub text_is : text ≡ cond (few 6 answer₀) text₀ (after (outcome src (length tokens₀) (length text₀) (length tree₀)).text (length src) text₀)
  pub tree_is : tree ≡ cond (few 6 answer₀) tree₀ (after (outcome src (length tokens₀) (length text₀) (length tree₀)).tree (tree_area (length src)) tree₀)

-- numbers that fit a word each. Only private contracts cite it.
pub record Small (a : Numbers) : Type 0 where
  pub place : a.place ≤ 65536
  pub tokens : a.tokens ≤ 65536
  pub nodes : a.nodes ≤ 131073
  pub text : a.text ≤ 65536
  pub openings : a.openings ≤ 655361
