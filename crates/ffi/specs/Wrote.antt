-- What a call of the writer comes to: the writer's own promise, with the answer's seven numbers as words.
-- Assumes nothing.
use Rattle.std.specs.Prelude.{ℕ, ◌≡◌, true, false, List, [], ◌∷◌, ◌++◌, drop}
use Rattle.writer.specs.Answer.{Numbers, numbers_of}
use Rattle.writer.specs.Writes.{Writes}
use Rattle.writer.specs.declared.Answer.{Answer}
use Rattle.ffi.specs.Called.{words, few}

-- the reader's six, and "a text written is answered by 0 and its length"
abbrev pub seven : Numbers → List ℕ
seven a = words a.six ++ a.length ∷ []

-- Fewer than seven words for the answer: 4294967295 is returned, and all five slices are as they were.
pub record Silent (r : ℕ) (tokens₀ text₀ tree₀ out₀ answer₀ tokens text tree out answer : List ℕ) : Type 0 where
  pub returned : r ≡ 4294967295
  pub tokens_are : tokens ≡ tokens₀
  pub text_is : text ≡ text₀
  pub tree_is : tree ≡ tree₀
  pub out_is : out ≡ out₀
  pub answer_is : answer ≡ answer₀

-- Else there is the writer's answer, which its promise equates with the definitions, as it does all of the four slices.
pub record Told (src : List ℕ) (r : ℕ) (tokens₀ text₀ tree₀ out₀ answer₀ tokens text tree out answer : List ℕ) : Type 0 where
  pub told : Answer
  pub writes : Writes src told tokens₀ text₀ tree₀ out₀ tokens text tree out
  -- the number
  pub returned : r ≡ (numbers_of told).six.number
  -- the seven numbers, and behind them the words that were there
  pub answer_is : answer ≡ seven (numbers_of told) ++ drop 7 answer₀

-- The number r that is returned for a source, and the five lent slices before and after.
pub record Wrote (src : List ℕ) (r : ℕ) (tokens₀ text₀ tree₀ out₀ answer₀ tokens text tree out answer : List ℕ) : Type 0 where
  pub silent : few 7 answer₀ ≡ true → Silent r tokens₀ text₀ tree₀ out₀ answer₀ tokens text tree out answer
  pub tells : few 7 answer₀ ≡ false → Told src r tokens₀ text₀ tree₀ out₀ answer₀ tokens text tree out answer
