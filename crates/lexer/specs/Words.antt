-- The scanner's answer, and what the lent slices hold afterwards (01, Questions).
-- Assumes nothing.
use Rattle.std.specs.Prelude.{ℕ, ◌-◌, ◌≤◌, ◌≡◌, List, [], ◌∷◌, Result, Ok, Err, length}
use Rattle.source.specs.Reasons.{refusal_at}
use Rattle.source.specs.declared.refusal.Refusal.{Refusal}
use Rattle.areas.specs.Area.{area, token_area}
use Rattle.tokens.specs.Token.{Token}
use Rattle.lexer.specs.Scan.{Scan, scanned, refused, token_list}
use Rattle.lexer.specs.declared.Scanned.{Scanned}

-- "code, start, end each"
abbrev pub words : List Token → List ℕ
words [] = []
words (t ∷ ts) = t.code ∷ t.start ∷ t.end ∷ words ts

-- "T is the number of tokens without Eof"
abbrev pub answer_of : Scan → Result Scanned Refusal
answer_of (scanned ts bs) = Ok (record { count = length ts - 1; text = length bs })
answer_of (refused number place) = Err (refusal_at number place)

-- what stands in front of the zeros in each area: nothing after a refusal
abbrev pub words_of : Scan → List ℕ
words_of (scanned ts bs) = words ts
words_of (refused number place) = []

abbrev pub text_bytes : Scan → List ℕ
text_bytes (scanned ts bs) = bs
text_bytes (refused number place) = []

-- what the scanner answers, and every word and byte of both slices afterwards
pub record Scans (s : List ℕ) (r : Result Scanned Refusal) (tokens₀ text₀ tokens text : List ℕ) : Type 0 where
  pub answer : r ≡ answer_of (token_list s)
  pub tokens_are : tokens ≡ area (token_area (length s)) (words_of (token_list s)) tokens₀
  pub text_is : text ≡ area (length s) (text_bytes (token_list s)) text₀

-- the slices hold their areas, and n is at most what question 1 lets through
pub record Room (s tokens text : List ℕ) : Type 0 where
  pub small : length s ≤ 65536
  pub for_tokens : token_area (length s) ≤ length tokens
  pub for-text : length s ≤ length text
