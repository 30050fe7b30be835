-- What the scanner's private functions promise. Only their contracts cite these; what the scanner as a whole promises stands in Words.antt.
-- Assumes nothing.
use Rattle.std.specs.Prelude.{ℕ, ◌+◌, ◌-◌, ◌*◌, ◌/◌, ◌%◌, ◌<◌, ◌≤◌, ◌≡◌, List, [], ◌++◌, length, take, replicate, Option, Some, None, Result, Ok, Err}
use Rattle.areas.specs.Area.{token_area}
use Rattle.spacing.specs.Indentation.{step}
use Rattle.lexer.specs.Scan.{Scan, scanned, refused, Rest, indent_then, token_list}
use Rattle.lexer.specs.Words.{words, answer_of, words_of, text_bytes}
use Rattle.source.specs.Reasons.{number_of}
use Rattle.source.specs.declared.refusal.Refusal.{Refusal}
use Rattle.lexer.specs.declared.Lexer.{Lexer}
use Rattle.lexer.specs.declared.Turn.{Turn}
use Rattle.lexer.specs.declared.Turn.TheVariants as T
use Rattle.lexer.specs.declared.Scanned.{Scanned}
use Rattle.literal.specs.declared.Literal.{Literal}

-- slices that are the areas and no more
pub record Exact (s tokens text : List ℕ) : Type 0 where
  pub small : length s ≤ 65536
  pub tokens_long : length tokens ≡ token_area (length s)
  pub text_long : length text ≡ length s

-- the bytes passed pay for the tokens so far, for a Dedent of each open level, and for the text so far
pub record Paid (n : ℕ) (x : Lexer) : Type 0 where
  pub within : x.at ≤ n
  pub even : x.top % step ≡ 0
  pub tokens_paid : x.count + x.top / step ≤ x.at
  pub text_paid : x.used ≤ x.at

-- what slices are left with: the words and the text that were filled, or a refusal
pub data Left : Type 0 where
  filled : List ℕ → List ℕ → Left
  none : ℕ → ℕ → Left

-- words and text, and then those of a scan
abbrev pub left : List ℕ → List ℕ → Scan → Left
left ws bs (scanned ts cs) = filled (ws ++ words ts) (bs ++ cs)
left ws bs (refused number place) = none number place

-- the words and the text that a state counts, and then those of a scan
abbrev pub so_far : List ℕ → List ℕ → Lexer → Scan → Left
so_far tokens text x = left (take (3 * x.count) tokens) (take x.used text)

-- what is left where a function refuses: 01's number and the place
abbrev pub stopped : Refusal → Left
stopped r = none (number_of r.reason) r.place

-- what an answer comes to, where `rest` follows
abbrev pub marked : Result Lexer Refusal → List ℕ → List ℕ → Rest → Left
marked (Ok y) tokens text rest = so_far tokens text y (rest y)
marked (Err r) tokens text rest = stopped r

abbrev pub turned : Result Turn Refusal → List ℕ → List ℕ → Rest → Left
turned (Ok (T.On y)) tokens text rest = so_far tokens text y (rest y)
turned (Ok (T.End r)) tokens text rest = filled (take (3 * (r.count + 1)) tokens) (take r.text text)
turned (Err r) tokens text rest = stopped r

abbrev pub ran : Result Scanned Refusal → List ℕ → List ℕ → Left
ran (Ok r) tokens text = filled (take (3 * (r.count + 1)) tokens) (take r.text text)
ran (Err r) tokens text = stopped r

-- the bounds of an answer
abbrev pub MarkedWithin : ℕ → Lexer → Result Lexer Refusal → Type 0
MarkedWithin n x (Ok y) = Paid n y × (x.at ≤ y.at)
MarkedWithin n x (Err r) = Unit {0}

abbrev pub RanWithin : ℕ → Result Scanned Refusal → Type 0
RanWithin n (Ok r) = (r.count ≤ n) × (r.text ≤ n)
RanWithin n (Err r) = Unit {0}

abbrev pub TurnedWithin : ℕ → Lexer → Result Turn Refusal → Type 0
TurnedWithin n x (Ok (T.On y)) = Paid n y × (x.at < y.at)
TurnedWithin n x (Ok (T.End r)) = (r.count ≤ n) × (r.text ≤ n)
TurnedWithin n x (Err r) = Unit {0}

-- a function that counts a line's spaces and writes their marks
pub record Marks (s : List ℕ) (x : Lexer) (r : Result Lexer Refusal) (tokens₀ tokens : List ℕ) : Type 0 where
  pub is : (rest : Rest) (text : List ℕ) → so_far tokens₀ text x (indent_then s rest x) ≡ marked r tokens text rest
  pub within : MarkedWithin (length s) x r

-- a function that does what `scan` says, whatever follows
pub record Turns (n : ℕ) (scan : Rest → Scan) (x : Lexer) (r : Result Turn Refusal) (tokens₀ text₀ tokens text : List ℕ) : Type 0 where
  pub is : (rest : Rest) → so_far tokens₀ text₀ x (scan rest) ≡ turned r tokens text rest
  pub within : TurnedWithin n x r

-- the whole scan, in slices that are the areas
pub record Runs (s : List ℕ) (r : Result Scanned Refusal) (tokens text : List ℕ) : Type 0 where
  pub is : left [] [] (token_list s) ≡ ran r tokens text
  pub within : RanWithin (length s) r

-- the same, with zeros behind what was filled
pub record Fills (scan : Scan) (n : ℕ) (r : Result Scanned Refusal) (tokens text : List ℕ) : Type 0 where
  pub answer : r ≡ answer_of scan
  pub tokens_are : tokens ≡ words_of scan ++ replicate (token_area n - length (words_of scan)) 0
  pub text_is : text ≡ text_bytes scan ++ replicate (n - length (text_bytes scan)) 0

-- a token's value was taken, and the text is then this long; or it was refused
abbrev pub taken_of : Option Literal → ℕ → Option ℕ
taken_of (Some v) used = Some used
taken_of None used = None
