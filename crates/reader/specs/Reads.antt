-- What the reader promises: one record, with a field for each promise.
-- Assumes nothing.
use Rattle.std.specs.Prelude.{ℕ, ◌+◌, ◌*◌, ◌≤◌, ◌≡◌, Bool, true, false, cond, ◌&&◌, List, [], eqb, leb, length, take, drop}
use Rattle.areas.specs.Area.{token_area}
use Rattle.lexer.specs.Scan.{Scan, scanned, refused, token_list}
use Rattle.lexer.specs.Words.{text_bytes}
use Rattle.ast.specs.Node.{Node}
use Rattle.ast.specs.Words.{nodes_of}
use Rattle.pyhyeon.specs.Reading.{Work, Tried, Fits, Fails, work_of, descent, trial}
use Rattle.pyhyeon.specs.Earliest.{Earliest}
use Rattle.pyhyeon.specs.Spelling.{Spellings}
use Rattle.reader.specs.Answer.{Answer, numbers_of, written}
use Rattle.reader.specs.Outcome.{tree_area, records, after, outcome}

-- the number is that of a refusal from 1 up to `last`
abbrev pub refused_by : ℕ → ℕ → Bool
refused_by last number = leb 1 number && leb number last

-- T, openings and nodes written
pub record Counts : Type 0 where
  pub tokens : ℕ
  pub openings : ℕ
  pub written : ℕ

abbrev pub nothing : Counts
nothing = record { tokens = 0; openings = 0; written = 0 }

-- those of an answer, and of the work of a descent
abbrev pub counts_of : Answer → Counts
counts_of r = record { tokens = (numbers_of r).tokens; openings = (numbers_of r).openings; written = written r }

abbrev pub counts_in : Work → Counts
counts_in w = record { tokens = w.tokens; openings = w.openings; written = length w.nodes }

-- those of the descent of the token list, if there is one
abbrev pub descent_counts : List ℕ → Scan → Counts
descent_counts src (scanned ts bs) = counts_in (work_of (descent src ts))
descent_counts src (refused number place) = nothing

-- the ordered trial of the token list
abbrev pub trial_of : List ℕ → Scan → Tried
trial_of src (scanned ts bs) = trial src ts
trial_of src (refused number place) = Fails

-- "It accepts exactly when Program fits": whether it does, and the nodes that it has then
abbrev pub accepts : Tried → Bool
accepts (Fits ns) = true
accepts Fails = false

abbrev pub nodes_in : Tried → List Node
nodes_in (Fits ns) = ns
nodes_in Fails = []

-- the place is the start of the earliest token of the token list that does not fit, and the number is that token's, by the trial alone
abbrev pub EarliestOf : List ℕ → Scan → ℕ → ℕ → Type 0
EarliestOf src (scanned ts bs) number place = Earliest src ts number place
EarliestOf src (refused by at) number place = ⊥

-- these nodes have the Floats of the token list, each with its spelling
abbrev pub SpellingsOf : List ℕ → Scan → List Node → Type 0
SpellingsOf src (scanned ts bs) ns = Spellings src ts ns
SpellingsOf src (refused number place) ns = ⊥

-- "Trees are alike when N, all words of the N records and the text are": so many nodes and bytes of text, in these slices, and the trial's
pub record Alike (src : List ℕ) (nodes bytes : ℕ) (text tree : List ℕ) : Type 0 where
  pub count : nodes ≡ length (nodes_in (trial_of src (token_list src)))
  pub words : take (8 * nodes) (drop 8 tree) ≡ records (nodes_in (trial_of src (token_list src)))
  pub decoded : take bytes text ≡ text_bytes (token_list src)

-- The answer r to a source, and the three slices before and after. The first four fields say all; the others follow from them, and are what 01 and 02 ask.
pub record Reads (src : List ℕ) (r : Answer) (tokens₀ text₀ tree₀ tokens text tree : List ℕ) : Type 0 where
  -- "Questions put to a script, first no decides": the answer
  pub answer : r ≡ (outcome src (length tokens₀) (length text₀) (length tree₀)).answer
  -- "1 to 5 leave all slices untouched; 6 to 14 zero the areas" (15 and 16 as 14) ".. Acceptance zeroes what it doesn't fill; words beyond an area stay": the whole of
  -- the token slice, of the text slice and of the tree slice
  pub tokens_are : tokens ≡ after (outcome src (length tokens₀) (length text₀) (length tree₀)).tokens (token_area (length src)) tokens₀
  pub text_is : text ≡ after (outcome src (length tokens₀) (length text₀) (length tree₀)).text (length src) text₀
  pub tree_is : tree ≡ after (outcome src (length tokens₀) (length text₀) (length tree₀)).tree (tree_area (length src)) tree₀
  -- "An answer holds number, place, T, N, text bytes, openings"
  pub numbers : numbers_of r ≡ numbers_of (outcome src (length tokens₀) (length text₀) (length tree₀)).answer
  -- "Counts are 0, but 13 and 14 give T and openings", 15 and 16 as 14: a refusal shows 0 for N and for the bytes of text
  pub shown : eqb (numbers_of r).number 0 ≡ false → ((numbers_of r).nodes ≡ 0) × ((numbers_of r).text ≡ 0)
  -- "Program hands back its openings and its nodes written, in a refusal as well": T, openings and nodes written are the descent's. "Where a question
  -- before 13 says no, the descent doesn't begin, and T and both counts are 0": these are 1 to 11, since 12 never says it
  pub counts : counts_of r ≡ cond (refused_by 11 (numbers_of r).number) nothing (descent_counts src (token_list src))
  -- openings at most 10 × T + 1 and nodes at most 2 × T + 1, refusals included; "T is at most n", and so is the text
  pub few_openings : (numbers_of r).openings ≤ 10 * (numbers_of r).tokens + 1
  pub few_nodes : written r ≤ 2 * (numbers_of r).tokens + 1
  pub few_tokens : (numbers_of r).tokens ≤ length src
  pub few_bytes : (numbers_of r).text ≤ length src
  -- refusals 1 to 13 set aside, accepted exactly when the ordered trial of the token list accepts; so 14, 15 and 16 are all refusals of the trial
  pub exactly : refused_by 13 (numbers_of r).number ≡ false → accepts (trial_of src (token_list src)) ≡ eqb (numbers_of r).number 0
  -- an accepted tree is the trial's in N, every word of the N records and the text
  pub alike : (numbers_of r).number ≡ 0 → Alike src (numbers_of r).nodes (numbers_of r).text text tree
  -- "Then the earliest token: .. 14 does it fit the grammar? (its start; Eof is n)"; "The new numbers are 15 for the end and 16 for the missing expression, both
  -- at the place of question 14" (02, change 4)
  pub earliest : leb 14 (numbers_of r).number ≡ true → EarliestOf src (token_list src) (numbers_of r).number (numbers_of r).place
  -- "A Float record carries in r and s the start and end of its token" (02, change 3): so it is in the tree's words, in order and of all Floats, and p and q are the
  -- value of the bytes there
  pub spellings : (numbers_of r).number ≡ 0 → SpellingsOf src (token_list src) (nodes_of tree (numbers_of r).nodes)
  -- "so 12 never occurs from here on" (02, change 1)
  pub never_12 : (numbers_of r).number ≡ 12 → ⊥
