-- The answer to a source and what the three lent slices hold then: "Questions put to a script, first no decides" (01, Questions).
-- Assumes nothing.
use Rattle.std.specs.Prelude.{ℕ, ◌+◌, ◌-◌, ◌*◌, cond, List, [], ◌∷◌, ◌++◌, ltb, length, Option, Some, None}
use Rattle.areas.specs.Area.{area, token_area}
use Rattle.utf8.specs.Table.{utf8_error_lem}
use Rattle.tokens.specs.Token.{Token}
use Rattle.lexer.specs.Scan.{Scan, scanned, refused, token_list}
use Rattle.lexer.specs.Words.{words}
use Rattle.ast.specs.Node.{Node}
use Rattle.ast.specs.Node as node
use Rattle.pyhyeon.specs.Missing.{fault_number}
use Rattle.pyhyeon.specs.Reading.{Work, Descended, Accepted, TooDeep, Misfit, descent}
use Rattle.reader.specs.Answer as answer

-- "16n+16 words of tree"
abbrev pub tree_area : ℕ → ℕ
tree_area n = 16 * n + 16

-- "The header's version becomes 2" (02, change 3)
abbrev pub version : ℕ
version = 2

-- "a header of counts and offsets (version .., nodes N, T, text bytes, node offset 8, root N - 1, rules opened, n)"
abbrev pub header : ℕ → ℕ → ℕ → ℕ → ℕ → List ℕ
header n tokens text nodes openings = version ∷ nodes ∷ tokens ∷ text ∷ 8 ∷ (nodes - 1) ∷ openings ∷ n ∷ []

-- "then N records of 8 words"
abbrev pub records : List Node → List ℕ
records [] = []
records (n ∷ ns) = node.words n ++ records ns

-- A slice stays as it was, or its area holds these words and zeros behind them.
pub data Area : Type 0 where
  kept : Area
  holds : List ℕ → Area

-- the whole slice, whose area has so many words: "words beyond an area stay"
abbrev pub after : Area → ℕ → List ℕ → List ℕ
after kept size before = before
after (holds filled) size before = area size filled before

-- the answer, and what becomes of each slice
pub record Outcome : Type 0 where
  pub answer : answer.Answer
  pub tokens : Area
  pub text : Area
  pub tree : Area

-- "1 to 5 leave all slices untouched"
abbrev pub untouched : ℕ → ℕ → Outcome
untouched number place = record { answer = answer.no number place; tokens = kept; text = kept; tree = kept }

-- "6 to 14 zero the areas"; 15 and 16 "join the fourteen of demand 1" (02, change 4), which says nothing else of what they leave in the slices
abbrev pub cleared : answer.Answer → Outcome
cleared a = record { answer = a; tokens = holds []; text = holds []; tree = holds [] }

-- "Acceptance zeroes what it doesn't fill": the tokens, the text, and the header with the records
abbrev pub accepted : ℕ → List Token → List ℕ → Work → Outcome
accepted n ts bs w = record {
  answer = answer.tree w.tokens (length w.nodes) (length bs) w.openings;
  tokens = holds (words ts);
  text = holds bs;
  tree = holds (header n w.tokens (length bs) (length w.nodes) w.openings ++ records w.nodes);
}

-- "13 and 14 give T and openings", and 15 and 16 as 14; "Program hands back its openings and its nodes written, in a refusal as well"
abbrev pub stopped : ℕ → ℕ → Work → Outcome
stopped number place w = cleared (answer.stopped number place w.tokens (length w.nodes) w.openings)

-- "Then the earliest token: 13 at most 64 E and Block open at once? 14 does it fit the grammar?"; "The new numbers are 15 for the end and 16 for the missing
-- expression, both at the place of question 14, with T and openings as there" (02, change 4)
abbrev pub of_descent : ℕ → List Token → List ℕ → Descended → Outcome
of_descent n ts bs (Accepted w) = accepted n ts bs w
of_descent n ts bs (TooDeep place w) = stopped 13 place w
of_descent n ts bs (Misfit f place w) = stopped (fault_number f) place w

-- "Then the earliest in the source": 6 to 11
abbrev pub of_scan : List ℕ → Scan → Outcome
of_scan src (refused number place) = cleared (answer.no number place)
of_scan src (scanned ts bs) = of_descent (length src) ts bs (descent src ts)

-- "5. UTF-8 by Unicode table 3-7? No: 5, first byte of the bad sequence."
abbrev pub of_utf8 : List ℕ → Option ℕ → Outcome
of_utf8 src (Some place) = untouched 5 place
of_utf8 src None = of_scan src (token_list src)

-- "1. n at most 65,536? 2. Token slice holds its area? 3. Text slice? 4. Tree slice? No: that number, place 0." The slices have these lengths.
unfoldable pub outcome : List ℕ → ℕ → ℕ → ℕ → Outcome
outcome src tokens text tree =
    cond (ltb 65536 (length src)) (untouched 1 0)
    (cond (ltb tokens (token_area (length src))) (untouched 2 0)
    (cond (ltb text (length src)) (untouched 3 0)
    (cond (ltb tree (tree_area (length src))) (untouched 4 0)
    (of_utf8 src (utf8_error_lem src)))))
