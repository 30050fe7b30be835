-- What the program prints for a source: "The program reads standard input up to 1,023 bytes and prints the header, then index and record per node ..
-- (.. a refusal: `no`, number, place; longer input: number 1, place 0)" (01, Scripts).
-- Assumes nothing.
use Rattle.std.specs.Prelude.{ℕ, cond, List, [], ltb, Ok, Err, length, take}
use Rattle.areas.specs.Area.{token_area}
use Rattle.ast.specs.Words.{nodes_of}
use Rattle.source.specs.Reasons.{number_of}
use Rattle.reader.specs.Answer.{Answer}
use Rattle.reader.specs.Outcome.{Outcome, Area, kept, holds, tree_area, outcome}
use Rattle.printing.specs.Printed.{printed_tree, printed_no}

-- an answer, with the words of its tree: the header's eight, then N records
unfoldable pub printed : Answer → List ℕ → List ℕ
printed (Ok t) tree = printed_tree (take 8 tree) (nodes_of tree t.nodes)
printed (Err s) tree = printed_no (number_of s.refusal.reason) s.refusal.place

-- the words that the reader filled in
abbrev pub filled : Area → List ℕ
filled kept = []
filled (holds ws) = ws

abbrev pub printed_outcome : Outcome → List ℕ
printed_outcome o = printed o.answer (filled o.tree)

-- "up to 1,023 bytes .. longer input: number 1, place 0". The slices are as large as the areas of 1,023 bytes.
unfoldable pub listing : List ℕ → List ℕ
listing src = cond (ltb 1023 (length src)) (printed_no 1 0) (printed_outcome (outcome src (token_area 1023) 1023 (tree_area 1023)))
