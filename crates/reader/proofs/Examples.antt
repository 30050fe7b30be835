-- What the definitions say of some short sources, the starred ones by the facts that the checker computed of them.
-- Assumes nothing.
use mathlib.Core.Path.{◌≡◌, refl, ap, ◌∙◌}
use mathlib.Core.List.{List, [], ◌∷◌}
use Prim.Native.Nat.{ℕ}
use lib.ListN.{length}
use Rattle.source.specs.Text.{bytes}
use Rattle.areas.specs.Area.{area}
use Rattle.utf8.specs.Table.{rows, sequence_length, first_ill_formed, utf8_error_lem}
use Rattle.lexer.specs.Scan.{Scan, token_list}
use Rattle.tokens.specs.Token.{Token}
use Rattle.ast.specs.Node.{none}
use Rattle.pyhyeon.specs.Reading.{Descended}
use Rattle.pyhyeon.specs.Starred.{Reads}
use Rattle.pyhyeon.proofs.Starred.{starred}
use Rattle.reader.specs.Answer as answer
use Rattle.reader.specs.Answer.{numbers_of}
use Rattle.reader.specs.Outcome.{Outcome, after, of_scan, of_descent, outcome}

-- a starred script, behind question 5
reads : (src : List ℕ) {ts : List Token} {d : Descended} → Reads src ts d → of_scan src (token_list src) ≡ of_descent (length src) ts [] d
reads src {ts} r = ap (of_scan src) r.scans ∙ ap (of_descent (length src) ts []) r.comes.descends

-- "*empty: T 0, N 1, openings 1", in slices that are the areas
empty : (outcome [] 3 0 16).answer ≡ answer.tree 0 1 0 1
unfolding outcome utf8_error_lem first_ill_formed
empty = ap (λ (o : Outcome). o.answer) (reads [] starred.nothing)

-- its tree in a slice that is longer by two: the header, one record, and what lies beyond
empty_tree : after (outcome [] 3 0 18).tree 16 (9 ∷ 9 ∷ 9 ∷ 9 ∷ 9 ∷ 9 ∷ 9 ∷ 9 ∷ 9 ∷ 9 ∷ 9 ∷ 9 ∷ 9 ∷ 9 ∷ 9 ∷ 9 ∷ 5 ∷ 6 ∷ [])
    ≡ 2 ∷ 1 ∷ 0 ∷ 0 ∷ 8 ∷ 0 ∷ 1 ∷ 0 ∷ 1 ∷ 0 ∷ 0 ∷ none ∷ none ∷ 0 ∷ 0 ∷ 0 ∷ 5 ∷ 6 ∷ []
unfolding outcome utf8_error_lem first_ill_formed area
empty_tree = ap (λ (o : Outcome). after o.tree 16 (9 ∷ 9 ∷ 9 ∷ 9 ∷ 9 ∷ 9 ∷ 9 ∷ 9 ∷ 9 ∷ 9 ∷ 9 ∷ 9 ∷ 9 ∷ 9 ∷ 9 ∷ 9 ∷ 5 ∷ 6 ∷ [])) (reads [] starred.nothing)

-- "so `()` answers the first of these at 2" (02, change 4): T and openings are given
parens : numbers_of (outcome (bytes "()") 9 2 48).answer ≡ record { number = 15; place = 2; tokens = 2; nodes = 0; text = 0; openings = 11 }
unfolding outcome utf8_error_lem first_ill_formed sequence_length rows
parens = ap (λ (o : Outcome). numbers_of o.answer) (reads (bytes "()") starred.parens)

-- "*Tab first: 6 at 0", and zeros in the token slice up to its last word, which lies beyond
tab : (outcome (bytes "\t") 7 1 32).answer ≡ answer.no 6 0
unfolding outcome utf8_error_lem first_ill_formed sequence_length rows
tab = ap (λ (x : Scan). (of_scan (bytes "\t") x).answer) starred.tab

tab_tokens : after (outcome (bytes "\t") 7 1 32).tokens 6 (9 ∷ 9 ∷ 9 ∷ 9 ∷ 9 ∷ 9 ∷ 5 ∷ []) ≡ 0 ∷ 0 ∷ 0 ∷ 0 ∷ 0 ∷ 0 ∷ 5 ∷ []
unfolding outcome utf8_error_lem first_ill_formed sequence_length rows area
tab_tokens = ap (λ (x : Scan). after (of_scan (bytes "\t") x).tokens 6 (9 ∷ 9 ∷ 9 ∷ 9 ∷ 9 ∷ 9 ∷ 5 ∷ [])) starred.tab

-- "first no decides": a word or a byte too few of each slice, of some, of the last
short : (outcome (255 ∷ []) 5 0 31).answer ≡ answer.no 2 0
unfolding outcome
short = refl

short_text : (outcome (255 ∷ []) 6 0 31).answer ≡ answer.no 3 0
unfolding outcome
short_text = refl

short_tree : (outcome (255 ∷ []) 6 1 31).answer ≡ answer.no 4 0
unfolding outcome
short_tree = refl

-- a byte that begins no sequence
ill_formed : (outcome (97 ∷ 255 ∷ []) 9 2 48).answer ≡ answer.no 5 1
unfolding outcome utf8_error_lem first_ill_formed sequence_length rows
ill_formed = refl
