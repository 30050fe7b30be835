-- The numbers of an answer (01, Questions).
-- Assumes nothing.
use Rattle.std.specs.Prelude.{ℕ, Result, Ok, Err}
use Rattle.source.specs.Reasons.{number_of, refusal_at}
use Rattle.source.specs.declared.refusal.Refusal.{Refusal}
use Rattle.reader.specs.declared.Tree.{Tree}
use Rattle.reader.specs.declared.Stop.{Stop}

abbrev pub Answer : Type 0
Answer = Result Tree Stop

-- accepted: T, N, bytes of text, openings
abbrev pub tree : ℕ → ℕ → ℕ → ℕ → Answer
tree t n x o = Ok (record { tokens = t; nodes = n; text = x; openings = o })

-- refused by a question of 1 to 11, before the descent begins
abbrev pub before : Refusal → Answer
before p = Err (record { refusal = p; tokens = 0; nodes = 0; openings = 0 })

abbrev pub no : ℕ → ℕ → Answer
no number place = before (refusal_at number place)

-- refused by 13 to 16: number, place, T, nodes written, openings
abbrev pub stopped : ℕ → ℕ → ℕ → ℕ → ℕ → Answer
stopped number place t n o = Err (record { refusal = refusal_at number place; tokens = t; nodes = n; openings = o })

-- "An answer holds number, place, T, N, text bytes, openings"
pub record Numbers : Type 0 where
  pub number : ℕ
  pub place : ℕ
  pub tokens : ℕ
  pub nodes : ℕ
  pub text : ℕ
  pub openings : ℕ

-- "acceptance has number 0 and place 0"; "Counts are 0, but 13 and 14 give T and openings"; 15 and 16 "with T and openings as there" (02, change 4)
abbrev pub numbers_of : Answer → Numbers
numbers_of (Ok t) = record { number = 0; place = 0; tokens = t.tokens; nodes = t.nodes; text = t.text; openings = t.openings }
numbers_of (Err s) = record { number = number_of s.refusal.reason; place = s.refusal.place; tokens = s.tokens; nodes = 0; text = 0; openings = s.openings }

-- "its nodes written, in a refusal as well, where the answer shows 0 for N"
abbrev pub written : Answer → ℕ
written (Ok t) = t.nodes
written (Err s) = s.nodes
