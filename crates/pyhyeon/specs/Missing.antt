-- What a token that does not fit tells: "Tell a cut script from a wrong one" (02, change 4).
-- Assumes nothing.
use Rattle.std.specs.Prelude.{ℕ, Bool, cond, ◌&&◌, List, [], ◌∷◌, eqb}
use Rattle.grammar.specs.Sets.{mem, within}
use Rattle.token.specs.Code.{Newline, Dedent, Eof}
use Rattle.pyhyeon.specs.Tables.{first_f, first_e}

-- The script is cut; an expression is missing; or something is wrong.
pub data Fault : Type 0 where
  wrong cut missing : Fault

-- "The new numbers are 15 for the end and 16 for the missing expression"; "14 remains for all else"
abbrev pub fault_number : Fault → ℕ
fault_number wrong = 14
fault_number cut = 15
fault_number missing = 16

-- An expression or operand was asked for, by one of these tokens: each token that begins F is among them, and none that begins no E. Where the descent refuses
-- before another token than Eof, this is so exactly where only an expression or operand could stand (Earliest.antt: `OnlyOperand`; proofs/Missing.antt: `numbered`).
abbrev pub asks_operand : List ℕ → Bool
asks_operand asked = within first_f asked && within asked first_e

-- "a Newline or Dedent"
abbrev pub line_ends : List ℕ
line_ends = Newline ∷ Dedent ∷ []

-- what one of them tells where one of these tokens was asked for: "met where only an expression or operand could stand, another; 14 remains for all else"
abbrev pub asked_fault : List ℕ → Fault
asked_fault asked = cond (asks_operand asked) missing wrong

-- "Where 14 was given and the token is Eof, the answer is now one number; where it is a Newline or Dedent met where only an expression or operand could stand,
-- another": by the code of the token, and the tokens that were asked for there
abbrev pub fault_of : ℕ → List ℕ → Fault
fault_of code asked = cond (eqb code Eof) cut (cond (mem code line_ends) (asked_fault asked) wrong)
