-- What 14, 15 and 16 say of a script: "Then the earliest token: .. 14 does it fit the grammar? (its start; Eof is n)" (01, Questions), and what it tells (02,
-- change 4). This speaks of the ordered trial alone, and of no descent.
-- Assumes nothing.
use Rattle.std.specs.Prelude.{ℕ, ◌≡◌, Bool, List, ◌∷◌, ◌++◌, T}
use Rattle.grammar.specs.Sets.{mem}
use Rattle.grammar.specs.Misfit.{every, Misfit}
use Rattle.source.specs.Bytes.{between}
use Rattle.token.specs.Code.{If, Eof}
use Rattle.tokens.specs.Token.{Token}
use Rattle.ast.specs.Node.{Node}
use Rattle.pyhyeon.specs.Symbol.{symbol}
use Rattle.pyhyeon.specs.Tables.{first_f, first_e}
use Rattle.pyhyeon.specs.Missing.{line_ends}
use Rattle.pyhyeon.specs.Reading.{Fits, trial}

-- the trial accepts these tokens
abbrev pub Accepts : List ℕ → List Token → Type 0
Accepts source toks = (nodes : List Node) × (trial source toks ≡ Fits nodes)

-- "A token's code is its position in `Token`, from If = 1 to Eof = 49" (01, Raw tokens)
abbrev pub is_token : Token → Bool
is_token t = between If Eof t.code

-- After these tokens only an expression or operand could stand: each token that begins F can, with more tokens behind it, and none can that begins no E.
pub record OnlyOperand (source : List ℕ) (before : List Token) : Type 0 where
  pub each : (t : Token) → T (is_token t) → T (mem (symbol source t) first_f) → (rest : List Token) × T (every is_token rest) × Accepts source (before ++ (t ∷ rest))
  pub only : (t : Token) (rest : List Token) → Accepts source (before ++ (t ∷ rest)) → T (mem (symbol source t) first_e)

-- The number of a token t that does not fit after these, by the trial alone: "Where 14 was given and the token is Eof, the answer is now one number; where it
-- is a Newline or Dedent met where only an expression or operand could stand, another; 14 remains for all else. .. The new numbers are 15 for the end and 16
-- for the missing expression" (02, change 4)
pub data Numbered (source : List ℕ) (before : List Token) (t : Token) : ℕ → Type 0 where
  at_end : t.code ≡ Eof → Numbered source before t 15
  lacking : T (mem t.code line_ends) → OnlyOperand source before → Numbered source before t 16
  other : (t.code ≡ Eof → ⊥) → (T (mem t.code line_ends) → OnlyOperand source before → ⊥) → Numbered source before t 14

-- The place is the start of the earliest token that does not fit: the tokens before it begin some list of tokens that the trial accepts, and with it
-- they begin none. (The list need not come of a source, since what fits is asked of the grammar.) The number is that of this token after these. There are one
-- such place and number at most (proofs/Earliest.antt, `one_place`).
pub record Earliest (source : List ℕ) (toks : List Token) (number place : ℕ) : Type 0 where
  pub before : List Token
  pub token : Token
  pub after : List Token
  pub split : toks ≡ before ++ (token ∷ after)
  pub misfit : Misfit is_token (Accepts source) before token
  pub numbered : Numbered source before token number
  pub stands : place ≡ token.start
