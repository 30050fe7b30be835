-- Cut scripts, and scripts where an expression is missing, with their numbers and places, computed by the checker (02, change 4). Their token lists are
-- written out by hand.
-- Assumes nothing.
use Prim.Native.Nat.{ℕ}
use mathlib.Core.Path.{◌≡◌, refl}
use mathlib.Core.List.{List, [], ◌∷◌}
use Rattle.source.specs.Text.{bytes}
use Rattle.token.specs.Code.{If, Def, Return, Not, Class, Lambda, Equal, LParen, RParen, LBracket, LBrace, Colon, Comma, Dot, Indent, Dedent, Newline, Eof}
use Rattle.grammar.specs.Trial.{skip_p, ok_if, take_from, take_p, see_p, act_p, enough}
use Rattle.grammar.specs.Descent.{null, begins, then_d, same_d, seq_d, by_d, or_d, loop_d, tail_d, many_d, list_d, walk, enter, rule_d, descend}
use Rattle.tokens.specs.Token.{Token}
use Rattle.pyhyeon.specs.Symbol.{symbols}
use Rattle.pyhyeon.specs.Action.{perform}
use Rattle.pyhyeon.specs.Rules.{plain}
use Rattle.pyhyeon.specs.Tables.{joined, first, opens}
use Rattle.pyhyeon.specs.Reading.{number_of, place_of, start, descent}
use Rattle.pyhyeon.specs.Starred.{tok, int, negative}
use Rattle.pyhyeon.proofs.Samples.{a}

-- the number and the place
abbrev answer : List ℕ → List Token → ℕ × ℕ
answer source toks = (number_of (descent source toks), place_of (descent source toks))

record Cut : Type 0 where
  -- 15: the script ends, before an expression, in parentheses, in a class
  value : answer (bytes "x =") (a 0 ∷ tok Equal 2 3 ∷ tok Eof 3 3 ∷ []) ≡ (15, 3)
  tuple : answer (bytes "()") (tok LParen 0 1 ∷ tok RParen 1 2 ∷ tok Eof 2 2 ∷ []) ≡ (15, 2)
  class : answer (bytes "class A:\n") (tok Class 0 5 ∷ a 6 ∷ tok Colon 7 8 ∷ tok Newline 8 9 ∷ tok Eof 9 9 ∷ []) ≡ (15, 9)
  -- 16: the line ends, or a Dedent stands, where only an expression could
  value_line : answer (bytes "x =\n") (a 0 ∷ tok Equal 2 3 ∷ tok Newline 3 4 ∷ tok Eof 4 4 ∷ []) ≡ (16, 3)
  index : answer (bytes "x[\n") (a 0 ∷ tok LBracket 1 2 ∷ tok Newline 2 3 ∷ tok Eof 3 3 ∷ []) ≡ (16, 2)
  entry : answer (bytes "{1:\n") (tok LBrace 0 1 ∷ int 1 2 1 ∷ tok Colon 2 3 ∷ tok Newline 3 4 ∷ tok Eof 4 4 ∷ []) ≡ (16, 3)
  sign : answer (bytes "not\n") (tok Not 0 3 ∷ tok Newline 3 4 ∷ tok Eof 4 4 ∷ []) ≡ (16, 3)
  return : answer (bytes "return\n") (tok Return 0 6 ∷ tok Newline 6 7 ∷ tok Eof 7 7 ∷ []) ≡ (16, 6)
  lambda-body : answer (bytes "lambda:\n") (tok Lambda 0 6 ∷ tok Colon 6 7 ∷ tok Newline 7 8 ∷ tok Eof 8 8 ∷ []) ≡ (16, 7)
  body : answer (bytes "if a:\n  x =")
      (tok If 0 2 ∷ a 3 ∷ tok Colon 4 5 ∷ tok Newline 5 6 ∷ tok Indent 6 8 ∷ a 8 ∷ tok Equal 10 11 ∷ tok Dedent 11 11 ∷ tok Eof 11 11 ∷ []) ≡ (16, 11)
  -- 14: what closes could stand as well
  call : answer (bytes "f(\n") (a 0 ∷ tok LParen 1 2 ∷ tok Newline 2 3 ∷ tok Eof 3 3 ∷ []) ≡ (14, 2)
  member : answer (bytes "[1,\n") (tok LBracket 0 1 ∷ int 1 2 1 ∷ tok Comma 2 3 ∷ tok Newline 3 4 ∷ tok Eof 4 4 ∷ []) ≡ (14, 3)
  parenthesis : answer (bytes "(\n") (tok LParen 0 1 ∷ tok Newline 1 2 ∷ tok Eof 2 2 ∷ []) ≡ (14, 1)
  brace : answer (bytes "{\n") (tok LBrace 0 1 ∷ tok Newline 1 2 ∷ tok Eof 2 2 ∷ []) ≡ (14, 1)
  -- 14: a name or a colon is missing, or a name or what closes, or a statement; or the token is another
  lambda_names : answer (bytes "lambda\n") (tok Lambda 0 6 ∷ tok Newline 6 7 ∷ tok Eof 7 7 ∷ []) ≡ (14, 6)
  attribute : answer (bytes "a.\n") (a 0 ∷ tok Dot 1 2 ∷ tok Newline 2 3 ∷ tok Eof 3 3 ∷ []) ≡ (14, 2)
  parameters : answer (bytes "def f(\n") (tok Def 0 3 ∷ a 4 ∷ tok LParen 5 6 ∷ tok Newline 6 7 ∷ tok Eof 7 7 ∷ []) ≡ (14, 6)
  statement : answer (bytes "if a:\n  if b:")
      (tok If 0 2 ∷ a 3 ∷ tok Colon 4 5 ∷ tok Newline 5 6 ∷ tok Indent 6 8 ∷ tok If 8 10 ∷ a 11 ∷ tok Colon 12 13 ∷ tok Dedent 13 13 ∷ tok Eof 13 13 ∷ []) ≡ (14, 13)
  comma : answer (bytes "x = ,") (a 0 ∷ tok Equal 2 3 ∷ tok Comma 4 5 ∷ tok Eof 5 5 ∷ []) ≡ (14, 4)
  operand : answer (bytes "a-1") (a 0 ∷ negative 1 3 0 ∷ tok Eof 3 3 ∷ []) ≡ (14, 1)

cut : Cut
unfolding skip_p ok_if take_from take_p see_p act_p enough null begins then_d same_d seq_d by_d or_d loop_d tail_d many_d list_d walk enter rule_d descend symbols perform plain joined first opens start descent
cut = record {
  value = refl;
  tuple = refl;
  class = refl;
  value_line = refl;
  index = refl;
  entry = refl;
  sign = refl;
  return = refl;
  lambda-body = refl;
  body = refl;
  call = refl;
  member = refl;
  parenthesis = refl;
  brace = refl;
  lambda_names = refl;
  attribute = refl;
  parameters = refl;
  statement = refl;
  comma = refl;
  operand = refl;
}
