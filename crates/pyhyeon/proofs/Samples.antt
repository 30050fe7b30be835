-- Further scripts, computed by the checker: 01's likely slips, every kind of node, and what 02's changes 3 and 5 say. Their token lists are written out by hand.
-- Assumes nothing.
use Prim.Native.Nat.{ℕ, zero, suc, ◌+◌}
use mathlib.Core.Path.{◌≡◌, refl}
use mathlib.Core.Bool.{true}
use mathlib.Core.List.{List, [], ◌∷◌, ◌++◌}
use lib.IntN.{pos}
use lib.Ieee.{binary64, of_int, to_bits}
use Rattle.source.specs.Text.{bytes}
use Rattle.literal.specs.declared.Literal.{Literal}
use Rattle.literal.specs.declared.Literal.TheVariants as L
use Rattle.token.specs.Code.{If, Elif, Else, While, For, In, Def, Return, And, Or, Not, Class, Break, Continue, Pass, Lambda, None, Bool, String, Identifier, Float}
use Rattle.token.specs.Code.{Minus, SlashSlash, LessEqual, Equal, LParen, RParen, LBracket, RBracket, LBrace, RBrace, Colon, Comma, Semicolon, Dot, Indent, Dedent, Newline, Eof}
use Rattle.grammar.specs.Trial.{and_then, or_else, or_stay, seq_p, alt_p, loop, many_p, skip_p, ok_if, take_from, take_p, see_p, act_p, tail_p, eval, rule, enough, parse}
use Rattle.grammar.specs.Descent.{null, begins, then_d, same_d, seq_d, by_d, or_d, loop_d, tail_d, many_d, list_d, walk, enter, rule_d, descend}
use Rattle.tokens.specs.Token.{Token}
use Rattle.ast.specs.Kind as kind
use Rattle.ast.specs.Node.{Node, none, made, linked}
use Rattle.pyhyeon.specs.Symbol.{symbols}
use Rattle.pyhyeon.specs.Action.{perform}
use Rattle.pyhyeon.specs.Rules.{plain}
use Rattle.pyhyeon.specs.Tables.{joined, first, opens}
use Rattle.pyhyeon.specs.Missing.{Fault}
use Rattle.pyhyeon.specs.Reading.{Accepted, Misfit, number_of, place_of, work_of, start, descent, trial}
use Rattle.pyhyeon.specs.Starred.{tok, int, work, Comes}

-- a name of one letter; a literal; a node that another follows in its list
abbrev pub a : ℕ → Token
a at = tok Identifier at (at + 1)

abbrev lit : ℕ → ℕ → ℕ → Literal → Token
lit code start end l = record { code = code; start = start; end = end; literal = l }

abbrev variable : ℕ → Node
variable at = made kind.Variable at (at + 1) at (at + 1) 0 0

record Samples : Type 0 where
  -- the Assign target takes the statement's span
  target : Comes (bytes "a = 1") (a 0 ∷ tok Equal 2 3 ∷ int 4 5 1 ∷ tok Eof 5 5 ∷ [])
      (Accepted (work 3 19 (made kind.Variable 0 5 0 1 0 0 ∷ made kind.Int 4 5 1 0 0 0 ∷ made kind.Assign 0 5 0 1 0 0 ∷ made kind.Program 0 5 2 0 0 0 ∷ [])))
  -- a blank line between an inline if and its else: 14 at the else
  blank : Comes (bytes "if a: b\n\nelse: c\n")
      (tok If 0 2 ∷ a 3 ∷ tok Colon 4 5 ∷ a 6 ∷ tok Newline 7 8 ∷ tok Newline 8 9 ∷ tok Else 9 13 ∷ tok Colon 13 14 ∷ a 15 ∷ tok Newline 16 17 ∷ tok Eof 17 17 ∷ [])
      (Misfit Fault.wrong 9 (work 10 20 (variable 3 ∷ variable 6 ∷ made kind.Expr 6 7 1 0 0 0 ∷ made kind.If 0 8 0 2 none none ∷ [])))
  -- elif and else at once
  branches : Comes (bytes "if a: b\nelif c: d\nelse: e\n")
      (tok If 0 2 ∷ a 3 ∷ tok Colon 4 5 ∷ a 6 ∷ tok Newline 7 8 ∷ tok Elif 8 12 ∷ a 13 ∷ tok Colon 14 15 ∷ a 16 ∷ tok Newline 17 18 ∷ tok Else 18 22 ∷ tok Colon 22 23 ∷ a 24
      ∷ tok Newline 25 26 ∷ tok Eof 26 26 ∷ [])
      (Accepted (work 14 48 (variable 3 ∷ variable 6 ∷ made kind.Expr 6 7 1 0 0 0 ∷ variable 13 ∷ variable 16 ∷ made kind.Expr 16 17 4 0 0 0 ∷ made kind.Elif 8 18 3 5 0 0 ∷ variable 24
      ∷ made kind.Expr 24 25 7 0 0 0 ∷ made kind.Else 18 26 8 0 0 0 ∷ made kind.If 0 26 0 2 6 9 ∷ made kind.Program 0 26 10 0 0 0 ∷ [])))
  -- Def, with two names and a trailing comma; a Tuple of one behind return
  definitions : Comes (bytes "def f(a, b,): return a,\n")
      (tok Def 0 3 ∷ a 4 ∷ tok LParen 5 6 ∷ a 6 ∷ tok Comma 7 8 ∷ a 9 ∷ tok Comma 10 11 ∷ tok RParen 11 12 ∷ tok Colon 12 13 ∷ tok Return 14 20 ∷ a 21 ∷ tok Comma 22 23 ∷ tok Newline 23 24 ∷ tok Eof 24 24 ∷ [])
      (Accepted (work 13 12 (linked 1 (made kind.Name 6 7 6 7 0 0) ∷ made kind.Name 9 10 9 10 0 0 ∷ variable 21 ∷ made kind.Tuple 21 23 2 0 0 0 ∷ made kind.Return 14 23 3 0 0 0
      ∷ made kind.Def 0 24 4 5 0 4 ∷ made kind.Program 0 24 5 0 0 0 ∷ [])))
  -- pairs before a list in braces, `{}` a Dict, t{list}, and `t` as a name
  braces : Comes (bytes "[{a: b}, {c}, {}, t{d}, t]")
      (tok LBracket 0 1 ∷ tok LBrace 1 2 ∷ a 2 ∷ tok Colon 3 4 ∷ a 5 ∷ tok RBrace 6 7 ∷ tok Comma 7 8 ∷ tok LBrace 9 10 ∷ a 10 ∷ tok RBrace 11 12 ∷ tok Comma 12 13 ∷ tok LBrace 14 15
      ∷ tok RBrace 15 16 ∷ tok Comma 16 17 ∷ a 18 ∷ tok LBrace 19 20 ∷ a 20 ∷ tok RBrace 21 22 ∷ tok Comma 22 23 ∷ a 24 ∷ tok RBracket 25 26 ∷ tok Eof 26 26 ∷ [])
      (Accepted (work 21 83 (variable 2 ∷ variable 5 ∷ made kind.Pair 2 6 0 1 0 0 ∷ linked 5 (made kind.Dict 1 7 2 0 0 0) ∷ variable 10 ∷ linked 6 (made kind.Set 9 12 4 0 0 0)
      ∷ linked 8 (made kind.Dict 14 16 none 0 0 0) ∷ variable 20 ∷ linked 9 (made kind.TreeSet 18 22 7 0 0 0) ∷ variable 24 ∷ made kind.List 0 26 3 0 0 0 ∷ made kind.Expr 0 26 10 0 0 0
      ∷ made kind.Program 0 26 11 0 0 0 ∷ [])))
  -- the wider span of (E), a Tuple of one in parentheses, and one without, its trailing comma in the span
  tuples : Comes (bytes "(a), (b,),")
      (tok LParen 0 1 ∷ a 1 ∷ tok RParen 2 3 ∷ tok Comma 3 4 ∷ tok LParen 5 6 ∷ a 6 ∷ tok Comma 7 8 ∷ tok RParen 8 9 ∷ tok Comma 9 10 ∷ tok Eof 10 10 ∷ [])
      (Accepted (work 9 35 (linked 2 (made kind.Variable 0 3 1 2 0 0) ∷ variable 6 ∷ made kind.Tuple 5 9 1 0 0 0 ∷ made kind.Tuple 0 10 0 0 0 0 ∷ made kind.Expr 0 10 3 0 0 0
      ∷ made kind.Program 0 10 4 0 0 0 ∷ [])))
  -- a Tuple of one on either side: the target takes the statement's span, the value ends with its comma (02, change 5)
  sides : Comes (bytes "a, = b,") (a 0 ∷ tok Comma 1 2 ∷ tok Equal 3 4 ∷ a 5 ∷ tok Comma 6 7 ∷ tok Eof 7 7 ∷ [])
      (Accepted (work 5 19 (variable 0 ∷ made kind.Tuple 0 7 0 0 0 0 ∷ variable 5 ∷ made kind.Tuple 5 7 2 0 0 0 ∷ made kind.Assign 0 7 1 3 0 0 ∷ made kind.Program 0 7 4 0 0 0 ∷ [])))
  -- and as the value of a target that is none
  value : Comes (bytes "a = b,") (a 0 ∷ tok Equal 2 3 ∷ a 4 ∷ tok Comma 5 6 ∷ tok Eof 6 6 ∷ [])
      (Accepted (work 4 19 (made kind.Variable 0 6 0 1 0 0 ∷ variable 4 ∷ made kind.Tuple 4 6 1 0 0 0 ∷ made kind.Assign 0 6 0 2 0 0 ∷ made kind.Program 0 6 3 0 0 0 ∷ [])))
  -- a second comma: 14 there
  commas : Comes (bytes "a,,") (a 0 ∷ tok Comma 1 2 ∷ tok Comma 2 3 ∷ tok Eof 3 3 ∷ [])
      (Misfit Fault.wrong 2 (work 3 11 (variable 0 ∷ made kind.Tuple 0 2 0 0 0 0 ∷ made kind.Expr 0 2 1 0 0 0 ∷ [])))
  -- a class with a method; Return, Lambda, Attribute, Call and Index
  classes : Comes (bytes "class A:\n  def f(x): return lambda: x.y(1)[0]\n")
      (tok Class 0 5 ∷ a 6 ∷ tok Colon 7 8 ∷ tok Newline 8 9 ∷ tok Indent 9 11 ∷ tok Def 11 14 ∷ a 15 ∷ tok LParen 16 17 ∷ a 17 ∷ tok RParen 18 19 ∷ tok Colon 19 20 ∷ tok Return 21 27
      ∷ tok Lambda 28 34 ∷ tok Colon 34 35 ∷ a 36 ∷ tok Dot 37 38 ∷ a 38 ∷ tok LParen 39 40 ∷ int 40 41 1 ∷ tok RParen 41 42 ∷ tok LBracket 42 43 ∷ int 43 44 0 ∷ tok RBracket 44 45
      ∷ tok Newline 45 46 ∷ tok Dedent 46 46 ∷ tok Eof 46 46 ∷ [])
      (Accepted (work 25 30 (made kind.Name 17 18 17 18 0 0 ∷ variable 36 ∷ made kind.Attribute 36 39 1 38 39 0 ∷ made kind.Int 40 41 1 0 0 0 ∷ made kind.Call 36 42 2 3 0 0
      ∷ made kind.Int 43 44 0 0 0 0 ∷ made kind.Index 36 45 4 5 0 0 ∷ made kind.Lambda 28 45 none 6 0 0 ∷ made kind.Return 21 45 7 0 0 0 ∷ made kind.Method 11 46 15 16 0 8
      ∷ made kind.Class 0 46 6 7 9 0 ∷ made kind.Program 0 46 10 0 0 0 ∷ [])))
  -- loops; two simples on a line
  loops : Comes (bytes "for x in y:\n  while a: break\n  continue; pass\n")
      (tok For 0 3 ∷ a 4 ∷ tok In 6 8 ∷ a 9 ∷ tok Colon 10 11 ∷ tok Newline 11 12 ∷ tok Indent 12 14 ∷ tok While 14 19 ∷ a 20 ∷ tok Colon 21 22 ∷ tok Break 23 28 ∷ tok Newline 28 29
      ∷ tok Continue 31 39 ∷ tok Semicolon 39 40 ∷ tok Pass 41 45 ∷ tok Newline 45 46 ∷ tok Dedent 46 46 ∷ tok Eof 46 46 ∷ [])
      (Accepted (work 17 25 (variable 9 ∷ variable 20 ∷ made kind.Break 23 28 0 0 0 0 ∷ linked 4 (made kind.While 14 29 1 2 0 0) ∷ linked 5 (made kind.Continue 31 39 0 0 0 0)
      ∷ made kind.Pass 41 45 0 0 0 0 ∷ made kind.For 0 46 4 5 0 3 ∷ made kind.Program 0 46 6 0 0 0 ∷ [])))
  -- signs, innermost first, below every operator
  signs : Comes (bytes "- not a // 2 <= b")
      (tok Minus 0 1 ∷ tok Not 2 5 ∷ a 6 ∷ tok SlashSlash 8 10 ∷ int 11 12 2 ∷ tok LessEqual 13 15 ∷ a 16 ∷ tok Eof 17 17 ∷ [])
      (Accepted (work 7 17 (variable 6 ∷ made kind.Unary 2 7 1 0 0 0 ∷ made kind.Unary 0 7 2 1 0 0 ∷ made kind.Int 11 12 2 0 0 0 ∷ made kind.Binary 0 12 5 2 3 0 ∷ variable 16
      ∷ made kind.Binary 0 17 10 4 5 0 ∷ made kind.Expr 0 17 6 0 0 0 ∷ made kind.Program 0 17 7 0 0 0 ∷ [])))
  -- the other literals, a Float by the bits of 2.0; `and` before `or`
  literals : Comes (bytes "'a' or True and None or 2.0")
      (lit String 0 3 (L.String 0 1) ∷ tok Or 4 6 ∷ lit Bool 7 11 (L.Bool true) ∷ tok And 12 15 ∷ tok None 16 20 ∷ tok Or 21 23 ∷ lit Float 24 27 (L.Float (of_int binary64 (pos 2))) ∷ tok Eof 27 27 ∷ [])
      (Accepted (work 7 28 (made kind.String 0 3 0 1 0 0 ∷ made kind.Bool 7 11 1 0 0 0 ∷ made kind.None 16 20 0 0 0 0 ∷ made kind.Binary 7 20 13 1 2 0 ∷ made kind.Binary 0 20 14 0 3 0
      ∷ made kind.Float 24 27 0 1073741824 24 27 ∷ made kind.Binary 0 27 14 4 5 0 ∷ made kind.Expr 0 27 6 0 0 0 ∷ made kind.Program 0 27 7 0 0 0 ∷ [])))
  -- a Float's r and s are its token's, in parentheses and as an Assign target too (02, change 3)
  spellings : Comes (bytes "(2.0) = (2.00)")
      (tok LParen 0 1 ∷ lit Float 1 4 (L.Float (of_int binary64 (pos 2))) ∷ tok RParen 4 5 ∷ tok Equal 6 7 ∷ tok LParen 8 9 ∷ lit Float 9 13 (L.Float (of_int binary64 (pos 2))) ∷ tok RParen 13 14 ∷ tok Eof 14 14 ∷ [])
      (Accepted (work 7 35 (made kind.Float 0 14 0 1073741824 1 4 ∷ made kind.Float 8 14 0 1073741824 9 13 ∷ made kind.Assign 0 14 0 1 0 0 ∷ made kind.Program 0 14 2 0 0 0 ∷ [])))

samples : Samples
unfolding and_then or_else or_stay seq_p alt_p loop many_p skip_p ok_if take_from take_p see_p act_p tail_p eval rule enough parse null begins then_d same_d seq_d by_d or_d loop_d tail_d many_d list_d walk enter rule_d descend symbols perform plain joined first opens start descent trial to_bits of_int
samples = record {
  target = record { descends = refl; tries = refl; fields = tt };
  blank = record { descends = refl; tries = refl; fields = tt };
  branches = record { descends = refl; tries = refl; fields = tt };
  definitions = record { descends = refl; tries = refl; fields = tt };
  braces = record { descends = refl; tries = refl; fields = tt };
  tuples = record { descends = refl; tries = refl; fields = tt };
  sides = record { descends = refl; tries = refl; fields = tt };
  value = record { descends = refl; tries = refl; fields = tt };
  commas = record { descends = refl; tries = refl; fields = tt };
  classes = record { descends = refl; tries = refl; fields = tt };
  loops = record { descends = refl; tries = refl; fields = tt };
  signs = record { descends = refl; tries = refl; fields = tt };
  literals = record { descends = refl; tries = refl; fields = tt };
  spellings = record { descends = refl; tries = refl; fields = tt };
}

-- n tokens of one byte from a place on; n parentheses around `a`
run : ℕ → ℕ → ℕ → List Token
run code at zero = []
run code at (suc n) = tok code at (at + 1) ∷ run code (at + 1) n

nested : ℕ → List Token
nested n = run LParen 0 n ++ a n ∷ run RParen (n + 1) n ++ tok Eof (n + 1 + n) (n + 1 + n) ∷ []

-- "63 parentheses around `a` accepted, 64: 13 at 64", with the opening that 13 refuses not counted: Program, Line, Simple, and 64 times the eight from E to F
record Deep : Type 0 where
  fits : number_of (descent [] (nested 63)) ≡ 0
  openings : (work_of (descent [] (nested 63))).openings ≡ 515
  refused : number_of (descent [] (nested 64)) ≡ 13
  place : place_of (descent [] (nested 64)) ≡ 64
  uncounted : (work_of (descent [] (nested 64))).openings ≡ 515

deep : Deep
unfolding run nested ok_if take_from take_p see_p act_p skip_p enough null begins then_d same_d seq_d by_d or_d loop_d tail_d many_d list_d walk enter rule_d descend symbols perform plain joined first opens start descent
deep = record { fits = refl; openings = refl; refused = refl; place = refl; uncounted = refl }
