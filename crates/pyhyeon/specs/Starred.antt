-- The starred scripts of 01, section "Scripts and their outcome", as one listed fact about the definitions: token list, descent and trial.
-- Assumes nothing.
use Rattle.std.specs.Prelude.{ℕ, ◌≡◌, List, [], ◌∷◌, map, T, pos, negsuc}
use Rattle.source.specs.Text.{bytes}
use Rattle.literal.specs.declared.Literal.TheVariants as L
use Rattle.token.specs.Code.{If, Not, Identifier, Int, EqualEqual, Less, LParen, RParen, Colon, Comma, Dot, Indent, Dedent, Newline, Eof}
use Rattle.tokens.specs.Token.{Token}
use Rattle.lexer.specs.Scan.{scanned, refused, token_list}
use Rattle.ast.specs.Kind as kind
use Rattle.ast.specs.Node.{Node, none, made, words, all_fit}
use Rattle.pyhyeon.specs.Missing.{Fault}
use Rattle.pyhyeon.specs.Reading.{Work, Descended, Accepted, TooDeep, Misfit, Tried, Fits, Fails, number_of, work_of, descent, trial}

-- a token that is no literal, from one place up to another; an Int
abbrev pub tok : ℕ → ℕ → ℕ → Token
tok code start end = record { code = code; start = start; end = end; literal = L.None }

abbrev pub int : ℕ → ℕ → ℕ → Token
int start end n = record { code = Int; start = start; end = end; literal = L.Int (pos n) }

-- the Int -(n + 1)
abbrev pub negative : ℕ → ℕ → ℕ → Token
negative start end n = record { code = Int; start = start; end = end; literal = L.Int (negsuc n) }

-- what the trial says where the descent comes to d; 13 is set aside, and no script here comes to it
abbrev pub trial_of : Descended → Tried
trial_of (Accepted w) = Fits w.nodes
trial_of (TooDeep place w) = Fails
trial_of (Misfit f place w) = Fails

-- The script with these tokens: the descent comes to d, and the trial to the same; and the nodes are as the table of fields says.
pub record Comes (source : List ℕ) (toks : List Token) (d : Descended) : Type 0 where
  pub descends : descent source toks ≡ d
  pub tries : trial source toks ≡ trial_of d
  pub fields : T (all_fit 0 (work_of d).nodes)

-- A script whose token list is this one, with no text, and what descent and trial of it come to.
pub record Reads (source : List ℕ) (toks : List Token) (d : Descended) : Type 0 where
  pub scans : token_list source ≡ scanned toks []
  pub comes : Comes source toks d

-- so many tokens and openings, and these nodes
abbrev pub work : ℕ → ℕ → List Node → Work
work tokens openings nodes = record { tokens = tokens; openings = openings; nodes = nodes }

pub record Starred : Type 0 where
  -- *empty: T 0, N 1, openings 1
  pub nothing : Reads [] (tok Eof 0 0 ∷ []) (Accepted (work 0 1 (made kind.Program 0 0 none 0 0 0 ∷ [])))
  -- *`a-1`: 14 at 1
  pub signed : Reads (bytes "a-1") (tok Identifier 0 1 ∷ negative 1 3 0 ∷ tok Eof 3 3 ∷ [])
      (Misfit Fault.wrong 1 (work 2 11 (made kind.Variable 0 1 0 1 0 0 ∷ made kind.Expr 0 1 0 0 0 0 ∷ [])))
  -- *`-1.5`: 14 at 3
  pub float : Reads (bytes "-1.5") (negative 0 2 0 ∷ tok Dot 2 3 ∷ int 3 4 5 ∷ tok Eof 4 4 ∷ [])
      (Misfit Fault.wrong 3 (work 3 11 (made kind.Int 0 2 4294967295 4294967295 0 0 ∷ [])))
  -- *`1.e5`: Attribute
  pub attribute : Reads (bytes "1.e5") (int 0 1 1 ∷ tok Dot 1 2 ∷ tok Identifier 2 4 ∷ tok Eof 4 4 ∷ [])
      (Accepted (work 3 11 (made kind.Int 0 1 1 0 0 0 ∷ made kind.Attribute 0 4 0 2 4 0 ∷ made kind.Expr 0 4 1 0 0 0 ∷ made kind.Program 0 4 2 0 0 0 ∷ [])))
  -- *`()`: 14 at 2; "so `()` answers the first of these at 2" (02, change 4)
  pub parens : Reads (bytes "()") (tok LParen 0 1 ∷ tok RParen 1 2 ∷ tok Eof 2 2 ∷ []) (Misfit Fault.cut 2 (work 2 11 []))
  -- *`())`: Tuple
  pub tuple : Reads (bytes "())") (tok LParen 0 1 ∷ tok RParen 1 2 ∷ tok RParen 2 3 ∷ tok Eof 3 3 ∷ [])
      (Accepted (work 3 11 (made kind.Tuple 0 3 none 0 0 0 ∷ made kind.Expr 0 3 0 0 0 0 ∷ made kind.Program 0 3 1 0 0 0 ∷ [])))
  -- *`not a == b`: Equal(Not a, b)
  pub negation : Reads (bytes "not a == b") (tok Not 0 3 ∷ tok Identifier 4 5 ∷ tok EqualEqual 6 8 ∷ tok Identifier 9 10 ∷ tok Eof 10 10 ∷ [])
      (Accepted (work 4 15 (made kind.Variable 4 5 4 5 0 0 ∷ made kind.Unary 0 5 1 0 0 0 ∷ made kind.Variable 9 10 9 10 0 0
      ∷ made kind.Binary 0 10 7 1 2 0 ∷ made kind.Expr 0 10 3 0 0 0 ∷ made kind.Program 0 10 4 0 0 0 ∷ [])))
  -- *`1,`: Tuple (02, change 5)
  pub comma : Reads (bytes "1,") (int 0 1 1 ∷ tok Comma 1 2 ∷ tok Eof 2 2 ∷ [])
      (Accepted (work 2 11 (made kind.Int 0 1 1 0 0 0 ∷ made kind.Tuple 0 2 0 0 0 0 ∷ made kind.Expr 0 2 1 0 0 0 ∷ made kind.Program 0 2 2 0 0 0 ∷ [])))
  -- *`if a:`, line feed, `  b`: 14 at 9
  pub cut : Reads (bytes "if a:\n  b")
      (tok If 0 2 ∷ tok Identifier 3 4 ∷ tok Colon 4 5 ∷ tok Newline 5 6 ∷ tok Indent 6 8 ∷ tok Identifier 8 9 ∷ tok Dedent 9 9 ∷ tok Eof 9 9 ∷ [])
      (Misfit Fault.wrong 9 (work 7 21 (made kind.Variable 3 4 3 4 0 0 ∷ made kind.Variable 8 9 8 9 0 0 ∷ made kind.Expr 8 9 1 0 0 0 ∷ [])))
  -- *with a last line feed: accepted
  pub whole : Reads (bytes "if a:\n  b\n")
      (tok If 0 2 ∷ tok Identifier 3 4 ∷ tok Colon 4 5 ∷ tok Newline 5 6 ∷ tok Indent 6 8 ∷ tok Identifier 8 9 ∷ tok Newline 9 10 ∷ tok Dedent 10 10 ∷ tok Eof 10 10 ∷ [])
      (Accepted (work 8 21 (made kind.Variable 3 4 3 4 0 0 ∷ made kind.Variable 8 9 8 9 0 0 ∷ made kind.Expr 8 9 1 0 0 0
      ∷ made kind.If 0 10 0 2 none none ∷ made kind.Program 0 10 3 0 0 0 ∷ [])))
  -- *Body of two spaces only: accepted, empty
  pub body : Reads (bytes "if a:\n  ") (tok If 0 2 ∷ tok Identifier 3 4 ∷ tok Colon 4 5 ∷ tok Newline 5 6 ∷ tok Indent 6 8 ∷ tok Dedent 8 8 ∷ tok Eof 8 8 ∷ [])
      (Accepted (work 6 11 (made kind.Variable 3 4 3 4 0 0 ∷ made kind.If 0 8 0 none none none ∷ made kind.Program 0 8 1 0 0 0 ∷ [])))
  -- `-9223372036854775808`: accepted
  pub least : Reads (bytes "-9223372036854775808") (negative 0 20 9223372036854775807 ∷ tok Eof 20 20 ∷ [])
      (Accepted (work 1 11 (made kind.Int 0 20 0 2147483648 0 0 ∷ made kind.Expr 0 20 0 0 0 0 ∷ made kind.Program 0 20 1 0 0 0 ∷ [])))
  -- *`9223372036854775808`: 10 at 0
  pub large : token_list (bytes "9223372036854775808") ≡ refused 10 0
  -- *Tab first: 6 at 0
  pub tab : token_list (bytes "\t") ≡ refused 6 0

-- the printed example, `a<b<c` and a line feed
abbrev pub chain_tokens : List Token
chain_tokens = tok Identifier 0 1 ∷ tok Less 1 2 ∷ tok Identifier 2 3 ∷ tok Less 3 4 ∷ tok Identifier 4 5 ∷ tok Newline 5 6 ∷ tok Eof 6 6 ∷ []

abbrev pub chained : Descended
chained = descent (bytes "a<b<c\n") chain_tokens

pub record Printed : Type 0 where
  pub scans : token_list (bytes "a<b<c\n") ≡ scanned chain_tokens []
  -- T and openings of 01's `1 8 6 0 8 7 19 6`, which 02, change 3, makes version 2
  pub tokens : (work_of chained).tokens ≡ 6
  pub openings : (work_of chained).openings ≡ 19
  pub accepts : number_of chained ≡ 0
  pub tries : trial (bytes "a<b<c\n") chain_tokens ≡ Fits (work_of chained).nodes
  -- the eight records, word by word
  pub records : map words (work_of chained).nodes ≡
      (23 ∷ 0 ∷ 1 ∷ none ∷ 0 ∷ 1 ∷ 0 ∷ 0 ∷ [])
      ∷ (23 ∷ 2 ∷ 3 ∷ none ∷ 2 ∷ 3 ∷ 0 ∷ 0 ∷ [])
      ∷ (25 ∷ 0 ∷ 3 ∷ none ∷ 9 ∷ 0 ∷ 1 ∷ 0 ∷ [])
      ∷ (23 ∷ 4 ∷ 5 ∷ none ∷ 4 ∷ 5 ∷ 0 ∷ 0 ∷ [])
      ∷ (25 ∷ 2 ∷ 5 ∷ none ∷ 9 ∷ 1 ∷ 3 ∷ 0 ∷ [])
      ∷ (25 ∷ 0 ∷ 5 ∷ none ∷ 13 ∷ 2 ∷ 4 ∷ 0 ∷ [])
      ∷ (12 ∷ 0 ∷ 5 ∷ none ∷ 5 ∷ 0 ∷ 0 ∷ 0 ∷ [])
      ∷ (1 ∷ 0 ∷ 6 ∷ none ∷ 6 ∷ 0 ∷ 0 ∷ 0 ∷ [])
      ∷ []
