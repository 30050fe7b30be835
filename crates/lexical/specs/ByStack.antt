-- The token list once more, by the indentation stack. The state is what was read so far and nothing else: the place, the flag, the tokens and the text.
-- No top is counted: a line's spaces are compared with the columns of the open Indents of the tokens so far, and at the end each of these is closed.
-- Read beside Scan.antt of lexer: the functions are those, one for one. That both are one token list is the law `by_stack` (proofs/ByStack.antt).
-- Assumes nothing.
use Rattle.std.specs.Prelude.{ℕ, zero, suc, Bool, true, false, cond, ◌||◌, List, [], ◌∷◌, ◌++◌, eqb, ltb, length, replicate, Option, Some, None, Result, Ok, Err}
use Rattle.source.specs.Bytes.{part}
use Rattle.token.specs.Code as Code
use Rattle.tokens.specs.Token.{Token, token}
use Rattle.raw_token.specs.Table.{token_at_lem}
use Rattle.raw_token.specs.declared.RawToken.{RawToken}
use Rattle.spacing.specs.Gap.{gap_end_lem}
use Rattle.lexer.specs.Value.{value_of, refusal_of, text_of}
use Rattle.lexer.specs.Scan.{Scan, scanned, refused, mark}
use Rattle.spacing.specs.declared.line.Indentation.{Indentation}
use Rattle.spacing.specs.declared.line.Indentation.TheVariants.{Blank, Level}
use Rattle.literal.specs.declared.Literal.{Literal}
use Rattle.lexical.specs.Stack.{levels, above, indentation_among}
use Rattle.source.specs.Reasons.{number_of}
use Rattle.source.specs.declared.refusal.Refusal.{Refusal}

-- what was read so far
pub record State : Type 0 where
  pub at : ℕ
  pub flag : Bool
  pub tokens : List Token
  pub text : List ℕ

abbrev pub state : ℕ → Bool → List Token → List ℕ → State
state at flag tokens text = record { at = at; flag = flag; tokens = tokens; text = text }

-- what follows a state
abbrev pub Onward : Type 0
Onward = State → Scan

-- the marks of a line's spaces, and on; what a Level says of the new top is not asked, since the marks say it
abbrev pub marks_on : Onward → State → Result Indentation Refusal → Scan
marks_on on x (Ok (Blank end)) = on (state end true x.tokens x.text)
marks_on on x (Ok (Level end code n top)) = on (state end false (x.tokens ++ replicate n (mark code x.at end)) x.text)
marks_on on x (Err r) = refused (number_of r.reason) r.place

-- "A flag .. makes the next call count spaces"
unfoldable pub indent_on : List ℕ → Onward → State → Scan
indent_on s on x = cond x.flag (marks_on on x (indentation_among s x.at (levels x.tokens))) (on x)

-- "At the end, open levels close with empty Dedents at n": "a DEDENT token is generated for each number remaining on the stack that is larger than
-- zero" (the Reference); and Eof
unfoldable pub closed_on : ℕ → State → Scan
closed_on n x = scanned (x.tokens ++ (replicate (above 0 (levels x.tokens)) (mark Code.Dedent n n) ++ mark Code.Eof n n ∷ [])) x.text

-- a token with its value and its text, and on
abbrev pub value_on : Onward → State → ℕ → ℕ → ℕ → List ℕ → Option Literal → Scan
value_on on x code start end bs (Some v) =
    on (state end (eqb code Code.Newline || x.flag) (x.tokens ++ token code start end v ∷ []) (x.text ++ bs))
value_on on x code start end bs None = refused (refusal_of code) start

abbrev pub found_on : List ℕ → Onward → State → ℕ → Option RawToken → Scan
found_on s on x start (Some t) =
    value_on on x t.code start t.end (text_of t.code (part s start t.end)) (value_of t.code (part s start t.end) (length x.text))
found_on s on x start None = refused 9 start

unfoldable pub token_on : List ℕ → Onward → State → Scan
token_on s on x =
    let start = gap_end_lem s x.at in
    cond (ltb start (length s))
    (found_on s on x start (token_at_lem s start))
    (closed_on (length s) x)

-- from a state on, in turns as `scan_from` has them
unfoldable pub on_from : ℕ → List ℕ → Onward
on_from zero s x = refused 0 0
on_from (suc fuel) s x = indent_on s (token_on s (on_from fuel s)) x

unfoldable pub token_list_by_stack : List ℕ → Scan
token_list_by_stack s = on_from (suc (length s)) s (state 0 true [] [])
