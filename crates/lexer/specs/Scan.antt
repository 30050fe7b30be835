-- The token list of a source (01, Raw tokens, Indentation, and questions 6 to 11). Of the scanner the crates above cite this and its answers, the words
-- and text of a list, and a token's value.
-- The state is the code's struct Lexer: `at`, the place reached; `flag`; `top`, the deepest open level; `count`, the tokens so far, which the code needs
-- and no rule asks; `used`, the text so far, which a String's offset needs.
-- Assumes nothing.
use Rattle.std.specs.Prelude.{ℕ, zero, suc, ◌+◌, ◌/◌, Bool, true, false, cond, ◌||◌, List, [], ◌∷◌, ◌++◌, eqb, ltb, length, replicate, Option, Some, None, Result, Ok, Err}
use Rattle.source.specs.Bytes.{part}
use Rattle.token.specs.Code as Code
use Rattle.tokens.specs.Token.{Token, token}
use Rattle.raw_token.specs.Table.{token_at_lem}
use Rattle.raw_token.specs.declared.RawToken.{RawToken}
use Rattle.source.specs.Reasons.{number_of}
use Rattle.source.specs.declared.refusal.Refusal.{Refusal}
use Rattle.literal.specs.declared.Literal.{Literal}
use Rattle.literal.specs.declared.Literal.TheVariants as L
use Rattle.spacing.specs.Gap.{gap_end_lem}
use Rattle.spacing.specs.Indentation.{step, indentation_at}
use Rattle.lexer.specs.Value.{value_of, refusal_of, text_of}
use Rattle.lexer.specs.declared.Lexer.{Lexer}
use Rattle.spacing.specs.declared.line.Indentation.{Indentation}
use Rattle.spacing.specs.declared.line.Indentation.TheVariants.{Blank, Level}

-- the tokens, Eof last, and the decoded text; or the number and place of the first refusal
pub data Scan : Type 0 where
  scanned : List Token → List ℕ → Scan
  refused : ℕ → ℕ → Scan

-- tokens and text in front of what follows; the first refusal refuses all: "Then the earliest in the source"
abbrev pub prepend : List Token → List ℕ → Scan → Scan
prepend ts bs (scanned us cs) = scanned (ts ++ us) (bs ++ cs)
prepend ts bs (refused n p) = refused n p

-- a token with no value: Indent, Dedent, Eof
abbrev pub mark : ℕ → ℕ → ℕ → Token
mark code start end = token code start end L.None

abbrev pub lexer : ℕ → Bool → ℕ → ℕ → ℕ → Lexer
lexer at flag top count used = record { at = at; flag = flag; top = top; count = count; used = used }

-- what follows a state
abbrev pub Rest : Type 0
Rest = Lexer → Scan

-- the marks of a line's spaces, and then the rest. "Before line feed, carriage return or `#` the flag stays set and no level changes; otherwise
-- .. it is cleared"
abbrev pub marks_then : Rest → Lexer → Result Indentation Refusal → Scan
marks_then rest x (Ok (Blank end)) = rest (lexer end true x.top x.count x.used)
marks_then rest x (Ok (Level end code n top)) =
    prepend (replicate n (mark code x.at end)) [] (rest (lexer end false top (x.count + n) x.used))
marks_then rest x (Err r) = refused (number_of r.reason) r.place

-- "A flag .. makes the next call count spaces"
unfoldable pub indent_then : List ℕ → Rest → Lexer → Scan
indent_then s rest x = cond x.flag (marks_then rest x (indentation_at s x.at x.top)) (rest x)

-- "At the end, open levels close with empty Dedents at n", and Eof
unfoldable pub closed : ℕ → Lexer → Scan
closed n x = scanned (replicate (x.top / step) (mark Code.Dedent n n) ++ mark Code.Eof n n ∷ []) []

-- a token with its value and its text, and then the rest. The flag is set "after each Newline", and stays set where it is: "After a carriage
-- return then a token, the flag is still set"
abbrev pub value_then : Rest → Lexer → ℕ → ℕ → ℕ → List ℕ → Option Literal → Scan
value_then rest x code start end bs (Some v) =
    prepend (token code start end v ∷ []) bs
    (rest (lexer end (eqb code Code.Newline || x.flag) x.top (x.count + 1) (x.used + length bs)))
value_then rest x code start end bs None = refused (refusal_of code) start

-- "9 does a token match?"; and since 02, change 1: "Another character over 127 where a token would start gets 9, so 12 never occurs from here on"
abbrev pub found_then : List ℕ → Rest → Lexer → ℕ → Option RawToken → Scan
found_then s rest x start (Some t) =
    value_then rest x t.code start t.end (text_of t.code (part s start t.end)) (value_of t.code (part s start t.end) x.used)
found_then s rest x start None = refused 9 start

-- the next token, behind what is skipped
unfoldable pub token_then : List ℕ → Rest → Lexer → Scan
token_then s rest x =
    let start = gap_end_lem s x.at in
    cond (ltb start (length s))
    (found_then s rest x start (token_at_lem s start))
    (closed (length s) x)

-- from a state on: the spaces that count, then a token, and so on. Each token takes a byte or more, so one more turn than there are bytes is enough
-- (proofs/Enough.antt)
unfoldable pub scan_from : ℕ → List ℕ → Rest
scan_from zero s x = refused 0 0
scan_from (suc fuel) s x = indent_then s (token_then s (scan_from fuel s)) x

-- "A flag, set at the start"
unfoldable pub token_list : List ℕ → Scan
token_list s = scan_from (suc (length s)) s (lexer 0 true 0 0 0)
