-- What the definition says of short sources: 01's starred scripts as far as they are lexical, and the rules of its section Indentation, computed.
-- Assumes nothing.
use mathlib.Core.Path.{◌≡◌, refl}
use mathlib.Core.Bool.{true}
use mathlib.Core.List.{List, [], ◌∷◌}
use Prim.Native.Nat.{ℕ}
use lib.IntN.{negsuc}
use Rattle.source.specs.Text.{bytes}
use Rattle.token.specs.Code as C
use Rattle.tokens.specs.Token.{token}
use Rattle.literal.specs.declared.Literal.TheVariants as L
use Rattle.lexer.specs.Scan.{scanned, mark, token_list}
use Rattle.lexer.proofs.Computed.{computed}
use Rattle.lexer.specs.Steps.{Left, filled, none, left}

says : List ℕ → Left
unfolding computed
says s = left [] [] (computed s)

-- ---- 01's scripts

empty : says [] ≡ filled (C.Eof ∷ 0 ∷ 0 ∷ []) []
unfolding says
empty = refl

-- "So `a-1` is a name, then Int -1"
name_then_int : says (bytes "a-1") ≡ filled (C.Identifier ∷ 0 ∷ 1 ∷ C.Int ∷ 1 ∷ 3 ∷ C.Eof ∷ 3 ∷ 3 ∷ []) []
unfolding says
name_then_int = refl

-- a Float has no leading sign, and digits behind its dot
no_float :
    (says (bytes "-1.5") ≡ filled (C.Int ∷ 0 ∷ 2 ∷ C.Dot ∷ 2 ∷ 3 ∷ C.Int ∷ 3 ∷ 4 ∷ C.Eof ∷ 4 ∷ 4 ∷ []) [])
    × (says (bytes "1.e5") ≡ filled (C.Int ∷ 0 ∷ 1 ∷ C.Dot ∷ 1 ∷ 2 ∷ C.Identifier ∷ 2 ∷ 4 ∷ C.Eof ∷ 4 ∷ 4 ∷ []) [])
unfolding says
no_float = (refl, refl)

parentheses :
    (says (bytes "()") ≡ filled (C.LParen ∷ 0 ∷ 1 ∷ C.RParen ∷ 1 ∷ 2 ∷ C.Eof ∷ 2 ∷ 2 ∷ []) [])
    × (says (bytes "())") ≡ filled (C.LParen ∷ 0 ∷ 1 ∷ C.RParen ∷ 1 ∷ 2 ∷ C.RParen ∷ 2 ∷ 3 ∷ C.Eof ∷ 3 ∷ 3 ∷ []) [])
unfolding says
parentheses = (refl, refl)

not_equal : says (bytes "not a == b") ≡ filled (C.Not ∷ 0 ∷ 3 ∷ C.Identifier ∷ 4 ∷ 5 ∷ C.EqualEqual ∷ 6 ∷ 8 ∷ C.Identifier ∷ 9 ∷ 10 ∷ C.Eof ∷ 10 ∷ 10 ∷ []) []
unfolding says
not_equal = refl

int_comma : says (bytes "1,") ≡ filled (C.Int ∷ 0 ∷ 1 ∷ C.Comma ∷ 1 ∷ 2 ∷ C.Eof ∷ 2 ∷ 2 ∷ []) []
unfolding says
int_comma = refl

-- the last line feed: the level then closes on the line behind it, and else at the end
body :
    (says (bytes "if a:\n  b") ≡ filled (C.If ∷ 0 ∷ 2 ∷ C.Identifier ∷ 3 ∷ 4 ∷ C.Colon ∷ 4 ∷ 5 ∷ C.Newline ∷ 5 ∷ 6 ∷ C.Indent ∷ 6 ∷ 8 ∷ C.Identifier ∷ 8 ∷ 9 ∷ C.Dedent ∷ 9 ∷ 9 ∷ C.Eof ∷ 9 ∷ 9 ∷ []) [])
    × (says (bytes "if a:\n  b\n") ≡ filled (C.If ∷ 0 ∷ 2 ∷ C.Identifier ∷ 3 ∷ 4 ∷ C.Colon ∷ 4 ∷ 5 ∷ C.Newline ∷ 5 ∷ 6 ∷ C.Indent ∷ 6 ∷ 8 ∷ C.Identifier ∷ 8 ∷ 9 ∷ C.Newline ∷ 9 ∷ 10 ∷ C.Dedent ∷ 10 ∷ 10 ∷ C.Eof ∷ 10 ∷ 10 ∷ []) [])
unfolding says
body = (refl, refl)

-- "Body of two spaces only"
empty_body : says (bytes "if a:\n  ") ≡ filled (C.If ∷ 0 ∷ 2 ∷ C.Identifier ∷ 3 ∷ 4 ∷ C.Colon ∷ 4 ∷ 5 ∷ C.Newline ∷ 5 ∷ 6 ∷ C.Indent ∷ 6 ∷ 8 ∷ C.Dedent ∷ 8 ∷ 8 ∷ C.Eof ∷ 8 ∷ 8 ∷ []) []
unfolding says
empty_body = refl

-- 2^63, and with a minus
int_range :
    (says (bytes "9223372036854775808") ≡ none 10 0)
    × (says (bytes "-9223372036854775808") ≡ filled (C.Int ∷ 0 ∷ 20 ∷ C.Eof ∷ 20 ∷ 20 ∷ []) [])
unfolding says
int_range = (refl, refl)

-- "Tab first: 6 at 0"; behind spaces, on a blank line too, the tab's place; a tab elsewhere is skipped
tabs :
    (says (bytes "\ta") ≡ none 6 0)
    × (says (bytes "a\n  \t\n") ≡ none 6 4)
    × (says (bytes "a\tb") ≡ filled (C.Identifier ∷ 0 ∷ 1 ∷ C.Identifier ∷ 2 ∷ 3 ∷ C.Eof ∷ 3 ∷ 3 ∷ []) [])
unfolding says
tabs = (refl, refl, refl)

-- "Three spaces under an if: 7", where the counting began
three_spaces : says (bytes "if a:\n   b") ≡ none 7 6
unfolding says
three_spaces = refl

-- "`1.0e24`: 11"
not_admitted : says (bytes "1.0e24") ≡ none 11 0
unfolding says
not_admitted = refl

-- ---- levels

-- "After a carriage return then a token, the flag is still set, so spaces after that token are counted"
carriage_return :
    (says (bytes "\ra  b") ≡ filled (C.Identifier ∷ 1 ∷ 2 ∷ C.Indent ∷ 2 ∷ 4 ∷ C.Identifier ∷ 4 ∷ 5 ∷ C.Dedent ∷ 5 ∷ 5 ∷ C.Eof ∷ 5 ∷ 5 ∷ []) [])
    × (says (bytes "a  b") ≡ filled (C.Identifier ∷ 0 ∷ 1 ∷ C.Identifier ∷ 3 ∷ 4 ∷ C.Eof ∷ 4 ∷ 4 ∷ []) [])
unfolding says
carriage_return = (refl, refl)

-- a comment line deeper than its block changes no level
deep_comment : says (bytes "a\n    # b\nc") ≡ filled (C.Identifier ∷ 0 ∷ 1 ∷ C.Newline ∷ 1 ∷ 2 ∷ C.Newline ∷ 9 ∷ 10 ∷ C.Identifier ∷ 10 ∷ 11 ∷ C.Eof ∷ 11 ∷ 11 ∷ []) []
unfolding says
deep_comment = refl

-- nor do blank lines, with spaces or without
blank_lines : says (bytes "a\n\n  \nb") ≡ filled (C.Identifier ∷ 0 ∷ 1 ∷ C.Newline ∷ 1 ∷ 2 ∷ C.Newline ∷ 2 ∷ 3 ∷ C.Newline ∷ 5 ∷ 6 ∷ C.Identifier ∷ 6 ∷ 7 ∷ C.Eof ∷ 7 ∷ 7 ∷ []) []
unfolding says
blank_lines = refl

-- spaces alone at the end count as on a line
spaces_at_end :
    (says (bytes " ") ≡ none 7 0)
    × (says (bytes "a\n  ") ≡ filled (C.Identifier ∷ 0 ∷ 1 ∷ C.Newline ∷ 1 ∷ 2 ∷ C.Indent ∷ 2 ∷ 4 ∷ C.Dedent ∷ 4 ∷ 4 ∷ C.Eof ∷ 4 ∷ 4 ∷ []) [])
unfolding says
spaces_at_end = (refl, refl)

-- two levels closed at once: each Dedent spans the same spaces; and the last level closes at the end
two_levels : says (bytes "a\n  b\n    c\n      d\n  e") ≡ filled (C.Identifier ∷ 0 ∷ 1 ∷ C.Newline ∷ 1 ∷ 2 ∷ C.Indent ∷ 2 ∷ 4 ∷ C.Identifier ∷ 4 ∷ 5 ∷ C.Newline ∷ 5 ∷ 6 ∷ C.Indent ∷ 6 ∷ 10 ∷ C.Identifier ∷ 10 ∷ 11 ∷ C.Newline ∷ 11 ∷ 12 ∷ C.Indent ∷ 12 ∷ 18 ∷ C.Identifier ∷ 18 ∷ 19 ∷ C.Newline ∷ 19 ∷ 20 ∷ C.Dedent ∷ 20 ∷ 22 ∷ C.Dedent ∷ 20 ∷ 22 ∷ C.Identifier ∷ 22 ∷ 23 ∷ C.Dedent ∷ 23 ∷ 23 ∷ C.Eof ∷ 23 ∷ 23 ∷ []) []
unfolding says
two_levels = refl

-- back on no level: 8, where the counting began
no_level : says (bytes "a\n  b\n c") ≡ none 8 6
unfolding says
no_level = refl

-- ---- strings, and characters over 127

-- "Escapes n t r \ " ' are decoded; another keeps its backslash"; the text is in token order
escapes : says (bytes "'a\\n\\q' \"\\\"\"") ≡ filled (C.String ∷ 0 ∷ 7 ∷ C.String ∷ 8 ∷ 12 ∷ C.Eof ∷ 12 ∷ 12 ∷ []) (97 ∷ 10 ∷ 92 ∷ 113 ∷ 34 ∷ [])
unfolding says
escapes = refl

-- no quote closes it: 9 at the opening one
unclosed : says (bytes "a 'b") ≡ none 9 2
unfolding says
unclosed = refl

-- "Another character over 127 where a token would start gets 9" (02, change 1), at its first byte: the euro sign behind a name, and the middle dot, which
-- begins none; any is free in strings and comments
other_characters :
    (says (97 ∷ 226 ∷ 130 ∷ 172 ∷ []) ≡ none 9 1)
    × (says (194 ∷ 183 ∷ []) ≡ none 9 0)
    × (says (39 ∷ 195 ∷ 169 ∷ 39 ∷ []) ≡ filled (C.String ∷ 0 ∷ 4 ∷ C.Eof ∷ 4 ∷ 4 ∷ []) (195 ∷ 169 ∷ []))
    × (says (35 ∷ 195 ∷ 169 ∷ []) ≡ filled (C.Eof ∷ 3 ∷ 3 ∷ []) [])
unfolding says
other_characters = (refl, refl, refl, refl)

-- the earliest in the source decides
earliest :
    (says (bytes "99999999999999999999 !") ≡ none 10 0)
    × (says (bytes "! 99999999999999999999") ≡ none 9 0)
unfolding says
earliest = (refl, refl)

-- ---- literals

-- "Literal has cases Bool, Int(i64), String place and length"; what has no value has None
literals : token_list (bytes "True -7 'b' '' x") ≡ scanned (token C.Bool 0 4 (L.Bool true) ∷ token C.Int 5 7 (L.Int (negsuc 6)) ∷ token C.String 8 11 (L.String 0 1) ∷ token C.String 12 14 (L.String 1 0) ∷ mark C.Identifier 15 16 ∷ mark C.Eof 16 16 ∷ []) (98 ∷ [])
unfolding says
literals = refl
