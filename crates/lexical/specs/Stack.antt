-- The indentation stack, read off the tokens: the columns of the open Indents of a token list. (01, Indentation; the Reference, 2.1.8, whose sentences
-- stand beside 01's.) The scanner's own definition has the stack's top alone, "since it reads 0, 2, 4" (01, Forms in the Rust).
-- Assumes nothing.
use Rattle.std.specs.Prelude.{ℕ, suc, ◌+◌, ◌-◌, Bool, false, cond, ◌||◌, List, [], ◌∷◌, eqb, ltb, get_or, drop, Result, Ok, Err}
use Rattle.token.specs.Code.{Indent, Dedent}
use Rattle.tokens.specs.Token.{Token}
use Rattle.spacing.specs.Indentation.{step, is_blank_line, spaces_end_lem}
use Rattle.spacing.specs.declared.line.Indentation.{Indentation}
use Rattle.spacing.specs.declared.line.Indentation.TheVariants.{Blank, Level}
use Rattle.source.specs.Reasons.{refusal_at}
use Rattle.source.specs.declared.refusal.Refusal.{Refusal}

-- the stack behind a token: an Indent pushes its column, the number of the spaces that it spans; a Dedent closes the innermost
abbrev pub pushed : List ℕ → Token → List ℕ
pushed ks t =
    cond (eqb t.code Indent) ((t.end - t.start) ∷ ks)
    (cond (eqb t.code Dedent) (drop 1 ks) ks)

abbrev pub opened : List ℕ → List Token → List ℕ
opened ks [] = ks
opened ks (t ∷ ts) = opened (pushed ks t) ts

-- the levels that a token list leaves open, innermost first. "Before the first line of the file is read, a single zero is pushed on the stack; this
-- will never be popped off again" (the Reference)
abbrev pub levels : List Token → List ℕ
levels ts = opened (0 ∷ []) ts

-- k is one of the levels: "the count must be a level"; "it must be one of the numbers occurring on the stack" (the Reference)
abbrev pub among : ℕ → List ℕ → Bool
among k [] = false
among k (j ∷ ks) = eqb k j || among k ks

-- how many levels are deeper than k: "one Dedent per level"; "all numbers on the stack that are larger are popped off, and for each number popped
-- off a DEDENT token is generated" (the Reference)
abbrev pub above : ℕ → List ℕ → ℕ
above k [] = 0
above k (j ∷ ks) = cond (ltb k j) (suc (above k ks)) (above k ks)

-- k spaces from `at` to `end`, against the stack: "Equal to the top: nothing. More: exactly top + 2 gives Indent, spanning the spaces. Less: one
-- Dedent per level, spanning the spaces; the count must be a level"; "7 no deeper than top + 2 exactly? 8 back on a level?"
unfoldable pub level_among : ℕ → ℕ → List ℕ → Result Indentation Refusal
level_among at end ks =
    let k = end - at in
    let top = get_or ks 0 0 in
    cond (eqb k top) (Ok (Level end Dedent 0 k))
    (cond (ltb top k)
    (cond (eqb k (top + step)) (Ok (Level end Indent 1 k)) (Err (refusal_at 7 at)))
    (cond (among k ks) (Ok (Level end Dedent (above k ks) k)) (Err (refusal_at 8 at))))

-- what a line's spaces say, by the byte behind them (`indentation_at` of spacing, with the stack for its top)
unfoldable pub indentation_among : List ℕ → ℕ → List ℕ → Result Indentation Refusal
indentation_among s at ks =
    let end = spaces_end_lem s at in
    let b = get_or s end 0 in
    cond (eqb b 9) (Err (refusal_at 6 end))
    (cond (is_blank_line b) (Ok (Blank end)) (level_among at end ks))
