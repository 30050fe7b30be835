-- The spaces that open a line (01, Indentation; src/lexer/mod.rs, handle_indentation).
-- Assumes nothing.
use Rattle.std.specs.Prelude.{ℕ, ◌+◌, ◌-◌, ◌/◌, ◌%◌, Bool, cond, ◌||◌, List, Result, Ok, Err, eqb, ltb, get_or, drop}
use Rattle.source.specs.Reasons.{refusal_at}
use Rattle.source.specs.declared.refusal.Refusal.{Refusal}
use Rattle.source.specs.Bytes.{run}
use Rattle.token.specs.Code.{Indent, Dedent}
use Rattle.spacing.specs.declared.line.Indentation.{Indentation}
use Rattle.spacing.specs.declared.line.Indentation.TheVariants.{Blank, Level}

-- how many spaces one level is more than the one below it: "exactly top + 2"
abbrev pub step : ℕ
step = 2

abbrev pub is_space : ℕ → Bool
is_space b = eqb b 32

-- the levels are 0, 2, 4 .., so k is one of those up to the top exactly where it is a multiple of the step (the law `by_stack` of the crate lexical)
abbrev pub is_level : ℕ → Bool
is_level k = eqb (k % step) 0

-- k spaces from `at` to `end`: "Equal to the top: nothing. More: exactly top + 2 gives Indent, spanning the spaces. Less: one Dedent per level,
-- spanning the spaces; the count must be a level". A Level has the marks' code and number, and the new top; 7 and 8 stand "where the
-- counting began"
unfoldable pub level_of : ℕ → ℕ → ℕ → Result Indentation Refusal
level_of at end top =
    let k = end - at in
    cond (eqb k top) (Ok (Level end Dedent 0 top))
    (cond (ltb top k)
    (cond (eqb k (top + step)) (Ok (Level end Indent 1 k)) (Err (refusal_at 7 at)))
    (cond (is_level k) (Ok (Level end Dedent ((top - k) / step) k)) (Err (refusal_at 8 at))))

-- "Before line feed, carriage return or `#`": the line has no token of its own
abbrev pub is_blank_line : ℕ → Bool
is_blank_line b = eqb b 10 || eqb b 13 || eqb b 35

-- where the spaces from `at` on end
abbrev pub spaces_end_lem : List ℕ → ℕ → ℕ
spaces_end_lem s at = at + run is_space (drop at s)

-- what a line's spaces say, by the byte behind them: "A tab among them is refused" (6, at the tab). "Before line feed, carriage return or `#` the
-- flag stays set and no level changes" (Blank); "otherwise, also at the end of the source" (where the byte reads 0), they are compared with the top
unfoldable pub indentation_at : List ℕ → ℕ → ℕ → Result Indentation Refusal
indentation_at s at top =
    let end = spaces_end_lem s at in
    let b = get_or s end 0 in
    cond (eqb b 9) (Err (refusal_at 6 end))
    (cond (is_blank_line b) (Ok (Blank end)) (level_of at end top))
