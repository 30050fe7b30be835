-- The order of the rules is that of their numbers.
-- Assumes nothing.
use mathlib.Core.Path.{◌≡◌, refl, sym, ◌∙◌}
use mathlib.Core.Bool.{Bool, true, false}
use Prim.Native.Nat.{◌≤◌, ◌<◌}
use lib.Dec.{ltb}
use borrow.Author.Tests.{ltb-true, ltb-false}
use Rattle.std.specs.Ordering.{partial_lt}
use Rattle.writer_expr.specs.declared.rules.Rule.{Rule}
use Rattle.writer_expr.specs.declared.rules.Rule.TheVariants as rule
use Rattle.writer_expr.specs.contracts.rules.RulePartialOrd.TheImpl.{partial_cmp-value}
use Rattle.writer_expr.specs.Levels.{number}

pub lt_number : (x y : Rule) → partial_lt partial_cmp-value.it x y ≡ ltb (number x) (number y)
lt_number rule.E rule.E = refl
lt_number rule.E _ = refl
lt_number rule.O rule.E = refl
lt_number rule.O _ = refl
lt_number rule.A rule.E = refl
lt_number rule.A _ = refl
lt_number rule.C rule.E = refl
lt_number rule.C _ = refl
lt_number rule.S rule.E = refl
lt_number rule.S _ = refl
lt_number rule.P rule.E = refl
lt_number rule.P _ = refl
lt_number rule.U rule.E = refl
lt_number rule.U _ = refl
lt_number rule.F rule.E = refl
lt_number rule.F _ = refl

-- as the code compares them
pub below : (x y : Rule) {r : Bool} → r ≡ partial_lt partial_cmp-value.it x y → r ≡ true → number x < number y
below x y h e = ltb-true (number x) (number y) (sym (lt_number x y) ∙ sym h ∙ e)

pub not_below : (x y : Rule) {r : Bool} → r ≡ partial_lt partial_cmp-value.it x y → r ≡ false → number y ≤ number x
not_below x y h e = ltb-false (number x) (number y) (sym (lt_number x y) ∙ sym h ∙ e)
