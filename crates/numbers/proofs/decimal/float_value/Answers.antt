-- `numbers::decimal::float_value` meets its contract: its parts' contracts, taken together.
use mathlib.Core.Path.{◌≡◌, refl, ap, ◌∙◌}
use mathlib.Core.List.{List}
use Prim.Native.Nat.{ℕ, ◌+◌}
use lib.ListN.{drop}
use Rattle.std.specs.Prelude.{Float, Option}
use Rattle.numbers.specs.declared.decimal.Scale.{Scale}
use Rattle.numbers.specs.Digits.{number, is_minus}
use Rattle.numbers.specs.Decimal.{scale_of, value_of, decimal_of}
use Rattle.numbers.proofs.Admitted.{assembled, rest, none}
use Rattle.numbers.proofs.decimal.float_value.Goals as goal
use Rattle.numbers.proofs.decimal.float_value.Goals.{After-places-after}

-- the text and the place of its e, where both are known
abbrev text : After-places-after → List ℕ
text c = c.args.s.now

abbrev e : After-places-after → ℕ
e c = c.find-e.result

whole : (c : After-places-after) (p : Scale) (r : Option Float) (x : List ℕ) → x ≡ drop (e c + 1) (text c)
    → value_of c.joined-m.result p ≡ value_of c.joined-m.result (scale_of (is_minus x) (number 0 x) c.places-after.result)
    → r ≡ value_of c.joined-m.result p → r ≡ decimal_of (text c)
whole c p r x hx hp hr =
    assembled (text c) (e c) c.joined-m.result c.places-after.result p r x
    c.find-e.ensures.is hx c.joined-m.ensures c.places-after.ensures.0 hp hr

pub returns-then-e-s : goal.returns-then-e-s
returns-then-e-s c =
    let p = (goal.at.returns-then-e-s c).After-places-after in
    whole p c.power.result c.scaled.result _ (rest (text p) (e p + 1)) (c.power.ensures c.joined-m.result) c.scaled.ensures

pub returns-else-e-s : goal.returns-else-e-s
returns-else-e-s c =
    let p = (goal.at.returns-else-e-s c).After-places-after in
    whole p c.less.result c.scaled-else-e-s.result (drop (e p + 1) (text p)) refl
    (ap (value_of c.joined-m.result) (c.less.ensures ∙ none (text p) (e p) c.places-after.result c.if-e-s.false))
    c.scaled-else-e-s.ensures
