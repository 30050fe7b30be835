-- `numbers::decimal::power` meets its contract: what stops at the cap is not admitted, as it is with all of its digits.
use mathlib.Core.Path.{refl, sym, ◌∙◌}
use mathlib.Core.Bool.{true, false}
use borrow.Author.Tests.{eq-eqb, ne_eqb}
use lib.ListN.{get_or}
use Rattle.numbers.proofs.Admitted.{stopped}
use Rattle.numbers.proofs.decimal.power.Goals as goal

pub returns-then-byte-eq45 : goal.returns-then-byte-eq45
returns-then-byte-eq45 c =
    let a = c.args in
    let first = sym c.byte.ensures ∙ c.if-byte-eq45.true in
    stopped a.s.now a.places true c.joined.result _ (eq-eqb (get_or a.s.now 0 0) 45 first) c.joined.ensures refl

pub returns-else-byte-eq45 : goal.returns-else-byte-eq45
returns-else-byte-eq45 c =
    let a = c.args in
    let first = ne_eqb (get_or a.s.now 0 0) 45 (λ e. c.if-byte-eq45.false (c.byte.ensures ∙ e)) in
    stopped a.s.now a.places false c.joined-else-byte-eq45.result c.less.result first c.joined-else-byte-eq45.ensures c.less.ensures
