-- `numbers::integer::int_value` meets its contract: the first byte says the sign, and digits that stop at the cap have no value.
use mathlib.Core.Path.{sym, ◌∙◌}
use borrow.Author.Tests.{eq-eqb, ne_eqb}
use lib.ListN.{get_or}
use Rattle.numbers.proofs.Negation.{minus_stopped, plain_stopped}
use Rattle.numbers.proofs.integer.int_value.Goals as goal

pub returns-then-byte-eq45 : goal.returns-then-byte-eq45
returns-then-byte-eq45 c =
    let s = c.args.s.now in
    let first = sym c.byte.ensures ∙ c.if-byte-eq45.true in
    minus_stopped s _ c.joined-n.ensures _ (eq-eqb (get_or s 0 0) 45 first) c.checked_sub_unsigned.ensures

pub returns-else-byte-eq45 : goal.returns-else-byte-eq45
returns-else-byte-eq45 c =
    let s = c.args.s.now in
    let first = ne_eqb (get_or s 0 0) 45 (λ e. c.if-byte-eq45.false (c.byte.ensures ∙ e)) in
    plain_stopped s _ c.joined-n.ensures _ first _ c.try_from.ensures c.ok.ensures.value
