-- `numbers::decimal::less` meets its contract, by the two cases of its definition.
use borrow.Author.Tests.{le-leb, lt-leb}
use Rattle.numbers.proofs.decimal.less.Goals as goal

pub returns-then-places-exponent : goal.returns-then-places-exponent
returns-then-places-exponent c = simp (le-leb _ _ c.if-places-exponent.true)

pub returns-else-places-exponent : goal.returns-else-places-exponent
returns-else-places-exponent c = simp (lt-leb _ _ c.if-places-exponent.false)
