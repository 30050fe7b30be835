-- `utf8::sequence::least` meets its contract: arm by arm.
use borrow.Author.Tests.{ne_eqb}
use Rattle.utf8.proofs.sequence.least.Goals as goal

pub returns-in-224 : goal.returns-in-224
returns-in-224 c = rw c.in-224.is

pub returns-in-240 : goal.returns-in-240
returns-in-240 c = rw c.in-240.is

pub returns-in_default : goal.returns-in_default
returns-in_default c = rw (ne_eqb _ 0xE0 c.in_default.in_default-own.rest.0.1, ne_eqb _ 0xF0 c.in_default.in_default-own.rest.1)
