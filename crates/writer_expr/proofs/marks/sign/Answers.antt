-- `writer_expr::marks::sign` meets its contract.
use Rattle.writer_expr.specs.Levels.{sign_of}
use borrow.Author.Tests.{ne_eqb}
use mathlib.Core.Path.{sym, ap}
use Rattle.writer_expr.proofs.marks.sign.Goals as goal

pub returns-in-1 : goal.returns-in-1
unfolding sign_of
returns-in-1 c = sym (ap sign_of c.in-1.is)

pub returns-in-2 : goal.returns-in-2
unfolding sign_of
returns-in-2 c = sym (ap sign_of c.in-2.is)

pub returns-in_default : goal.returns-in_default
unfolding sign_of
returns-in_default c = simp (ne_eqb _ _ c.in_default.in_default-own.rest.1, ne_eqb _ _ c.in_default.in_default-own.rest.0.1)
