-- `writer_expr::marks::operator` meets its contract.
use mathlib.Core.Path.{sym, ap}
use Rattle.writer_expr.specs.Levels.{operator_of}
use Rattle.writer_expr.proofs.Operators.{other_operator}
use Rattle.writer_expr.proofs.marks.operator.Goals as goal

pub returns-in-1 : goal.returns-in-1
unfolding operator_of
returns-in-1 c = sym (ap operator_of c.in-1.is)

pub returns-in-2 : goal.returns-in-2
unfolding operator_of
returns-in-2 c = sym (ap operator_of c.in-2.is)

pub returns-in-3 : goal.returns-in-3
unfolding operator_of
returns-in-3 c = sym (ap operator_of c.in-3.is)

pub returns-in-4 : goal.returns-in-4
unfolding operator_of
returns-in-4 c = sym (ap operator_of c.in-4.is)

pub returns-in-5 : goal.returns-in-5
unfolding operator_of
returns-in-5 c = sym (ap operator_of c.in-5.is)

pub returns-in-6 : goal.returns-in-6
unfolding operator_of
returns-in-6 c = sym (ap operator_of c.in-6.is)

pub returns-in-7 : goal.returns-in-7
unfolding operator_of
returns-in-7 c = sym (ap operator_of c.in-7.is)

pub returns-in-8 : goal.returns-in-8
unfolding operator_of
returns-in-8 c = sym (ap operator_of c.in-8.is)

pub returns-in-9 : goal.returns-in-9
unfolding operator_of
returns-in-9 c = sym (ap operator_of c.in-9.is)

pub returns-in-10 : goal.returns-in-10
unfolding operator_of
returns-in-10 c = sym (ap operator_of c.in-10.is)

pub returns-in-11 : goal.returns-in-11
unfolding operator_of
returns-in-11 c = sym (ap operator_of c.in-11.is)

pub returns-in-12 : goal.returns-in-12
unfolding operator_of
returns-in-12 c = sym (ap operator_of c.in-12.is)

pub returns-in-13 : goal.returns-in-13
unfolding operator_of
returns-in-13 c = sym (ap operator_of c.in-13.is)

pub returns-in_default : goal.returns-in_default
unfolding operator_of
returns-in_default c = other_operator c.args.op c.in_default.in_default-own.rest
