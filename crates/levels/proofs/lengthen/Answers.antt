-- `levels::lengthen` meets its contract, by what stands before.
use mathlib.Core.Path.{refl}
use Rattle.levels.proofs.lengthen.Goals as goal

pub returns-in-Nothing : goal.returns-in-Nothing
returns-in-Nothing c = rw c.in-Nothing.is refl

pub returns-in-First : goal.returns-in-First
returns-in-First c = rw c.in-First.is refl

pub returns-in-Further : goal.returns-in-Further
returns-in-Further c = rw c.in-Further.is refl
