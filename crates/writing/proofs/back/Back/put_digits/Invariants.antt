-- `writing::back::Back::put_digits` meets its contract: what is left of the digits are those of the rest.
use Rattle.writing.proofs.Digits.{Rest}
use Rattle.writing.proofs.back.Back.put_digits.Given as goal

abbrev pub invariant-loop-rest : goal.invariant-loop-rest
invariant-loop-rest l = Rest l.n l.rest l.initial.self l.self

abbrev pub decreases-loop-rest : goal.decreases-loop-rest
decreases-loop-rest l = l.rest
