-- `writing::back::Back::put_inside` meets its contract: what is left are the bytes that the iterator has left.
use Rattle.rendered.specs.Spelled.{escaped_all}
use Rattle.writing.proofs.Writes.{Left}
use Rattle.writing.proofs.back.Back.put_inside.Given as goal

abbrev pub invariant-loop-b : goal.invariant-loop-b
invariant-loop-b l = Left (escaped_all l.text) (escaped_all l.b-iterator.iter.rest.now) l.initial.self l.self
