-- `writing::back::copy` meets its contract: after k turns the first k bytes are those of the text.
use Rattle.std.proofs.Common.{◌≡◌, take}
use Rattle.writing.proofs.back.copy.Given as goal

abbrev pub invariant-loop-k : goal.invariant-loop-k
invariant-loop-k l = take l.k l.out ≡ take l.k l.text
