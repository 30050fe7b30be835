-- each read leaves fewer to come
use Rattle.std.proofs.Common.{◌≡◌, length}
use Rattle.shell.specs.Input.{input}
use Rattle.shell.proofs.Turn.{to-come}
use Rattle.tarbucket.proofs.main.Given as goal

abbrev pub invariant-loop-chunk : goal.invariant-loop-chunk
invariant-loop-chunk l = length l.chunk ≡ 1024

abbrev pub decreases-loop-chunk : goal.decreases-loop-chunk
decreases-loop-chunk l = to-come (input l.reading)
