-- `printing::put_words` meets its contract. The loop keeps `Words`.
use Rattle.printing.proofs.Lines.{Words}
use Rattle.printing.proofs.put_words.Given as goal

abbrev pub invariant-loop-word : goal.invariant-loop-word
invariant-loop-word l = Words l.mask l.words l.initial.out l.at l.out l.next l.rest l.word-index
