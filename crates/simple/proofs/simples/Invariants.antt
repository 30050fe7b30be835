-- `simple::simples` meets its contract: the statements of one line.
use Prim.Native.Nat.{◌-◌}
use Rattle.lookahead.specs.Tokens.{eof_at}
use Rattle.simple.proofs.OneLine.{Reading}
use Rattle.simple.proofs.simples.Given as goal

abbrev pub invariant-loop-n : goal.invariant-loop-n
invariant-loop-n l = Reading l.src l.toks l.left l.initial.st l.initial.tree l.gathered l.st l.tree

abbrev pub decreases-loop-n : goal.decreases-loop-n
decreases-loop-n l = eof_at l.toks - l.st.at.0
