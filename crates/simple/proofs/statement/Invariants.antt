-- `simple::statement` meets its contract: one t, or a target and its value.
use Prim.Native.Nat.{◌-◌}
use Rattle.lookahead.specs.Tokens.{eof_at}
use Rattle.simple.proofs.Stating.{Stating}
use Rattle.simple.proofs.statement.Given as goal

abbrev pub invariant-loop-n : goal.invariant-loop-n
invariant-loop-n l = Stating l.src l.toks l.left l.initial.role l.initial.st l.initial.tree l.role l.st l.tree

abbrev pub decreases-loop-n : goal.decreases-loop-n
decreases-loop-n l = eof_at l.toks - l.st.at.0
