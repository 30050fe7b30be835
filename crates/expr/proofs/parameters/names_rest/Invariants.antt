-- `expr::names_rest` meets its contract: the rest of a list of names.
use Rattle.expr.specs.Parts.{name}
use Rattle.grammar.specs.Grammar.{tail}
use Rattle.token.specs.Code.{Comma}
use Rattle.lookahead.specs.Tokens.{eof_at}
use Rattle.pyhyeon.specs.Rules.{more}
use Prim.Native.Nat.{ℕ, ◌-◌}
use Rattle.joint.proofs.Loops.{Listing}
use Rattle.expr.proofs.parameters.names_rest.Given as goal

abbrev pub invariant-loop-last : goal.invariant-loop-last
invariant-loop-last l = (room : ℕ) → Listing l.src l.toks room (tail Comma (more name)) l.first.0 l.initial.last.0 l.initial.st l.initial.tree l.last.0 l.st l.tree

abbrev pub decreases-loop-last : goal.decreases-loop-last
decreases-loop-last l = eof_at l.toks - l.st.at.0
