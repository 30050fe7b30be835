-- `lookahead::skip_while` meets its contract: a turn passes one symbol that the test lets through. That is no Eof, so each turn stays before it. The measure
-- is how many tokens there are before Eof.
use Prim.Native.Nat.{◌-◌}
use mathlib.Core.Bool.{true}
use Rattle.lookahead.specs.Tokens.{eof_at}
use Rattle.lookahead.specs.Run.{Passed}
use Rattle.lookahead.proofs.skip.skip_while.Given as goal

abbrev pub invariant-loop-t : goal.invariant-loop-t
invariant-loop-t g l = Passed (λ (c : _). goal.F-post g l.test c true) l.src l.toks l.fn.at.0 l.t.0

abbrev pub decreases-loop-t : goal.decreases-loop-t
decreases-loop-t g l = eof_at l.toks - l.t.0
