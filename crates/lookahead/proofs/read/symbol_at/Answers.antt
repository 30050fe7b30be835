-- `lookahead::symbol_at` meets its contract.
use native.Mathlib.Omega.{arith}
use Rattle.std.proofs.lemmas.Bool.Decides.{nat_tests}
use Rattle.lookahead.specs.Tokens.{symbol_at}
use Rattle.lookahead.proofs.read.symbol_at.Goals as goal

pub returns-then-byte-eq116 : goal.returns-then-byte-eq116
unfolding symbol_at
returns-then-byte-eq116 c = grind (arith, nat_tests)

pub returns-else-code-eq-IDENTIFIER : goal.returns-else-code-eq-IDENTIFIER
unfolding symbol_at
returns-else-code-eq-IDENTIFIER c = grind (arith, nat_tests)
