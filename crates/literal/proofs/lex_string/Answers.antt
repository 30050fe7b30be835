-- `literal::lex_string` meets its contract.
use mathlib.Core.Path.{ap}
use native.Mathlib.Omega.{arith}
use Rattle.literal.specs.declared.Literal.TheVariants as L
use Rattle.literal.specs.Literal.{lex_string_lem}
use Rattle.literal.proofs.Unquoted.{shorter}
use Rattle.literal.proofs.lex_string.Goals as goal

pub overflow_cast-result : goal.overflow_cast-result
overflow_cast-result c =
    let s = c.args.s.now in
    record { fits = omega (arith, shorter s, c.decoded_len.ensures) }

pub returns : goal.returns
unfolding lex_string_lem
returns c = ap (L.String c.args.at) c.decoded_len.ensures
