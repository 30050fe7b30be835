-- `literal::lex_float` meets its contract: the value that the token has, as a literal.
use mathlib.Core.Path.{ap, ◌∙◌}
use Rattle.literal.specs.declared.Literal.TheVariants as L
use Rattle.literal.specs.Literal.{of_decimal, lex_float_lem}
use Rattle.literal.proofs.Mapped.{mapped}
use Rattle.literal.proofs.lex_float.Goals as goal

pub returns : goal.returns
unfolding lex_float_lem
returns c = mapped L.Float _ _ c.map.ensures.cases ∙ ap of_decimal c.float_value.ensures
