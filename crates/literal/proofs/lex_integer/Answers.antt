-- `literal::lex_integer` meets its contract: the value that the token has, as a literal.
use mathlib.Core.Path.{ap, ◌∙◌}
use Rattle.literal.specs.declared.Literal.TheVariants as L
use Rattle.literal.specs.Literal.{of_integer, lex_integer_lem}
use Rattle.literal.proofs.Mapped.{mapped}
use Rattle.literal.proofs.lex_integer.Goals as goal

pub returns : goal.returns
unfolding lex_integer_lem
returns c = mapped L.Int _ _ c.map.ensures.cases ∙ ap of_integer c.int_value.ensures
