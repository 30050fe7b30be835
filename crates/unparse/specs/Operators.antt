-- The operators, by the codes of their tokens.
-- Assumes nothing.
use Rattle.std.specs.Prelude.{ℕ, cond, eqb}
use Rattle.token.specs.Code as token
use Rattle.unparse.specs.Trees.{Sign, Op, Comparison}

unfoldable pub sign_of : ℕ → Sign
sign_of c = cond (eqb c token.Not) Sign.negation (cond (eqb c token.Minus) Sign.negative Sign.positive)

unfoldable pub op_of : ℕ → Op
op_of c =
    cond (eqb c token.Or) Op.or (cond (eqb c token.And) Op.and (cond (eqb c token.Plus) Op.plus (cond (eqb c token.Minus) Op.minus
    (cond (eqb c token.Star) Op.star (cond (eqb c token.SlashSlash) Op.slashes (cond (eqb c token.Slash) Op.slash Op.percent))))))

unfoldable pub comparison_of : ℕ → Comparison
comparison_of c =
    cond (eqb c token.Less) Comparison.less (cond (eqb c token.LessEqual) Comparison.less_equal (cond (eqb c token.Greater) Comparison.greater
    (cond (eqb c token.GreaterEqual) Comparison.greater_equal (cond (eqb c token.EqualEqual) Comparison.equal Comparison.not_equal))))
