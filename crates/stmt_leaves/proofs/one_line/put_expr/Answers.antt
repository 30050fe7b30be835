-- `stmt_leaves::put_expr` does the action `expr`.
use mathlib.Core.Path.{refl}
use Rattle.pyhyeon.specs.Machine.{number}
use Rattle.pyhyeon.specs.Action.{perform}
use Rattle.stmt_leaves.proofs.Acts.{begun_wrote}
use Rattle.stmt_leaves.proofs.one_line.put_expr.Goals as goal

pub returns : goal.returns
unfolding perform number
returns c src = begun_wrote c.requires.spot src (rw c.of.ensures at c.put_begun.ensures) c.requires.n_lt_nodes (λ vs. refl)
