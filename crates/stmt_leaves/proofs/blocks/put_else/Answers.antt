-- `stmt_leaves::put_else` does the action `else`.
use mathlib.Core.Path.{refl}
use Rattle.pyhyeon.specs.Machine.{number}
use Rattle.pyhyeon.specs.Action.{perform}
use Rattle.stmt_leaves.proofs.Acts.{opened_wrote}
use Rattle.stmt_leaves.proofs.blocks.put_else.Goals as goal

pub returns : goal.returns
unfolding perform number
returns c src = opened_wrote c.requires.spot src (rw c.of.ensures at c.put_opened.ensures) c.requires.keyword_lt_at (λ vs. refl)
