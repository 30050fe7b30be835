-- `stmt_leaves::put_elif` does the action `elif`.
use mathlib.Core.Path.{refl}
use Rattle.pyhyeon.specs.Machine.{number}
use Rattle.pyhyeon.specs.Action.{perform}
use Rattle.stmt_leaves.proofs.Acts.{opened_wrote}
use Rattle.stmt_leaves.proofs.blocks.put_elif.Goals as goal

pub returns : goal.returns
unfolding perform number
returns c src = opened_wrote c.requires.spot src (rw c.of-content.ensures at c.put_opened.ensures) c.requires.keyword_lt_at (λ vs. refl)
