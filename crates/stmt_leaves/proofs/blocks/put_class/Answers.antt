-- `stmt_leaves::put_class` does the action `class`.
use mathlib.Core.Path.{refl}
use Rattle.pyhyeon.specs.Machine.{number}
use Rattle.pyhyeon.specs.Action.{perform}
use Rattle.stmt_leaves.proofs.Acts.{called_wrote}
use Rattle.stmt_leaves.proofs.blocks.put_class.Goals as goal

pub returns : goal.returns
unfolding perform number
returns c src = called_wrote c.requires.spot src c.put_called.ensures c.requires.keyword_lt_at.0 c.requires.keyword_lt_at.1 (λ vs. refl)
