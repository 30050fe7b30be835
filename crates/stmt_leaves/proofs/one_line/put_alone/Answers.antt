-- `stmt_leaves::put_alone` does the action `alone`.
use mathlib.Core.Path.{refl}
use native.Mathlib.Omega.{arith}
use Rattle.pyhyeon.specs.Machine.{number}
use Rattle.pyhyeon.specs.Action.{perform}
use Rattle.stmt_leaves.proofs.Acts.{opened_wrote}
use Rattle.stmt_leaves.proofs.one_line.put_alone.Goals as goal

pub returns : goal.returns
unfolding perform number
returns c src = opened_wrote c.requires src (rw c.of.ensures at c.put_opened.ensures) (let h = c.requires.some in omega arith) (λ vs. refl)
