-- The measures of the cycle, and what each member is given at a measure and asks below it. A measure is four times the number behind the last
-- node, and the member's rank: a call at the same node goes to a lower rank.
use Prim.Native.Nat.{ℕ, ◌+◌, ◌*◌, ◌≤◌}
use mathlib.Core.Path.{◌≡◌}
use Rattle.writer_stmt.specs.Lines.{Line}
use Rattle.unparse.specs.Levels.{X}
use Rattle.unparse.specs.Trees.{Item, a, list, Tree}
use Rattle.standard.specs.Bare.{head_b}
use Rattle.standard.specs.Plant.{plant}
use Rattle.writer_expr.specs.Laid.{Stands}
use Rattle.writer_stmt.proofs.Lists.{LeftOf}
use Rattle.standard.specs.Text as standard
use Rattle.writer_stmt.proofs.+put_lines.Given as goal

abbrev pub decreases-put_else : goal.decreases-put_else
decreases-put_else l = 4 * l.end + 2

abbrev pub decreases-put_if : goal.decreases-put_if
decreases-put_if l = 4 * l.end + 0

abbrev pub decreases-put_line : goal.decreases-put_line
decreases-put_line l = 4 * l.end + 1

abbrev pub decreases-put_lines : goal.decreases-put_lines
decreases-put_lines l = 4 * l.end + 2

abbrev pub invariant-put_lines-members : goal.invariant-put_lines-members
invariant-put_lines-members l = (l.e ≤ l.end) × ((i : Item) → Line (a i) → (b : ℕ) (ls : Tree (list i)) → Stands l.src l.text l.tree b ls l.end → l.first ≡ head_b b (plant ls) → LeftOf l.depth i l.src l.text l.tree (standard.text l.depth X ls) b l.first l.initial.back l.back l.e)

abbrev pub decreases-put_lines-members : goal.decreases-put_lines-members
decreases-put_lines-members l = l.e
