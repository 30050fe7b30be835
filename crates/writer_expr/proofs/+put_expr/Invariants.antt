-- The measures and the invariants of the cycle. A measure is 32 times the number behind the root, four
-- times the rule that is asked for, and the member's rank: a call at the same root is for an earlier rule, or goes to a lower rank.
use Prim.Native.Nat.{ℕ, ◌+◌, ◌*◌, ◌≤◌}
use Rattle.writer_expr.specs.Laid.{Stands, Inline}
use mathlib.Core.Path.{◌≡◌}
use Rattle.writer_expr.specs.Put.{Left}
use Rattle.writer_expr.specs.Levels.{number, text_at, text_of}
use Rattle.unparse.specs.Trees.{a, Expr, Tree, Item, some}
use Rattle.writer_expr.proofs.Lists.{LeftOf}
use Rattle.standard.specs.Plant.{plant}
use Rattle.standard.specs.Bare.{head_b}
use Rattle.writer_expr.proofs.+put_expr.Given as goal

abbrev pub decreases-parens : goal.decreases-parens
decreases-parens l = 32 * l.end + 5

abbrev pub decreases-put_binary : goal.decreases-put_binary
decreases-put_binary l = 32 * l.end + 1

abbrev pub decreases-put_call : goal.decreases-put_call
decreases-put_call l = 32 * l.end + 1

abbrev pub decreases-put_enclosed : goal.decreases-put_enclosed
decreases-put_enclosed l = 32 * l.end + 1

abbrev pub decreases-put_expr : goal.decreases-put_expr
decreases-put_expr l = 32 * l.end + 4 * number l.least + 3

abbrev pub decreases-put_index : goal.decreases-put_index
decreases-put_index l = 32 * l.end + 1

abbrev pub decreases-put_inside : goal.decreases-put_inside
decreases-put_inside l = 32 * l.end + 0

abbrev pub decreases-put_lambda : goal.decreases-put_lambda
decreases-put_lambda l = 32 * l.end + 1

abbrev pub decreases-put_link : goal.decreases-put_link
decreases-put_link l = 32 * l.end + 1

abbrev pub decreases-put_list : goal.decreases-put_list
decreases-put_list l = 32 * l.end + 6

abbrev pub decreases-put_member : goal.decreases-put_member
decreases-put_member l = 32 * l.end + 4

abbrev pub decreases-put_members : goal.decreases-put_members
decreases-put_members l = 32 * l.end + 5

abbrev pub decreases-put_pair : goal.decreases-put_pair
decreases-put_pair l = 32 * l.end + 3

abbrev pub decreases-put_tuple : goal.decreases-put_tuple
decreases-put_tuple l = 32 * l.end + 1

abbrev pub decreases-put_unary : goal.decreases-put_unary
decreases-put_unary l = 32 * l.end + 1

abbrev pub decreases-step : goal.decreases-step
decreases-step l = 32 * l.end + 4 * number l.least + 2

abbrev pub invariant-put_expr-loop-rule : goal.invariant-put_expr-loop-rule
invariant-put_expr-loop-rule l = (32 * l.e + 4 * number l.l ≤ 32 * l.end + 4 * number l.fn.least) × ((b : ℕ) (x : Tree (a Expr)) → Stands l.src l.text l.tree b x l.end → Left l.src l.text l.tree (text_at (number l.fn.least) x) b l.initial.back l.back l.e (number l.l))

abbrev pub decreases-put_expr-loop-rule : goal.decreases-put_expr-loop-rule
decreases-put_expr-loop-rule l = l.e

abbrev pub invariant-put_members-loop-end : goal.invariant-put_members-loop-end
invariant-put_members-loop-end l = (l.e ≤ l.end) × ((i : Item) → Inline i → (b : ℕ) (ls : Tree (some i)) → Stands l.src l.text l.tree b ls l.end → l.first ≡ head_b b (plant ls) → LeftOf i l.src l.text l.tree (text_of ls) b l.first l.initial.back l.back l.e)

abbrev pub decreases-put_members-loop-end : goal.decreases-put_members-loop-end
decreases-put_members-loop-end l = l.e
