-- `writer_expr::marks::operand` meets its contract.
use Prim.Native.Nat.{◌≤◌, ◌<◌}
use Rattle.writer_expr.proofs.Signs.{Run}
use Rattle.writer_expr.proofs.marks.operand.Given as goal

abbrev pub invariant-loop-node : goal.invariant-loop-node
invariant-loop-node l = (0 < l.node) × (l.node ≤ l.end) × Run l.tree l.node l.end
