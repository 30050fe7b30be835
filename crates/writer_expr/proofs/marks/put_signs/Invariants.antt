-- `writer_expr::marks::put_signs` meets its contract.
use Rattle.writer_expr.specs.Forms.{signs}
use Rattle.writing.specs.Wrote.{Wrote}
use Prim.Native.Nat.{◌-◌, ◌≤◌}
use Rattle.writer_expr.proofs.marks.put_signs.Given as goal

abbrev pub invariant-loop-k : goal.invariant-loop-k
invariant-loop-k l = (l.j ≤ l.k) × (l.k ≤ l.end) × Wrote (signs l.tree l.j (l.k - l.j)) l.initial.back l.back
