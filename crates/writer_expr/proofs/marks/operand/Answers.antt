use mathlib.Core.Path.{◌≡◌, sym, ◌∙◌}
use Prim.Native.Nat.{◌+◌, ◌-◌}
use native.Mathlib.Omega.{arith}
use Rattle.ast.specs.Kind as kind
use Rattle.writer_expr.specs.Laid.{kind_at}
use Rattle.writer_expr.proofs.Signs.{run_more}
use Rattle.writer_expr.proofs.marks.operand.Goals as goal

pub loop-node-init : goal.loop-node-init
loop-node-init c = (omega arith, omega arith, λ k p q. absurd (omega arith))

pub returns-then-kind_at-ne-UNARY : goal.returns-then-kind_at-ne-UNARY
returns-then-kind_at-ne-UNARY c = (omega arith, omega arith, λ k p q. c.loop-node.invariant.2 k (omega arith) q)

pub loop-node-preserved : goal.loop-node-preserved
loop-node-preserved c =
    let tree = c.args.tree.now in
    let e : c.loop-node.node - 1 + 1 ≡ c.loop-node.node = omega arith in
    let u : kind_at tree (c.loop-node.node - 1 + 1) ≡ kind.Unary = sym c.kind_at.ensures ∙ c.if-kind_at-ne-UNARY.false in
    (omega arith, omega arith, run_more tree c.loop-node.invariant.2 (rw e at u))

pub returns : goal.returns
returns c = (omega arith, omega arith, λ k p q. c.loop-node.invariant.2 k (omega arith) q)
