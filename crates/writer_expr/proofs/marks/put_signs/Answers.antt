use Rattle.writer_expr.proofs.Signs.{signs_none, signs_more}
use Rattle.writer_expr.specs.Levels.{sign_of}
use Rattle.writing.proofs.Writes.{nothing, then, same}
use Rattle.rendered.specs.Spelled.{spelled_fixed}
use native.Mathlib.Omega.{arith}
use Prim.Native.Nat.{ℕ}
use mathlib.Core.List.{[], ◌∷◌, ◌++◌}
use mathlib.Core.Path.{◌≡◌, sym, ap, ◌∙◌}
use Rattle.writer_expr.proofs.marks.put_signs.Goals as goal

pub loop-k-init : goal.loop-k-init
loop-k-init c = (omega arith, omega arith, same (sym (signs_none _ _)) (nothing _))

pub loop-k-preserved : goal.loop-k-preserved
loop-k-preserved c =
    let i = c.loop-k.invariant in
    let s = c.sign.ensures ∙ ap sign_of c.word_at.ensures in
    (omega arith, omega arith, same (sym (signs_more _ c.args.j c.loop-k.k i.0)) (then i.2 (same (ap (λ (k : ℕ). spelled_fixed k ++ 32 ∷ []) s) c.put_then_space.ensures)))

pub returns : goal.returns
returns c =
    let i = c.loop-k.invariant in
    let e : c.loop-k.k ≡ c.args.end = omega arith in
    same (rw e) i.2
