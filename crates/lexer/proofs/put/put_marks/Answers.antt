use native.Mathlib.Omega.{arith}
use mathlib.Core.Path.{sym, ap, ◌∙◌}
use mathlib.Core.List.{List}
use Prim.Native.Nat.{ℕ, ◌+◌, ◌-◌, ◌*◌}
use lib.ListN.{replicate}
use lib.Seq.{sets}
use Rattle.lexer.specs.Scan.{mark}
use Rattle.lexer.specs.Words.{words}
use Rattle.lexer.proofs.Writing.{marks_more}
use Rattle.lexer.proofs.put.put_marks.Goals as goal

pub loop-at-preserved : goal.loop-at-preserved
loop-at-preserved c =
    let a = c.args in
    let l = c.loop-at in
    let test = c.loop-at-test.true in (
      c.put_token.auto.tokens ∙ l.invariant.0,
      ap (λ (x : List ℕ). sets x (3 * (l.at + 1)) (words (replicate (a.count + a.n - (l.at + 1)) (mark a.code a.start a.end)))) c.put_token.ensures
          ∙ sym (marks_more l.tokens l.at (a.count + a.n - l.at) (a.count + a.n - (l.at + 1)) a.code a.start a.end (omega arith))
          ∙ l.invariant.1,
    )
