-- `writer_stmt::put_program` meets its contract.
use native.Mathlib.Omega.{arith}
use mathlib.Core.Path.{◌∙◌}
use Rattle.writer_expr.proofs.Tuples.{put_as}
use Rattle.writer_stmt.specs.Lines.{stmt}
use Rattle.writer_stmt.proofs.Program.{whole, some_whole}
use Rattle.writer_stmt.proofs.put_program.Goals as goal

pub word_at-first-requires : goal.word_at-first-requires
word_at-first-requires c =
    let some = c.requires in
    let v = whole _ _ _ some.stands in
    (v.there, some.stands.held, omega arith)

pub overflow_sub-nodes : goal.overflow_sub-nodes
overflow_sub-nodes c =
    let v = whole _ _ _ c.requires.stands in
    omega (arith, v.there)

pub put_lines-requires : goal.put_lines-requires
put_lines-requires c =
    let some = c.requires in
    let v = whole _ _ _ some.stands in
    let n = some.stands.few in
    record { some_lines = some_whole v c.word_at-first.ensures; few = omega arith }

pub returns : goal.returns
returns c =
    λ b x s. let v = whole _ _ _ s in put_as v.says (c.put_lines.ensures _ stmt _ _ v.stands (c.word_at-first.ensures ∙ v.head))
