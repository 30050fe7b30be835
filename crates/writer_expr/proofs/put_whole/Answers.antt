-- `writer_expr::put_whole` meets its contract.
use Rattle.writer_expr.proofs.Tuples.{put_as, whole_empty, whole_other}
use Rattle.writer_expr.proofs.Parts.{held}
use native.Mathlib.Omega.{arith}
use mathlib.Core.Path.{sym, ◌∙◌}
use Rattle.writer_expr.proofs.put_whole.Goals as goal

pub kind_at-requires : goal.kind_at-requires
kind_at-requires c =
    held c.requires.stands

pub returns-then-kind_at-ne-TUPLE : goal.returns-then-kind_at-ne-TUPLE
returns-then-kind_at-ne-TUPLE c =
    λ b x s. put_as (whole_other _ _ _ (λ h. c.if-kind_at-ne-TUPLE.true (c.kind_at.ensures ∙ h)) s) (c.put_expr.ensures b x s)

pub word_at-requires : goal.word_at-requires
word_at-requires c =
    let h = held c.requires.stands in (h.0, h.1, omega arith)

pub returns-then-word_at : goal.returns-then-word_at
returns-then-word_at c =
    λ b x s. put_as (whole_empty _ _ _ (sym c.kind_at.ensures ∙ c.if-kind_at-ne-TUPLE.false) s c.word_at.ensures c.if-word_at.true) (c.put_expr-then-word_at.ensures b x s)

pub put_inside-requires : goal.put_inside-requires
put_inside-requires c =
    record { some = c.requires; tuple = (sym c.kind_at.ensures ∙ c.if-kind_at-ne-TUPLE.false, λ h. c.if-word_at.false (c.word_at.ensures ∙ h)) }
