-- `writer_stmt::words::put_def` meets its contract.
use mathlib.Core.Path.{◌∙◌}
use Rattle.writer_expr.specs.Laid.{names}
use Rattle.writer_stmt.proofs.Said.{def_put}
use Rattle.writer_stmt.proofs.words.put_def.Goals as goal

pub put_list-names-requires : goal.put_list-names-requires
put_list-names-requires c =
    let s = c.requires.some_list in
    record { item = s.item; inline = s.inline; from = s.from; tree = s.tree; stands = s.stands; head = c.word_at-first.ensures ∙ s.head }

pub returns : goal.returns
returns c = λ b l s h. def_put _ l c.put_fixed.ensures (c.put_list-names.ensures _ names b l s (c.word_at-first.ensures ∙ h)) c.put_fixed-2.ensures c.put_name.ensures
