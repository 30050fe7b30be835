-- `xid::is_continue` meets its contract: the frequent letters are in the table, and for all else the search decides.
use mathlib.Core.Path.{sym, ◌∙◌}
use Rattle.xid.specs.declared.Class.TheVariants.{Continuation}
use Rattle.xid.proofs.Checked.{frequent_held}
use Rattle.xid.proofs.is_continue.Goals as goal

pub returns-then-is_frequent : goal.returns-then-is_frequent
returns-then-is_frequent c = sym (frequent_held Continuation c.args.c (sym c.is_frequent.ensures ∙ c.if-is_frequent.true))
