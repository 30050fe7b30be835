-- `xid::is_start` meets its contract: the frequent letters are in the table, and for all else the search decides.
use mathlib.Core.Path.{sym, ◌∙◌}
use Rattle.xid.specs.declared.Class.TheVariants.{Start}
use Rattle.xid.proofs.Checked.{frequent_held}
use Rattle.xid.proofs.is_start.Goals as goal

pub returns-then-is_frequent : goal.returns-then-is_frequent
returns-then-is_frequent c = sym (frequent_held Start c.args.c (sym c.is_frequent.ensures ∙ c.if-is_frequent.true))
