-- `xid::table` meets its contract: antt computes that the rows of each class together are its definition.
use mathlib.Core.Path.{sym, ap}
use Rattle.xid.specs.Tables.{xid_start, xid_continue}
use Rattle.xid.specs.Classes.{table_of}
use Rattle.xid.proofs.table.Goals as goal

pub returns-in-Start : goal.returns-in-Start
unfolding xid_start
returns-in-Start c = ap table_of (sym c.in-Start.is)

pub returns-in-Continuation : goal.returns-in-Continuation
unfolding xid_continue
returns-in-Continuation c = ap table_of (sym c.in-Continuation.is)
