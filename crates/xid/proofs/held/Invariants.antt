-- `xid::held` meets its contract: what lies before lo and from hi on is decided, and the rows from lo to hi become fewer.
use Prim.Native.Nat.{◌-◌}
use Rattle.xid.specs.Classes.{table_of}
use Rattle.xid.proofs.Halving.{Between}
use Rattle.xid.proofs.held.Given as goal

abbrev pub invariant-loop-lo : goal.invariant-loop-lo
invariant-loop-lo l = Between (table_of l.fn.class) l.c l.lo l.hi

abbrev pub decreases-loop-lo : goal.decreases-loop-lo
decreases-loop-lo l = l.hi - l.lo
