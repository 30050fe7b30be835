-- Both tables pass their test and have as many code points as Unicode says, which antt computes over the whole of each.
-- Assumes nothing.
use mathlib.Core.Path.{◌≡◌, refl}
use Prim.Native.Nat.{ℕ, ◌*◌}
use mathlib.Core.Bool.{true}
use lib.Dec.{T}
use Rattle.xid.specs.Row.{frequent}
use Rattle.xid.specs.Ranges.{holds, apart, size, twice_sum}
use Rattle.xid.specs.Tables.{xid_start, xid_continue}
use Rattle.xid.specs.Classes.{table_of}
use Rattle.xid.specs.declared.Class.{Class}
use Rattle.xid.specs.declared.Class.TheVariants.{Start, Continuation}
use Rattle.xid.proofs.Halving.{held_inside}

-- "ascending and disjoint"
pub ascending_and_disjoint : (k : Class) → T (apart 0 (table_of k))
unfolding apart xid_start xid_continue
ascending_and_disjoint Start = tt
ascending_and_disjoint Continuation = tt

-- "# Total code points: 136322" (DerivedCoreProperties.txt, below XID_Start)
pub start_size : size xid_start ≡ 136322
unfolding size xid_start
start_size = refl

-- "# Total code points: 139463" (there, below XID_Continue)
pub continue_size : size xid_continue ≡ 139463
unfolding size xid_continue
continue_size = refl

-- the code points c for which CPython 3.12 says `chr(c).isidentifier()`, but for the underscore
pub start_sum : twice_sum xid_start ≡ 2 * 14785822450
unfolding twice_sum xid_start
start_sum = refl

-- and those for which it says `("a" + chr(c)).isidentifier()`
pub continue_sum : twice_sum xid_continue ≡ 2 * 15131785619
unfolding twice_sum xid_continue
continue_sum = refl

-- what needs no search
pub frequent_held : (k : Class) (c : ℕ) → holds frequent c ≡ true → holds (table_of k) c ≡ true
unfolding xid_start xid_continue
frequent_held Start c e = held_inside frequent xid_start c refl e
frequent_held Continuation c e = held_inside frequent xid_continue c refl e
