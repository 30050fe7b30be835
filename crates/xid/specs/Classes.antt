-- The classes of characters that names are made of: "A name now begins with an XID_Start character or underscore and continues with XID_Continue (UAX #31 ..)"
-- (02, change 1). A character is its code point.
-- Assumes nothing.
use Rattle.std.specs.Prelude.{ℕ, Bool, List}
use Rattle.xid.specs.Tables.{xid_start, xid_continue}
use Rattle.xid.specs.Ranges.{holds}
use Rattle.xid.specs.declared.Class.{Class}
use Rattle.xid.specs.declared.Class.TheVariants.{Start, Continuation}

-- c is in XID_Start (DerivedCoreProperties.txt)
abbrev pub is_start_lem : ℕ → Bool
is_start_lem c = holds xid_start c

-- c is in XID_Continue (there)
abbrev pub is_continue_lem : ℕ → Bool
is_continue_lem c = holds xid_continue c

-- the table of a class, for private contracts
abbrev pub table_of : Class → List ℕ
table_of Start = xid_start
table_of Continuation = xid_continue
