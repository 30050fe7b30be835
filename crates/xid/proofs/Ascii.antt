-- Below 128 the classes are those of ASCII, shown by one test at each of the 128 code points: so a byte below 128 needs no table.
-- Assumes nothing.
use mathlib.Core.Path.{◌≡◌}
use mathlib.Core.Bool.{Bool, true, false, ◌||◌}
use Prim.Native.Nat.{ℕ, ◌<◌, zero-le}
use lib.Dec.{eqb}
use borrow.Author.Tests.{not-true}
use Rattle.source.specs.Bytes.{digit, letter}
use Rattle.source.proofs.Bools.{same}
use Rattle.source.proofs.Ranges.{at_each}
use Rattle.xid.specs.Ranges.{holds}
use Rattle.xid.specs.Tables.{xid_start, xid_continue}
use Rattle.xid.specs.Classes.{is_start_lem, is_continue_lem}

alike : (a b : Bool) → same a b ≡ true → b ≡ a
alike true b e = e
alike false b e = not-true b e

-- a to z, A to Z
pub ascii_start : (c : ℕ) → c < 128 → is_start_lem c ≡ letter c
unfolding holds xid_start
ascii_start c h = alike (letter c) (is_start_lem c) (at_each (λ (x : ℕ). same (letter x) (is_start_lem x)) 0 128 tt c zero-le h)

-- these, the underscore and the digits
pub ascii_continue : (c : ℕ) → c < 128 → is_continue_lem c ≡ (letter c || eqb c 95 || digit c)
unfolding holds xid_continue
ascii_continue c h =
    alike (letter c || eqb c 95 || digit c) (is_continue_lem c)
    (at_each (λ (x : ℕ). same (letter x || eqb x 95 || digit x) (is_continue_lem x)) 0 128 tt c zero-le h)
