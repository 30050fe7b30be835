-- `xid::row::within` meets its contract: its three tests are those of the three ranges.
use mathlib.Core.Path.{◌≡◌, refl}
use mathlib.Core.Bool.{Bool, true, false, ◌||◌}
use Rattle.source.specs.Bytes.{between}
use Rattle.xid.specs.Ranges.{holds}
use Rattle.xid.proofs.row.within.Goals as goal

three : (a b d : Bool) → ((a || b) || d) ≡ (a || (b || (d || false)))
three true b d = refl
three false true d = refl
three false false true = refl
three false false false = refl

pub returns : goal.returns
unfolding holds
returns c =
    let r = c.args.row in
    let k = c.args.c in
    three (between r.0 r.1 k) (between r.2 r.3 k) (between r.4 r.5 k)
