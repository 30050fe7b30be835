use Rattle.std.proofs.Common.{◌≡◌, ◌+◌, ◌-◌, ◌*◌, ◌∷◌, length, take, drop, arith}
use Rattle.std.proofs.Math.ListN.{length-set}
use Rattle.cases.specs.Hex.{unhexed}
use Rattle.cases.proofs.Pairs.{pair, none, one_byte, written, ended}
use Rattle.cases.proofs.hex.unhex.Goals as goal

pub loop-digits-preserved : goal.loop-digits-preserved
loop-digits-preserved c =
    let a = c.args in
    let l = c.loop-digits in
    let v = c.nibble.result * 16 + c.nibble-in-len2-up.result in
    let e = length-set l.out l.n v in
    let rest = take (length l.digits.now - 2) (drop 2 l.digits.now) in
    let p : unhexed l.digits.now ≡ v ∷ unhexed rest =
    rw (c.nibble.ensures.value, c.nibble-in-len2-up.ensures.value) (pair l.digits.now c.in-len2-up.len_at_least) in
    (omega (arith, e), omega (arith, e), one_byte a.hex.now a.out.now l.digits.now l.n l.out l.invariant.2 v rest (omega arith) p)

pub returns-in_default-clause-out_after : goal.returns-in_default-clause-out_after
returns-in_default-clause-out_after c =
    let l = c.loop-digits in
    let a = c.args in
    (written a.hex.now a.out.now l.digits.now l.n l.out l.invariant.2 (ended a.hex.now a.out.now l.digits.now l.n l.out l.invariant.2 (none l.digits.now c.in_default.len_below))).0

pub returns-in_default-clause-value : goal.returns-in_default-clause-value
returns-in_default-clause-value c =
    let l = c.loop-digits in
    let a = c.args in
    (written a.hex.now a.out.now l.digits.now l.n l.out l.invariant.2 (ended a.hex.now a.out.now l.digits.now l.n l.out l.invariant.2 (none l.digits.now c.in_default.len_below))).1
