-- `utf8::character::decode` meets its contract: the bytes of a sequence stand within the slice, and its length says how their bits are joined.
use mathlib.Core.Path.{◌≡◌, sym}
use native.Mathlib.Omega.{arith}
use Prim.Native.Nat.{◌-◌, ◌<◌, ◌≤◌}
use lib.ListN.{length, drop}
use Rattle.utf8.specs.Table.{sequence_length}
use Rattle.utf8.proofs.Rows.{length_is, no_length, sequence_within}
use Rattle.utf8.proofs.Codes.{at_most_four, code_one, code_two, code_three, code_four}
use Rattle.utf8.proofs.character.decode.Goals as goal
use Rattle.utf8.proofs.character.decode.Goals.{In_ok-len}

-- the length is the sequence's, which ends within the slice
is : (c : In_ok-len) → (c.in_ok-len.len ≡ sequence_length (drop c.args.i c.args.s.now)) × (0 < c.in_ok-len.len)
is c = length_is c.sequence.result (drop c.args.i c.args.s.now) _ c.sequence.ensures c.in_ok-len.was

within : (c : In_ok-len) → c.in_ok-len.len ≤ length c.args.s.now - c.args.i
within c = sequence_within c.args.s.now c.args.i _ (is c).0

pub returns-in_err-len : goal.returns-in_err-len
returns-in_err-len c = rw c.from_residual.ensures (sym (no_length c.sequence.result (drop c.args.i c.args.s.now) c.sequence.ensures c.in_err-len.was))

pub returns-then-len-eq1 : goal.returns-then-len-eq1
returns-then-len-eq1 c =
    let s = c.args.s.now in
    let p = (goal.at.returns-then-len-eq1 c).In_ok-len in
    record { code_is = rw c.from-a.ensures (code_one s _ _ (is p).0 c.if-len-eq1.true c.requires); len_is = (is p).0; begins = (is p).1; within = within p }

pub bounds-s-i-2 : goal.bounds-s-i-2
bounds-s-i-2 c = let p = (goal.at.bounds-s-i-2 c).In_ok-len in omega (arith, (is p).1, within p)

pub returns-then-len-eq2 : goal.returns-then-len-eq2
returns-then-len-eq2 c =
    let s = c.args.s.now in
    let p = (goal.at.returns-then-len-eq2 c).In_ok-len in
    record { code_is = rw (c.from-a.ensures, c.from-b.ensures) (code_two s _ _ (is p).0 c.if-len-eq2.true (omega (arith, (is p).1, within p))); len_is = (is p).0; begins = (is p).1; within = within p }

pub bounds-s-i-3 : goal.bounds-s-i-3
bounds-s-i-3 c = let p = (goal.at.bounds-s-i-3 c).In_ok-len in omega (arith, (is p).1, within p)

pub returns-then-len-eq3 : goal.returns-then-len-eq3
returns-then-len-eq3 c =
    let s = c.args.s.now in
    let p = (goal.at.returns-then-len-eq3 c).In_ok-len in
    record { code_is = rw (c.from-a.ensures, c.from-b.ensures, c.from-d.ensures) (code_three s _ _ (is p).0 c.if-len-eq3.true (omega (arith, (is p).1, within p))); len_is = (is p).0; begins = (is p).1; within = within p }

pub bounds-s-i-4 : goal.bounds-s-i-4
bounds-s-i-4 c = let p = (goal.at.bounds-s-i-4 c).In_ok-len in omega (arith, (is p).1, within p)

pub returns : goal.returns
returns c =
    let s = c.args.s.now in
    let p = (goal.at.returns c).In_ok-len in
    let all : c.in_ok-len.len ≡ 4 = omega (arith, (is p).0, (is p).1, at_most_four (drop c.args.i s)) in
    record { code_is = rw (c.from-a.ensures, c.from-b.ensures, c.from-d.ensures, c.from-e.ensures) (code_four s _ _ (is p).0 all (omega (arith, (is p).1, within p))); len_is = (is p).0; begins = (is p).1; within = within p }
