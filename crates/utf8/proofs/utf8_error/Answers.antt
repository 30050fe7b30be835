use borrow.Author.Rules.{rules}
use mathlib.Core.Path.{refl, sym, ◌∙◌}
use Prim.Native.Nat.{◌+◌, ◌<◌}
use native.Mathlib.Omega.{arith}
use lib.ListN.{get_or, drop}
use Rattle.utf8.proofs.Rows.{length_is, no_length}
use Rattle.utf8.proofs.Lows.{is_low}
use Rattle.utf8.proofs.Rounds.{Kept, at_first, took_eight, took_low, still_none, took_sequence, stopped, finished}
use Rattle.utf8.proofs.utf8_error.Goals as goal

pub loop-i-init : goal.loop-i-init
loop-i-init c = at_first c.args.s.now

pub loop-i-2-init : goal.loop-i-2-init
loop-i-2-init c = (c.loop-i.invariant, search rules)

pub loop-i-2-smaller : goal.loop-i-2-smaller
loop-i-2-smaller c =
    let l = c.loop-i-2 in
    omega (arith, took_eight c.args.s.now l.i l.rounds l.invariant.0 (sym c.eight.ensures ∙ c.loop-i-2-test.true))

pub loop-i-2-preserved : goal.loop-i-2-preserved
loop-i-2-preserved c =
    let l = c.loop-i-2 in
    (took_eight c.args.s.now l.i l.rounds l.invariant.0 (sym c.eight.ensures ∙ c.loop-i-2-test.true), search rules)

pub loop-i-3-init : goal.loop-i-3-init
loop-i-3-init c = (c.loop-i-2.invariant.0, search rules, sym c.eight.ensures ∙ c.loop-i-2-test.false)

pub loop-i-3-preserved : goal.loop-i-3-preserved
loop-i-3-preserved c =
    let l = c.loop-i-3 in
    let low = is_low (get_or c.args.s.now l.i 0) c.if-s-i-lt128.true in
    (took_low c.args.s.now l.i l.rounds l.invariant.0 c.loop-i-3-test.true low l.invariant.2, search rules, still_none c.args.s.now l.i c.loop-i-3-test.true low l.invariant.2)

-- behind the sequence found at i
took : (c : goal.In-Some) → Kept c.args.s.now (c.loop-i-3.i + c.in-Some.n) (c.loop-i-3.rounds + 1) × (0 < c.in-Some.n)
took c =
    let l = c.loop-i-3 in
    let is = length_is c.sequence.result (drop l.i c.args.s.now) c.in-Some.n c.sequence.ensures c.in-Some.is in
    (took_sequence c.args.s.now l.i l.rounds l.invariant.0 c.in-Some.n c.if-i-s.true l.invariant.2 is.0 (λ z. omega (arith, is.1)), is.1)

pub returns-in_default : goal.returns-in_default
returns-in_default c =
    let l = c.loop-i-3 in
    let all = stopped c.args.s.now l.i l.rounds l.invariant.0 0 c.if-i-s.true l.invariant.2 (no_length c.sequence.result (drop l.i c.args.s.now) c.sequence.ensures c.in_default.is) refl in record { found_value = all.0; rounds_value = all.1 }

pub overflow_add-i-then-i-s : goal.overflow_add-i-then-i-s
overflow_add-i-then-i-s c = omega (arith, (took c).0)

pub overflow_add-rounds-then-i-s : goal.overflow_add-rounds-then-i-s
overflow_add-rounds-then-i-s c = omega (arith, c.loop-i-3.invariant.0.bounded, c.if-i-s.true)

pub loop-i-smaller-then-i-s : goal.loop-i-smaller-then-i-s
loop-i-smaller-then-i-s c = omega (arith, c.loop-i-3.invariant.1, c.loop-i-2.invariant.1, (took c).0, (took c).1)

pub loop-i-preserved-then-i-s : goal.loop-i-preserved-then-i-s
loop-i-preserved-then-i-s c = (took c).0

pub loop-i-preserved : goal.loop-i-preserved
loop-i-preserved c = c.loop-i-3.invariant.0

pub returns : goal.returns
returns c = let all = finished c.args.s.now c.loop-i.i c.loop-i.rounds c.loop-i.invariant c.loop-i-test.false in record { found_value = all.0; rounds_value = all.1 }
