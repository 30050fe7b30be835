-- `utf8::sequence::sequence` meets its contract: each arm is the rows of its first bytes.
use mathlib.Core.Path.{◌∙◌}
use mathlib.Core.List.{[], ◌∷◌}
use Prim.Native.Nat.{ℕ, zero-le}
use native.Mathlib.Omega.{arith}
use Rattle.source.proofs.Ranges.{at_each}
use Rattle.utf8.specs.Table.{rows}
use Rattle.utf8.proofs.Rows.{answered, keep, only, null, one_row, no_row, fits_one}
use Rattle.utf8.proofs.sequence.sequence.Goals as goal

pub returns-in-0-to-127 : goal.returns-in-0-to-127
unfolding rows
returns-in-0-to-127 c =
    let a = c.args in
    answered 1 _ (one_row a.s.now a.i c.requires [] (at_each (λ (x : ℕ). only (keep rows x) x []) 0 128 tt _ zero-le c.in-0-to-127.if-s-i-lt128-own.true))

pub returns-then-continues : goal.returns-then-continues
unfolding rows
returns-then-continues c =
    let a = c.args in
    answered 2 _ (one_row a.s.now a.i c.requires ((0x80, 0xBF) ∷ []) (at_each (λ (x : ℕ). only (keep rows x) x ((0x80, 0xBF) ∷ [])) 0xC2 30 tt _ c.in-194-to-223.if-this-lt194-own.false c.in-194-to-223.if-this-lt224-own.true) ∙ rw (fits_one 0x80 0xBF a.s.now a.i (omega arith), ← c.continues.ensures, c.if-continues.true))

pub returns-else-continues : goal.returns-else-continues
unfolding rows
returns-else-continues c =
    let a = c.args in
    answered 0 _ (one_row a.s.now a.i c.requires ((0x80, 0xBF) ∷ []) (at_each (λ (x : ℕ). only (keep rows x) x ((0x80, 0xBF) ∷ [])) 0xC2 30 tt _ c.in-194-to-223.if-this-lt194-own.false c.in-194-to-223.if-this-lt224-own.true) ∙ rw (fits_one 0x80 0xBF a.s.now a.i (omega arith), ← c.continues.ensures, c.if-continues.false))

pub returns-in-224-to-244 : goal.returns-in-224-to-244
returns-in-224-to-244 c = c.longer.ensures

pub returns-in_default : goal.returns-in_default
unfolding rows
returns-in_default c =
    let a = c.args in
    answered 0 _ (no_row a.s.now a.i c.requires (at_each (λ (x : ℕ). null (keep rows x)) 0x80 66 tt _ c.in_default.if-s-i-lt128-own.false c.in_default.if-this-lt194-own.true))

pub returns-in_default-2 : goal.returns-in_default-2
unfolding rows
returns-in_default-2 c =
    let a = c.args in
    answered 0 _ (no_row a.s.now a.i c.requires (at_each (λ (x : ℕ). null (keep rows x)) 0xF5 11 tt _ c.in_default.if-this-lt245-own.false (c.shared_slice_known-2-1.given a.i).fits))
