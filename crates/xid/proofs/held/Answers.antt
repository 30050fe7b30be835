use mathlib.Core.Path.{sym, ap, ◌∙◌}
use mathlib.Core.List.{List}
use Prim.Native.Nat.{ℕ, ◌+◌, ◌-◌, ◌/◌}
use native.Mathlib.Omega.{arith}
use Rattle.xid.specs.Ranges.{holds}
use Rattle.xid.specs.Classes.{table_of}
use Rattle.xid.proofs.Halving.{start, down, up, none, in_row, row_first, row_last}
use Rattle.xid.proofs.Tabled.{whole, blank, middle, row}
use Rattle.xid.proofs.Checked.{ascending_and_disjoint}
use Rattle.xid.proofs.held.Goals as goal

pub loop-lo-init : goal.loop-lo-init
loop-lo-init c = start _ _ _ (whole _ c.table-rows.ensures)

pub overflow_sub-mid : goal.overflow_sub-mid
overflow_sub-mid c = omega arith

pub overflow_add-mid : goal.overflow_add-mid
overflow_add-mid c = omega arith

pub offset_bounds-rows-mid : goal.offset_bounds-rows-mid
offset_bounds-rows-mid c = let m = middle _ c.table-rows.ensures c.loop-lo.invariant c.loop-lo-test.true in omega (arith, m, c.table-rows.type_inv.1)

pub bounds-rows-mid : goal.bounds-rows-mid
bounds-rows-mid c = middle _ c.table-rows.ensures c.loop-lo.invariant c.loop-lo-test.true

pub loop-lo-smaller-then-c-row : goal.loop-lo-smaller-then-c-row
loop-lo-smaller-then-c-row c = omega arith

pub loop-lo-preserved-then-c-row : goal.loop-lo-preserved-then-c-row
loop-lo-preserved-then-c-row c =
    let class = c.args.class in
    let b = c.loop-lo.invariant in
    let mid = c.loop-lo.lo + (c.loop-lo.hi - c.loop-lo.lo) / 2 in
    let e = row_first (table_of class) mid _ (row c.table-rows.result.now c.table-rows.ensures blank mid (middle _ c.table-rows.ensures b c.loop-lo-test.true)) in
    down _ _ (ascending_and_disjoint class) _ _ b _ (omega arith) (omega arith) (rw e at c.if-c-row.true)

pub overflow_add-lo : goal.overflow_add-lo
overflow_add-lo c = omega arith

pub loop-lo-smaller : goal.loop-lo-smaller
loop-lo-smaller c = omega arith

pub loop-lo-preserved : goal.loop-lo-preserved
loop-lo-preserved c =
    let class = c.args.class in
    let b = c.loop-lo.invariant in
    let mid = c.loop-lo.lo + (c.loop-lo.hi - c.loop-lo.lo) / 2 in
    let e = row_last (table_of class) mid _ (row c.table-rows.result.now c.table-rows.ensures blank mid (middle _ c.table-rows.ensures b c.loop-lo-test.true)) in
    up _ _ (ascending_and_disjoint class) _ _ b _ (omega arith) (omega arith) (rw e at c.if-row-c.true)

pub returns-else-row-c : goal.returns-else-row-c
returns-else-row-c c =
    let class = c.args.class in
    let b = c.loop-lo.invariant in
    let mid = c.loop-lo.lo + (c.loop-lo.hi - c.loop-lo.lo) / 2 in
    let is = row c.table-rows.result.now c.table-rows.ensures blank mid (middle _ c.table-rows.ensures b c.loop-lo-test.true) in
    let first = row_first (table_of class) mid _ is in
    let last = row_last (table_of class) mid _ is in
    c.within.ensures ∙ ap (λ (l : List ℕ). holds l c.args.c) is
    ∙ in_row (table_of class) c.args.c mid (ascending_and_disjoint class) (omega (arith, b.hi_le)) (rw first at c.if-c-row.false) (rw last at c.if-row-c.false)

pub returns : goal.returns
returns c = sym (none _ _ _ _ c.loop-lo.invariant c.loop-lo-test.false)
