use Rattle.std.proofs.Common.{◌≡◌, refl, [], ◌∷◌, arith}
use Rattle.token.specs.Code as code
use Rattle.pyhyeon.specs.Tables.{first, first_simple}
use Rattle.lookahead.proofs.Tests.{learnt}
use Rattle.leaves.specs.Contract.{a_node, read}
use Rattle.joint.proofs.Chain.{handed_on, part_stop, not_called}
use Rattle.joint.proofs.Counts.{Came}
use Rattle.joint.proofs.Taken.{Taken, taken_tested}
use Rattle.simple.proofs.Gathering.{gathering_starts}
use Rattle.simple.proofs.OneLine.{item, simples_stop, simples_came, simples_room, simples_end, simples_shut, simples_goes}
use Rattle.simple.proofs.simples.Goals as goal
use Rattle.simple.proofs.simples.Goals.{In_ok-n, Else-not-is_symbol}

-- that a turn has read a Simple, and what comes of it
is_read : (c : In_ok-n) → c.rule_simple.result ≡ read c.in_ok-n.field-0.0 c.in_ok-n.field-0.1
is_read c = c.in_ok-n.was

came : (c : In_ok-n) → Came c.args.src.now c.args.toks.now 9 a_node c.loop-n.st c.in_ok-n.field-0.0 c.in_ok-n.field-0.1
came c = simples_came c.loop-n.invariant c.rule_simple.ensures.rules (is_read c)

-- where `;` stands behind it
semicolon : (c : Else-not-is_symbol) → Taken c.args.src.now c.args.toks.now (code.Semicolon ∷ []) c.in_ok-n.field-0.1
semicolon c =
    let e : c.rule_simple.result ≡ read c.in_ok-n.field-0.0 c.in_ok-n.field-0.1 = c.in_ok-n.was in
    let g = simples_came c.loop-n.invariant c.rule_simple.ensures.rules e in
    taken_tested (code.Semicolon ∷ []) refl refl c.loop-n.invariant.ready.tokens g.here g.used c.if-not-is_symbol.false c.is_symbol.ensures c.symbol_at-in-loop-n.ensures

pub returns-then-not-begins_simple : goal.returns-then-not-begins_simple
unfolding first
returns-then-not-begins_simple c =
    let r = c.requires in
    let b = learnt first_simple c.if-not-begins_simple.true c.begins_simple.ensures c.symbol_at.ensures in
    record { comes = λ vs. part_stop _ (not_called r.here r.used b refl) refl }

pub loop-n-init : goal.loop-n-init
unfolding first
loop-n-init c =
    let b = learnt first_simple c.if-not-begins_simple.false c.begins_simple.ensures c.symbol_at.ensures in
    gathering_starts {item = item} c.requires (record { seen = b })

pub append-first-requires-clause-nodes_in_bounds : goal.append-first-requires-clause-nodes_in_bounds
append-first-requires-clause-nodes_in_bounds c =
    simples_room c.loop-n.invariant c.rule_simple.ensures.rules (is_read (goal.at.append-first-requires-clause-nodes_in_bounds c).In_ok-n) c.rule_simple.auto.tree

pub symbol_at-requires-in-loop-n-clause-at_bound : goal.symbol_at-requires-in-loop-n-clause-at_bound
symbol_at-requires-in-loop-n-clause-at_bound c = (came (goal.at.symbol_at-requires-in-loop-n-clause-at_bound c).In_ok-n).here

pub line_end-requires-clause-at_bound : goal.line_end-requires-clause-at_bound
line_end-requires-clause-at_bound c =
    let v = came (goal.at.line_end-requires-clause-at_bound c).In_ok-n in
    (v.here, v.used)

pub returns-then-not-is_symbol : goal.returns-then-not-is_symbol
returns-then-not-is_symbol c =
    let r = c.rule_simple.ensures in
    let j = c.append-first.ensures _ _ in
    let h = learnt (code.Semicolon ∷ []) c.if-not-is_symbol.true c.is_symbol.ensures c.symbol_at-in-loop-n.ensures in
    record { comes = λ vs. simples_end c.loop-n.invariant r.rules (is_read (goal.at.returns-then-not-is_symbol c).In_ok-n) j r.newest h (c.line_end.ensures _ _) vs }

pub past-on-requires : goal.past-on-requires
past-on-requires c =
    let e = semicolon (goal.at.past-on-requires c).Else-not-is_symbol in
    omega (arith, e.inside, e.tokens.few)

pub symbol_at-requires-in-loop-n-2-clause-at_bound : goal.symbol_at-requires-in-loop-n-2-clause-at_bound
symbol_at-requires-in-loop-n-2-clause-at_bound c = rw c.past-on.ensures (semicolon (goal.at.symbol_at-requires-in-loop-n-2-clause-at_bound c).Else-not-is_symbol).inside

pub line_end-requires-then-not-begins_simple-2-clause-at_bound : goal.line_end-requires-then-not-begins_simple-2-clause-at_bound
line_end-requires-then-not-begins_simple-2-clause-at_bound c =
    let e = semicolon (goal.at.line_end-requires-then-not-begins_simple-2-clause-at_bound c).Else-not-is_symbol in
    rw c.past-on.ensures (e.inside, e.used)

pub returns-then-not-begins_simple-2 : goal.returns-then-not-begins_simple-2
returns-then-not-begins_simple-2 c =
    let r = c.rule_simple.ensures in
    let j = c.append-first.ensures _ _ in
    let g = learnt first_simple c.if-not-begins_simple-2.true c.begins_simple-in-loop-n.ensures (rw c.past-on.ensures at c.symbol_at-in-loop-n-2.ensures) in
    record { comes = λ vs. simples_shut c.loop-n.invariant r.rules (is_read (goal.at.returns-then-not-begins_simple-2 c).In_ok-n) j r.newest (semicolon (goal.at.returns-then-not-begins_simple-2 c).Else-not-is_symbol) g ((rw c.past-on.ensures at c.line_end-then-not-begins_simple-2.ensures) _ _) vs }

pub loop-n-smaller : goal.loop-n-smaller
loop-n-smaller c =
    rw c.past-on.ensures (omega (arith, (came (goal.at.loop-n-smaller c).In_ok-n).on, (semicolon (goal.at.loop-n-smaller c).Else-not-is_symbol).inside))

pub loop-n-preserved : goal.loop-n-preserved
loop-n-preserved c =
    let j = c.append-first.ensures _ _ in
    let g = learnt first_simple c.if-not-begins_simple-2.false c.begins_simple-in-loop-n.ensures (rw c.past-on.ensures at c.symbol_at-in-loop-n-2.ensures) in
    rw c.past-on.ensures (simples_goes c.loop-n.invariant c.rule_simple.ensures.rules (is_read (goal.at.loop-n-preserved c).In_ok-n) j c.rule_simple.auto.tree c.append-first.auto.tree (semicolon (goal.at.loop-n-preserved c).Else-not-is_symbol) g)

pub returns-in_err-n : goal.returns-in_err-n
returns-in_err-n c =
    rw (handed_on _ c.from_residual.ensures.1) (record { comes = λ vs. simples_stop c.loop-n.invariant c.rule_simple.ensures.rules c.in_err-n.was vs })
