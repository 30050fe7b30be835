use Rattle.token.specs.Code.{Comma}
use Rattle.leaves.specs.Contract.{past}
use Rattle.pyhyeon.specs.Rules.{names}
use Rattle.expr.proofs.Low.{low_names}
use Rattle.joint.proofs.Taken.{Taken, ready_tested, next_tested}
use Rattle.joint.proofs.Loops.{ready_of}
use Rattle.joint.proofs.Ends.{list_last, wrote_then, one_then, changed_then}
use Rattle.joint.proofs.Chain.{tok_then, flat, list_on, list_shut, list_end}
use Rattle.lookahead.proofs.Tests.{learnt}
use Rattle.token.specs.Code as code
use Rattle.grammar.specs.Descent.{null, begins}
use mathlib.Core.List.{[], ◌∷◌}
use mathlib.Core.Path.{refl}
use native.Mathlib.Omega.{arith}
use Rattle.expr.proofs.parameters.names_rest.Goals as goal
use Rattle.expr.proofs.parameters.names_rest.Goals.{After-past-on, Else-not-is_name}

pub symbol_at-requires-clause-at_bound : goal.symbol_at-requires-clause-at_bound
symbol_at-requires-clause-at_bound c = (c.loop-last.invariant 0).ready.here

pub past-on-requires : goal.past-on-requires
past-on-requires c =
    let i = c.loop-last.invariant 0 in
    omega arith

-- where a comma stands
comma : (c : After-past-on) → Taken c.args.src.now c.args.toks.now (code.Comma ∷ []) c.loop-last.st
comma c = ready_tested (code.Comma ∷ []) refl refl (c.loop-last.invariant 0).ready c.loop-last-test.true c.is_symbol.ensures c.symbol_at.ensures

-- where a name stands behind it
named : (c : Else-not-is_name) → Taken c.args.src.now c.args.toks.now names (past c.loop-last.st)
named c = next_tested names refl refl (ready_tested (code.Comma ∷ []) refl refl (c.loop-last.invariant 0).ready c.loop-last-test.true c.is_symbol.ensures c.symbol_at.ensures) c.if-not-is_name.false c.is_name.ensures (rw c.past-on.ensures at c.symbol_at-in-loop-last.ensures)

pub symbol_at-requires-in-loop-last-clause-at_bound : goal.symbol_at-requires-in-loop-last-clause-at_bound
symbol_at-requires-in-loop-last-clause-at_bound c = rw c.past-on.ensures (comma (goal.at.symbol_at-requires-in-loop-last-clause-at_bound c).After-past-on).inside

pub past-requires : goal.past-requires
past-requires c =
    let i = c.loop-last.invariant 0 in
    rw c.past-on.ensures (omega arith)

pub put_named-requires : goal.put_named-requires
put_named-requires c =
    let i = c.loop-last.invariant 0 in
    let m = comma (goal.at.put_named-requires c).After-past-on in
    let n = named (goal.at.put_named-requires c).Else-not-is_name in
    rw (c.past.ensures, c.past-on.ensures) (omega arith)

pub link-requires : goal.link-requires
link-requires c =
    let i = c.loop-last.invariant 0 in
    let m = comma (goal.at.link-requires c).After-past-on in
    let n = named (goal.at.link-requires c).Else-not-is_name in
    let w = rw (c.past.ensures, c.past-on.ensures) at (c.put_named.ensures []) in
    rw w.after (omega (arith, c.put_named.auto.tree))

pub loop-last-smaller : goal.loop-last-smaller
loop-last-smaller c =
    let i = c.loop-last.invariant 0 in
    let m = comma (goal.at.loop-last-smaller c).After-past-on in
    let n = named (goal.at.loop-last-smaller c).Else-not-is_name in
    let w = rw (c.past.ensures, c.past-on.ensures) at (c.put_named.ensures []) in
    rw w.after (omega arith)

pub loop-last-preserved : goal.loop-last-preserved
unfolding begins null
loop-last-preserved c =
    let i = c.loop-last.invariant 0 in
    let m = comma (goal.at.loop-last-preserved c).After-past-on in
    let n = named (goal.at.loop-last-preserved c).Else-not-is_name in
    let w = rw (c.past.ensures, c.past-on.ensures) at (c.put_named.ensures c.args.src.now) in
    let k = c.put_named.auto.tree in
    let k₂ = c.link.auto.tree in
    λ room. record {
      ready = rw w.after (ready_of i.ready.tokens (omega arith));
      on = rw w.after (omega arith);
      kept = rw w.after (omega arith);
      spare = rw w.after (omega arith);
      long = omega arith;
      node = rw w.after (omega (arith, w.node));
      same = λ out q vs ws d. (c.loop-last.invariant room).same out q vs ws (list_on low_names m.inside m.seen n.seen (flat (tok_then m.inside n.seen (wrote_then w (one_then (changed_then ws (c.link.ensures _ _ _ _) d))))));
    }

pub returns-then-not-is_name : goal.returns-then-not-is_name
unfolding begins null
returns-then-not-is_name c =
    let m = comma (goal.at.returns-then-not-is_name c).After-past-on in
    let n = learnt names c.if-not-is_name.true c.is_name.ensures (rw c.past-on.ensures at c.symbol_at-in-loop-last.ensures) in
    λ room. rw c.past-on.ensures (record { comes = λ vs. (c.loop-last.invariant room).same _ _ _ _ (list_shut low_names m.inside m.seen n (list_last m.used)) })

pub returns : goal.returns
unfolding begins null
returns c =
    let i = c.loop-last.invariant 0 in
    let e = learnt (code.Comma ∷ []) c.loop-last-test.false c.is_symbol.ensures c.symbol_at.ensures in
    λ room. record { comes = λ vs. (c.loop-last.invariant room).same _ _ _ _ (list_end low_names i.ready.here e (list_last i.ready.used)) }
