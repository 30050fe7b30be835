-- `expr::names` meets its contract: a list of names.
use Rattle.pyhyeon.specs.Rules.{names}
use Rattle.joint.proofs.Taken.{ready_tested}
use Rattle.joint.proofs.Loops.{ready_of}
use Rattle.joint.proofs.Ends.{none_last, wrote_then, one_then}
use Rattle.joint.proofs.Chain.{tok_then, flat}
use Rattle.joint.proofs.Choices.{absent, or_first, or_next}
use Rattle.lookahead.proofs.Tests.{learnt}
use Rattle.grammar.specs.Descent.{null, begins}
use mathlib.Core.Path.{refl}
use native.Mathlib.Omega.{arith}
use Rattle.expr.proofs.parameters.names.Goals as goal

pub put_named-requires : goal.put_named-requires
put_named-requires c =
    let r = c.requires in
    let m = ready_tested names refl refl r c.if-is_name.true c.is_name.ensures c.symbol_at.ensures in
    rw c.past.ensures (omega arith)

pub names_rest-requires : goal.names_rest-requires
names_rest-requires c =
    let r = c.requires in
    let m = ready_tested names refl refl r c.if-is_name.true c.is_name.ensures c.symbol_at.ensures in
    let w = rw c.past.ensures at (c.put_named.ensures c.args.src.now) in
    record { ready = rw w.after (ready_of r.tokens (omega arith)); first_lt_nodes = rw w.after (omega (arith, w.node)) }

pub returns-then-is_name : goal.returns-then-is_name
unfolding begins null
returns-then-is_name c =
    let r = c.requires in
    let m = ready_tested names refl refl r c.if-is_name.true c.is_name.ensures c.symbol_at.ensures in
    let w = rw c.past.ensures at (c.put_named.ensures c.args.src.now) in
    λ room. record { comes = λ vs. or_first m.here m.seen (flat (tok_then m.here m.seen (wrote_then w (one_then ((c.names_rest.ensures room).comes vs))))) }

pub returns-else-is_name : goal.returns-else-is_name
unfolding begins null
returns-else-is_name c =
    let r = c.requires in
    let e = learnt names c.if-is_name.false c.is_name.ensures c.symbol_at.ensures in
    λ room. record { comes = λ vs. or_next r.here e (absent refl) (none_last r.used) }
