-- `expr::unit` meets its contract: the empty Tuple.
use Rattle.joint.proofs.Taken.{ready_tested, taken_wrote}
use Rattle.joint.proofs.Chain.{tok_not}
use Rattle.lookahead.proofs.Tests.{learnt}
use Rattle.token.specs.Code as code
use mathlib.Core.List.{[], ◌∷◌}
use mathlib.Core.Path.{refl}
use native.Mathlib.Omega.{arith}
use Rattle.expr.proofs.unit.Goals as goal

pub put_empty-requires : goal.put_empty-requires
put_empty-requires c =
    let r = c.requires.ready in
    let m = ready_tested (code.RParen ∷ []) refl refl r c.if-is_symbol.true c.is_symbol.ensures c.symbol_at.ensures in
    record { spot = rw c.past-on.ensures (omega arith); opener_lt_at = rw c.past-on.ensures (omega arith) }

pub returns-then-is_symbol : goal.returns-then-is_symbol
returns-then-is_symbol c =
    let r = c.requires.ready in
    let m = ready_tested (code.RParen ∷ []) refl refl r c.if-is_symbol.true c.is_symbol.ensures c.symbol_at.ensures in
    λ room. record { comes = λ vs. taken_wrote m (rw c.past-on.ensures at (c.put_empty.ensures c.args.src.now)) }

pub returns-else-is_symbol : goal.returns-else-is_symbol
returns-else-is_symbol c =
    let r = c.requires.ready in
    let e = learnt (code.RParen ∷ []) c.if-is_symbol.false c.is_symbol.ensures c.symbol_at.ensures in
    λ room. record { comes = λ vs. tok_not r.here r.used e refl }
