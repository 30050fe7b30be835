-- `expr::shut` meets its contract: the bracket that ends a list.
use Rattle.joint.proofs.Taken.{ready_tested, taken_wrote}
use Rattle.leaves.proofs.Asked.{one_asked}
use Rattle.joint.proofs.Chain.{tok_not}
use Rattle.lookahead.proofs.Tests.{learnt}
use mathlib.Core.List.{[], ◌∷◌}
use native.Mathlib.Omega.{arith}
use Rattle.expr.proofs.shut.Goals as goal

pub put_enclosed-requires : goal.put_enclosed-requires
put_enclosed-requires c =
    let r = c.requires.ready in
    let m = ready_tested (c.args.close ∷ []) c.requires.opener_lt_at.1 c.requires.opener_lt_at.2 r c.if-is_symbol.true c.is_symbol.ensures c.symbol_at.ensures in
    record { spot = rw c.past-on.ensures (omega arith); opener_lt_at = rw c.past-on.ensures (omega arith) }

pub returns-then-is_symbol : goal.returns-then-is_symbol
returns-then-is_symbol c =
    let r = c.requires.ready in
    let m = ready_tested (c.args.close ∷ []) c.requires.opener_lt_at.1 c.requires.opener_lt_at.2 r c.if-is_symbol.true c.is_symbol.ensures c.symbol_at.ensures in
    λ room. record { comes = λ vs. taken_wrote m (rw c.past-on.ensures at (c.put_enclosed.ensures c.args.src.now)) }

pub returns-else-is_symbol : goal.returns-else-is_symbol
returns-else-is_symbol c =
    let r = c.requires.ready in
    let e = learnt (c.args.close ∷ []) c.if-is_symbol.false c.is_symbol.ensures c.symbol_at.ensures in
    λ room. record { comes = λ vs. tok_not r.here r.used e (one_asked c.args.close) }
