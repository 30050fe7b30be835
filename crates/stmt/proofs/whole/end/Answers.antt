-- `stmt::whole::end` meets its contract: the end of a script, and its Program.
use mathlib.Core.Path.{refl}
use mathlib.Core.List.{[], ◌∷◌}
use Rattle.token.specs.Code as code
use Rattle.lookahead.proofs.Tests.{learnt}
use Rattle.joint.proofs.Ends.{act_wrote}
use Rattle.joint.proofs.Seen.{see_then, see_not}
use Rattle.stmt.proofs.whole.end.Goals as goal

pub returns-then-is_symbol : goal.returns-then-is_symbol
returns-then-is_symbol c =
    let r = c.requires in
    let e = learnt (code.Eof ∷ []) c.if-is_symbol.true c.is_symbol.ensures c.symbol_at.ensures in
    λ room. record { comes = λ vs. see_then r.here e (act_wrote r.used (c.put_program.ensures _)) }

pub returns-else-is_symbol : goal.returns-else-is_symbol
returns-else-is_symbol c =
    let r = c.requires in
    let e = learnt (code.Eof ∷ []) c.if-is_symbol.false c.is_symbol.ensures c.symbol_at.ensures in
    λ room. record { comes = λ vs. see_not r.here r.used e refl }
