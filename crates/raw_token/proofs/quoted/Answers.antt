-- `raw_token::quoted` meets its contract, by the two cases of its definition.
use borrow.Author.Tests.{ne_eqb}
use mathlib.Core.Path.{ap}
use Prim.Native.Nat.{ℕ, ◌+◌}
use Rattle.std.specs.Prelude.{Some}
use Rattle.token.specs.Code.{String}
use Rattle.raw_token.specs.Pattern.{string}
use Rattle.raw_token.specs.Parts.{string_at}
use Rattle.raw_token.specs.Table.{raw_token}
use Rattle.raw_token.proofs.Steps.{matches_is, misses_is}
use Rattle.raw_token.proofs.quoted.Goals as goal

pub returns-in_err-n : goal.returns-in_err-n
unfolding string_at
returns-in_err-n c =
    let z = misses_is string c.args.s.now c.args.at c.in_err-n.ensures in
    rw (c.from_residual.ensures, z)

pub returns : goal.returns
unfolding string_at
returns c =
    let m = matches_is string c.args.s.now c.args.at _ c.in_ok-n.ensures in
    rw (ne_eqb _ 0 m.1) (ap (λ (k : ℕ). Some (raw_token String (c.args.at + k))) m.0)
