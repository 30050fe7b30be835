-- `raw_token::signed` meets its contract, by the two cases of its definition.
use borrow.Author.Tests.{ne_eqb}
use mathlib.Core.Path.{ap}
use Prim.Native.Nat.{ℕ, ◌+◌}
use Rattle.std.specs.Prelude.{Some}
use Rattle.token.specs.Code.{Int}
use Rattle.raw_token.specs.Pattern.{int}
use Rattle.raw_token.specs.Parts.{signed_at}
use Rattle.raw_token.specs.Table.{raw_token}
use Rattle.raw_token.proofs.Steps.{matches_is, misses_is}
use Rattle.raw_token.proofs.signed.Goals as goal

pub returns-in_default : goal.returns-in_default
unfolding signed_at
returns-in_default c =
    let z = misses_is int c.args.s.now c.args.at c.in_default.ensures in
    rw z c.mark.ensures

pub returns : goal.returns
unfolding signed_at
returns c =
    let m = matches_is int c.args.s.now c.args.at _ c.in-Some.ensures in
    rw (ne_eqb _ 0 m.1) (ap (λ (k : ℕ). Some (raw_token Int (c.args.at + k))) m.0)
