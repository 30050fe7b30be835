-- `raw_token::number` meets its contract: with no fraction it is an integer, and with one a float.
use native.Mathlib.Omega.{arith}
use borrow.Author.Tests.{ne_eqb}
use mathlib.Core.Path.{sym, ap, ◌∙◌}
use Prim.Native.Nat.{ℕ, ◌+◌}
use Rattle.std.specs.Prelude.{Some}
use Rattle.source.specs.Bytes.{digit}
use Rattle.token.specs.Code.{Float, Int}
use Rattle.raw_token.specs.Pattern.{fraction, exponent}
use Rattle.raw_token.specs.Parts.{number_at}
use Rattle.raw_token.specs.Table.{raw_token}
use Rattle.raw_token.proofs.Steps.{run_some, float_none, float_end, matches_is, misses_is, matches_or}
use Rattle.raw_token.proofs.number.Goals as goal

pub returns-in_default : goal.returns-in_default
unfolding number_at
returns-in_default c =
    let a = c.args in
    let n = c.digits.ensures.is in
    let f = misses_is fraction a.s.now _ c.in_default.ensures in
    let z = float_none a.s.now a.at _ 0 n (sym f) (omega arith) in
    rw z (ap (λ (k : ℕ). Some (raw_token Int (a.at + k))) n)

pub returns : goal.returns
unfolding number_at
returns c =
    let a = c.args in
    let s = a.s.now in
    let n = c.digits.ensures.is in
    let some = run_some digit s a.at c.requires.0 c.requires.1 in
    let f = matches_is fraction s _ _ c.in-Some.ensures in
    let e = c.unwrap_or-e.ensures ∙ matches_or exponent s _ _ c.exponent_len.ensures in
    let z = float_end s a.at _ _ n f.0 _ (λ e. some (sym n ∙ e)) (λ e. f.1 (sym f.0 ∙ e)) e in
    rw (ne_eqb _ 0 z.0) (ap (λ (k : ℕ). Some (raw_token Float k)) z.1)
