-- `raw_token::length::int_len` meets its contract: the sign decides.
use mathlib.Core.Path.{refl, sym, ap, ◌∙◌}
use Rattle.source.specs.Bytes.{run, digit}
use Rattle.raw_token.specs.Pattern.{int, is_sign_lem}
use Rattle.raw_token.proofs.Steps.{hit_inside, maybe_hit, maybe_miss, one_more, none_more}
use Rattle.raw_token.proofs.length.int_len.Goals as goal

pub returns-then-not-is_sign : goal.returns-then-not-is_sign
unfolding int
returns-then-not-is_sign c =
    let a = c.args in
    let h = ap is_sign_lem (sym c.byte.ensures) ∙ sym c.is_sign.ensures ∙ c.if-not-is_sign.true in
    let d = c.digits.ensures in
    record { is = rw (maybe_miss is_sign_lem (run digit) a.s.now a.at h) d.is; within = d.within }

pub returns-in_err-digits : goal.returns-in_err-digits
unfolding int
returns-in_err-digits c =
    let a = c.args in
    let h = ap is_sign_lem (sym c.byte.ensures) ∙ sym c.is_sign.ensures ∙ c.if-not-is_sign.false in
    rw c.from_residual.ensures (none_more int a.s.now a.at (run digit) (maybe_hit is_sign_lem (run digit) a.s.now a.at refl h) c.in_err-digits.ensures)

pub returns : goal.returns
unfolding int
returns c =
    let a = c.args in
    let h = ap is_sign_lem (sym c.byte.ensures) ∙ sym c.is_sign.ensures ∙ c.if-not-is_sign.false in
    one_more int a.s.now a.at (run digit) _ (hit_inside is_sign_lem a.s.now a.at refl h) (maybe_hit is_sign_lem (run digit) a.s.now a.at refl h) c.in_ok-digits.ensures
