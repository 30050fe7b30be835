-- `raw_token::length::exponent_len` meets its contract: the letter decides.
use mathlib.Core.Path.{refl, sym, ap, ◌∙◌}
use Rattle.raw_token.specs.Pattern.{int, exponent, is_e}
use Rattle.raw_token.proofs.Steps.{hit_inside, seq_hit, seq_miss, misses, one_more, none_more}
use Rattle.raw_token.proofs.length.exponent_len.Goals as goal

pub returns-then-not-is_letter_e : goal.returns-then-not-is_letter_e
unfolding exponent
returns-then-not-is_letter_e c =
    let a = c.args in
    let h = ap is_e (sym c.byte.ensures) ∙ sym c.is_letter_e.ensures ∙ c.if-not-is_letter_e.true in
    misses exponent a.s.now a.at (seq_miss is_e int a.s.now a.at h)

pub returns-in_err-int_len : goal.returns-in_err-int_len
unfolding exponent
returns-in_err-int_len c =
    let a = c.args in
    let h = ap is_e (sym c.byte.ensures) ∙ sym c.is_letter_e.ensures ∙ c.if-not-is_letter_e.false in
    rw c.from_residual.ensures (none_more exponent a.s.now a.at int (seq_hit is_e int a.s.now a.at refl h) c.in_err-int_len.ensures)

pub returns : goal.returns
unfolding exponent
returns c =
    let a = c.args in
    let h = ap is_e (sym c.byte.ensures) ∙ sym c.is_letter_e.ensures ∙ c.if-not-is_letter_e.false in
    one_more exponent a.s.now a.at int _ (hit_inside is_e a.s.now a.at refl h) (seq_hit is_e int a.s.now a.at refl h) c.in_ok-int_len.ensures
