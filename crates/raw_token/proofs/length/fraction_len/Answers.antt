-- `raw_token::length::fraction_len` meets its contract: the dot decides.
use borrow.Author.Tests.{eq-eqb, ne_eqb}
use mathlib.Core.Path.{refl, sym, ◌∙◌}
use Rattle.source.specs.Bytes.{run, digit}
use Rattle.raw_token.specs.Pattern.{fraction, is_dot}
use Rattle.raw_token.proofs.Steps.{hit_inside, seq_hit, seq_miss, misses, one_more, none_more}
use Rattle.raw_token.proofs.length.fraction_len.Goals as goal

pub returns-then-byte-ne46 : goal.returns-then-byte-ne46
unfolding fraction
returns-then-byte-ne46 c =
    let a = c.args in
    misses fraction a.s.now a.at (seq_miss is_dot (run digit) a.s.now a.at (ne_eqb _ 46 (λ e. c.if-byte-ne46.true (c.byte.ensures ∙ e))))

pub returns-in_err-digits : goal.returns-in_err-digits
unfolding fraction
returns-in_err-digits c =
    let a = c.args in
    let h = eq-eqb _ 46 (sym c.byte.ensures ∙ c.if-byte-ne46.false) in
    rw c.from_residual.ensures (none_more fraction a.s.now a.at (run digit) (seq_hit is_dot (run digit) a.s.now a.at refl h) c.in_err-digits.ensures)

pub returns : goal.returns
unfolding fraction
returns c =
    let a = c.args in
    let h = eq-eqb _ 46 (sym c.byte.ensures ∙ c.if-byte-ne46.false) in
    one_more fraction a.s.now a.at (run digit) _ (hit_inside is_dot a.s.now a.at refl h) (seq_hit is_dot (run digit) a.s.now a.at refl h) c.in_ok-digits.ensures
