-- `lexer::value::literal_of` meets its contract: each arm is the value of its code.
use native.Mathlib.Omega.{arith}
use mathlib.Core.Path.{sym, ap, ◌∙◌}
use Prim.Native.Nat.{ℕ}
use lib.Dec.{eqb}
use Rattle.source.specs.Bytes.{part}
use Rattle.literal.specs.declared.Literal.TheVariants as L
use Rattle.lexer.specs.Value.{literal_in}
use Rattle.lexer.proofs.Values.{length_part, value_bool, value_int, value_float, value_string, value_none}
use Rattle.lexer.proofs.value.literal_of.Goals as goal

pub lex_string-requires : goal.lex_string-requires
lex_string-requires c =
    let a = c.args in
    let p = c.requires.start_le_end in
    let q = c.requires.start_bound c.in-20.is in
    let n = length_part a.src.now a.start a.end p.1 in
    omega arith

pub returns-in-18 : goal.returns-in-18
returns-in-18 c =
    let a = c.args in
    ap (λ (b : ℕ). L.Bool (eqb b 84)) c.byte.ensures ∙ sym (ap literal_in (value_bool a.code (part a.src.now a.start a.end) a.used c.in-18.is))

pub returns-in-19 : goal.returns-in-19
returns-in-19 c =
    let a = c.args in
    c.unwrap_or.ensures ∙ ap literal_in (c.lex_integer.ensures ∙ sym (value_int a.code (part a.src.now a.start a.end) a.used c.in-19.is))

pub returns-in-22 : goal.returns-in-22
returns-in-22 c =
    let a = c.args in
    c.unwrap_or-in-22.ensures ∙ ap literal_in (c.lex_float.ensures ∙ sym (value_float a.code (part a.src.now a.start a.end) a.used c.in-22.is))

pub returns-in-20 : goal.returns-in-20
returns-in-20 c =
    let a = c.args in
    c.lex_string.ensures ∙ sym (ap literal_in (value_string a.code (part a.src.now a.start a.end) a.used c.in-20.is))

pub returns-in_default : goal.returns-in_default
returns-in_default c =
    let a = c.args in
    sym (ap literal_in (value_none a.code (part a.src.now a.start a.end) a.used c.in_default.in_default-own.rest.0.0.1 c.in_default.in_default-own.rest.0.1 c.in_default.in_default-own.rest.1 c.in_default.in_default-own.rest.0.0.0.1))
