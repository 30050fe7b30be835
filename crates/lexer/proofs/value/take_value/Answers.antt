-- `lexer::value::take_value` meets its contract: each arm is the law of its code.
use Rattle.std.proofs.Common.{rules}
use mathlib.Core.Path.{sym, ap, ◌∙◌}
use mathlib.Core.List.{List}
use Prim.Native.Nat.{ℕ, ◌+◌}
use lib.ListN.{length}
use lib.Seq.{sets}
use Rattle.source.specs.Bytes.{part}
use Rattle.strings.specs.Decoded.{decoded}
use Rattle.lexer.proofs.Values.{unquoted_part, taken_same, took_int, took_float, took_string, took_none}
use Rattle.lexer.proofs.value.take_value.Goals as goal

pub returns-in-19 : goal.returns-in-19
returns-in-19 c =
    let a = c.args in
    let all = took_int a.code (part a.src.now a.start a.end) a.used a.text.now c.in-19.is c.lex_integer.result (sym c.lex_integer.ensures) in
    record { value = c.and.ensures ∙ taken_same c.lex_integer.result a.used ∙ all.0; text_after = all.1 }

pub returns-in-22 : goal.returns-in-22
returns-in-22 c =
    let a = c.args in
    let all = took_float a.code (part a.src.now a.start a.end) a.used a.text.now c.in-22.is c.lex_float.result (sym c.lex_float.ensures) in
    record { value = c.and-in-22.ensures ∙ taken_same c.lex_float.result a.used ∙ all.0; text_after = all.1 }

pub returns-in-20 : goal.returns-in-20
returns-in-20 c =
    let a = c.args in
    let q = unquoted_part a.src.now a.start a.end (c.requires.start_bound c.in-20.is) c.requires.start_le_end.1 in
    let all = took_string a.code (part a.src.now a.start a.end) a.used a.text.now c.in-20.is _ _ (c.process_string_escapes.ensures.value ∙ ap (λ (l : List ℕ). a.used + length (decoded l)) (sym q)) (c.process_string_escapes.ensures.text_after ∙ ap (λ (l : List ℕ). sets a.text.now a.used (decoded l)) (sym q)) in
    record { value = all.0; text_after = all.1 }

pub returns-in_default : goal.returns-in_default
returns-in_default c =
    let a = c.args in
    let all = took_none a.code (part a.src.now a.start a.end) a.used a.text.now (search rules) (search rules) (search rules) in
    record { value = all.0; text_after = all.1 }
