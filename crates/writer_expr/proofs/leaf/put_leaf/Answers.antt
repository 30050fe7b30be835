-- `writer_expr::leaf::put_leaf` meets its contract.
use Rattle.writer_expr.proofs.Leaves.{text_none, text_bool, text_int, text_string, text_float, text_rest}
use Rattle.writing.proofs.Writes.{same}
use native.Mathlib.Omega.{arith}
use mathlib.Core.Path.{sym, ◌∙◌}
use Rattle.writer_expr.proofs.leaf.put_leaf.Goals as goal

pub word_at-p-requires : goal.word_at-p-requires
word_at-p-requires c = (omega arith, omega arith, omega arith)

pub word_at-q-requires : goal.word_at-q-requires
word_at-q-requires c = (omega arith, omega arith, omega arith)

pub kind_at-requires : goal.kind_at-requires
kind_at-requires c = (omega arith, omega arith)

pub put_string-requires : goal.put_string-requires
put_string-requires c =
    let p = c.word_at-p.ensures in
    let q = c.word_at-q.ensures in
    let h = c.requires.leaf.string (sym c.kind_at.ensures ∙ c.in-20.is) in
    omega arith

pub word_at-requires : goal.word_at-requires
word_at-requires c = (omega arith, omega arith, omega arith)

pub word_at-requires-in-21 : goal.word_at-requires-in-21
word_at-requires-in-21 c = (omega arith, omega arith, omega arith)

pub put_part-requires : goal.put_part-requires
put_part-requires c =
    let p = c.word_at.ensures in
    let q = c.word_at-in-21.ensures in
    let h = c.requires.leaf.float (sym c.kind_at.ensures ∙ c.in-21.is) in
    (omega arith, omega arith)

pub put_part-requires-in_default : goal.put_part-requires-in_default
put_part-requires-in_default c =
    let k = c.kind_at.ensures in
    let p = c.word_at-p.ensures in
    let q = c.word_at-q.ensures in
    let r = c.in_default.in_default-own.rest in
    let h = c.requires.leaf.name (λ g. r.0.0.0.0.1 (k ∙ g)) (λ g. r.0.0.0.1 (k ∙ g)) (λ g. r.0.0.1 (k ∙ g)) (λ g. r.0.1 (k ∙ g)) (λ g. r.1 (k ∙ g)) in
    (omega arith, omega arith)

pub returns-in-22 : goal.returns-in-22
returns-in-22 c =
    same (sym (text_none _ _ _ (sym c.kind_at.ensures ∙ c.in-22.is))) c.put_fixed.ensures

pub returns-in-18 : goal.returns-in-18
returns-in-18 c =
    same (rw c.word_at-p.ensures (sym (text_bool _ _ _ (sym c.kind_at.ensures ∙ c.in-18.is)))) c.put_bool.ensures

pub returns-in-19 : goal.returns-in-19
returns-in-19 c =
    same (rw (c.word_at-p.ensures, c.word_at-q.ensures) (sym (text_int _ _ _ (sym c.kind_at.ensures ∙ c.in-19.is)))) c.put_int.ensures

pub returns-in-20 : goal.returns-in-20
returns-in-20 c =
    same (rw (c.word_at-p.ensures, c.word_at-q.ensures) (sym (text_string _ _ _ (sym c.kind_at.ensures ∙ c.in-20.is)))) c.put_string.ensures

pub returns-in-21 : goal.returns-in-21
returns-in-21 c =
    same (rw (c.word_at.ensures, c.word_at-in-21.ensures) (sym (text_float _ _ _ (sym c.kind_at.ensures ∙ c.in-21.is)))) c.put_part.ensures

pub returns-in_default : goal.returns-in_default
returns-in_default c =
    let k = c.kind_at.ensures in
    let r = c.in_default.in_default-own.rest in
    same (rw (c.word_at-p.ensures, c.word_at-q.ensures) (sym (text_rest _ _ _ (λ g. r.0.0.0.0.1 (k ∙ g)) (λ g. r.0.0.0.1 (k ∙ g)) (λ g. r.0.0.1 (k ∙ g)) (λ g. r.0.1 (k ∙ g)) (λ g. r.1 (k ∙ g))))) c.put_part-in_default.ensures
