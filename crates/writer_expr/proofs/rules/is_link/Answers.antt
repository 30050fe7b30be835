-- `writer_expr::rules::is_link` meets its contract.
use Rattle.writer_expr.proofs.Chains.{not_link}
use borrow.Author.Tests.{ltb-true, ltb-false}
use native.Mathlib.Omega.{arith}
use mathlib.Core.Path.{◌≡◌, sym, ◌∙◌}
use Rattle.writer_expr.proofs.rules.is_link.Goals.{in-7-to-12, in_default, in_default-2}
use mathlib.Core.Bool.{Bool, true, false}
use Rattle.writer_expr.proofs.rules.is_link.Goals as goal

pub returns-then-end-lt2 : goal.returns-then-end-lt2
returns-then-end-lt2 c = not_link (λ l. let s = l.some in omega arith)

pub kind_at-requires : goal.kind_at-requires
kind_at-requires c = (omega arith, omega arith)

pub returns-then-kind_at-ne-BINARY : goal.returns-then-kind_at-ne-BINARY
returns-then-kind_at-ne-BINARY c =
    not_link (λ l. c.if-kind_at-ne-BINARY.true (c.kind_at.ensures ∙ l.root))

pub word_at-requires : goal.word_at-requires
word_at-requires c = (omega arith, omega arith, omega arith)

pub returns-then-word_at-ne13 : goal.returns-then-word_at-ne13
returns-then-word_at-ne13 c =
    not_link (λ l. c.if-word_at-ne13.true (c.word_at.ensures ∙ l.op))

pub overflow_sub-end : goal.overflow_sub-end
overflow_sub-end c = omega arith

pub kind_at-requires-2 : goal.kind_at-requires-2
kind_at-requires-2 c = (omega arith, omega arith)

pub returns-then-kind_at-ne-BINARY-2 : goal.returns-then-kind_at-ne-BINARY-2
returns-then-kind_at-ne-BINARY-2 c =
    not_link (λ l. c.if-kind_at-ne-BINARY-2.true (c.kind_at-2.ensures ∙ l.right))

pub overflow_sub-end-2 : goal.overflow_sub-end-2
overflow_sub-end-2 c = omega arith

pub word_at-compare-requires : goal.word_at-compare-requires
word_at-compare-requires c = (omega arith, omega arith, omega arith)

pub returns-then-not-matches : goal.returns-then-not-matches
returns-then-not-matches c = not_link (λ l.
    let p = c.word_at-compare.ensures in
    let q = l.low in
    let r = l.high in
    elim c.if-matches.branch [ in-7-to-12 w ↦ absurd (let z : ◌≡◌ {A = Bool} true false = sym w.matches-is ∙ c.if-not-matches.true in cc) | in_default w ↦ omega arith | in_default-2 w ↦ omega arith ])

pub overflow_sub-end-3 : goal.overflow_sub-end-3
overflow_sub-end-3 c = omega arith

pub word_at-middle-requires : goal.word_at-middle-requires
word_at-middle-requires c = (omega arith, omega arith, omega arith)

pub word_at-requires-2 : goal.word_at-requires-2
word_at-requires-2 c = (omega arith, omega arith, omega arith)

pub returns : goal.returns
returns c =
    let p = c.word_at-compare.ensures in
    let q = c.word_at-middle.ensures in
    let r = c.word_at-2.ensures in
    (λ h. record { some = omega arith; root = sym c.kind_at.ensures ∙ c.if-kind_at-ne-BINARY.false; op = sym c.word_at.ensures ∙ c.if-word_at-ne13.false; right = sym c.kind_at-2.ensures ∙ c.if-kind_at-ne-BINARY-2.false; low = omega arith; high = omega arith; shared = let t = ltb-true c.word_at-middle.result c.word_at-2.result h in omega arith }, λ h l. let t = ltb-false c.word_at-middle.result c.word_at-2.result h in let u = l.shared in omega arith)
