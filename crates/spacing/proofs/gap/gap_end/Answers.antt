-- `spacing::gap::gap_end` meets its contract: behind the blanks the gap has a comment, or ends.
use mathlib.Core.Path.{◌≡◌, sym, ◌∙◌}
use mathlib.Core.Logic.{◌⊎◌, inl, inr}
use Rattle.std.proofs.Common.{ℕ, List, arith, rules, length, get_or, drop, ◌+◌, ◌<◌, ◌≤◌, false}
use Rattle.source.proofs.Lists.{inside, place}
use Rattle.source.specs.Bytes.{run}
use Rattle.spacing.specs.Gap.{is_blank, gap, gap_end_lem}
use Rattle.spacing.proofs.Gaps.{gap_comment, gap_other, gap_past, gap_from, other}
use Rattle.spacing.proofs.gap.gap_end.Goals as goal

pub returns-then-byte-eq35 : goal.returns-then-byte-eq35
unfolding gap_end_lem
returns-then-byte-eq35 c =
    let s = c.args.s.now in
    let at = c.args.at in
    let end = c.blanks_end-end.result in
    let e = c.comment_end.ensures in
    let is : get_or s end 0 ≡ 35 = search rules in
    let k : end < length s = inside s end (λ z. omega (arith, z, is)) in
    (e.0 ∙ sym (gap_from s at end c.blanks_end-end.ensures.0 ∙ gap_comment s end k is), e.1, omega (arith, c.blanks_end-end.ensures.2, e.2))

pub returns-else-byte-eq35 : goal.returns-else-byte-eq35
unfolding gap_end_lem
returns-else-byte-eq35 c =
    let s = c.args.s.now in
    let at = c.args.at in
    let end = c.blanks_end-end.result in
    let b = c.blanks_end-end.ensures in
    let ne : get_or s end 0 ≡ 35 → ⊥ = search rules in
    (sym (gap_from s at end b.0 ∙ go s at end b.0 ne (place s end)), b.1, b.2)
  where
    go : (s : List ℕ) (at end : ℕ) → end ≡ at + run is_blank (drop at s) → (get_or s end 0 ≡ 35 → ⊥) → (end < length s) ⊎ (length s ≤ end) → end + gap false (drop end s) ≡ end
    go s at end f ne (inl k) = gap_other s end k (other s at end f) ne
    go s at end f ne (inr k) = gap_past s end k
