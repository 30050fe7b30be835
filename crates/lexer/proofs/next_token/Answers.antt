-- `lexer::next_token` meets its contract: at the end the levels close, and else the token at the place behind the gap decides.
use mathlib.Core.Path.{◌≡◌, sym, ap, ◌∙◌}
use Prim.Native.Nat.{ℕ}
use Rattle.std.specs.Prelude.{Some, None, Err}
use lib.ListN.{length}
use Rattle.source.specs.Reasons.{refusal_at}
use Rattle.raw_token.specs.Table.{raw_token, token_at_lem}
use Rattle.raw_token.proofs.Within.{token_within}
use Rattle.raw_token.proofs.Laws.{string_quotes}
use Rattle.lexer.proofs.Finding.{handed_on, retold, next_closed, next_found, refuses}
use Rattle.lexer.proofs.next_token.Goals as goal

pub returns-then-src-start : goal.returns-then-src-start
returns-then-src-start c =
    let a = c.args in
    retold _ _ _ a.x _ a.tokens.now a.text.now _ a.text.now (next_closed a.src.now a.x c.gap_end-start.result c.gap_end-start.ensures.0 c.if-src-start.true) (c.close.ensures a.text.now)

pub found-requires-clause-at_le_start : goal.found-requires-clause-at_le_start
found-requires-clause-at_le_start c =
    let s = c.args.src.now in
    let start = c.gap_end-start.result in
    let t = c.in_ok-token.token in
    let is : token_at_lem s start ≡ Some t = sym c.token_at.ensures ∙ c.in_ok-token.ensures.ok_part in
    let w = token_within s start t.code t.end is in
    (c.gap_end-start.ensures.2, w.0, w.1, λ e. string_quotes s start t.end (is ∙ ap (λ (k : ℕ). Some (raw_token k t.end)) e))

pub returns-in_err-token : goal.returns-in_err-token
returns-in_err-token c =
    let a = c.args in
    let s = a.src.now in
    let start = c.gap_end-start.result in
    let is_none = c.in_err-token.ensures.ok_part in
    let is : token_at_lem s start ≡ None = sym c.token_at.ensures ∙ is_none in
    let told : Err c.in_err-token.field-0.0 ≡ Err (refusal_at 9 start) = rw is_none at c.in_err-token.ensures.value in
    let e : c.in_err-token.field-0.0 ≡ refusal_at 9 start = cc in
    rw (handed_on _ _ c.from_residual.ensures.1, e) (refuses (length s) _ a.x (refusal_at 9 start) a.tokens.now a.text.now (next_found s a.x start c.gap_end-start.ensures.0 c.if-src-start.false None is))

pub returns : goal.returns
returns c =
    let a = c.args in
    retold _ _ _ a.x _ a.tokens.now a.text.now _ _ (next_found a.src.now a.x c.gap_end-start.result c.gap_end-start.ensures.0 c.if-src-start.false _ (sym c.token_at.ensures ∙ c.in_ok-token.ensures.ok_part)) c.found.ensures
