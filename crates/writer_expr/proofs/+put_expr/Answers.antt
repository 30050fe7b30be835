use Prim.Native.Nat.{ℕ}
use Rattle.writer_expr.proofs.Parts.{turn_parens, held, some_behind, turn_binary, some_arguments, turn_call, some_bracketed, turn_enclosed, turn_index, turn_link, turn_leaf}
use native.Mathlib.Omega.{arith}
use Rattle.writer_expr.proofs.Operators.{number_small}
use Rattle.writer_expr.proofs.Ranks.{below, not_below}
use Rattle.writer_expr.proofs.Viewed.{view, form-of, form_leaf, form_enclosed}
use Rattle.writer_expr.specs.Laid.{kind_at, exprs, Stands, names, Some}
use borrow.Author.Rules.{rules}
use mathlib.Core.Path.{◌∙◌, ◌≡◌, refl, sym}
use Rattle.writer_expr.proofs.Turns.{none_from, turn_goes, left_goes, left_ends, left_all, some_left, renamed}
use Rattle.writer_expr.specs.Levels.{number, text_at, text_of}
use Rattle.unparse.specs.Trees.{a, Expr, Tree}
use Rattle.writer_expr.proofs.Tuples.{tuple_at, some_tuple, members_inside, some_body, some_params, params_stand, turn_lambda, turn_empty, turn_tuple}
use Rattle.writer_expr.proofs.Lists.{some-members, none_put, members_put, some-member, member_ends, member_goes, of_all, of_goes, of_ends}
use Rattle.writer_expr.proofs.Shapes.{head_low, positive}
use Rattle.writer_expr.proofs.Chains.{view_link}
use Rattle.writer_expr.proofs.Members.{held_member, name_inside, some_expr, name_puts, pair_puts, expr_puts, some_pair, view_pair, some_value, some_key, key_stands, pair_put}
use Rattle.writer_expr.proofs.Signs.{sign_view, signed_from, some_signed, turn_unary}
use Rattle.writer_expr.proofs.Fits.{fit_in, fit_out}
use Rattle.writer_expr.specs.Forms.{form_of, binary, call, attribute, index, lambda, leaf, Linked}
use Rattle.writer_expr.proofs.+put_expr.Goals.{step-After-kind_at}
use Rattle.writer_expr.proofs.+put_expr.Goals as goal

pub parens-put_expr-end-requires : goal.parens-put_expr-end-requires
parens-put_expr-end-requires t c =
    (omega arith, c.requires)

pub parens-returns : goal.parens-returns
parens-returns t c =
    λ b x s. turn_parens x c.put_fixed.ensures (c.put_expr-end.ensures b x s) c.put_fixed-2.ensures

pub put_binary-word_at-op-requires : goal.put_binary-word_at-op-requires
put_binary-word_at-op-requires t c =
    let h = held c.requires.some.stands in (h.0, h.1, omega arith)

pub put_binary-overflow_sub-end : goal.put_binary-overflow_sub-end
put_binary-overflow_sub-end t c =
    let h = held c.requires.some.stands in omega arith

pub put_binary-put_expr-end-requires : goal.put_binary-put_expr-end-requires
put_binary-put_expr-end-requires t c =
    let some = c.requires.some in
    let v = view _ _ _ c.requires.formed some.stands in
    let h = held some.stands in
    (omega arith, some_behind v)

pub put_binary-returns : goal.put_binary-returns
put_binary-returns t c =
    λ b x s. let v = view _ _ _ c.requires.formed s in turn_binary _ _ _ v c.word_at-op.ensures c.of-rule.ensures c.left.ensures c.next.ensures c.operator.ensures (c.put_expr-end.ensures _ _ v.behind) c.put_spaced.ensures

pub put_call-word_at-first-requires : goal.put_call-word_at-first-requires
put_call-word_at-first-requires t c =
    let h = held c.requires.some.stands in (h.0, h.1, omega arith)

pub put_call-overflow_sub-end : goal.put_call-overflow_sub-end
put_call-overflow_sub-end t c =
    let h = held c.requires.some.stands in omega arith

pub put_call-put_list-end-requires : goal.put_call-put_list-end-requires
put_call-put_list-end-requires t c =
    let some = c.requires.some in
    let v = view _ _ _ c.requires.formed some.stands in
    let h = held some.stands in
    (omega arith, some_arguments v c.word_at-first.ensures)

pub put_call-returns : goal.put_call-returns
put_call-returns t c =
    λ b x s. let v = view _ _ _ c.requires.formed s in turn_call v (held s).0 c.put_fixed.ensures (c.put_list-end.ensures _ exprs _ _ v.behind (c.word_at-first.ensures ∙ v.head)) c.put_fixed-2.ensures

pub put_enclosed-kind_at-requires : goal.put_enclosed-kind_at-requires
put_enclosed-kind_at-requires t c =
    held c.requires.some.stands

pub put_enclosed-word_at-first-requires : goal.put_enclosed-word_at-first-requires
put_enclosed-word_at-first-requires t c =
    let h = held c.requires.some.stands in (h.0, h.1, omega arith)

pub put_enclosed-overflow_sub-end : goal.put_enclosed-overflow_sub-end
put_enclosed-overflow_sub-end t c =
    let h = held c.requires.some.stands in omega arith

pub put_enclosed-put_list-end-requires : goal.put_enclosed-put_list-end-requires
put_enclosed-put_list-end-requires t c =
    let some = c.requires.some in
    let v = view _ _ _ c.requires.formed some.stands in
    let h = held some.stands in
    (omega arith, some_bracketed v c.word_at-first.ensures)

pub put_enclosed-returns : goal.put_enclosed-returns
put_enclosed-returns t c =
    λ b x s. let v = view _ _ _ c.requires.formed s in turn_enclosed v c.kind_at.ensures c.brackets.ensures.open c.brackets.ensures.close c.put_bytes.ensures (c.put_list-end.ensures _ v.inline _ _ v.behind (c.word_at-first.ensures ∙ v.head)) c.put_bytes-2.ensures

pub put_expr-loop-rule-init : goal.put_expr-loop-rule-init
put_expr-loop-rule-init t c = (omega arith, λ b x s. left_all _ s)

pub put_expr-step-end-requires : goal.put_expr-step-end-requires
put_expr-step-end-requires t c =
    let g = c.loop-rule.invariant.1 _ _ c.requires.stands in
    (omega arith, some_left g)

pub put_expr-loop-rule-smaller : goal.put_expr-loop-rule-smaller
put_expr-loop-rule-smaller t c =
    let g = c.loop-rule.invariant.1 _ _ c.requires.stands in
    let f = (turn_goes (c.step-end.ensures _ _ g.stands) c.in-Some.is).1 in
    omega arith

pub put_expr-loop-rule-preserved : goal.put_expr-loop-rule-preserved
put_expr-loop-rule-preserved t c =
    let g = c.loop-rule.invariant.1 _ _ c.requires.stands in
    let w = turn_goes (c.step-end.ensures _ _ g.stands) c.in-Some.is in
    let u = w.0.wrote in
    let k = number_small c.in-Some.rule in
    (omega arith, λ b x s. left_goes (c.loop-rule.invariant.1 b x s) (c.step-end.ensures _ _ (c.loop-rule.invariant.1 b x s).stands) c.in-Some.is)

pub put_expr-returns-in_default : goal.put_expr-returns-in_default
put_expr-returns-in_default t c =
    λ b x s. left_ends (c.loop-rule.invariant.1 b x s) (c.step-end.ensures _ _ (c.loop-rule.invariant.1 b x s).stands) (none_from c.in_default.not-Some)

pub put_index-overflow_sub-end : goal.put_index-overflow_sub-end
put_index-overflow_sub-end t c =
    let h = held c.requires.some.stands in omega arith

pub put_index-put_expr-end-requires : goal.put_index-put_expr-end-requires
put_index-put_expr-end-requires t c =
    let some = c.requires.some in
    let v = view _ _ _ c.requires.formed some.stands in
    let h = held some.stands in
    (omega arith, some_behind v)

pub put_index-returns : goal.put_index-returns
put_index-returns t c =
    λ b x s. let v = view _ _ _ c.requires.formed s in turn_index v c.put_fixed.ensures (c.put_expr-end.ensures _ _ v.behind) c.put_fixed-2.ensures

pub put_inside-word_at-first-requires : goal.put_inside-word_at-first-requires
put_inside-word_at-first-requires t c =
    let h = held c.requires.some.stands in (h.0, h.1, omega arith)

pub put_inside-overflow_sub-i : goal.put_inside-overflow_sub-i
put_inside-overflow_sub-i t c =
    let h = held c.requires.some.stands in omega arith

pub put_inside-overflow_sub-i-2 : goal.put_inside-overflow_sub-i-2
put_inside-overflow_sub-i-2 t c =
    let some = c.requires.some in
    let v = tuple_at _ _ _ c.requires.tuple.0 some.stands in
    let m = some-members _ _ _ (some_tuple _ _ _ v c.word_at-first.ensures) (λ h. c.requires.tuple.1 (sym c.word_at-first.ensures ∙ h)) in
    let k = head_low m.inline m.from m.tree in
    let q = m.stands.ends in
    omega arith

pub put_inside-put_members-requires : goal.put_inside-put_members-requires
put_inside-put_members-requires t c =
    let some = c.requires.some in
    let v = tuple_at _ _ _ c.requires.tuple.0 some.stands in
    let m = some-members _ _ _ (some_tuple _ _ _ v c.word_at-first.ensures) (λ h. c.requires.tuple.1 (sym c.word_at-first.ensures ∙ h)) in
    let h = held some.stands in
    (omega arith, m)

pub put_inside-returns : goal.put_inside-returns
put_inside-returns t c =
    λ b x s. members_inside _ _ _ (tuple_at _ _ _ c.requires.tuple.0 s) c.word_at-first.ensures c.requires.tuple.1 c.put_comma.ensures c.put_members.ensures

pub put_lambda-word_at-first-requires : goal.put_lambda-word_at-first-requires
put_lambda-word_at-first-requires t c =
    let h = held c.requires.some.stands in (h.0, h.1, omega arith)

pub put_lambda-overflow_sub-end : goal.put_lambda-overflow_sub-end
put_lambda-overflow_sub-end t c =
    let h = held c.requires.some.stands in omega arith

pub put_lambda-put_expr-names-requires : goal.put_lambda-put_expr-names-requires
put_lambda-put_expr-names-requires t c =
    let some = c.requires.some in
    let v = view _ _ _ c.requires.formed some.stands in
    let h = held some.stands in
    (omega arith, some_body _ _ _ v)

pub put_lambda-put_list-end-requires : goal.put_lambda-put_list-end-requires
put_lambda-put_list-end-requires t c =
    let some = c.requires.some in
    let v = view _ _ _ c.requires.formed some.stands in
    let p = c.put_expr-names.ensures _ _ v.behind in
    let f = p.first in
    let l = some_params _ _ _ v f c.word_at-first.ensures in
    let h = held some.stands in
    let n = v.behind.ends in
    (omega arith, l)

pub put_lambda-returns : goal.put_lambda-returns
put_lambda-returns t c =
    λ b x s. let v = view _ _ _ c.requires.formed s in let p = c.put_expr-names.ensures _ _ v.behind in turn_lambda _ _ _ v c.word_at-first.ensures p c.put_then_space.ensures (c.put_list-end.ensures _ names _ _ (params_stand _ _ _ v p.first) (c.word_at-first.ensures ∙ v.head)) c.put_gap.ensures c.put_fixed.ensures

pub put_link-put_expr-end-requires : goal.put_link-put_expr-end-requires
put_link-put_expr-end-requires t c =
    let some = c.requires.some in
    let l = c.requires.linked in
    let v = view_link _ _ _ l some.stands in
    let m = l.some in
    (omega arith, some_behind v)

pub put_link-returns : goal.put_link-returns
put_link-returns t c =
    λ b x s. let v = view_link _ _ _ c.requires.linked s in turn_link v c.word_at-op.ensures c.operator.ensures (c.put_expr-end.ensures _ _ v.behind) c.put_spaced.ensures

pub put_list-returns-then-first-eq-NONE_NODE : goal.put_list-returns-then-first-eq-NONE_NODE
put_list-returns-then-first-eq-NONE_NODE t c = none_put _ _ _ c.if-first-eq-NONE_NODE.true

pub put_list-put_members-requires : goal.put_list-put_members-requires
put_list-put_members-requires t c =
    (omega arith, some-members _ _ _ c.requires c.if-first-eq-NONE_NODE.false)

pub put_list-returns : goal.put_list-returns
put_list-returns t c =
    members_put _ _ _ c.if-first-eq-NONE_NODE.false c.put_members.ensures

pub put_member-kind_at-kind-requires : goal.put_member-kind_at-kind-requires
put_member-kind_at-kind-requires t c =
    held_member _ _ _ c.requires

pub put_member-put_leaf-requires : goal.put_member-put_leaf-requires
put_member-put_leaf-requires t c =
    let h = held_member _ _ _ c.requires in
    record { end_nonzero = (h.0, h.1); leaf = name_inside _ _ _ c.requires (sym c.kind_at-kind.ensures ∙ c.if-kind-eq-NAME.true) }

pub put_member-overflow_sub-result : goal.put_member-overflow_sub-result
put_member-overflow_sub-result t c =
    let h = held_member _ _ _ c.requires in omega arith

pub put_member-returns-then-kind-eq-NAME : goal.put_member-returns-then-kind-eq-NAME
put_member-returns-then-kind-eq-NAME t c =
    name_puts _ _ _ (sym c.kind_at-kind.ensures ∙ c.if-kind-eq-NAME.true) c.put_leaf.ensures

pub put_member-put_pair-requires : goal.put_member-put_pair-requires
put_member-put_pair-requires t c =
    (omega arith, (c.requires, (sym c.kind_at-kind.ensures ∙ c.if-kind-eq-PAIR.true)))

pub put_member-returns-then-kind-eq-PAIR : goal.put_member-returns-then-kind-eq-PAIR
put_member-returns-then-kind-eq-PAIR t c =
    pair_puts _ _ _ (sym c.kind_at-kind.ensures ∙ c.if-kind-eq-PAIR.true) c.put_pair.ensures

pub put_member-put_expr-requires : goal.put_member-put_expr-requires
put_member-put_expr-requires t c =
    (omega arith, some_expr _ _ _ c.requires (λ h. c.if-kind-eq-NAME.false (c.kind_at-kind.ensures ∙ h)) (λ h. c.if-kind-eq-PAIR.false (c.kind_at-kind.ensures ∙ h)))

pub put_member-returns : goal.put_member-returns
put_member-returns t c =
    expr_puts _ _ _ (λ h. c.if-kind-eq-NAME.false (c.kind_at-kind.ensures ∙ h)) (λ h. c.if-kind-eq-PAIR.false (c.kind_at-kind.ensures ∙ h)) c.put_expr.ensures

pub put_members-loop-end-init : goal.put_members-loop-end-init
put_members-loop-end-init t c = (omega arith, λ i n b l s h. of_all _ _ _ _ s h)

pub put_members-overflow_sub-last : goal.put_members-overflow_sub-last
put_members-overflow_sub-last t c =
    let some = c.requires in
    let g = c.loop-end.invariant.1 _ some.inline _ _ some.stands some.head in
    let m = some-member _ _ _ some.inline g.stands in
    let h = held_member _ _ _ m in
    omega arith

pub put_members-put_member-e-requires : goal.put_members-put_member-e-requires
put_members-put_member-e-requires t c =
    let some = c.requires in
    let g = c.loop-end.invariant.1 _ some.inline _ _ some.stands some.head in
    let m = some-member _ _ _ some.inline g.stands in
    (omega arith, m)

pub put_members-returns-then-last-from : goal.put_members-returns-then-last-from
put_members-returns-then-last-from t c =
    λ i n b l s h. let g = c.loop-end.invariant.1 i n b l s h in of_ends _ _ _ g (member_ends _ _ _ _ _ c.put_member-e.ensures n g.stands g.head c.if-last-from.true)

pub put_members-loop-end-smaller : goal.put_members-loop-end-smaller
put_members-loop-end-smaller t c =
    let some = c.requires in
    let g = c.loop-end.invariant.1 _ some.inline _ _ some.stands some.head in
    let m = some-member _ _ _ some.inline g.stands in
    let p = c.put_member-e.ensures _ m.inline _ _ m.stands in
    let f = p.first in
    let q = m.stands.ends in
    let k = positive m.inline m.tree in
    omega arith

pub put_members-loop-end-preserved : goal.put_members-loop-end-preserved
put_members-loop-end-preserved t c =
    let some = c.requires in
    let g = c.loop-end.invariant.1 _ some.inline _ _ some.stands some.head in
    let m = some-member _ _ _ some.inline g.stands in
    let p = c.put_member-e.ensures _ m.inline _ _ m.stands in
    let f = p.first in
    let q = m.stands.ends in
    (omega arith, λ i n b l s h. let g = c.loop-end.invariant.1 i n b l s h in of_goes _ _ _ g (member_goes _ _ _ _ _ c.put_member-e.ensures n g.stands g.head c.if-last-from.false c.put_then_space.ensures))

pub put_pair-overflow_sub-end : goal.put_pair-overflow_sub-end
put_pair-overflow_sub-end t c =
    let h = held_member _ _ _ c.requires.some in omega arith

pub put_pair-put_expr-end-requires : goal.put_pair-put_expr-end-requires
put_pair-put_expr-end-requires t c =
    let some = some_pair _ _ _ c.requires.some c.requires.pair in
    let v = view_pair _ _ _ some.stands in
    let h = held_member _ _ _ c.requires.some in
    (omega arith, some_value _ _ _ v)

pub put_pair-put_expr-requires : goal.put_pair-put_expr-requires
put_pair-put_expr-requires t c =
    let some = some_pair _ _ _ c.requires.some c.requires.pair in
    let v = view_pair _ _ _ some.stands in
    let p = c.put_expr-end.ensures _ _ v.behind in
    let f = p.first in
    let n = v.falls in
    (omega arith, some_key _ _ _ v f)

pub put_pair-returns : goal.put_pair-returns
put_pair-returns t c =
    λ b x s. let v = view_pair _ _ _ s in let p = c.put_expr-end.ensures _ _ v.behind in pair_put _ _ _ v p c.put_then_space.ensures (c.put_expr.ensures _ _ (key_stands _ _ _ v p.first))

pub put_tuple-word_at-requires : goal.put_tuple-word_at-requires
put_tuple-word_at-requires t c =
    let h = held c.requires.some.stands in (h.0, h.1, omega arith)

pub put_tuple-overflow_sub-result : goal.put_tuple-overflow_sub-result
put_tuple-overflow_sub-result t c =
    let h = held c.requires.some.stands in omega arith

pub put_tuple-returns-then-word_at : goal.put_tuple-returns-then-word_at
put_tuple-returns-then-word_at t c =
    λ b x s. turn_empty _ _ _ (tuple_at _ _ _ c.requires.tuple s) c.word_at.ensures c.if-word_at.true c.put_unit.ensures

pub put_tuple-put_inside-end-requires : goal.put_tuple-put_inside-end-requires
put_tuple-put_inside-end-requires t c =
    (omega arith, (c.requires.some, (c.requires.tuple, λ h. c.if-word_at.false (c.word_at.ensures ∙ h))))

pub put_tuple-returns : goal.put_tuple-returns
put_tuple-returns t c =
    λ b x s. turn_tuple _ _ _ (tuple_at _ _ _ c.requires.tuple s) (λ h. c.if-word_at.false (c.word_at.ensures ∙ h)) c.put_fixed.ensures (c.put_inside-end.ensures b x s) c.put_fixed-2.ensures

pub put_unary-overflow_sub-end : goal.put_unary-overflow_sub-end
put_unary-overflow_sub-end t c =
    let h = held c.requires.some.stands in omega arith

pub put_unary-operand-j-requires : goal.put_unary-operand-j-requires
put_unary-operand-j-requires t c =
    held (sign_view _ _ _ c.requires.signed c.requires.some.stands).behind

pub put_unary-put_expr-first-requires : goal.put_unary-put_expr-first-requires
put_unary-put_expr-first-requires t c =
    let s = c.requires.some.stands in
    let h = held s in
    let o = c.operand-j.ensures.0 in
    let g = signed_from _ _ _ c.requires.signed o c.operand-j.ensures.2 s in
    (omega arith, some_signed _ _ _ g)

pub put_unary-put_signs-requires : goal.put_unary-put_signs-requires
put_unary-put_signs-requires t c =
    let s = c.requires.some.stands in
    let h = held s in
    let o = c.operand-j.ensures.0 in
    let g = signed_from _ _ _ c.requires.signed o c.operand-j.ensures.2 s in
    let p = c.put_expr-first.ensures _ _ g.stands in
    (omega arith, h.1)

pub put_unary-returns : goal.put_unary-returns
put_unary-returns t c =
    λ b x s. let g = signed_from _ _ _ c.requires.signed c.operand-j.ensures.0 c.operand-j.ensures.2 s in turn_unary _ _ _ c.requires.signed s g (c.put_expr-first.ensures _ _ g.stands) c.put_signs.ensures

-- what is known where neither parentheses nor a link of a chain are put
step-some : (t : ℕ) (c : step-After-kind_at t) → Some c.args.src.now c.args.text.now c.args.tree.now c.args.end
step-some t c = c.requires

step-plain : (t : ℕ) (c : step-After-kind_at t) → Linked c.args.tree.now c.args.end → ⊥
step-plain t c = c.is_link.ensures.1 c.if-is_link.false

step-bare : (t : ℕ) (c : step-After-kind_at t) → {b : ℕ} (x : Tree (a Expr)) → Stands c.args.src.now c.args.text.now c.args.tree.now b x c.args.end → text_of x ≡ text_at (number c.args.least) x
step-bare t c x s = fit_in x (number c.args.least) (number c.of_node.result) (c.of_node.ensures _ _ _ x s) (number_small c.args.least) (not_below c.of_node.result c.args.least c.lt.ensures c.if-lt.false)

pub step-of_node-requires : goal.step-of_node-requires
step-of_node-requires t c = held c.requires.stands

pub step-parens-requires : goal.step-parens-requires
step-parens-requires t c =
    let l = below c.of_node.result c.args.least c.lt.ensures c.if-lt.true in
    (omega arith, c.requires)

pub step-returns-then-lt : goal.step-returns-then-lt
step-returns-then-lt t c =
    λ b x s. renamed (fit_out x (number c.args.least) (number c.of_node.result) (c.of_node.ensures _ _ b x s) (number_small c.args.least) (below c.of_node.result c.args.least c.lt.ensures c.if-lt.true)) (c.parens.ensures b x s)

pub step-is_link-requires : goal.step-is_link-requires
step-is_link-requires t c = held c.requires.stands

pub step-put_link-requires : goal.step-put_link-requires
step-put_link-requires t c = (omega arith, (c.requires, (c.is_link.ensures.0 c.if-is_link.true)))

pub step-returns-then-is_link : goal.step-returns-then-is_link
step-returns-then-is_link t c =
    λ b x s. renamed (fit_in x (number c.args.least) (number c.of_node.result) (c.of_node.ensures _ _ b x s) (number_small c.args.least) (not_below c.of_node.result c.args.least c.lt.ensures c.if-lt.false)) (c.put_link.ensures b x s)

pub step-kind_at-requires : goal.step-kind_at-requires
step-kind_at-requires t c = held c.requires.stands

pub step-put_binary-requires : goal.step-put_binary-requires
unfolding form_of
step-put_binary-requires t c = (omega arith, (step-some t (goal.at.step-put_binary-requires t c).After-kind_at, ((form-of (λ k. binary) c.kind_at.ensures c.in-25.is refl, step-plain t (goal.at.step-put_binary-requires t c).After-kind_at))))

pub step-put_unary-requires : goal.step-put_unary-requires
step-put_unary-requires t c = (omega arith, (step-some t (goal.at.step-put_unary-requires t c).After-kind_at, (sym c.kind_at.ensures ∙ c.in-24.is)))

pub step-put_call-requires : goal.step-put_call-requires
unfolding form_of
step-put_call-requires t c = (omega arith, (step-some t (goal.at.step-put_call-requires t c).After-kind_at, ((form-of (λ k. call) c.kind_at.ensures c.in-26.is refl, step-plain t (goal.at.step-put_call-requires t c).After-kind_at))))

pub step-put_attribute-requires : goal.step-put_attribute-requires
unfolding form_of
step-put_attribute-requires t c = record { some = step-some t (goal.at.step-put_attribute-requires t c).After-kind_at; formed = ((form-of (λ k. attribute) c.kind_at.ensures c.in-27.is refl, step-plain t (goal.at.step-put_attribute-requires t c).After-kind_at)) }

pub step-put_index-requires : goal.step-put_index-requires
unfolding form_of
step-put_index-requires t c = (omega arith, (step-some t (goal.at.step-put_index-requires t c).After-kind_at, ((form-of (λ k. index) c.kind_at.ensures c.in-33.is refl, step-plain t (goal.at.step-put_index-requires t c).After-kind_at))))

pub step-put_lambda-requires : goal.step-put_lambda-requires
unfolding form_of
step-put_lambda-requires t c = (omega arith, (step-some t (goal.at.step-put_lambda-requires t c).After-kind_at, ((form-of (λ k. lambda) c.kind_at.ensures c.in-34.is refl, step-plain t (goal.at.step-put_lambda-requires t c).After-kind_at))))

pub step-put_tuple-requires : goal.step-put_tuple-requires
step-put_tuple-requires t c = (omega arith, (step-some t (goal.at.step-put_tuple-requires t c).After-kind_at, (sym c.kind_at.ensures ∙ c.in-30.is)))

pub step-put_enclosed-requires : goal.step-put_enclosed-requires
step-put_enclosed-requires t c =
    let k : kind_at c.args.tree.now c.args.end ≡ c.kind_at.result = sym c.kind_at.ensures in
    let f = form_enclosed (kind_at c.args.tree.now c.args.end) (omega arith) (omega arith) (λ e. omega arith) in
    (omega arith, (step-some t (goal.at.step-put_enclosed-requires t c).After-kind_at, ((f, step-plain t (goal.at.step-put_enclosed-requires t c).After-kind_at))))

pub step-returns-in-28 : goal.step-returns-in-28
step-returns-in-28 t c = λ b x s. renamed (step-bare t (goal.at.step-returns-in-28 t c).After-kind_at x s) (c.put_enclosed.ensures b x s)

pub step-put_leaf-requires : goal.step-put_leaf-requires
step-put_leaf-requires t c = let h = held (step-some t (goal.at.step-put_leaf-requires t c).After-kind_at).stands in record { end_nonzero = (h.0, h.1); leaf = (view _ _ _ (form-of leaf c.kind_at.ensures refl (form_leaf _ (search rules)), step-plain t (goal.at.step-put_leaf-requires t c).After-kind_at) (step-some t (goal.at.step-put_leaf-requires t c).After-kind_at).stands).inside }

pub step-overflow_sub-result : goal.step-overflow_sub-result
step-overflow_sub-result t c = let h = held (step-some t (goal.at.step-overflow_sub-result t c).After-kind_at).stands in omega arith

pub step-returns-in-25 : goal.step-returns-in-25
step-returns-in-25 t c = λ b x s. renamed (step-bare t (goal.at.step-returns-in-25 t c).After-kind_at x s) (c.put_binary.ensures b x s)

pub step-returns-in-24 : goal.step-returns-in-24
step-returns-in-24 t c = λ b x s. renamed (step-bare t (goal.at.step-returns-in-24 t c).After-kind_at x s) (c.put_unary.ensures b x s)

pub step-returns-in-26 : goal.step-returns-in-26
step-returns-in-26 t c = λ b x s. renamed (step-bare t (goal.at.step-returns-in-26 t c).After-kind_at x s) (c.put_call.ensures b x s)

pub step-returns-in-27 : goal.step-returns-in-27
step-returns-in-27 t c = λ b x s. renamed (step-bare t (goal.at.step-returns-in-27 t c).After-kind_at x s) (c.put_attribute.ensures b x s)

pub step-returns-in-33 : goal.step-returns-in-33
step-returns-in-33 t c = λ b x s. renamed (step-bare t (goal.at.step-returns-in-33 t c).After-kind_at x s) (c.put_index.ensures b x s)

pub step-returns-in-34 : goal.step-returns-in-34
step-returns-in-34 t c = λ b x s. renamed (step-bare t (goal.at.step-returns-in-34 t c).After-kind_at x s) (c.put_lambda.ensures b x s)

pub step-returns-in-30 : goal.step-returns-in-30
step-returns-in-30 t c = λ b x s. renamed (step-bare t (goal.at.step-returns-in-30 t c).After-kind_at x s) (c.put_tuple.ensures b x s)

pub step-returns-in_default : goal.step-returns-in_default
step-returns-in_default t c = λ b x s. renamed (step-bare t (goal.at.step-returns-in_default t c).After-kind_at x s) (turn_leaf (view _ _ _ (form-of leaf c.kind_at.ensures refl (form_leaf _ (search rules)), step-plain t (goal.at.step-returns-in_default t c).After-kind_at) s) c.put_leaf.ensures)
