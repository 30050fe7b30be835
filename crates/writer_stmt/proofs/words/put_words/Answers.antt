-- `writer_stmt::words::put_words` meets its contract.
use native.Mathlib.Omega.{arith}
use mathlib.Core.Path.{refl, sym, ap, ◌∙◌}
use borrow.Author.Rules.{rules}
use mathlib.Core.Path.{◌≡◌}
use Rattle.writer_expr.specs.Laid.{kind_at}
use Rattle.token.specs.Code as token
use Rattle.writer_stmt.specs.Words.{form_of, whole, return, assign, asked, for, class}
use Rattle.rendered.specs.Spelled.{spelled_fixed}
use Rattle.writing.proofs.Writes.{same}
use Rattle.writer_expr.proofs.Tuples.{put_as}
use Rattle.writer_stmt.proofs.Said.{form_is, form_def, form_alone, form_rest, as_form, some_one, one_put, some_names}
use Rattle.writer_stmt.proofs.words.put_words.Goals as goal

pub put_whole-requires : goal.put_whole-requires
unfolding form_of
put_whole-requires c =
    let h = form_is {f = whole} c.kind_at-kind.ensures c.in-12.is refl in
    some_one (as_form _ _ _ _ _ _ _ h c.requires.some_words.says)

pub put_return-requires : goal.put_return-requires
unfolding form_of
put_return-requires c =
    let h = form_is {f = return} c.kind_at-kind.ensures c.in-6.is refl in
    some_one (as_form _ _ _ _ _ _ _ h c.requires.some_words.says)

pub put_assign-requires : goal.put_assign-requires
unfolding form_of
put_assign-requires c =
    let h = form_is {f = assign} c.kind_at-kind.ensures c.in-7.is refl in
    (c.requires.some_words.from, c.requires.some_words.text, as_form _ _ _ _ _ _ _ h c.requires.some_words.says)

pub put_asked-requires : goal.put_asked-requires
unfolding form_of
put_asked-requires c =
    let h = form_is {f = asked token.If} c.kind_at-kind.ensures c.in-2.is refl in
    some_one (as_form _ _ _ _ _ _ _ h c.requires.some_words.says)

pub put_asked-requires-in-3 : goal.put_asked-requires-in-3
unfolding form_of
put_asked-requires-in-3 c =
    let h = form_is {f = asked token.While} c.kind_at-kind.ensures c.in-3.is refl in
    some_one (as_form _ _ _ _ _ _ _ h c.requires.some_words.says)

pub put_asked-requires-in-14 : goal.put_asked-requires-in-14
unfolding form_of
put_asked-requires-in-14 c =
    let h = form_is {f = asked token.Elif} c.kind_at-kind.ensures c.in-14.is refl in
    some_one (as_form _ _ _ _ _ _ _ h c.requires.some_words.says)

pub put_for-requires : goal.put_for-requires
unfolding form_of
put_for-requires c =
    let h = form_is {f = for} c.kind_at-kind.ensures c.in-4.is refl in
    let v = as_form _ _ _ _ _ _ _ h c.requires.some_words.says in
    record { some = some_one v.0; node_nonzero = (c.requires.node_nonzero.0, c.requires.node_nonzero.1, v.1) }

pub put_def-requires : goal.put_def-requires
put_def-requires c =
    let k : kind_at c.args.tree.now c.args.node ≡ c.kind_at-kind.result = sym c.kind_at-kind.ensures in
    let h = form_def (kind_at c.args.tree.now c.args.node) (λ p q. omega arith) in
    let v = as_form c.args.src.now c.args.text.now c.args.tree.now _ c.args.end c.args.node _ h c.requires.some_words.says in
    record { some_list = some_names v.0; node_nonzero = (c.requires.node_nonzero.0, c.requires.node_nonzero.1, v.1) }

pub put_name-requires : goal.put_name-requires
unfolding form_of
put_name-requires c =
    let h = form_is {f = class} c.kind_at-kind.ensures c.in-8.is refl in
    let v = as_form c.args.src.now c.args.text.now c.args.tree.now _ c.args.end c.args.node _ h c.requires.some_words.says in
    (c.requires.node_nonzero.0, c.requires.node_nonzero.1, v.name)

pub returns-in-12 : goal.returns-in-12
unfolding form_of
returns-in-12 c =
    let h = form_is {f = whole} c.kind_at-kind.ensures c.in-12.is refl in
    λ b w s. let v = as_form _ _ _ _ _ _ _ h s in one_put v (c.put_whole.ensures b _ v.stands)

pub returns-in-6 : goal.returns-in-6
unfolding form_of
returns-in-6 c =
    let h = form_is {f = return} c.kind_at-kind.ensures c.in-6.is refl in
    λ b w s. let v = as_form _ _ _ _ _ _ _ h s in one_put v (c.put_return.ensures b _ v.stands)

pub returns-in-7 : goal.returns-in-7
unfolding form_of
returns-in-7 c =
    let h = form_is {f = assign} c.kind_at-kind.ensures c.in-7.is refl in
    λ b w s. c.put_assign.ensures b w (as_form _ _ _ _ _ _ _ h s)

pub returns-in-2 : goal.returns-in-2
unfolding form_of
returns-in-2 c =
    let h = form_is {f = asked token.If} c.kind_at-kind.ensures c.in-2.is refl in
    λ b w s. let v = as_form _ _ _ _ _ _ _ h s in one_put v (c.put_asked.ensures b _ v.stands)

pub returns-in-3 : goal.returns-in-3
unfolding form_of
returns-in-3 c =
    let h = form_is {f = asked token.While} c.kind_at-kind.ensures c.in-3.is refl in
    λ b w s. let v = as_form _ _ _ _ _ _ _ h s in one_put v (c.put_asked-in-3.ensures b _ v.stands)

pub returns-in-14 : goal.returns-in-14
unfolding form_of
returns-in-14 c =
    let h = form_is {f = asked token.Elif} c.kind_at-kind.ensures c.in-14.is refl in
    λ b w s. let v = as_form _ _ _ _ _ _ _ h s in one_put v (c.put_asked-in-14.ensures b _ v.stands)

pub returns-in-4 : goal.returns-in-4
unfolding form_of
returns-in-4 c =
    let h = form_is {f = for} c.kind_at-kind.ensures c.in-4.is refl in
    λ b w s. let v = as_form _ _ _ _ _ _ _ h s in one_put v.0 (c.put_for.ensures b _ v.0.stands)

pub returns-in-5 : goal.returns-in-5
returns-in-5 c =
    let k : kind_at c.args.tree.now c.args.node ≡ c.kind_at-kind.result = sym c.kind_at-kind.ensures in
    let h = form_def (kind_at c.args.tree.now c.args.node) (λ p q. omega arith) in
    λ b w s. let v = as_form c.args.src.now c.args.text.now c.args.tree.now _ c.args.end c.args.node _ h s in put_as (sym v.0.says) (c.put_def.ensures b _ v.0.stands v.0.head)

pub returns-in-8 : goal.returns-in-8
unfolding form_of
returns-in-8 c =
    let h = form_is {f = class} c.kind_at-kind.ensures c.in-8.is refl in
    λ b w s. let v = as_form c.args.src.now c.args.text.now c.args.tree.now _ c.args.end c.args.node _ h s in record { wrote = same (sym v.says) c.put_name.ensures; first = v.empty }

pub returns-in_default : goal.returns-in_default
returns-in_default c =
    let k = c.kind_at-kind.ensures in
    let h = form_rest k (form_alone _ (search rules)) in
    λ b w s. let v = as_form c.args.src.now c.args.text.now c.args.tree.now _ c.args.end c.args.node _ h s in record { wrote = same (ap spelled_fixed c.alone.ensures ∙ sym v.says) c.put_fixed.ensures; first = v.empty }
