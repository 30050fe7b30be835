use Rattle.std.proofs.Common.{refl, sym, ◌∙◌, ap, arith, List, [], ◌∷◌, ℕ, ◌++◌, get_or}
use Rattle.std.proofs.lemmas.List.{take_all, take_more, take_more_set}
use Rattle.writing.proofs.back.copy.Goals as goal

pub loop-k-init : goal.loop-k-init
loop-k-init c = refl

pub loop-k-preserved : goal.loop-k-preserved
loop-k-preserved c =
    let l = c.loop-k in
    let t = c.args.text.now in
    take_more_set l.out l.k (get_or t l.k 0) (omega (arith, c.requires, l.auto.out, c.loop-k-test.true))
    ∙ ap (λ (x : List ℕ). x ++ get_or t l.k 0 ∷ []) l.invariant ∙ sym (take_more t l.k 0 c.loop-k-test.true)

pub returns : goal.returns
returns c =
    let l = c.loop-k in
    sym (take_all l.k l.out (omega (arith, c.requires, l.auto.out, c.loop-k-test.false))) ∙ l.invariant ∙ take_all l.k c.args.text.now c.loop-k-test.false
