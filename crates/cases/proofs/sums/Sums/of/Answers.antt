use Rattle.std.proofs.Common.{◌≡◌, ◌+◌, ◌++◌, ◌∷◌, [], take, arith}
use Rattle.std.proofs.lemmas.Fn.{FoldsTo-push}
use Rattle.std.proofs.lemmas.Grind.{common_steps}
use Rattle.cases.specs.Sums.{Adds}
use Rattle.cases.proofs.sums.Sums.of.Goals as goal

pub loop-w-preserved : goal.loop-w-preserved
loop-w-preserved g c =
    let l = c.loop-w in
    let a = c.add-first in
    let b = c.add-second in
    let ws = c.args.words.now in
    let r = Adds g.T.Into.converts in
    let before = take l.w-index ws in
    let e : take (l.w-index + 1) ws ≡ before ++ (c.w-item.result ∷ []) = grind (arith, common_steps) in (
      omega (arith, a.ensures.bound),
      omega (arith, b.ensures.bound),
      rw e (FoldsTo-push (r 65599 4294967291) 0 before l.first c.w-item.result a.result l.invariant.2 (c.into-w.result, c.into-w.ensures, a.ensures.value)),
      rw e (FoldsTo-push (r 69069 4294967279) 0 before l.second c.w-item.result b.result l.invariant.3 (c.into-w.result, c.into-w.ensures, b.ensures.value)),
    )
