use mathlib.Core.Path.{◌≡◌, sym, ap, ◌∙◌}
use mathlib.Core.List.{List, ◌++◌, append_assoc}
use Prim.Native.Nat.{ℕ, ◌+◌, ◌-◌, ◌≤◌}
use native.Mathlib.Omega.{arith}
use lib.ListN.{take, drop, replicate, length-take, length-drop}
use lib.Seq.{take_all, drop-drop}
use Rattle.areas.specs.Area.{filled_with}
use Rattle.areas.proofs.put_zeros.Goals as goal

-- the part that was lent, back in its place
put : {T : Type 0} (x : T) (from to : ℕ) (s ys : List T) → from ≤ to → ys ≡ replicate (to - from) x → take from s ++ (ys ++ drop (to - from) (drop from s)) ≡ filled_with x from to s
unfolding filled_with
put x from to s ys h e =
    let end : from + (to - from) ≡ to = omega arith in
    rw (e, drop-drop, end) (sym (append_assoc (take from s) (replicate (to - from) x) (drop to s)))

pub returns : goal.returns
returns g c =
    let a = c.args in
    let l = c.loop-x in
    let n : l.x-index ≡ a.to - a.from = omega (arith, l.auto.x-items, l.auto.x-index-end, c.loop-x-test.false, length-take (a.to - a.from) (drop a.from a.s.now), length-drop a.from a.s.now) in
    let zeros = sym (take_all l.x-index l.x-items (omega (arith, l.auto.x-items, c.loop-x-test.false))) ∙ l.invariant in
    put g.T.Zero.zero a.from a.to a.s.now l.x-items c.requires.0 (zeros ∙ ap (λ k. replicate k g.T.Zero.zero) n)
