-- `levels::compare` meets its contract: by what stands before the operand, nothing, the leaf of a Binary, or that and the leaf of an And.
use native.Mathlib.Omega.{arith}
use Rattle.levels.proofs.Joining.{spot_less, compared_none, compared_first, compared_further}
use Rattle.levels.proofs.compare.Goals as goal

pub put_binary-requires : goal.put_binary-requires
put_binary-requires c =
    record { spot = spot_less c.requires.spot; op_lt_at = c.requires.hung.first _ _ c.in-First.is }

pub put_binary-requires-in-Further : goal.put_binary-requires-in-Further
put_binary-requires-in-Further c =
    let h = c.requires.hung.further _ _ _ c.in-Further.is in
    record { spot = spot_less c.requires.spot; op_lt_at = (h.0, h.2) }

pub put_and-requires : goal.put_and-requires
put_and-requires c =
    let h = c.requires.hung.further _ _ _ c.in-Further.is in
    let w = c.put_binary-in-Further.ensures c.args.toks.now in
    let k = c.put_binary-in-Further.auto.tree in
    let p = c.requires.spot in
    record { spot = rw w.after (record { some = omega arith; token = omega arith; last = omega arith; word = omega (arith, k, p.word); count = omega arith }); l_lt_nodes = rw w.after (omega (arith, h.1)) }

pub returns-in-Nothing : goal.returns-in-Nothing
returns-in-Nothing c = λ src. rw c.in-Nothing.is compared_none

pub returns-in-First : goal.returns-in-First
returns-in-First c =
    λ src. rw c.in-First.is (compared_first (c.put_binary.ensures src))

pub shape_of-tree-in-Further : goal.shape_of-tree-in-Further
shape_of-tree-in-Further c =
    omega (arith, c.put_and.auto.tree, c.put_binary-in-Further.auto.tree)

pub returns-in-Further : goal.returns-in-Further
returns-in-Further c =
    λ src. rw c.in-Further.is (compared_further (c.put_binary-in-Further.ensures src) (c.put_and.ensures src))
