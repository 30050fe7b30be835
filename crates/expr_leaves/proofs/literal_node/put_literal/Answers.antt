-- `expr_leaves::put_literal` does the action `literal`, and counts the literal's text.
use Prim.Native.Nat.{◌+◌, ◌-◌}
use native.Mathlib.Omega.{arith}
use mathlib.Core.Path.{◌≡◌, sym, ◌∙◌}
use Rattle.expr_leaves.proofs.Acts.{leaf_node, literal_wrote}
use Rattle.expr_leaves.proofs.Apt.{Given, given}
use Rattle.expr_leaves.proofs.literal_node.put_literal.Goals as goal
use Rattle.expr_leaves.proofs.literal_node.put_literal.Goals.{After-literal_of-l}

read : (c : After-literal_of-l) → Given c.args.src.now c.args.toks.now (c.args.s.at.0 - 1) c.literal_of-l.result c.args.s.used
read c = given _ _ _ c.literal_of-l.ensures c.code_at-code.ensures c.start_at-from.ensures c.end_at-to.ensures c.requires.used_value

pub literal_of-l-requires : goal.literal_of-l-requires
literal_of-l-requires c =
    let w = c.requires.tokens in
    let h = c.requires.spot in
    let p = w.span (c.args.s.at.0 - 1) (omega (arith, h.last, h.some)) in
    let e = c.code_at-code.ensures in
    let f = c.start_at-from.ensures in
    let g = c.end_at-to.ensures in
    record { start_le_end = (omega (arith, p.order), omega (arith, p.within), omega (arith, w.small)); start_bound = λ d. omega (arith, p.quotes (sym e ∙ d)) }

pub leaf_of-requires : goal.leaf_of-requires
leaf_of-requires c = (read (goal.at.leaf_of-requires c).After-literal_of-l).bits

pub text_after-used-requires : goal.text_after-used-requires
text_after-used-requires c =
    let w = c.requires.tokens in
    let h = c.requires.spot in
    let g = read (goal.at.text_after-used-requires c).After-literal_of-l in
    omega (arith, g.text, w.text (c.args.s.at.0 - 1 + 1) (omega (arith, h.last, h.some)), w.small)

pub returns : goal.returns
returns c =
    let h = c.requires.spot in
    let g = read (goal.at.returns c).After-literal_of-l in
    let z : c.args.s.at.0 - 1 + 1 ≡ c.args.s.at.0 = omega (arith, h.some) in
    literal_wrote h c.put_opened.ensures (c.text_after-used.ensures ∙ (rw z at g.text)) (leaf_node _ _ c.leaf_of.ensures c.start_at-from.ensures c.end_at-to.ensures g.same)
