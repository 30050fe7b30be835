-- `writer_expr::put_attribute` meets its contract.
use native.Mathlib.Omega.{arith}
use Rattle.writer_expr.proofs.Viewed.{view}
use Rattle.writer_expr.proofs.Parts.{held, turn_attribute}
use Rattle.writer_expr.proofs.put_attribute.Goals as goal

pub word_at-requires : goal.word_at-requires
word_at-requires c = let h = held c.requires.some.stands in (h.0, h.1, omega arith)

pub word_at-requires-2 : goal.word_at-requires-2
word_at-requires-2 c = let h = held c.requires.some.stands in (h.0, h.1, omega arith)

pub put_part-requires : goal.put_part-requires
put_part-requires c =
    let v = view _ _ _ c.requires.formed c.requires.some.stands in
    let n = v.name in
    (omega (arith, c.word_at.ensures, c.word_at-2.ensures), omega (arith, c.word_at-2.ensures))

pub overflow_sub-result : goal.overflow_sub-result
overflow_sub-result c = let h = held c.requires.some.stands in omega arith

pub returns : goal.returns
returns c = λ b x s. let v = view _ _ _ c.requires.formed s in turn_attribute v (held s).0 c.word_at.ensures c.word_at-2.ensures c.put_part.ensures c.put_fixed.ensures
