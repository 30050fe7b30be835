-- `reader::finish` meets its contract: the header, and zeros behind the records.
use Rattle.reader.proofs.Filled.{finished}
use lib.ListN.{length-drop}
use lib.Seq.{length-take-le}
use native.Mathlib.Omega.{arith}
use Rattle.reader.proofs.finish.Goals as goal

pub returns : goal.returns
returns c =
    let a = c.args in
    let t = a.found in
    finished a.n t.tokens t.text t.nodes t.openings _ a.tree.now c.put_header.new.tree c.fill.new.self c.requires.tree_len (omega arith) c.put_header.ensures (c.fill.ensures.after (λ y e. e)) (length-take-le _ _ (simp length-drop (omega arith)))
