-- `printing::print_tree` meets its contract: the header's line, and the nodes' lines behind it.
use native.Mathlib.Omega.{arith}
use Rattle.ast.specs.Words.{nodes_of}
use Rattle.printing.proofs.Writing.{both, same, shows}
use Rattle.printing.proofs.Lines.{header_ends, tree_lines}
use Rattle.printing.proofs.print_tree.Goals as goal

pub put_nodes-requires : goal.put_nodes-requires
put_nodes-requires c =
    let a = c.args in
    let p = c.put_line-next in
    let e = header_ends a.tree.now (omega arith) _ p.result a.out.now p.new.out p.ensures in
    (c.requires.0, omega arith)

pub returns : goal.returns
returns c =
    let a = c.args in
    shows (same (tree_lines a.tree.now (omega arith) _ c.from.ensures (nodes_of a.tree.now a.nodes)) (both c.put_line-next.ensures c.put_nodes.ensures))
