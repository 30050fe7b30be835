use Rattle.printing.proofs.Lines.{nodes_begin, nodes_step, nodes_done, line_room}
use Rattle.printing.proofs.put_nodes.Goals as goal

pub loop-k-init : goal.loop-k-init
loop-k-init c =
    let a = c.args in
    nodes_begin a.nodes a.tree.now a.out.now a.at c.requires.1

pub put_line-next-requires : goal.put_line-next-requires
put_line-next-requires c =
    let l = c.loop-k in
    let a = c.args in
    line_room a.nodes a.tree.now a.out.now a.at l.out l.next l.k l.invariant c.loop-k-test.true c.requires.0

pub loop-k-preserved : goal.loop-k-preserved
loop-k-preserved c =
    let l = c.loop-k in
    let a = c.args in
    let f = c.node_fields-fields in
    let p = c.put_line-next in
    nodes_step a.nodes a.tree.now a.out.now a.at l.out l.next l.k l.invariant c.loop-k-test.true c.requires.0 p.new.out p.result f.result f.ensures p.ensures

pub returns : goal.returns
returns c =
    let l = c.loop-k in
    let a = c.args in
    nodes_done a.nodes a.tree.now a.out.now a.at l.out l.next l.k l.invariant c.loop-k-test.false
