-- `printing::put_nodes` meets its contract. The loop keeps `Nodes`.
use Rattle.printing.proofs.Lines.{Nodes}
use Rattle.printing.proofs.put_nodes.Given as goal

abbrev pub invariant-loop-k : goal.invariant-loop-k
invariant-loop-k l = Nodes l.nodes l.tree l.initial.out l.at l.out l.next l.k
