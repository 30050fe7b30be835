-- `writer::hollow::any_hollow` meets its contract: some block is hollow if one of the nodes that are left has such a block.
use mathlib.Core.Path.{◌≡◌}
use Rattle.ast.specs.Words.{nodes_of}
use Rattle.standard.specs.Hollow.{any_hollow_lem}
use Rattle.writer.proofs.Left.{left}
use Rattle.writer.proofs.hollow.any_hollow.Given as goal

abbrev pub invariant-loop-k : goal.invariant-loop-k
invariant-loop-k l = any_hollow_lem (nodes_of l.tree l.nodes) ≡ left l.tree l.nodes l.k
