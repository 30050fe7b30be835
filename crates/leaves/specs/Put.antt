-- For contracts of the leaves alone: a node that was put behind the others.
-- Assumes nothing.
use Rattle.std.specs.Prelude.{ℕ, ◌≡◌, List}
use Rattle.ast.specs.Node.{Node}
use Rattle.ast.specs.Words.{put_node_lem}
use Rattle.leaves.specs.Contract.{added}
use Rattle.leaves.specs.declared.State.{State}
use Rattle.leaves.specs.declared.Added.{Added}

-- the node n was written behind the nodes of s, and is counted
pub record Put (s : State) (tr : List ℕ) (n : Node) (r : Added) (tr' : List ℕ) : Type 0 where
  pub node : r.0.0 ≡ s.nodes
  pub after : r.1 ≡ added s
  pub words : tr' ≡ put_node_lem tr s.nodes n
