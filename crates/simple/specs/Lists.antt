-- Statements that are linked as they are read: what the function `append` tells. Only contracts cite this.
-- Assumes nothing.
use Rattle.std.specs.Prelude.{ℕ, ◌<◌, ◌≡◌, Option, None, Some, List, [], ◌∷◌}
use Rattle.token.specs.declared.NodeNumber.{NodeNumber}
use Rattle.pyhyeon.specs.Machine.{growing}
use Rattle.pyhyeon.specs.Action.{list_join}
use Rattle.leaves.specs.declared.State.{State}
use Rattle.leaves.specs.Contract.{Changes}
use Rattle.simple.specs.declared.Gathered.{Gathered}

-- the last node of the list lies before the state
pub record Held (b : Option Gathered) (s : State) : Type 0 where
  pub last : (g : Gathered) → b ≡ Some g → g.last.0 < s.nodes

-- "A list is its first node or none, then next" (01, Tree): the list from the node n up to any m is put behind what is gathered. It is the whole list,
-- or the action `list_join` links the two.
pub record Appended (src toks : List ℕ) (b : Option Gathered) (n : NodeNumber) (s : State) (tr : List ℕ) (r : NodeNumber) (tr' : List ℕ) : Type 0 where
  pub alone : b ≡ None → (r ≡ n) × (tr' ≡ tr)
  pub both : (g : Gathered) → b ≡ Some g → (r ≡ g.first) × ((m : ℕ) → Changes src toks list_join (growing n.0 m ∷ growing g.first.0 g.last.0 ∷ []) (growing g.first.0 m ∷ []) s tr tr')
