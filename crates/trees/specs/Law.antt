-- The law: the nodes of every accepted script are the layout of a proper tree (proofs/Top.antt, of the trial and of the descent). So what is defined and
-- shown of such trees holds of the nodes that the reader hands out.
-- Assumes nothing.
use Rattle.std.specs.Prelude.{ℕ, ◌≡◌, List, [], ◌∷◌}
use Rattle.tokens.specs.Token.{Token}
use Rattle.ast.specs.Node.{Node}
use Rattle.trees.specs.Tree.{Tree, single}
use Rattle.trees.specs.Flat.{flat}
use Rattle.trees.specs.Roles.{script, Proper}

-- the tree that these nodes are the layout of, all eight fields of each
pub record TreeOf (source : List ℕ) (toks : List Token) (ns : List Node) : Type 0 where
  pub tree : Tree single
  pub is : ns ≡ flat tree
  pub proper : Proper source toks single (script ∷ []) tree
