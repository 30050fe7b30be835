-- The values at hand as trees, and what the machine keeps for them.
-- Assumes nothing.
use Prim.Native.Nat.{ℕ, ◌+◌}
use mathlib.Core.List.{List, [], ◌∷◌}
use Rattle.ast.specs.Node.{Node, none}
use Rattle.pyhyeon.specs.Machine.{Value, Kept}
use Rattle.pyhyeon.specs.Machine as value
use Rattle.pyhyeon.specs.Sorts.{Sort, a-token, a_node, a_signs, a_growing, a_list, a_chain}
use Rattle.trees.specs.Tree.{single, chain, growing, whole, Tree}
use Rattle.trees.specs.Flat.{size, top, head_g, head, operand, onto}

-- a value at hand, by its sort: the number of a token; the first of some signs, and how many they are; a tree
abbrev pub Val : Sort → Type 0
Val a-token = ℕ
Val a_node = Tree single
Val a_signs = ℕ × ℕ
Val a_growing = Tree growing
Val a_list = Tree whole
Val a_chain = Tree chain

infixr 40 ◌▸◌
-- the values at hand, the last one first
pub data Stack : List Sort → Type 0 where
  bottom : Stack []
  ◌▸◌ : {i : Sort} {σ : List Sort} → Val i → Stack σ → Stack (i ∷ σ)

-- What the machine has for a value whose first node has the number b; the first number after it; the nodes ns with those of the value.
unfoldable pub slot : (i : Sort) → ℕ → Val i → Value
unfolding size head head_g operand
slot a-token b t = value.token t
slot a_node b x = value.node (top b x)
slot a_signs b v = value.signs v.0 v.1
slot a_growing b l = value.growing (head_g b l) (top b l)
slot a_list b l = value.list (head b l)
slot a_chain b c = value.chain (top b c) (operand b c)

unfoldable pub past : (i : Sort) → ℕ → Val i → ℕ
unfolding size
past a-token b t = b
past a_node b x = b + size x
past a_signs b v = b
past a_growing b l = b + size l
past a_list b l = b + size l
past a_chain b c = b + size c

unfoldable pub behind : (i : Sort) → List Node → ℕ → Val i → List Node
unfolding onto
behind a-token ns b t = ns
behind a_node ns b x = onto ns b none x
behind a_signs ns b v = ns
behind a_growing ns b l = onto ns b none l
behind a_list ns b l = onto ns b none l
behind a_chain ns b c = onto ns b none c

-- how many nodes the values have, the nodes, and the values as the machine has them
unfoldable pub count : {σ : List Sort} → Stack σ → ℕ
unfolding past
count bottom = 0
count (◌▸◌ {i} v st) = past i (count st) v

unfoldable pub nodes : {σ : List Sort} → Stack σ → List Node
unfolding count behind
nodes bottom = []
nodes (◌▸◌ {i} v st) = behind i (nodes st) (count st) v

unfoldable pub values : {σ : List Sort} → Stack σ → List Value
unfolding count slot
values bottom = []
values (◌▸◌ {i} v st) = slot i (count st) v ∷ values st

-- what the machine keeps, with `at` for the number of the next token
unfoldable pub lay : {σ : List Sort} → ℕ → Stack σ → Kept
unfolding nodes values
lay at st = record { at = at; nodes = nodes st; values = values st }
