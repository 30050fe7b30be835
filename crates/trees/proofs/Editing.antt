-- What actions read of a tree, and what they change in one.
-- Assumes nothing.
use Prim.Native.Nat.{ℕ}
use Rattle.trees.specs.Tree.{single, chain, growing, Tree, node, chained, one, more, first, link}

-- where a chain, a node, and a list in the making start: the last where its first member does
unfoldable pub start_c : Tree chain → ℕ
start_c (first s e op x y) = s
start_c (link s e s' e' op c y) = s

unfoldable pub start : Tree single → ℕ
unfolding start_c
start (node k s e h r) = s
start (chained c) = start_c c

unfoldable pub start_g : Tree growing → ℕ
unfolding start
start_g (one x) = start x
start_g (more l x) = start_g l

-- where a chain and a node end
unfoldable pub stop_c : Tree chain → ℕ
stop_c (first s e op x y) = e
stop_c (link s e s' e' op c y) = e

unfoldable pub stop : Tree single → ℕ
unfolding stop_c
stop (node k s e h r) = e
stop (chained c) = stop_c c

-- the last operand of a chain
unfoldable pub final : Tree chain → Tree single
final (first s e op x y) = y
final (link s e s' e' op c y) = y

-- the same with another span
unfoldable pub widen_c : ℕ → ℕ → Tree chain → Tree chain
widen_c a z (first s e op x y) = first a z op x y
widen_c a z (link s e s' e' op c y) = link a z s' e' op c y

unfoldable pub widen : ℕ → ℕ → Tree single → Tree single
unfolding widen_c
widen a z (node k s e h r) = node k a z h r
widen a z (chained c) = chained (widen_c a z c)

-- a list with another behind it
unfoldable pub joined : Tree growing → Tree growing → Tree growing
joined l (one x) = more l x
joined l (more m x) = more (joined l m) x
