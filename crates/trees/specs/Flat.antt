-- The layout of a tree: its nodes in the order of writing. "A node is written when its last part is read" (01, Tree), so a node stands behind all below it.
-- Assumes nothing.
use Rattle.std.specs.Prelude.{ℕ, ◌+◌, ◌-◌, List, [], ◌∷◌, ◌++◌, get_or}
use Rattle.token.specs.Code as token
use Rattle.ast.specs.Kind as kind
use Rattle.ast.specs.Node.{Field, Node, none}
use Rattle.ast.specs.Operator.{binary_op_lem}
use Rattle.trees.specs.Tree.{Part, chain, growing, whole, row, Tree, node, chained, done, unused, word, child, kids, other, nil, full, one, more, first, link}

-- how many nodes a tree has
unfoldable pub size : {i : Part} → Tree i → ℕ
size (node k s e h r) = size r + 1
size (chained c) = size c
size done = 0
size (unused r) = size r
size (word w r) = size r
size (child x r) = size x + size r
size (kids l r) = size l + size r
size (other l r) = size l + size r
size nil = 0
size (full l) = size l
size (one x) = size x
size (more l x) = size l + size x
size (first s e op x y) = size x + size y + 1
size (link s e s' e' op c y) = size c + size y + 2

-- The number of a tree's last node, where b is that of its first: a node's or a chain's own, or that of the last member of a list.
abbrev pub top : {i : Part} → ℕ → Tree i → ℕ
top b x = b + size x - 1

-- the number of the first member: "A list is its first node or none, then next" (01, Tree)
unfoldable pub head_g : ℕ → Tree growing → ℕ
unfolding size
head_g b (one x) = top b x
head_g b (more l x) = head_g b l

unfoldable pub head : ℕ → Tree whole → ℕ
unfolding head_g
head b nil = none
head b (full l) = head_g b l

-- the number of a chain's last operand
unfoldable pub operand : ℕ → Tree chain → ℕ
unfolding size
operand b (first s e op x y) = top (b + size x) y
operand b (link s e s' e' op c y) = top (b + size c) y

-- what the fields of a node hold
unfoldable pub fields : {fs : List Field} → ℕ → Tree (row fs) → List ℕ
unfolding size head
fields b done = []
fields b (unused r) = 0 ∷ fields b r
fields b (word w r) = w ∷ fields b r
fields b (child x r) = top b x ∷ fields (b + size x) r
fields b (kids l r) = head b l ∷ fields (b + size l) r
fields b (other l r) = head b l ∷ fields (b + size l) r

-- a node with these four fields
abbrev pub filled : ℕ → ℕ → ℕ → ℕ → List ℕ → Node
filled k s e n l = record { kind = k; start = s; end = e; next = n; p = get_or l 0 0; q = get_or l 1 0; r = get_or l 2 0; s = get_or l 3 0 }

abbrev pub binary : ℕ → ℕ → ℕ → ℕ → ℕ → ℕ → Node
binary s e n op l r = filled kind.Binary s e n (op ∷ l ∷ r ∷ 0 ∷ [])

-- The nodes ns with those of a tree behind them. b: the number of its first node. n: what the last one has for its next. "A chain `a<b<c` is And(a<b, b<c), the
-- middle node referred to twice" (01, Grammar): by its number, `operand`.
unfoldable pub onto : {i : Part} → List Node → ℕ → ℕ → Tree i → List Node
unfolding size head operand fields binary_op_lem
onto ns b n (node k s e h r) = onto ns b none r ++ filled k s e n (fields b r) ∷ []
onto ns b n (chained c) = onto ns b n c
onto ns b n done = ns
onto ns b n (unused r) = onto ns b n r
onto ns b n (word w r) = onto ns b n r
onto ns b n (child x r) = onto (onto ns b none x) (b + size x) n r
onto ns b n (kids l r) = onto (onto ns b none l) (b + size l) n r
onto ns b n (other l r) = onto (onto ns b none l) (b + size l) n r
onto ns b n nil = ns
onto ns b n (full l) = onto ns b none l
onto ns b n (one x) = onto ns b n x
onto ns b n (more l x) = onto (onto ns b (top (b + size l) x) l) (b + size l) n x
onto ns b n (first s e op x y) = onto (onto ns b none x) (b + size x) none y ++ binary s e n op (top b x) (top (b + size x) y) ∷ []
onto ns b n (link s e s' e' op c y) =
    (onto (onto ns b none c) (b + size c) none y ++ binary s' e' none op (operand b c) (top (b + size c) y) ∷ [])
    ++ binary s e n (binary_op_lem token.And) (top b c) (b + size c + size y) ∷ []

-- the nodes of a tree, the first of them with number 0
abbrev pub flat : {i : Part} → Tree i → List Node
flat x = onto [] 0 none x
