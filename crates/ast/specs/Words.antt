-- The tree as words: "a header .., then N records of 8 words: kind, start, end, next, p, q, r, s", "node offset 8" (01, Tree).
-- Assumes nothing.
use Rattle.std.specs.Prelude.{ℕ, zero, suc, ◌+◌, ◌*◌, List, [], ◌∷◌, get_or, set}
use Rattle.std.proofs.lemmas.List.Edits.{sets}
use Rattle.ast.specs.Node.{Node, words}

-- f at the k numbers from i on
abbrev pub tabulate : {A : Type 0} → (ℕ → A) → ℕ → ℕ → List A
tabulate f i zero = []
tabulate f i (suc k) = f i ∷ tabulate f (i + 1) k

-- the node of number k: eight words of the tree, from word 8 * k + 8 on
abbrev pub node_at : List ℕ → ℕ → Node
node_at tree k = record {
  kind = get_or tree (8 * k + 8) 0;
  start = get_or tree (8 * k + 8 + 1) 0;
  end = get_or tree (8 * k + 8 + 2) 0;
  next = get_or tree (8 * k + 8 + 3) 0;
  p = get_or tree (8 * k + 8 + 4) 0;
  q = get_or tree (8 * k + 8 + 5) 0;
  r = get_or tree (8 * k + 8 + 6) 0;
  s = get_or tree (8 * k + 8 + 7) 0;
}

-- the first k nodes of a tree
unfoldable pub nodes_of : List ℕ → ℕ → List Node
nodes_of tree k = tabulate (node_at tree) 0 k

-- the tree with this node as its node of number k; with another span of that node; with another next
unfoldable pub put_node_lem : List ℕ → ℕ → Node → List ℕ
put_node_lem tree k n = sets tree (8 * k + 8) (words n)

unfoldable pub set_span_lem : List ℕ → ℕ → ℕ → ℕ → List ℕ
set_span_lem tree k start end = sets tree (8 * k + 8 + 1) (start ∷ end ∷ [])

unfoldable pub set_next_lem : List ℕ → ℕ → ℕ → List ℕ
set_next_lem tree k next = set tree (8 * k + 8 + 3) next
