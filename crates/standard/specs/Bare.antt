-- Trees with no places, of any kinds: between trees with places and erased trees. For contracts of the writer's inner functions (`writer_expr`, `writer_stmt`) and for
-- proofs; no promise of `writer` rests on it.
-- Assumes nothing.
use Rattle.std.specs.Prelude.{ℕ, ◌+◌, ◌-◌, Bool, false, cond, get_or, drop}
use mathlib.Core.List.{List, [], ◌∷◌, ◌++◌}
use Rattle.token.specs.Code as token
use Rattle.ast.specs.Kind as kind
use Rattle.ast.specs.Node.{Field, none}
use Rattle.ast.specs.Operator.{binary_op_lem}
use Rattle.trees.specs.Tree.{Part, row, Tree, node, chained, done, unused, word, child, kids, other, nil, full, one, more, first, link}
use Rattle.standard.specs.Alike.{Shade, places, bytes_at}

-- a node with its kind, its bytes and its fields; fields; lists; chains
pub data Bare : Type 0 where
  b_node : ℕ → List ℕ → Bare → Bare
  b_end b_nil : Bare
  b_word : ℕ → Bare → Bare
  b_child b_list b_more : Bare → Bare → Bare
  b_one b_full : Bare → Bare
  b_first b_link : ℕ → Bare → Bare → Bare

-- the words of a row that are a place
unfoldable pub places_of : {fs : List Field} → List Bool → Tree (row fs) → List ℕ
places_of bs done = []
places_of bs (unused r) = places_of (drop 1 bs) r
places_of bs (word w r) = cond (get_or bs 0 false) (w ∷ places_of (drop 1 bs) r) (places_of (drop 1 bs) r)
places_of bs (child x r) = places_of (drop 1 bs) r
places_of bs (kids l r) = places_of (drop 1 bs) r
places_of bs (other l r) = places_of (drop 1 bs) r

module _ (source text : List ℕ) where
  -- bs: which fields of a row are a place
  unfoldable pub bare : {i : Part} → List Bool → Tree i → Bare
  unfolding places_of
  bare bs (node k s e h r) = b_node k (bytes_at source text k (places_of (places k) r)) (bare (places k) r)
  bare bs (chained c) = bare bs c
  bare bs done = b_end
  bare bs (unused r) = b_word 0 (bare (drop 1 bs) r)
  bare bs (word w r) = b_word (cond (get_or bs 0 false) 0 w) (bare (drop 1 bs) r)
  bare bs (child x r) = b_child (bare [] x) (bare (drop 1 bs) r)
  bare bs (kids l r) = b_list (bare [] l) (bare (drop 1 bs) r)
  bare bs (other l r) = b_list (bare [] l) (bare (drop 1 bs) r)
  bare bs nil = b_nil
  bare bs (full l) = b_full (bare bs l)
  bare bs (one x) = b_one (bare bs x)
  bare bs (more l x) = b_more (bare bs l) (bare bs x)
  bare bs (first s e op x y) = b_first op (bare [] x) (bare [] y)
  bare bs (link s e s' e' op c y) = b_link op (bare [] c) (bare [] y)

-- the layout, as that of trees
unfoldable pub size_b : Bare → ℕ
size_b (b_node k bs r) = size_b r + 1
size_b b_end = 0
size_b b_nil = 0
size_b (b_word w r) = size_b r
size_b (b_child x r) = size_b x + size_b r
size_b (b_list l r) = size_b l + size_b r
size_b (b_more l x) = size_b l + size_b x
size_b (b_one x) = size_b x
size_b (b_full l) = size_b l
size_b (b_first op x y) = size_b x + size_b y + 1
size_b (b_link op c y) = size_b c + size_b y + 2

abbrev pub top_b : ℕ → Bare → ℕ
top_b b x = b + size_b x - 1

unfoldable pub head_b : ℕ → Bare → ℕ
unfolding size_b
head_b b (b_one x) = top_b b x
head_b b (b_more l x) = head_b b l
head_b b (b_full l) = head_b b l
head_b b (b_node k bs r) = none
head_b b b_end = none
head_b b b_nil = none
head_b b (b_word w r) = none
head_b b (b_child x r) = none
head_b b (b_list l r) = none
head_b b (b_first op x y) = none
head_b b (b_link op c y) = none

unfoldable pub operand_b : ℕ → Bare → ℕ
unfolding size_b
operand_b b (b_first op x y) = top_b (b + size_b x) y
operand_b b (b_link op c y) = top_b (b + size_b c) y
operand_b b (b_one x) = 0
operand_b b (b_full l) = 0
operand_b b (b_more l x) = 0
operand_b b (b_node k bs r) = 0
operand_b b b_end = 0
operand_b b b_nil = 0
operand_b b (b_word w r) = 0
operand_b b (b_child x r) = 0
operand_b b (b_list l r) = 0

unfoldable pub fields_b : ℕ → Bare → List ℕ
unfolding size_b head_b
fields_b b (b_word w r) = w ∷ fields_b b r
fields_b b (b_child x r) = top_b b x ∷ fields_b (b + size_b x) r
fields_b b (b_list l r) = head_b b l ∷ fields_b (b + size_b l) r
fields_b b (b_node k bs r) = []
fields_b b b_end = []
fields_b b b_nil = []
fields_b b (b_more l x) = []
fields_b b (b_one x) = []
fields_b b (b_full l) = []
fields_b b (b_first op x y) = []
fields_b b (b_link op c y) = []

abbrev pub binary_b : ℕ → ℕ → ℕ → ℕ → Shade
binary_b n op l r = record { kind = kind.Binary; next = n; fields = op ∷ l ∷ r ∷ 0 ∷ []; bytes = [] }

unfoldable pub onto_b : List Shade → ℕ → ℕ → Bare → List Shade
unfolding size_b head_b operand_b fields_b binary_op_lem
onto_b ns b n (b_node k bs r) = onto_b ns b none r ++ record { kind = k; next = n; fields = fields_b b r; bytes = bs } ∷ []
onto_b ns b n b_end = ns
onto_b ns b n b_nil = ns
onto_b ns b n (b_word w r) = onto_b ns b n r
onto_b ns b n (b_child x r) = onto_b (onto_b ns b none x) (b + size_b x) n r
onto_b ns b n (b_list l r) = onto_b (onto_b ns b none l) (b + size_b l) n r
onto_b ns b n (b_more l x) = onto_b (onto_b ns b (top_b (b + size_b l) x) l) (b + size_b l) n x
onto_b ns b n (b_one x) = onto_b ns b n x
onto_b ns b n (b_full l) = onto_b ns b none l
onto_b ns b n (b_first op x y) = onto_b (onto_b ns b none x) (b + size_b x) none y ++ binary_b n op (top_b b x) (top_b (b + size_b x) y) ∷ []
onto_b ns b n (b_link op c y) =
    (onto_b (onto_b ns b none c) (b + size_b c) none y ++ binary_b none op (operand_b b c) (top_b (b + size_b c) y) ∷ [])
    ++ binary_b n (binary_op_lem token.And) (top_b b c) (b + size_b c + size_b y) ∷ []
