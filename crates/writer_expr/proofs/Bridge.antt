-- Where the nodes in the words have the shades of a tree, it stands there.
-- Assumes nothing.
use mathlib.Core.Path.{◌≡◌, refl, sym, ap, ◌∙◌}
use mathlib.Core.List.{List, [], ◌∷◌, ◌++◌, append_assoc, append-nil, map}
use Prim.Native.Nat.{ℕ, ◌+◌, ◌*◌, ◌≤◌, ◌<◌}
use native.Mathlib.Omega.{arith}
use lib.ListN.{length, get_or, length-append, length-map, get_or-map}
use lib.Seq.{get_or_at}
use Rattle.token.specs.Code as token
use Rattle.ast.specs.Kind as kind
use Rattle.ast.specs.Node.{none, blank}
use Rattle.ast.specs.Operator.{binary_op_lem}
use Rattle.ast.specs.Words.{node_at, nodes_of}
use Rattle.ast.proofs.Nodes.{length_nodes, node_there}
use Rattle.unparse.specs.Trees.{Sort, Tree}
use Rattle.standard.specs.Alike.{Shade, places, chosen, shade}
use Rattle.standard.specs.Bare.{Bare, b_node, b_end, b_nil, b_word, b_child, b_list, b_more, b_one, b_full, b_first, b_link, size_b, top_b, head_b, operand_b, fields_b, binary_b, onto_b}
use Rattle.standard.specs.Plant.{plant}
use Rattle.writer_expr.specs.Laid.{fields_at, Inside, Root, Laid, Stands}

-- ---- lists of shades that begin with others

record Extends (l m : List Shade) : Type 0 where
  rest : List Shade
  is : m ≡ l ++ rest

self : (l : List Shade) → Extends l l
self l = record { rest = []; is = sym (append-nil l) }

one_more : {l m : List Shade} (v : Shade) → Extends l m → Extends l (m ++ v ∷ [])
one_more {l} v e = record { rest = e.rest ++ v ∷ []; is = ap (λ (x : List Shade). x ++ v ∷ []) e.is ∙ append_assoc l e.rest (v ∷ []) }

further : {l m n : List Shade} → Extends l m → Extends m n → Extends l n
further {l} e f = record { rest = e.rest ++ f.rest; is = f.is ∙ ap (λ (x : List Shade). x ++ f.rest) e.is ∙ append_assoc l e.rest f.rest }

extends : (ns : List Shade) (b n : ℕ) (x : Bare) → Extends ns (onto_b ns b n x)
unfolding onto_b
extends ns b n (b_node k bs r) = one_more (record { kind = k; next = n; fields = fields_b b r; bytes = bs }) (extends ns b none r)
extends ns b n b_end = self ns
extends ns b n b_nil = self ns
extends ns b n (b_word w r) = extends ns b n r
extends ns b n (b_child x r) = further (extends ns b none x) (extends (onto_b ns b none x) (b + size_b x) n r)
extends ns b n (b_list l r) = further (extends ns b none l) (extends (onto_b ns b none l) (b + size_b l) n r)
extends ns b n (b_more l x) = further (extends ns b (top_b (b + size_b l) x) l) (extends (onto_b ns b (top_b (b + size_b l) x) l) (b + size_b l) n x)
extends ns b n (b_one x) = extends ns b n x
extends ns b n (b_full l) = extends ns b none l
extends ns b n (b_first op x y) =
    one_more (binary_b n op (top_b b x) (top_b (b + size_b x) y)) (further (extends ns b none x) (extends (onto_b ns b none x) (b + size_b x) none y))
extends ns b n (b_link op c y) =
    one_more (binary_b n (binary_op_lem token.And) (top_b b c) (b + size_b c + size_b y))
    (one_more (binary_b none op (operand_b b c) (top_b (b + size_b c) y)) (further (extends ns b none c) (extends (onto_b ns b none c) (b + size_b c) none y)))

length_onto_b : (ns : List Shade) (b n : ℕ) (x : Bare) → length (onto_b ns b n x) ≡ length ns + size_b x
unfolding onto_b size_b
length_onto_b ns b n (b_node k bs r) = simp length-append (omega (arith, length_onto_b ns b none r))
length_onto_b ns b n b_end = omega arith
length_onto_b ns b n b_nil = omega arith
length_onto_b ns b n (b_word w r) = length_onto_b ns b n r
length_onto_b ns b n (b_child x r) = omega (arith, length_onto_b (onto_b ns b none x) (b + size_b x) n r, length_onto_b ns b none x)
length_onto_b ns b n (b_list l r) = omega (arith, length_onto_b (onto_b ns b none l) (b + size_b l) n r, length_onto_b ns b none l)
length_onto_b ns b n (b_more l x) = omega (arith, length_onto_b (onto_b ns b (top_b (b + size_b l) x) l) (b + size_b l) n x, length_onto_b ns b (top_b (b + size_b l) x) l)
length_onto_b ns b n (b_one x) = length_onto_b ns b n x
length_onto_b ns b n (b_full l) = length_onto_b ns b none l
length_onto_b ns b n (b_first op x y) = simp length-append (omega (arith, length_onto_b (onto_b ns b none x) (b + size_b x) none y, length_onto_b ns b none x))
length_onto_b ns b n (b_link op c y) = simp length-append (omega (arith, length_onto_b (onto_b ns b none c) (b + size_b c) none y, length_onto_b ns b none c))

-- ---- the words

-- the place of a node lies inside
abbrev pub Placed : List ℕ → List ℕ → List ℕ → ℕ → Type 0
Placed src txt tr i = Inside src txt (node_at tr i).kind (chosen (places (node_at tr i).kind) (fields_at tr i))

module _ (src txt tr : List ℕ) (N : ℕ) (placed : (i : ℕ) → i < N → Placed src txt tr i) where
  abbrev all : List Shade
  all = map (shade src txt) (nodes_of tr N)

  root_is : {i n k : ℕ} {ws bs : List ℕ} → i < N → shade src txt (node_at tr i) ≡ record { kind = k; next = n; fields = ws; bytes = bs } → Root src txt tr i k bs ws
  unfolding shade
  root_is {i} h e =
      let k = ap (λ (s : Shade). s.kind) e in
      record {
        kind = k;
        fields = rw k at (ap (λ (s : Shade). s.fields) e);
        bytes = rw k at (ap (λ (s : Shade). s.bytes) e);
        inside = rw k at (placed i h);
      }

  -- a node behind others
  node_is : (P : List Shade) (v : Shade) (i : ℕ) → Extends (P ++ v ∷ []) all → length P ≡ i → (i < N) × (shade src txt (node_at tr i) ≡ v)
  node_is P v i e l =
      let f : all ≡ P ++ v ∷ e.rest = e.is ∙ append_assoc P (v ∷ []) e.rest in
      let n : N ≡ length P + length (v ∷ e.rest) = sym (length_nodes tr N) ∙ sym (length-map (nodes_of tr N) (shade src txt)) ∙ ap length f ∙ length-append P (v ∷ e.rest) in
      let h : i < N = omega arith in
      (h, sym (get_or-map (shade src txt) (nodes_of tr N) i blank ∙ ap (shade src txt) (node_there tr N i h)) ∙ ap (λ (s : List Shade). get_or s i (shade src txt blank)) f ∙ get_or_at P v e.rest (shade src txt blank) i l)

  rooted_there : (P : List Shade) (i n k : ℕ) (ws bs : List ℕ) → Extends (P ++ record { kind = k; next = n; fields = ws; bytes = bs } ∷ []) all → length P ≡ i → Root src txt tr i k bs ws
  rooted_there P i n k ws bs e l = let q = node_is P (record { kind = k; next = n; fields = ws; bytes = bs }) i e l in root_is q.0 q.1

  laid : (ns : List Shade) (b n : ℕ) (x : Bare) → Extends (onto_b ns b n x) all → length ns ≡ b → Laid src txt tr b x
  unfolding Laid onto_b size_b head_b operand_b fields_b binary_op_lem
  laid ns b n (b_node k bs r) e l = (
    laid ns b none r (further (one_more (record { kind = k; next = n; fields = fields_b b r; bytes = bs }) (self (onto_b ns b none r))) e) l,
    rooted_there (onto_b ns b none r) (b + size_b r) n k (fields_b b r) bs e (omega (arith, length_onto_b ns b none r)),
  )
  laid ns b n b_end e l = tt
  laid ns b n b_nil e l = tt
  laid ns b n (b_word w r) e l = laid ns b n r e l
  laid ns b n (b_child x r) e l = (laid ns b none x (further (extends (onto_b ns b none x) (b + size_b x) n r) e) l, laid (onto_b ns b none x) (b + size_b x) n r e (omega (arith, length_onto_b ns b none x)))
  laid ns b n (b_list m r) e l = (laid ns b none m (further (extends (onto_b ns b none m) (b + size_b m) n r) e) l, laid (onto_b ns b none m) (b + size_b m) n r e (omega (arith, length_onto_b ns b none m)))
  laid ns b n (b_more m x) e l =
      let t = top_b (b + size_b m) x in
      (laid ns b t m (further (extends (onto_b ns b t m) (b + size_b m) n x) e) l, laid (onto_b ns b t m) (b + size_b m) n x e (omega (arith, length_onto_b ns b t m)))
  laid ns b n (b_one x) e l = laid ns b n x e l
  laid ns b n (b_full m) e l = laid ns b none m e l
  laid ns b n (b_first op x y) e l =
      let P = onto_b (onto_b ns b none x) (b + size_b x) none y in
      let p = length_onto_b ns b none x in
      let f = further (one_more (binary_b n op (top_b b x) (top_b (b + size_b x) y)) (self P)) e in (
        (laid ns b none x (further (extends (onto_b ns b none x) (b + size_b x) none y) f) l, laid (onto_b ns b none x) (b + size_b x) none y f (omega arith)),
        rooted_there P (b + size_b x + size_b y) n kind.Binary (op ∷ top_b b x ∷ top_b (b + size_b x) y ∷ 0 ∷ []) [] e (omega (arith, length_onto_b (onto_b ns b none x) (b + size_b x) none y)),
      )
  laid ns b n (b_link op c y) e l =
      let P = onto_b (onto_b ns b none c) (b + size_b c) none y in
      let u = binary_b none op (operand_b b c) (top_b (b + size_b c) y) in
      let v = binary_b n (binary_op_lem token.And) (top_b b c) (b + size_b c + size_b y) in
      let p = length_onto_b ns b none c in
      let q : length P ≡ b + size_b c + size_b y = omega (arith, length_onto_b (onto_b ns b none c) (b + size_b c) none y) in
      let g = further (one_more v (self (P ++ u ∷ []))) e in
      let f = further (one_more u (self P)) g in (
        (laid ns b none c (further (extends (onto_b ns b none c) (b + size_b c) none y) f) l, laid (onto_b ns b none c) (b + size_b c) none y f (omega arith)),
        (
          rooted_there P (b + size_b c + size_b y) none kind.Binary (op ∷ operand_b b c ∷ top_b (b + size_b c) y ∷ 0 ∷ []) [] g q,
          rooted_there (P ++ u ∷ []) (b + size_b c + size_b y + 1) n kind.Binary (binary_op_lem token.And ∷ top_b b c ∷ (b + size_b c + size_b y) ∷ 0 ∷ []) [] e (omega (arith, length-append P (u ∷ []))),
        ),
      )

  -- the nodes of a tree of any sort
  pub whole_stands : {s : Sort} {t : Tree s} → map (shade src txt) (nodes_of tr N) ≡ onto_b [] 0 none (plant t) → 8 * N + 8 ≤ length tr → N ≤ none → Stands src txt tr 0 t N
  whole_stands {t = t} e h k = record {
    laid = laid [] 0 none (plant t) (record { rest = []; is = e ∙ sym (append-nil (onto_b [] 0 none (plant t))) }) refl;
    ends = sym (length_nodes tr N) ∙ sym (length-map (nodes_of tr N) (shade src txt)) ∙ ap length e ∙ length_onto_b [] 0 none (plant t);
    held = h;
    few = k;
  }
