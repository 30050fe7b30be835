-- What is read and changed in place among the nodes of a tree: the last node of a stretch.
-- Assumes nothing.
use mathlib.Core.Path.{◌≡◌, refl, ap, sym, ◌∙◌}
use mathlib.Core.List.{List, [], ◌∷◌, ◌++◌, append_assoc, append-nil}
use Prim.Native.Nat.{ℕ, ◌+◌, ◌≤◌, ◌<◌}
use native.Mathlib.Omega.{arith}
use lib.ListN.{length, get_or, set, length-append, get_or-append}
use lib.Seq.{get_or_at, set_at, set-append_left}
use Rattle.token.specs.Code as token
use Rattle.ast.specs.Kind as kind
use Rattle.ast.specs.Operator.{binary_op_lem}
use Rattle.ast.specs.Node.{Node, none, linked, spanned, blank}
use Rattle.trees.specs.Tree.{Part, single, chain, growing, Tree, node, chained, done, unused, word, child, kids, other, nil, full, one, more, first, link}
use Rattle.trees.proofs.Editing.{start, start_c, start_g, stop, stop_c, final, widen, widen_c, joined}
use Rattle.trees.specs.Flat.{size, top, head_g, operand, fields, filled, binary, onto}

pub length_onto : {i : Part} (ns : List Node) (b n : ℕ) (x : Tree i) → length (onto ns b n x) ≡ length ns + size x
unfolding onto size
length_onto ns b n (node k s e h r) = simp length-append (omega (arith, length_onto ns b none r))
length_onto ns b n (chained c) = length_onto ns b n c
length_onto ns b n done = omega arith
length_onto ns b n (unused r) = length_onto ns b n r
length_onto ns b n (word w r) = length_onto ns b n r
length_onto ns b n (child x r) = omega (arith, length_onto (onto ns b none x) (b + size x) n r, length_onto ns b none x)
length_onto ns b n (kids l r) = omega (arith, length_onto (onto ns b none l) (b + size l) n r, length_onto ns b none l)
length_onto ns b n (other l r) = omega (arith, length_onto (onto ns b none l) (b + size l) n r, length_onto ns b none l)
length_onto ns b n nil = omega arith
length_onto ns b n (full l) = length_onto ns b none l
length_onto ns b n (one x) = length_onto ns b n x
length_onto ns b n (more l x) =
    omega (arith, length_onto (onto ns b (top (b + size l) x) l) (b + size l) n x, length_onto ns b (top (b + size l) x) l)
length_onto ns b n (first s e op x y) =
    simp length-append (omega (arith, length_onto (onto ns b none x) (b + size x) none y, length_onto ns b none x))
length_onto ns b n (link s e s' e' op c y) =
    simp length-append (omega (arith, length_onto (onto ns b none c) (b + size c) none y, length_onto ns b none c))

-- the nodes of a tree do not depend on those before
onto_append : {i : Part} (A B : List Node) (b n : ℕ) (x : Tree i) → onto (A ++ B) b n x ≡ A ++ onto B b n x
unfolding onto
onto_append A B b n (node k s e h r) = rw (onto_append A B b none r) (append_assoc A _ _)
onto_append A B b n (chained c) = onto_append A B b n c
onto_append A B b n done = refl
onto_append A B b n (unused r) = onto_append A B b n r
onto_append A B b n (word w r) = onto_append A B b n r
onto_append A B b n (child x r) = rw (onto_append A B b none x) (onto_append A _ (b + size x) n r)
onto_append A B b n (kids l r) = rw (onto_append A B b none l) (onto_append A _ (b + size l) n r)
onto_append A B b n (other l r) = rw (onto_append A B b none l) (onto_append A _ (b + size l) n r)
onto_append A B b n nil = refl
onto_append A B b n (full l) = onto_append A B b none l
onto_append A B b n (one x) = onto_append A B b n x
onto_append A B b n (more l x) = rw (onto_append A B b (top (b + size l) x) l) (onto_append A _ (b + size l) n x)
onto_append A B b n (first s e op x y) =
    rw (onto_append A B b none x, onto_append A (onto B b none x) (b + size x) none y) (append_assoc A _ _)
onto_append A B b n (link s e s' e' op c y) =
    rw (onto_append A B b none c, onto_append A (onto B b none c) (b + size c) none y) (simp append_assoc)

pub onto_is : {i : Part} (A : List Node) (b n : ℕ) (x : Tree i) → onto A b n x ≡ A ++ onto [] b n x
onto_is A b n x = ap (λ (l : List Node). onto l b n x) (sym (append-nil A)) ∙ onto_append A [] b n x

-- what stands before a tree is read and set under it
module _ {i : Part} (A : List Node) (j : ℕ) (lt : j < length A) (b n : ℕ) (x : Tree i) where
  pub get_under : get_or (onto A b n x) j blank ≡ get_or A j blank
  get_under = rw (onto_is A b n x) (get_or-append A (onto [] b n x) blank j lt)

  pub set_under : (v : Node) → set (onto A b n x) j v ≡ onto (set A j v) b n x
  set_under v = rw (onto_is A b n x, onto_is (set A j v) b n x) (set-append_left A (onto [] b n x) j v lt)

-- every such tree has a node
pub some_chain : (c : Tree chain) → 1 ≤ size c
unfolding size
some_chain (first s e op x y) = omega arith
some_chain (link s e s' e' op c y) = omega arith

pub some_single : (x : Tree single) → 1 ≤ size x
unfolding size
some_single (node k s e h r) = omega arith
some_single (chained c) = some_chain c

pub some_growing : (l : Tree growing) → 1 ≤ size l
unfolding size
some_growing (one x) = some_single x
some_growing (more l x) = omega (arith, some_single x)

-- a tree with its own span is itself; another span takes no more nodes
widen_own_C : (c : Tree chain) → widen_c (start_c c) (stop_c c) c ≡ c
unfolding widen_c start_c stop_c
widen_own_C (first s e op x y) = refl
widen_own_C (link s e s' e' op c y) = refl

widen_own : (x : Tree single) → widen (start x) (stop x) x ≡ x
unfolding widen start stop
widen_own (node k s e h r) = refl
widen_own (chained c) = ap (λ (d : Tree chain). chained d) (widen_own_C c)

size_widen_C : (a z : ℕ) (c : Tree chain) → size (widen_c a z c) ≡ size c
unfolding widen_c size
size_widen_C a z (first s e op x y) = refl
size_widen_C a z (link s e s' e' op c y) = refl

pub size_widen : (a z : ℕ) (x : Tree single) → size (widen a z x) ≡ size x
unfolding widen size
size_widen a z (node k s e h r) = refl
size_widen a z (chained c) = size_widen_C a z c

-- The last node of a stretch is its root, whose span and next stand nowhere else.
record Ends {i : Part} (ns : List Node) (b : ℕ) (wide : ℕ → ℕ → Tree i) : Type 0 where
  init : List Node
  kind : ℕ
  held : List ℕ
  is : (a z n : ℕ) → onto ns b n (wide a z) ≡ init ++ filled kind a z n held ∷ []

ends_c : (ns : List Node) (b : ℕ) (c : Tree chain) → Ends ns b (λ a z. widen_c a z c)
unfolding onto widen_c
ends_c ns b (first s e op x y) =
    record { init = onto (onto ns b none x) (b + size x) none y; kind = kind.Binary; held = op ∷ top b x ∷ top (b + size x) y ∷ 0 ∷ []; is = λ a z n. refl }
ends_c ns b (link s e s' e' op c y) = record {
  init = onto (onto ns b none c) (b + size c) none y ++ binary s' e' none op (operand b c) (top (b + size c) y) ∷ [];
  kind = kind.Binary;
  held = binary_op_lem token.And ∷ top b c ∷ (b + size c + size y) ∷ 0 ∷ [];
  is = λ a z n. refl;
}

ends : (ns : List Node) (b : ℕ) (x : Tree single) → Ends ns b (λ a z. widen a z x)
unfolding onto widen
ends ns b (node k s e h r) = record { init = onto ns b none r; kind = k; held = fields b r; is = λ a z n. refl }
ends ns b (chained c) = let h = ends_c ns b c in record { init = h.init; kind = h.kind; held = h.held; is = h.is }

-- the same of a list in the making: its last member
record Ending (ns : List Node) (b : ℕ) (l : Tree growing) : Type 0 where
  init : List Node
  kind : ℕ
  s : ℕ
  e : ℕ
  held : List ℕ
  is : (n : ℕ) → onto ns b n l ≡ init ++ filled kind s e n held ∷ []

own : (ns : List Node) (b : ℕ) (x : Tree single) (n : ℕ) → let h = ends ns b x in onto ns b n x ≡ h.init ++ filled h.kind (start x) (stop x) n h.held ∷ []
own ns b x n = let h = ends ns b x in rw (widen_own x) at (h.is (start x) (stop x) n)

ends_g : (ns : List Node) (b : ℕ) (l : Tree growing) → Ending ns b l
unfolding onto
ends_g ns b (one x) = let h = ends ns b x in record { init = h.init; kind = h.kind; s = start x; e = stop x; held = h.held; is = λ n. own ns b x n }
ends_g ns b (more l x) =
    let A = onto ns b (top (b + size l) x) l in
    let h = ends A (b + size l) x in
    record { init = h.init; kind = h.kind; s = start x; e = stop x; held = h.held; is = λ n. own A (b + size l) x n }

module _ (ns : List Node) (b : ℕ) (len : length ns ≡ b) where
  -- what stands before the last node of a tree whose first has the number b
  before_top : {i : Part} (n : ℕ) (x : Tree i) (l : List Node) (r : Node) → onto ns b n x ≡ l ++ r ∷ [] → length l ≡ top b x
  before_top n x l r h =
      let e : length l + 1 ≡ length ns + size x = sym (length-append l (r ∷ [])) ∙ sym (ap length h) ∙ length_onto ns b n x in
      omega arith

  get_top : {i : Part} (n : ℕ) (x : Tree i) (l : List Node) (r : Node) → onto ns b n x ≡ l ++ r ∷ [] → get_or (onto ns b n x) (top b x) blank ≡ r
  get_top n x l r h = rw h (get_or_at l r [] blank (top b x) (before_top n x l r h))

  set_top : {i : Part} (n : ℕ) (x : Tree i) (l : List Node) (r r' : Node) → onto ns b n x ≡ l ++ r ∷ [] → set (onto ns b n x) (top b x) r' ≡ l ++ r' ∷ []
  set_top n x l r r' h = rw h (set_at l r [] r' (top b x) (before_top n x l r h))

  -- where the root of a node's tree starts, and that of a chain
  pub start_of : (n : ℕ) (x : Tree single) → (get_or (onto ns b n x) (top b x) blank).start ≡ start x
  start_of n x =
      let h = ends ns b x in
      ap (λ (r : Node). r.start) (get_top n x h.init (filled h.kind (start x) (stop x) n h.held) (own ns b x n))

  pub start_of_chain : (n : ℕ) (c : Tree chain) → (get_or (onto ns b n c) (top b c) blank).start ≡ start_c c
  start_of_chain n c =
      let h = ends_c ns b c in
      ap (λ (r : Node). r.start) (get_top n c h.init (filled h.kind (start_c c) (stop_c c) n h.held) (rw (widen_own_C c) at (h.is (start_c c) (stop_c c) n)))

  -- another span at the root is the wider tree
  pub respan : (n : ℕ) (x : Tree single) (a z : ℕ) → set (onto ns b n x) (top b x) (spanned a z (get_or (onto ns b n x) (top b x) blank)) ≡ onto ns b n (widen a z x)
  respan n x a z =
      let h = ends ns b x in
      let r = filled h.kind (start x) (stop x) n h.held in
      rw (get_top n x h.init r (own ns b x n)) (set_top n x h.init r (filled h.kind a z n h.held) (own ns b x n) ∙ sym (h.is a z n))

  -- a next at the last member
  pub relink : (n m : ℕ) (l : Tree growing) → set (onto ns b n l) (top b l) (linked m (get_or (onto ns b n l) (top b l) blank)) ≡ onto ns b m l
  relink n m l =
      let h = ends_g ns b l in
      let r = filled h.kind h.s h.e n h.held in
      rw (get_top n l h.init r (h.is n)) (set_top n l h.init r (filled h.kind h.s h.e m h.held) (h.is n) ∙ sym (h.is m))

  -- the last node is there
  pub top_lt : {i : Part} (n : ℕ) (x : Tree i) → 1 ≤ size x → top b x < length (onto ns b n x)
  top_lt n x h = omega (arith, length_onto ns b n x)

module _ (ns : List Node) (b : ℕ) (len : length ns ≡ b) where
  -- the first member of a list, where it starts
  head_lt : (n : ℕ) (l : Tree growing) → head_g b l < length (onto ns b n l)
  unfolding head_g onto
  head_lt n (one x) = top_lt ns b len n x (some_single x)
  head_lt n (more l x) = omega (arith, head_lt (top (b + size l) x) l, length_onto (onto ns b (top (b + size l) x) l) (b + size l) n x)

  pub start_of_list : (n : ℕ) (l : Tree growing) → (get_or (onto ns b n l) (head_g b l) blank).start ≡ start_g l
  unfolding head_g onto start_g
  start_of_list n (one x) = start_of ns b len n x
  start_of_list n (more l x) =
      let m = top (b + size l) x in
      ap (λ (r : Node). r.start) (get_under (onto ns b m l) (head_g b l) (head_lt m l) (b + size l) n x) ∙ start_of_list m l

  -- the last operand of a chain, and where it starts
  pub operand_lt : (n : ℕ) (c : Tree chain) → operand b c < length (onto ns b n c)
  unfolding size operand
  operand_lt n (first s e op x y) = omega (arith, length_onto ns b n (first s e op x y), some_single y)
  operand_lt n (link s e s' e' op c y) = omega (arith, length_onto ns b n (link s e s' e' op c y), some_single y)

  pub start_of_final : (n : ℕ) (c : Tree chain) → (get_or (onto ns b n c) (operand b c) blank).start ≡ start (final c)
  unfolding onto operand final
  start_of_final n (first s e op x y) =
      let A = onto ns b none x in
      let len₁ : length A ≡ b + size x = omega (arith, length_onto ns b none x) in
      let lt : top (b + size x) y < length (onto A (b + size x) none y) = omega (arith, length_onto A (b + size x) none y, some_single y) in
      rw (get_or-append (onto A (b + size x) none y) (binary s e n op (top b x) (top (b + size x) y) ∷ []) blank (top (b + size x) y) lt) (start_of A (b + size x) len₁ none y)
  start_of_final n (link s e s' e' op c y) =
      let A = onto ns b none c in
      let len₁ : length A ≡ b + size c = omega (arith, length_onto ns b none c) in
      let lt : top (b + size c) y < length (onto A (b + size c) none y) = omega (arith, length_onto A (b + size c) none y, some_single y) in
      let B = binary s' e' none op (operand b c) (top (b + size c) y) ∷ [] in
      let lt₁ : top (b + size c) y < length (onto A (b + size c) none y ++ B) = simp length-append (omega arith) in
      rw (get_or-append (onto A (b + size c) none y ++ B) (binary s e n (binary_op_lem token.And) (top b c) (b + size c + size y) ∷ []) blank (top (b + size c) y) lt₁, get_or-append (onto A (b + size c) none y) B blank (top (b + size c) y) lt)
      (start_of A (b + size c) len₁ none y)

pub start_widen : (a z : ℕ) (x : Tree single) → start (widen a z x) ≡ a
unfolding start start_c widen widen_c
start_widen a z (node k s e h r) = refl
start_widen a z (chained (first s e op x y)) = refl
start_widen a z (chained (link s e s' e' op c y)) = refl

pub size_joined : (l m : Tree growing) → size (joined l m) ≡ size l + size m
unfolding size joined
size_joined l (one x) = refl
size_joined l (more m x) = omega (arith, size_joined l m)

pub head_joined : (b : ℕ) (l m : Tree growing) → head_g b (joined l m) ≡ head_g b l
unfolding head_g joined
head_joined b l (one x) = refl
head_joined b l (more m x) = head_joined b l m

pub onto_joined : (ns : List Node) (b n : ℕ) (l m : Tree growing) → onto ns b n (joined l m) ≡ onto (onto ns b (head_g (b + size l) m) l) (b + size l) n m
unfolding onto joined head_g
onto_joined ns b n l (one x) = refl
onto_joined ns b n l (more m x) =
    let e : b + size (joined l m) ≡ b + size l + size m = omega (arith, size_joined l m) in
    rw (e, onto_joined ns b (top (b + size l + size m) x) l m) refl
