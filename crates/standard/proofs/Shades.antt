-- The nodes of a tree, apart from their places, are those of the tree without places.
-- Assumes nothing.
use mathlib.Core.Path.{◌≡◌, refl, ap, ap₂, sym, ◌∙◌, subst}
use mathlib.Core.Bool.{Bool, true, false, cond}
use mathlib.Core.List.{List, [], ◌∷◌, ◌++◌, map, map-append}
use Prim.Native.Nat.{ℕ, suc, ◌+◌, ◌-◌}
use native.Mathlib.Omega.{arith}
use lib.Dec.{T, eqb, eqb→eq}
use lib.ListN.{length, get_or, drop}
use Rattle.grammar.specs.Sets.{mem}
use Rattle.ast.specs.Kind as kind
use Rattle.ast.specs.Node as field
use Rattle.trees.proofs.Apt.{Each, each}
use Rattle.ast.specs.Node.{Field, Node, none, fields_of}
use Rattle.token.specs.Code as token
use Rattle.ast.specs.Operator.{binary_op_lem}
use Rattle.trees.specs.Tree.{Part, single, chain, growing, whole, row, Tree, node, chained, done, unused, word, child, kids, other, nil, full, one, more, first, link, shape}
use Rattle.trees.specs.Flat.{size, top, head, head_g, operand, fields, filled, onto, flat}
use Rattle.trees.specs.Flat as flat
use Rattle.standard.specs.Alike.{Shade, places, hidden, chosen, bytes_at, shade}
use Rattle.standard.specs.Bare.{Bare, places_of, bare, size_b, head_b, operand_b, fields_b, binary_b, onto_b}

four_is : (l : List ℕ) → length l ≡ 4 → get_or l 0 0 ∷ get_or l 1 0 ∷ get_or l 2 0 ∷ get_or l 3 0 ∷ [] ≡ l
four_is [] h = absurd (omega arith)
four_is (a ∷ []) h = absurd (omega arith)
four_is (a ∷ b ∷ []) h = absurd (omega arith)
four_is (a ∷ b ∷ c ∷ []) h = absurd (omega arith)
four_is (a ∷ b ∷ c ∷ d ∷ []) h = refl
four_is (a ∷ b ∷ c ∷ d ∷ e ∷ l) h = absurd (omega arith)

count_is : {fs : List Field} (b : ℕ) (r : Tree (row fs)) → length (fields b r) ≡ length fs
unfolding fields
count_is b done = refl
count_is b (unused r) = ap suc (count_is b r)
count_is b (word w r) = ap suc (count_is b r)
count_is b (child x r) = ap suc (count_is (b + size x) r)
count_is b (kids l r) = ap suc (count_is (b + size l) r)
count_is b (other l r) = ap suc (count_is (b + size l) r)

-- a field that is a place is a word
abbrev wordy : Field → Bool
wordy field.unused = false
wordy field.word = true
wordy field.node = false
wordy field.maybe = false
wordy field.list = false

abbrev Only : List Bool → List Field → Type 0
Only bs [] = Unit {0}
Only bs (f ∷ fs) = (T (get_or bs 0 false) → T (wordy f)) × Only (drop 1 bs) fs

-- the kinds whose place is in their first two fields; and every kind, by which of its fields are a place
abbrev pub fronts : List ℕ
fronts = kind.For ∷ kind.Def ∷ kind.Class ∷ kind.Method ∷ kind.Name ∷ kind.String ∷ kind.Variable ∷ []

pub by_places : (Q : ℕ → List Bool → Type 0) → Each (λ k. Q k (true ∷ true ∷ [])) fronts → Q kind.Attribute (false ∷ true ∷ true ∷ []) → Q kind.Float (false ∷ false ∷ true ∷ true ∷ []) →
    ((k : ℕ) → Q k []) → (k : ℕ) → Q k (places k)
by_places Q f g h n k =
    go (mem k fronts) (each (λ k. Q k (true ∷ true ∷ [])) k fronts f)
    (eqb k kind.Attribute) (λ u. subst (λ (k : ℕ). Q k (false ∷ true ∷ true ∷ [])) (sym (eqb→eq k kind.Attribute u)) g)
    (eqb k kind.Float) (λ u. subst (λ (k : ℕ). Q k (false ∷ false ∷ true ∷ true ∷ [])) (sym (eqb→eq k kind.Float u)) h)
  where
    go : (a : Bool) → (T a → Q k (true ∷ true ∷ [])) → (b : Bool) → (T b → Q k (false ∷ true ∷ true ∷ [])) → (c : Bool) → (T c → Q k (false ∷ false ∷ true ∷ true ∷ [])) →
        Q k (cond a (true ∷ true ∷ []) (cond b (false ∷ true ∷ true ∷ []) (cond c (false ∷ false ∷ true ∷ true ∷ []) [])))
    go true f b g c h = f tt
    go false f true g c h = g tt
    go false f false g true h = h tt
    go false f false g false h = n k

only_words : (k : ℕ) → Only (places k) (shape k)
only_words =
    by_places (λ k bs. Only bs (shape k))
    (ones kind.For, (ones kind.Def, (ones kind.Class, (ones kind.Method, (ones kind.Name, (ones kind.String, (ones kind.Variable, tt)))))))
    ((λ u. absurd u), ((λ u. tt), ((λ u. tt), ((λ u. absurd u), tt))))
    ((λ u. absurd u), ((λ u. absurd u), ((λ u. tt), ((λ u. tt), tt))))
    (λ k. ((λ u. absurd u), ((λ u. absurd u), ((λ u. absurd u), ((λ u. absurd u), tt)))))
  where
    ones : (k : ℕ) → Only (true ∷ true ∷ []) (field.word ∷ field.word ∷ (fields_of k).r ∷ (fields_of k).s ∷ [])
    ones k = ((λ u. tt), ((λ u. tt), ((λ u. absurd u), ((λ u. absurd u), tt))))

-- the first field, if it is no place; and if it may be one
stays : (bs : List Bool) (w : ℕ) (ws : List ℕ) → (T (get_or bs 0 false) → ⊥) → hidden bs (w ∷ ws) ≡ w ∷ hidden (drop 1 bs) ws
stays [] w ws h = refl
stays (true ∷ bs) w ws h = absurd (h tt)
stays (false ∷ bs) w ws h = refl

left : (bs : List Bool) (w : ℕ) (ws : List ℕ) → (T (get_or bs 0 false) → ⊥) → chosen bs (w ∷ ws) ≡ chosen (drop 1 bs) ws
left [] w ws h = refl
left (true ∷ bs) w ws h = absurd (h tt)
left (false ∷ bs) w ws h = refl

hides : (bs : List Bool) (w : ℕ) (ws : List ℕ) → hidden bs (w ∷ ws) ≡ cond (get_or bs 0 false) 0 w ∷ hidden (drop 1 bs) ws
hides [] w ws = refl
hides (b ∷ bs) w ws = refl

chooses : (bs : List Bool) (w : ℕ) (ws : List ℕ) → chosen bs (w ∷ ws) ≡ cond (get_or bs 0 false) (w ∷ chosen (drop 1 bs) ws) (chosen (drop 1 bs) ws)
chooses [] w ws = refl
chooses (b ∷ bs) w ws = refl

nothing_chosen : (bs : List Bool) → chosen bs [] ≡ []
nothing_chosen [] = refl
nothing_chosen (b ∷ bs) = refl

nothing_hidden : (bs : List Bool) → hidden bs [] ≡ []
nothing_hidden [] = refl
nothing_hidden (b ∷ bs) = refl

places_are : {fs : List Field} (bs : List Bool) (b : ℕ) (r : Tree (row fs)) → Only bs fs → chosen bs (fields b r) ≡ places_of bs r
unfolding fields places_of
places_are bs b done o = nothing_chosen bs
places_are bs b (unused r) (h, o) = left bs 0 (fields b r) h ∙ places_are (drop 1 bs) b r o
places_are bs b (word w r) (h, o) = chooses bs w (fields b r) ∙ ap (λ (l : List ℕ). cond (get_or bs 0 false) (w ∷ l) l) (places_are (drop 1 bs) b r o)
places_are bs b (child x r) (h, o) = left bs (top b x) (fields (b + size x) r) h ∙ places_are (drop 1 bs) (b + size x) r o
places_are bs b (kids l r) (h, o) = left bs (head b l) (fields (b + size l) r) h ∙ places_are (drop 1 bs) (b + size l) r o
places_are bs b (other l r) (h, o) = left bs (head b l) (fields (b + size l) r) h ∙ places_are (drop 1 bs) (b + size l) r o

module _ (source text : List ℕ) where
  size_is : {i : Part} (bs : List Bool) (x : Tree i) → size_b (bare source text bs x) ≡ size x
  unfolding size_b bare size
  size_is bs (node k s e h r) = rw (size_is (places k) r) refl
  size_is bs (chained c) = size_is bs c
  size_is bs done = refl
  size_is bs (unused r) = size_is (drop 1 bs) r
  size_is bs (word w r) = size_is (drop 1 bs) r
  size_is bs (child x r) = rw (size_is [] x, size_is (drop 1 bs) r) refl
  size_is bs (kids l r) = rw (size_is [] l, size_is (drop 1 bs) r) refl
  size_is bs (other l r) = rw (size_is [] l, size_is (drop 1 bs) r) refl
  size_is bs nil = refl
  size_is bs (full l) = size_is bs l
  size_is bs (one x) = size_is bs x
  size_is bs (more l x) = rw (size_is bs l, size_is bs x) refl
  size_is bs (first s e op x y) = rw (size_is [] x, size_is [] y) refl
  size_is bs (link s e s' e' op c y) = rw (size_is [] c, size_is [] y) refl

  head_g_is : (b : ℕ) (l : Tree growing) → head_b b (bare source text [] l) ≡ head_g b l
  unfolding head_b head_g bare
  head_g_is b (one x) = rw (size_is [] x) refl
  head_g_is b (more l x) = head_g_is b l

  head_is : (b : ℕ) (l : Tree whole) → head_b b (bare source text [] l) ≡ head b l
  unfolding head_b head bare
  head_is b nil = refl
  head_is b (full l) = head_g_is b l

  operand_is : (b : ℕ) (c : Tree chain) → operand_b b (bare source text [] c) ≡ operand b c
  unfolding operand_b operand bare
  operand_is b (first s e op x y) = rw (size_is [] x, size_is [] y) refl
  operand_is b (link s e s' e' op c y) = rw (size_is [] c, size_is [] y) refl

  fields_are : {fs : List Field} (bs : List Bool) (b : ℕ) (r : Tree (row fs)) → Only bs fs → hidden bs (fields b r) ≡ fields_b b (bare source text bs r)
  unfolding fields fields_b bare
  fields_are bs b done o = nothing_hidden bs
  fields_are bs b (unused r) (h, o) = stays bs 0 (fields b r) h ∙ ap (λ (l : List ℕ). 0 ∷ l) (fields_are (drop 1 bs) b r o)
  fields_are bs b (word w r) (h, o) = hides bs w (fields b r) ∙ ap (λ (l : List ℕ). cond (get_or bs 0 false) 0 w ∷ l) (fields_are (drop 1 bs) b r o)
  fields_are bs b (child x r) (h, o) = rw (size_is [] x) (stays bs (top b x) (fields (b + size x) r) h ∙ ap (λ (l : List ℕ). top b x ∷ l) (fields_are (drop 1 bs) (b + size x) r o))
  fields_are bs b (kids m r) (h, o) = rw (size_is [] m, head_is b m) (stays bs (head b m) (fields (b + size m) r) h ∙ ap (λ (l : List ℕ). head b m ∷ l) (fields_are (drop 1 bs) (b + size m) r o))
  fields_are bs b (other m r) (h, o) = rw (size_is [] m, head_is b m) (stays bs (head b m) (fields (b + size m) r) h ∙ ap (λ (l : List ℕ). head b m ∷ l) (fields_are (drop 1 bs) (b + size m) r o))

  node_is : {fs : List Field} (k s e n b : ℕ) → shape k ≡ fs → (r : Tree (row fs)) →
      shade source text (filled k s e n (fields b r)) ≡ record { kind = k; next = n; fields = fields_b b (bare source text (places k) r); bytes = bytes_at source text k (places_of (places k) r) }
  unfolding shade
  node_is k s e n b h r =
      let f = four_is (fields b r) (count_is b r ∙ ap length (sym h)) in
      let o = subst (Only (places k)) h (only_words k) in
      let p : hidden (places k) (get_or (fields b r) 0 0 ∷ get_or (fields b r) 1 0 ∷ get_or (fields b r) 2 0 ∷ get_or (fields b r) 3 0 ∷ []) ≡ fields_b b (bare source text (places k) r) =
      ap (hidden (places k)) f ∙ fields_are (places k) b r o in
      let q : chosen (places k) (get_or (fields b r) 0 0 ∷ get_or (fields b r) 1 0 ∷ get_or (fields b r) 2 0 ∷ get_or (fields b r) 3 0 ∷ []) ≡ places_of (places k) r =
      ap (chosen (places k)) f ∙ places_are (places k) b r o in
      λ i. record { kind = k; next = n; fields = p i; bytes = bytes_at source text k (q i) }

  binary_is : (s e n op l r : ℕ) → shade source text (flat.binary s e n op l r) ≡ binary_b n op l r
  unfolding shade
  binary_is s e n op l r = refl

  abbrev B : {i : Part} → List Bool → Tree i → Bare
  B bs x = bare source text bs x

  abbrev NS : List Node → List Shade
  NS ns = map (shade source text) ns

  abbrev behind : List Shade → Shade → List Shade
  behind l m = l ++ m ∷ []

  onto_is : {i : Part} (ns : List Node) (b n : ℕ) (bs : List Bool) (x : Tree i) → NS (onto ns b n x) ≡ onto_b (NS ns) b n (B bs x)
  unfolding onto onto_b bare
  onto_is ns b n bs (node k s e h r) = map-append (shade source text) (onto ns b none r) _ ∙ ap₂ behind (onto_is ns b none (places k) r) (node_is k s e n b h r)
  onto_is ns b n bs (chained c) = onto_is ns b n bs c
  onto_is ns b n bs done = refl
  onto_is ns b n bs (unused r) = onto_is ns b n (drop 1 bs) r
  onto_is ns b n bs (word w r) = onto_is ns b n (drop 1 bs) r
  onto_is ns b n bs (child x r) = onto_is (onto ns b none x) (b + size x) n (drop 1 bs) r ∙ ap₂ (λ (l : List Shade) (m : ℕ). onto_b l (b + m) n (B (drop 1 bs) r)) (onto_is ns b none [] x) (sym (size_is [] x))
  onto_is ns b n bs (kids x r) = onto_is (onto ns b none x) (b + size x) n (drop 1 bs) r ∙ ap₂ (λ (l : List Shade) (m : ℕ). onto_b l (b + m) n (B (drop 1 bs) r)) (onto_is ns b none [] x) (sym (size_is [] x))
  onto_is ns b n bs (other x r) = onto_is (onto ns b none x) (b + size x) n (drop 1 bs) r ∙ ap₂ (λ (l : List Shade) (m : ℕ). onto_b l (b + m) n (B (drop 1 bs) r)) (onto_is ns b none [] x) (sym (size_is [] x))
  onto_is ns b n bs nil = refl
  onto_is ns b n bs (full l) = onto_is ns b none bs l
  onto_is ns b n bs (one x) = onto_is ns b n bs x
  onto_is ns b n bs (more l x) =
      onto_is (onto ns b (top (b + size l) x) l) (b + size l) n bs x
      ∙ ap₂ (λ (m : List Shade) (p : ℕ). onto_b m (b + p) n (B bs x))
      (onto_is ns b (top (b + size l) x) bs l ∙ ap₂ (λ (p q : ℕ). onto_b (NS ns) b (b + p + q - 1) (B bs l)) (sym (size_is bs l)) (sym (size_is bs x))) (sym (size_is bs l))
  onto_is ns b n bs (first s e op x y) =
      map-append (shade source text) (onto (onto ns b none x) (b + size x) none y) _
      ∙ ap₂ behind
      (onto_is (onto ns b none x) (b + size x) none [] y ∙ ap₂ (λ (l : List Shade) (m : ℕ). onto_b l (b + m) none (B [] y)) (onto_is ns b none [] x) (sym (size_is [] x)))
      (binary_is s e n op (top b x) (top (b + size x) y) ∙ ap₂ (λ (p q : ℕ). binary_b n op (b + p - 1) (b + p + q - 1)) (sym (size_is [] x)) (sym (size_is [] y)))
  onto_is ns b n bs (link s e s' e' op c y) =
      let A = onto (onto ns b none c) (b + size c) none y in
      map-append (shade source text) (A ++ flat.binary s' e' none op (operand b c) (top (b + size c) y) ∷ []) _
      ∙ ap₂ behind
      (map-append (shade source text) A _
      ∙ ap₂ behind
      (onto_is (onto ns b none c) (b + size c) none [] y ∙ ap₂ (λ (l : List Shade) (m : ℕ). onto_b l (b + m) none (B [] y)) (onto_is ns b none [] c) (sym (size_is [] c)))
      (binary_is s' e' none op (operand b c) (top (b + size c) y)
      ∙ ap₂ (λ (p q : ℕ). binary_b none op p q) (sym (operand_is b c)) (ap₂ (λ (p q : ℕ). b + p + q - 1) (sym (size_is [] c)) (sym (size_is [] y)))))
      (binary_is s e n (binary_op_lem token.And) (top b c) (b + size c + size y) ∙ ap₂ (λ (p q : ℕ). binary_b n (binary_op_lem token.And) (b + p - 1) (b + p + q)) (sym (size_is [] c)) (sym (size_is [] y)))

  pub flat_is : (x : Tree single) → map (shade source text) (flat x) ≡ onto_b [] 0 none (bare source text [] x)
  flat_is x = onto_is [] 0 none [] x
