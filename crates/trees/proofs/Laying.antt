-- What an action writes is the layout of what it makes.
-- Assumes nothing.
use mathlib.Core.Path.{◌≡◌, refl, ap, sym, ◌∙◌}
use mathlib.Core.List.{List, [], ◌∷◌, ◌++◌}
use Prim.Native.Nat.{ℕ, zero, suc, ◌+◌, ◌-◌}
use native.Mathlib.Omega.{arith}
use lib.ListN.{length, get_or, set, get_or-append}
use Rattle.literal.specs.declared.Literal.{Literal}
use Rattle.literal.specs.declared.Literal.TheVariants as L
use Rattle.tokens.specs.Token.{Token}
use Rattle.ast.specs.Kind as kind
use Rattle.ast.specs.Node.{Field, Node, none, linked, spanned, blank}
use Rattle.ast.specs.Literal.{literal_node_lem}
use Rattle.ast.specs.Operator.{unary_op_lem}
use Rattle.pyhyeon.specs.Machine.{Value, Kept}
use Rattle.pyhyeon.specs.Machine as value
use Rattle.pyhyeon.specs.Action.{Action, mark, literal, named, alone, signs_none, signs_more, unary, binary, compare, compare_more, compared, list_none, list_one, list_join, list_done, enclose, empty, group, tuple, pair, attribute, apply, index, lambda, expr, assign, return, branch, elif, else, while, for, define, class, program, token_at_lem, wrap, unary_node, perform}
use Rattle.pyhyeon.specs.Sorts.{Sort, a-token, a_node, a_signs, a_growing, a_list, a_chain, taking}
use Rattle.trees.specs.Tree.{Part, single, chain, growing, row, Tree, node, done, unused, word, child, kids, other, nil, full, shape}
use Rattle.trees.specs.Flat.{size, top, head_g, head, operand, fields, filled, onto}
use Rattle.trees.proofs.Editing.{start, start_c, final, widen, joined}
use Rattle.trees.proofs.Stack.{Val, Stack, bottom, ◌▸◌, slot, past, behind, count, nodes, values, lay}
use Rattle.trees.proofs.Apt.{Apt}
use Rattle.trees.proofs.Making.{free₁, free₂, free₃, leaf, from, upto, code, wrapped, make}
use Rattle.trees.proofs.Nodes.{length_onto, get_under, set_under, some_single, some_chain, some_growing, size_widen, start_of, start_of_chain, respan, relink, top_lt, size_joined, head_joined, onto_joined, start_of_list, operand_lt, start_of_final, start_widen}

length_behind : (i : Sort) (ns : List Node) (b : ℕ) (v : Val i) → length ns ≡ b → length (behind i ns b v) ≡ past i b v
unfolding behind past
length_behind a-token ns b t h = h
length_behind a_node ns b x h = rw (length_onto ns b none x, h) refl
length_behind a_signs ns b v h = h
length_behind a_growing ns b l h = rw (length_onto ns b none l, h) refl
length_behind a_list ns b l h = rw (length_onto ns b none l, h) refl
length_behind a_chain ns b c h = rw (length_onto ns b none c, h) refl

length_nodes : {σ : List Sort} (st : Stack σ) → length (nodes st) ≡ count st
unfolding nodes count
length_nodes bottom = refl
length_nodes (◌▸◌ {i} v st) = length_behind i (nodes st) (count st) v (length_nodes st)

same_kept : {at : ℕ} {l l' : List Node} {m m' : List Value} → l ≡ l' → m ≡ m' → ◌≡◌ {A = Kept} (record { at = at; nodes = l; values = m }) (record { at = at; nodes = l'; values = m' })
same_kept {at} p q = λ i. record { at = at; nodes = p i; values = q i }

module _ {τ : List Sort} (at : ℕ) (st : Stack τ) where
  abbrev ns : List Node
  ns = nodes st

  abbrev b : ℕ
  b = count st

  len : length ns ≡ b
  len = length_nodes st

  -- a node that is written
  written : (k s e : ℕ) {fs : List Field} (h : shape k ≡ fs) (r : Tree (row fs)) →
      ◌≡◌ {A = Kept} (record { at = at; nodes = onto ns b none r ++ filled k s e none (fields b r) ∷ []; values = value.node (length (onto ns b none r)) ∷ values st })
      (lay at (◌▸◌ {i = a_node} (node k s e h r) st))
  unfolding lay nodes values slot behind count past onto size
  written k s e h r =
      let e₁ : length (onto ns b none r) ≡ b + (size r + 1) - 1 = omega (arith, length_onto ns b none r, len) in
      same_kept refl (ap (λ (n : ℕ). value.node n ∷ values st) e₁)

  -- the numbers after two parts
  after_both : {i j : Part} (x : Tree i) (y : Tree j) → length (onto (onto ns b none x) (b + size x) none y) ≡ b + size x + size y
  after_both x y = omega (arith, length_onto (onto ns b none x) (b + size x) none y, length_onto ns b none x, len)

  after_two : {i j : Part} (x : Tree i) (y : Tree j) → length (onto (onto ns b none x) (b + size x) none y) ≡ b + (size x + size y + 1) - 1
  after_two x y = omega (arith, after_both x y)

  -- the start of a first part is read at its root
  start_is : (x : Tree single) → (get_or (onto ns b none x) (top b x) blank).start ≡ start x
  start_is x = start_of ns b len none x

  start_under : (x : Tree single) {i : Part} (b' : ℕ) (y : Tree i) → (get_or (onto (onto ns b none x) b' none y) (top b x) blank).start ≡ start x
  start_under x b' y = ap (λ (r : Node). r.start) (get_under (onto ns b none x) (top b x) (top_lt ns b len none x (some_single x)) b' none y) ∙ start_is x

  -- the same of a chain, and of its last operand, with another operand behind and perhaps a node more
  chain_under : (c : Tree chain) (b' : ℕ) (y : Tree single) (l : List Node) → (get_or (onto (onto ns b none c) b' none y ++ l) (top b c) blank).start ≡ start_c c
  chain_under c b' y l =
      let A = onto ns b none c in
      let lt = top_lt ns b len none c (some_chain c) in
      ap (λ (r : Node). r.start) (get_or-append (onto A b' none y) l blank (top b c) (omega (arith, length_onto A b' none y)) ∙ get_under A (top b c) lt b' none y)
      ∙ start_of_chain ns b len none c

  operand_under : (c : Tree chain) (b' : ℕ) (y : Tree single) → (get_or (onto (onto ns b none c) b' none y) (operand b c) blank).start ≡ start (final c)
  operand_under c b' y =
      ap (λ (r : Node). r.start) (get_under (onto ns b none c) (operand b c) (operand_lt ns b len none c) b' none y) ∙ start_of_final ns b len none c

  -- a list with another behind it
  join_under : (l m : Tree growing) → let N = onto (onto ns b none l) (b + size l) none m in
      set N (top b l) (linked (head_g (b + size l) m) (get_or N (top b l) blank)) ≡ onto ns b none (joined l m)
  join_under l m =
      let A = onto ns b none l in
      let lt = top_lt ns b len none l (some_growing l) in
      let n = head_g (b + size l) m in
      rw (get_under A (top b l) lt (b + size l) none m) (set_under A (top b l) lt (b + size l) none m _ ∙ ap (λ (k : List Node). onto k (b + size l) none m) (relink ns b len none n l) ∙ sym (onto_joined ns b none l m))

  -- a node with a wider span, and another behind it
  widen_under : (x y : Tree single) (z : ℕ) → let N = onto (onto ns b none x) (b + size x) none y in
      set N (top b x) (spanned (get_or N (top b x) blank).start z (get_or N (top b x) blank)) ≡ onto (onto ns b none (widen (start x) z x)) (b + size x) none y
  widen_under x y z =
      let A = onto ns b none x in
      let lt = top_lt ns b len none x (some_single x) in
      rw (get_under A (top b x) lt (b + size x) none y, start_is x) (set_under A (top b x) lt (b + size x) none y _ ∙ ap (λ (k : List Node). onto k (b + size x) none y) (respan ns b len none x (start x) z))

module _ (source : List ℕ) (toks : List Token) where
  -- one Unary
  unary_lays : {τ : List Sort} (at : ℕ) (st : Stack τ) (t : ℕ) (x : Tree single) → let k = lay at (◌▸◌ {i = a_node} x st) in
      value.write 1 (unary_node source toks t k) k ≡ lay at (◌▸◌ {i = a_node} (node kind.Unary (from source toks t) (upto source toks (at - 1)) refl (word (unary_op_lem (code source toks t)) (child x free₂))) st)
  unfolding lay nodes values slot behind count past onto fields value.number
  unary_lays at st t x = written at st kind.Unary (from source toks t) (upto source toks (at - 1)) refl (word (unary_op_lem (code source toks t)) (child x free₂))

  wrap_lays : {τ : List Sort} (at : ℕ) (st : Stack τ) (c f : ℕ) (x : Tree single) →
      wrap source toks c f (lay at (◌▸◌ {i = a_node} x st)) ≡ lay at (◌▸◌ {i = a_node} (wrapped source toks (upto source toks (at - 1)) c f x) st)
  unfolding wrap wrapped
  wrap_lays at st zero f x = refl
  wrap_lays at st (suc c) f x = ap (λ (k : Kept). wrap source toks c f k) (unary_lays at st (f + c) x) ∙ wrap_lays at st c f _

  literal_lays : {τ : List Sort} (at : ℕ) (st : Stack τ) (s e : ℕ) (l : Literal) →
      ◌≡◌ {A = Kept} (record { at = at; nodes = nodes st ++ literal_node_lem s e l ∷ []; values = value.node (length (nodes st)) ∷ values st }) (lay at (◌▸◌ {i = a_node} (leaf s e l) st))
  unfolding leaf onto fields
  literal_lays at st s e (L.Bool x) = written at st _ s e refl _
  literal_lays at st s e (L.Int z) = written at st _ s e refl _
  literal_lays at st s e (L.String a n) = written at st _ s e refl _
  literal_lays at st s e (L.Float x) = written at st _ s e refl _
  literal_lays at st s e L.None = written at st _ s e refl _

  pub lays : (a : Action) (h : Apt a) (at : ℕ) (τ : List Sort) (st : Stack (taking a ++ τ)) → perform source toks a (lay at st) ≡ lay at (make source toks a h at st)
  unfolding perform make lay nodes values slot behind count past onto fields size head head_g operand value.number value.count value.last value.operand value.one value.both value.whole
  lays mark h at τ st = refl
  lays literal h at τ st = literal_lays at st _ _ (token_at_lem source toks (at - 1)).literal
  lays (named k) h at τ st = written at st k _ _ h (word _ (word _ free₂))
  lays (alone k) h at τ st = written at st k _ _ h (unused free₃)
  lays signs_none h at τ st = refl
  lays signs_more h at τ (v ▸ st) = refl
  lays unary h at τ (x ▸ v ▸ st) = wrap_lays at st v.1 v.0 x
  lays binary h at τ (y ▸ t ▸ x ▸ st) = rw (start_under at st x (count st + size x) y) (written at st kind.Binary _ _ refl (word _ (child x (child y free₁))))
  lays compare h at τ (y ▸ t ▸ x ▸ st) =
      rw (start_under at st x (count st + size x) y) (same_kept refl (ap (λ (n : ℕ). value.chain n (top (count st + size x) y) ∷ values st) (after_two at st x y)))
  lays compare_more h at τ (y ▸ t ▸ c ▸ st) =
      rw (operand_under at st c (count st + size c) y, chain_under at st c (count st + size c) y _, after_both at st c y)
      (same_kept refl (ap (λ (n : ℕ). value.chain n (top (count st + size c) y) ∷ values st) (omega arith)))
  lays compared h at τ (c ▸ st) = refl
  lays list_none h at τ st = refl
  lays list_one h at τ (x ▸ st) = refl
  lays list_join h at τ (m ▸ l ▸ st) =
      let e : top (count st + size l) m ≡ top (count st) (joined l m) = omega (arith, size_joined l m) in
      rw (join_under at st l m, e, ← head_joined (count st) l m) refl
  lays list_done h at τ (l ▸ st) = refl
  lays (enclose k) h at τ (l ▸ t ▸ st) = written at st k _ _ h (kids l free₃)
  lays (empty k) h at τ (t ▸ st) = written at st k _ _ h (kids nil free₃)
  lays group h at τ (x ▸ t ▸ st) =
      rw (respan (nodes st) (count st) (length_nodes st) none x (from source toks t) (upto source toks (at - 1)), ← size_widen (from source toks t) (upto source toks (at - 1)) x) refl
  lays tuple h at τ (l ▸ st) = rw (start_of_list (nodes st) (count st) (length_nodes st) none l) (written at st kind.Tuple _ _ refl (kids (full l) free₃))
  lays pair h at τ (y ▸ x ▸ st) = rw (start_under at st x (count st + size x) y) (written at st kind.Pair _ _ refl (child x (child y free₂)))
  lays attribute h at τ (x ▸ st) = rw (start_is at st x) (written at st kind.Attribute _ _ refl (child x (word _ (word _ free₁))))
  lays apply h at τ (l ▸ x ▸ st) = rw (start_under at st x (count st + size x) l) (written at st kind.Call _ _ refl (child x (kids l free₂)))
  lays index h at τ (y ▸ x ▸ st) = rw (start_under at st x (count st + size x) y) (written at st kind.Index _ _ refl (child x (child y free₂)))
  lays lambda h at τ (x ▸ l ▸ t ▸ st) = written at st kind.Lambda _ _ refl (kids l (child x free₂))
  lays expr h at τ (x ▸ st) = rw (start_is at st x) (written at st kind.Expr _ _ refl (child x free₃))
  lays assign h at τ (y ▸ x ▸ st) =
      let z = upto source toks (at - 1) in
      let x' = widen (start x) z x in
      rw (widen_under at st x y z, ← size_widen (start x) z x, start_under at st x' (count st + size x') y, start_widen (start x) z x) (written at st kind.Assign _ _ refl (child x' (child y free₂)))
  lays return h at τ (x ▸ t ▸ st) = written at st kind.Return _ _ refl (child x free₃)
  lays branch h at τ (o ▸ m ▸ l ▸ x ▸ t ▸ st) = written at st kind.If _ _ refl (child x (kids l (kids m (other o done))))
  lays elif h at τ (l ▸ x ▸ t ▸ st) = written at st kind.Elif _ _ refl (child x (kids l free₂))
  lays else h at τ (l ▸ t ▸ st) = written at st kind.Else _ _ refl (kids l free₃)
  lays while h at τ (l ▸ x ▸ t ▸ st) = written at st kind.While _ _ refl (child x (kids l free₂))
  lays for h at τ (l ▸ x ▸ i ▸ t ▸ st) = written at st kind.For _ _ refl (word _ (word _ (child x (kids l done))))
  lays (define k) h at τ (m ▸ l ▸ i ▸ t ▸ st) = written at st k _ _ h (word _ (word _ (kids l (kids m done))))
  lays class h at τ (l ▸ i ▸ t ▸ st) = written at st kind.Class _ _ refl (word _ (word _ (kids l free₁)))
  lays program h at τ (l ▸ st) = written at st kind.Program _ _ refl (kids l free₃)
