-- The place of every node of an accepted script lies inside: a name's and a Float's in the source, a String's in the text.
-- Assumes nothing.
use mathlib.Core.Path.{◌≡◌, ap, sym, subst, ◌∙◌}
use mathlib.Core.Bool.{Bool, true, false}
use mathlib.Core.List.{List, [], ◌∷◌, ◌++◌}
use Prim.Native.Nat.{ℕ, zero, suc, ◌+◌, ◌<◌, ◌≤◌}
use native.Mathlib.Omega.{arith}
use lib.ListN.{length, get_or}
use Rattle.token.specs.Code as token
use Rattle.literal.specs.declared.Literal.{Literal}
use Rattle.literal.specs.declared.Literal.TheVariants as L
use Rattle.tokens.specs.Token.{Token}
use Rattle.lexer.specs.Scan.{scanned, token_list}
use Rattle.lexer.proofs.Properties.{Spanned, bytes_of, Held, InText, each_at}
use Rattle.lexer.proofs.Laws.{tokens_spanned, tokens_held}
use Rattle.ast.specs.Kind as kind
use Rattle.ast.specs.Literal.{leaf_of_lem}
use Rattle.ast.specs.Node as field
use Rattle.ast.specs.Node.{Field, Node, none, blank}
use Rattle.ast.specs.Operator.{binary_op_lem}
use Rattle.ast.specs.Words.{nodes_of}
use Rattle.ast.proofs.Nodes.{length_nodes, node_there}
use Rattle.pyhyeon.specs.Action.{token_at_lem}
use Rattle.trees.specs.Tree.{Part, row, Tree, word, child, shape}
use Rattle.trees.specs.Flat.{size, top, operand, fields, filled, binary, onto}
use Rattle.trees.specs.Roles.{Cat, naming, saying, words, OfLeaf, Says, Proper, p_node, p_chained, p_done, p_unused, p_word, p_child, p_kids, p_other, p_nil, p_full, p_one, p_more, p_first, p_link}
use Rattle.trees.specs.Law.{TreeOf}
use Rattle.standard.specs.Alike.{places, chosen}
use Rattle.standard.proofs.Shades.{by_places}
use Rattle.writer_expr.specs.Laid.{Inside}
use Rattle.writer_expr.proofs.Bridge.{Placed}

-- ---- lists of nodes

module _ (P : Node → Type 0) where
  -- each node is so
  abbrev All : List Node → Type 0
  All [] = Unit {0}
  All (n ∷ ns) = P n × All ns

  all_last : (ns : List Node) (n : Node) → All ns → P n → All (ns ++ n ∷ [])
  all_last [] n a p = (p, tt)
  all_last (m ∷ ns) n (q, a) p = (q, all_last ns n a p)

  all_at : (ns : List Node) (i : ℕ) → i < length ns → All ns → P (get_or ns i blank)
  all_at [] i h a = absurd (omega arith)
  all_at (n ∷ ns) zero h (p, a) = p
  all_at (n ∷ ns) (suc i) h (p, a) = all_at ns i (omega arith) a

-- ---- the words of one node

-- a literal that has the kind String lies in the text
string_in : (text l : List ℕ) (code start end : ℕ) (v : Literal) (ws : List ℕ) → Held text code l v → OfLeaf (leaf_of_lem start end v) kind.String ws → get_or ws 0 0 + get_or ws 1 0 ≤ length text
string_in text l code start end (L.Bool b) ws h (k, p, q, _, _) = absurd (omega arith)
string_in text l code start end (L.Int n) ws h (k, p, q, _, _) = absurd (omega arith)
string_in text l code start end (L.String at n) ws h (k, p, q, _, _) = omega (arith, h.0)
string_in text l code start end (L.Float x) ws h (k, p, q, _, _) = absurd (omega arith)
string_in text l code start end L.None ws h (k, p, q, _, _) = absurd (omega arith)

-- one that has the kind Float carries the place of its token
float_at : (start end : ℕ) (v : Literal) (ws : List ℕ) → OfLeaf (leaf_of_lem start end v) kind.Float ws → (get_or ws 2 0 ≡ start) × (get_or ws 3 0 ≡ end)
float_at start end (L.Bool b) ws (k, _, _, _, _) = absurd (omega arith)
float_at start end (L.Int n) ws (k, _, _, _, _) = absurd (omega arith)
float_at start end (L.String at n) ws (k, _, _, _, _) = absurd (omega arith)
float_at start end (L.Float x) ws (k, p, q, r, s) = (r, s)
float_at start end L.None ws (k, _, _, _, _) = absurd (omega arith)

module _ (source : List ℕ) (toks : List Token) (bytes : List ℕ) (scans : token_list source ≡ scanned toks bytes) where
  -- a start and an end in the source
  abbrev Span : ℕ → ℕ → Type 0
  Span s e = (s ≤ e) × (e ≤ length source)

  token_span : (t s e : ℕ) → t < length toks → s ≡ (token_at_lem source toks t).start → e ≡ (token_at_lem source toks t).end → Span s e
  token_span t s e h a b = let z : Spanned (length source) (token_at_lem source toks t) = each_at (tokens_spanned source toks bytes scans) t _ h in (omega (arith, z.ordered), omega (arith, z.within))

  named : (k s e : ℕ) (ws : List ℕ) → Says source toks naming k (s ∷ e ∷ ws) → Span s e
  named k s e ws (t, h, q) = token_span t s e h.0 (ap (λ (l : List ℕ). get_or l 0 0) q) (ap (λ (l : List ℕ). get_or l 1 0) q)

  -- what the words of a node of the kind k say puts its place inside, with these flags of places and these fields
  abbrev Of : ℕ → List Bool → List Field → Type 0
  Of k bs fs = (b : ℕ) (r : Tree (row fs)) → Says source toks (saying k) k (words r) → Inside source bytes k (chosen bs (get_or (fields b r) 0 0 ∷ get_or (fields b r) 1 0 ∷ get_or (fields b r) 2 0 ∷ get_or (fields b r) 3 0 ∷ []))

  -- a node whose name stands in front
  fronted : {fs : List Field} (k b : ℕ) (r : Tree (row (field.word ∷ field.word ∷ fs))) → Says source toks naming k (words r) → Span (get_or (fields b r) 0 0) (get_or (fields b r) 1 0)
  unfolding fields words
  fronted k b (word s (word e r)) h = named k s e (words r) h

  of_attribute : Of kind.Attribute (false ∷ true ∷ true ∷ []) (shape kind.Attribute)
  unfolding fields words
  of_attribute b (child x (word s (word e r))) h = named kind.Attribute s e (words r) h

  of_string : Of kind.String (true ∷ true ∷ []) (shape kind.String)
  unfolding fields words
  of_string b (word p (word q r)) (t, h, f) =
      let v = token_at_lem source toks t in
      let i : InText source bytes v = each_at (tokens_held source toks bytes scans) t _ h.0 in
      string_in bytes (bytes_of source v) v.code v.start v.end v.literal (p ∷ q ∷ words r) i f

  of_float : Of kind.Float (false ∷ false ∷ true ∷ true ∷ []) (shape kind.Float)
  unfolding fields words
  of_float b (word p (word q (word s (word e r)))) (t, h, f) =
      let v = token_at_lem source toks t in
      let (x, y) = float_at v.start v.end v.literal (p ∷ q ∷ s ∷ e ∷ words r) f in
      token_span t s e h.0 x y

  -- every kind
  kinded : (k : ℕ) → Of k (places k) (shape k)
  kinded =
      by_places (λ k bs. Of k bs (shape k))
      (fronted kind.For, (fronted kind.Def, (fronted kind.Class, (fronted kind.Method, (fronted kind.Name, (of_string, (fronted kind.Variable, tt)))))))
      of_attribute of_float (λ k b r w. tt)

  -- ---- the nodes of a tree

  -- the place of a node lies inside
  abbrev Within : Node → Type 0
  Within n = Inside source bytes n.kind (chosen (places n.kind) (n.p ∷ n.q ∷ n.r ∷ n.s ∷ []))

  onto_within : {i : Part} {cs : List Cat} {x : Tree i} → Proper source toks i cs x → (ns : List Node) (b n : ℕ) → All Within ns → All Within (onto ns b n x)
  unfolding onto
  onto_within (p_node {k} {s} {e} {fs} {h} {r} _ w _ p) ns b n a =
      all_last Within (onto ns b none r) (filled k s e n (fields b r)) (onto_within p ns b none a) (subst (λ (fs : List Field). Of k (places k) fs) h (kinded k) b r w)
  onto_within (p_chained p) ns b n a = onto_within p ns b n a
  onto_within p_done ns b n a = a
  onto_within (p_unused p) ns b n a = onto_within p ns b n a
  onto_within (p_word p) ns b n a = onto_within p ns b n a
  onto_within (p_child {x} p q) ns b n a = onto_within q (onto ns b none x) (b + size x) n (onto_within p ns b none a)
  onto_within (p_kids {l} p q) ns b n a = onto_within q (onto ns b none l) (b + size l) n (onto_within p ns b none a)
  onto_within (p_other {l} p _ q) ns b n a = onto_within q (onto ns b none l) (b + size l) n (onto_within p ns b none a)
  onto_within p_nil ns b n a = a
  onto_within (p_full p) ns b n a = onto_within p ns b none a
  onto_within (p_one p) ns b n a = onto_within p ns b n a
  onto_within (p_more {l} {x} p q) ns b n a = let t = top (b + size l) x in onto_within q (onto ns b t l) (b + size l) n (onto_within p ns b t a)
  onto_within (p_first {s} {e} {op} {x} {y} _ p q) ns b n a =
      let P = onto (onto ns b none x) (b + size x) none y in
      all_last Within P (binary s e n op (top b x) (top (b + size x) y)) (onto_within q (onto ns b none x) (b + size x) none (onto_within p ns b none a)) tt
  onto_within (p_link {s} {e} {s'} {e'} {op} {c} {y} _ p q) ns b n a =
      let P = onto (onto ns b none c) (b + size c) none y in
      let u = binary s' e' none op (operand b c) (top (b + size c) y) in
      all_last Within (P ++ u ∷ []) (binary s e n (binary_op_lem token.And) (top b c) (b + size c + size y))
      (all_last Within P u (onto_within q (onto ns b none c) (b + size c) none (onto_within p ns b none a)) tt) tt

  -- ---- the words of a tree

  pub all_placed : (ns : List Node) → TreeOf source toks ns → (tr : List ℕ) (N : ℕ) → nodes_of tr N ≡ ns → (i : ℕ) → i < N → Placed source bytes tr i
  all_placed ns t tr N e i h =
      let a : All Within (nodes_of tr N) = subst (All Within) (sym (e ∙ t.is)) (onto_within t.proper [] 0 none tt) in
      subst Within (node_there tr N i h) (all_at Within (nodes_of tr N) i (omega (arith, length_nodes tr N)) a)
