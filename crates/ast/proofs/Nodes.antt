-- The nodes that are read off a tree, after its words were written.
-- Assumes nothing.
use mathlib.Core.Path.{◌≡◌, refl, ap, sym, ◌∙◌}
use mathlib.Core.List.{List, [], ◌∷◌, ◌++◌}
use Prim.Native.Nat.{ℕ, zero, suc, ◌+◌, ◌-◌, ◌*◌, ◌≤◌, ◌<◌}
use native.Mathlib.Decide.{dec_lt}
use native.Mathlib.Omega.{arith}
use lib.ListN.{length, get_or, set, length-set}
use lib.Seq.{sets, length-sets, get_or-set_same, get_or-set_other}
use Rattle.ast.specs.Node.{Node, words, linked, spanned, blank}
use Rattle.ast.specs.Words.{tabulate, node_at, nodes_of, put_node_lem, set_span_lem, set_next_lem}
use Rattle.ast.proofs.Tabulate.{length_tabulate, get_d_tabulate, tabulate_snoc, tabulate_same, tabulate_set}

-- words that were stored one after the other, and the words around them
pub sets_before : (tree : List ℕ) (i : ℕ) (vs : List ℕ) (w : ℕ) → w < i → get_or (sets tree i vs) w 0 ≡ get_or tree w 0
sets_before tree i [] w h = refl
sets_before tree i (v ∷ vs) w h = sets_before (set tree i v) (suc i) vs w (omega arith) ∙ get_or-set_other tree i w v 0 (λ e. omega arith)

pub sets_after : (tree : List ℕ) (i : ℕ) (vs : List ℕ) (w : ℕ) → i + length vs ≤ w → get_or (sets tree i vs) w 0 ≡ get_or tree w 0
sets_after tree i [] w h = refl
sets_after tree i (v ∷ vs) w h = sets_after (set tree i v) (suc i) vs w (omega arith) ∙ get_or-set_other tree i w v 0 (λ e. omega arith)

sets_in : (tree : List ℕ) (i : ℕ) (vs : List ℕ) (j : ℕ) → j < length vs → i + length vs ≤ length tree → get_or (sets tree i vs) (i + j) 0 ≡ get_or vs j 0
sets_in tree i [] j h l = absurd (omega arith)
sets_in tree i (v ∷ vs) zero h l = let e : i + 0 ≡ i = omega arith in rw e (sets_before (set tree i v) (suc i) vs i (omega arith) ∙ get_or-set_same tree i v 0 (omega arith))
sets_in tree i (v ∷ vs) (suc j) h l =
    let e : i + suc j ≡ suc i + j = omega arith in
    rw e (sets_in (set tree i v) (suc i) vs j (omega arith) (omega (arith, length-set tree i v)))

-- a node's words are the tree's
words_at : (tree : List ℕ) (k j : ℕ) → j < 8 → get_or (words (node_at tree k)) j 0 ≡ get_or tree (8 * k + 8 + j) 0
words_at tree k zero h = let e : 8 * k + 8 ≡ 8 * k + 8 + 0 = omega arith in ap (λ (w : ℕ). get_or tree w 0) e
words_at tree k (suc zero) h = refl
words_at tree k (suc (suc zero)) h = refl
words_at tree k (suc (suc (suc zero))) h = refl
words_at tree k (suc (suc (suc (suc zero)))) h = refl
words_at tree k (suc (suc (suc (suc (suc zero))))) h = refl
words_at tree k (suc (suc (suc (suc (suc (suc zero)))))) h = refl
words_at tree k (suc (suc (suc (suc (suc (suc (suc zero))))))) h = refl
words_at tree k (suc (suc (suc (suc (suc (suc (suc (suc j)))))))) h = absurd (omega arith)

-- a node by its words
node_is : (tree : List ℕ) (k : ℕ) (n : Node) → ((j : ℕ) → j < 8 → get_or tree (8 * k + 8 + j) 0 ≡ get_or (words n) j 0) → node_at tree k ≡ n
node_is tree k n h =
    let z : 8 * k + 8 + 0 ≡ 8 * k + 8 = omega arith in
    let e₀ = rw z at (h 0 (omega arith)) in
    let e₁ = h 1 (omega arith) in
    let e₂ = h 2 (omega arith) in
    let e₃ = h 3 (omega arith) in
    let e₄ = h 4 (omega arith) in
    let e₅ = h 5 (omega arith) in
    let e₆ = h 6 (omega arith) in
    let e₇ = h 7 (omega arith) in
    rw (e₀, e₁, e₂, e₃, e₄, e₅, e₆, e₇)

-- Words vs are stored from word d of node m on.
module _ (tree : List ℕ) (m d : ℕ) (vs : List ℕ) (inside : d + length vs ≤ 8) where
  -- any other node stays
  other : (j : ℕ) → (j ≡ m → ⊥) → node_at (sets tree (8 * m + 8 + d) vs) j ≡ node_at tree j
  other j n = node_is (sets tree (8 * m + 8 + d) vs) j (node_at tree j) (λ w h. go w h (dec_lt j m) ∙ sym (words_at tree j w h))
    where
      go : (w : ℕ) → w < 8 → Dec (j < m) → get_or (sets tree (8 * m + 8 + d) vs) (8 * j + 8 + w) 0 ≡ get_or tree (8 * j + 8 + w) 0
      go w h (yes l) = sets_before tree (8 * m + 8 + d) vs (8 * j + 8 + w) (omega arith)
      go w h (no l) = let q : m < j = more (dec_lt m j) l in sets_after tree (8 * m + 8 + d) vs (8 * j + 8 + w) (omega arith)
        where
          more : Dec (m < j) → (j < m → ⊥) → m < j
          more (yes q) l = q
          more (no q) l = absurd (n (omega arith))

  -- the node itself has those words
  own : (n : Node) → words n ≡ sets (words (node_at tree m)) d vs → 8 * m + 16 ≤ length tree → node_at (sets tree (8 * m + 8 + d) vs) m ≡ n
  own n e l = node_is (sets tree (8 * m + 8 + d) vs) m n (λ w h. go w h (dec_lt w d) (dec_lt w (d + length vs)) ∙ ap (λ (ws : List ℕ). get_or ws w 0) (sym e))
    where
      go : (w : ℕ) → w < 8 → Dec (w < d) → Dec (w < d + length vs) → get_or (sets tree (8 * m + 8 + d) vs) (8 * m + 8 + w) 0 ≡ get_or (sets (words (node_at tree m)) d vs) w 0
      go w h (yes a) b =
          sets_before tree (8 * m + 8 + d) vs (8 * m + 8 + w) (omega arith) ∙ sym (words_at tree m w h) ∙ sym (sets_before (words (node_at tree m)) d vs w a)
      go w h (no a) (yes b) =
          let e₁ : 8 * m + 8 + d + (w - d) ≡ 8 * m + 8 + w = omega arith in
          let e₂ : d + (w - d) ≡ w = omega arith in
          (rw e₁ at (sets_in tree (8 * m + 8 + d) vs (w - d) (omega arith) (omega arith)))
          ∙ sym (rw e₂ at (sets_in (words (node_at tree m)) d vs (w - d) (omega arith) (omega arith)))
      go w h (no a) (no b) =
          sets_after tree (8 * m + 8 + d) vs (8 * m + 8 + w) (omega arith) ∙ sym (words_at tree m w h) ∙ sym (sets_after (words (node_at tree m)) d vs w (omega arith))

  changed : (n : Node) (k : ℕ) → m < k → words n ≡ sets (words (node_at tree m)) d vs → 8 * m + 16 ≤ length tree
      → tabulate (node_at (sets tree (8 * m + 8 + d) vs)) 0 k ≡ set (tabulate (node_at tree) 0 k) m n
  changed n k h e l =
      let z : 0 + m ≡ m = omega arith in
      tabulate_set (node_at tree) (node_at (sets tree (8 * m + 8 + d) vs)) n 0 k m h (ap (node_at (sets tree (8 * m + 8 + d) vs)) z ∙ own n e l) (λ j o. sym (other j (λ (q : j ≡ m). o (omega arith))))

-- how many nodes are read off; and a node that is
pub length_nodes : (tree : List ℕ) (k : ℕ) → length (nodes_of tree k) ≡ k
unfolding nodes_of
length_nodes tree k = length_tabulate (node_at tree) 0 k

pub node_there : (tree : List ℕ) (k i : ℕ) → i < k → get_or (nodes_of tree k) i blank ≡ node_at tree i
unfolding nodes_of
node_there tree k i h = let e : 0 + i ≡ i = omega arith in get_d_tabulate (node_at tree) blank 0 k i h ∙ ap (node_at tree) e

-- a node that is written behind the others
pub nodes_put : (tree : List ℕ) (k : ℕ) (n : Node) → 8 * k + 16 ≤ length tree → nodes_of (put_node_lem tree k n) (k + 1) ≡ nodes_of tree k ++ (n ∷ [])
unfolding nodes_of put_node_lem
nodes_put tree k n l =
    let z : 8 * k + 8 ≡ 8 * k + 8 + 0 = omega arith in
    let e : 0 + k ≡ k = omega arith in
    rw z
    (tabulate_snoc (node_at (sets tree (8 * k + 8 + 0) (words n))) 0 k
    ∙ ap (λ (ns : List Node). ns ++ (node_at (sets tree (8 * k + 8 + 0) (words n)) (0 + k) ∷ []))
    (tabulate_same (node_at (sets tree (8 * k + 8 + 0) (words n))) (node_at tree) 0 k (λ j _ h. other tree k 0 (words n) (omega arith) j (λ q. omega arith)))
    ∙ ap (λ (x : Node). tabulate (node_at tree) 0 k ++ (x ∷ [])) (ap (node_at (sets tree (8 * k + 8 + 0) (words n))) e ∙ own tree k 0 (words n) (omega arith) n refl l))

-- a span that is set; a link that is
pub nodes_span : (tree : List ℕ) (k m a b : ℕ) → m < k → 8 * m + 16 ≤ length tree → nodes_of (set_span_lem tree m a b) k ≡ set (nodes_of tree k) m (spanned a b (get_or (nodes_of tree k) m blank))
unfolding set_span_lem
nodes_span tree k m a b h l = rw (node_there tree k m h) (unfold nodes_of in (changed tree m 1 (a ∷ b ∷ []) (omega arith) (spanned a b (node_at tree m)) k h refl l))

pub nodes_next : (tree : List ℕ) (k m x : ℕ) → m < k → 8 * m + 16 ≤ length tree → nodes_of (set_next_lem tree m x) k ≡ set (nodes_of tree k) m (linked x (get_or (nodes_of tree k) m blank))
unfolding set_next_lem
nodes_next tree k m x h l = rw (node_there tree k m h) (unfold nodes_of in (changed tree m 3 (x ∷ []) (omega arith) (linked x (node_at tree m)) k h refl l))

-- the tree stays as long as it was
pub length_span : (tree : List ℕ) (m a b : ℕ) → length (set_span_lem tree m a b) ≡ length tree
unfolding set_span_lem
length_span tree m a b = length-sets tree (8 * m + 8 + 1) (a ∷ b ∷ [])
