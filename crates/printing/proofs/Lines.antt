-- What the loops over words and nodes keep.
-- Assumes nothing.
use mathlib.Core.Path.{◌≡◌, refl, ◌∙◌}
use mathlib.Core.List.{List, [], ◌∷◌, ◌++◌}
use Prim.Native.Nat.{ℕ, suc, ◌+◌, ◌-◌, ◌*◌, ◌/◌, ◌%◌, ◌≤◌, ◌<◌}
use native.Mathlib.Numerals.{add-one}
use native.Mathlib.Omega.{arith}
use lib.Dec.{eqb}
use lib.ListN.{length, get_or, take, drop, length-drop, drop_of_length-le}
use lib.Seq.{drop-cons, length-take-le}
use Rattle.ast.specs.Node.{Node, words}
use Rattle.ast.specs.Words.{tabulate, node_at, nodes_of}
use Rattle.ast.specs.Mask.{node_fields_lem}
use Rattle.printing.specs.Wrote.{Wrote}
use Rattle.printing.specs.Printed.{decimal, spaced, line, node_parts, node_lines, printed_tree}
use Rattle.printing.specs.Masked.{word, masked}
use Rattle.printing.proofs.Writing.{long, Todo, todo_all, todo_step, todo_none}
use Rattle.printing.proofs.Parts.{word_few, line_few, node-parts, record_words, header_parts, header_words}

-- the parts from word j on
part_at : (mask j : ℕ) (ws : List ℕ) → j < length ws → spaced (masked mask (drop j ws)) ≡ 32 ∷ word (eqb (mask % 2) 1) (get_or ws j 0) ++ spaced (masked (mask / 2) (drop (j + 1) ws))
unfolding spaced masked
part_at mask j ws h = rw (add-one, drop-cons ws j 0 h)

parts_end : (mask j : ℕ) (ws : List ℕ) → length ws ≤ j → spaced (masked mask (drop j ws)) ≡ []
unfolding spaced masked
parts_end mask j ws h = rw (drop_of_length-le ws h)

-- ---- the words of a line
pub record Words (mask₀ : ℕ) (ws out₀ : List ℕ) (at₀ : ℕ) (out : List ℕ) (at mask j : ℕ) : Type 0 where
  pub todo : Todo (spaced (masked mask₀ ws)) out₀ at₀ (spaced (masked mask (drop j ws))) out at
  pub within : j ≤ length ws
  pub room : at + 11 * (length ws - j) ≤ length out

pub words_begin : (mask : ℕ) (ws out : List ℕ) (at : ℕ) → at + 11 * length ws ≤ length out → Words mask ws out at out at mask 0
words_begin mask ws out at h = record { todo = todo_all (spaced (masked mask ws)) out at (omega arith); within = omega arith; room = omega arith }

module _ (mask₀ : ℕ) (ws out₀ : List ℕ) (at₀ : ℕ) (out : List ℕ) (at mask j : ℕ) (f : Words mask₀ ws out₀ at₀ out at mask j) where
  pub words_step : (out' : List ℕ) (at' : ℕ) → j < length ws → Wrote (32 ∷ word (eqb (mask % 2) 1) (get_or ws j 0)) out at out' at'
      → Words mask₀ ws out₀ at₀ out' at' (mask / 2) (j + 1)
  words_step out' at' h w =
      let bytes : List ℕ = 32 ∷ word (eqb (mask % 2) 1) (get_or ws j 0) in
      let l = long bytes out out' at at' w in
      record {
        todo = todo_step (spaced (masked mask₀ ws)) out₀ at₀ (spaced (masked mask (drop j ws))) out at f.todo bytes (spaced (masked (mask / 2) (drop (j + 1) ws))) out' at' (part_at mask j ws h) w;
        within = omega arith;
        room = omega (arith, word_few (eqb (mask % 2) 1) (get_or ws j 0));
      }

  pub words_done : length ws ≤ j → Wrote (spaced (masked mask₀ ws)) out₀ at₀ out at
  words_done h = todo_none (spaced (masked mask₀ ws)) out₀ at₀ (spaced (masked mask (drop j ws))) out at f.todo (parts_end mask j ws h)

-- ---- the nodes
abbrev lines_from : ℕ → ℕ → List ℕ → List ℕ
lines_from nodes k tree = node_lines k (tabulate (node_at tree) k (nodes - k))

line_at : (nodes k : ℕ) (tree : List ℕ) → k < nodes → lines_from nodes k tree ≡ line (decimal k ∷ node_parts (node_at tree k)) ++ lines_from nodes (k + 1) tree
unfolding node_lines
line_at nodes k tree h =
    let e : nodes - k ≡ suc (nodes - (k + 1)) = omega arith in
    rw e

lines_end : (nodes k : ℕ) (tree : List ℕ) → nodes ≤ k → lines_from nodes k tree ≡ []
unfolding node_lines
lines_end nodes k tree h =
    let e : nodes - k ≡ 0 = omega arith in
    rw e

pub record Nodes (nodes : ℕ) (tree out₀ : List ℕ) (at₀ : ℕ) (out : List ℕ) (at k : ℕ) : Type 0 where
  pub todo : Todo (node_lines 0 (nodes_of tree nodes)) out₀ at₀ (lines_from nodes k tree) out at
  pub within : k ≤ nodes
  pub room : at + 99 * (nodes - k) ≤ length out

pub nodes_begin : (nodes : ℕ) (tree out : List ℕ) (at : ℕ) → at + 99 * nodes ≤ length out → Nodes nodes tree out at out at 0
unfolding nodes_of
nodes_begin nodes tree out at h =
    let e : nodes - 0 ≡ nodes = omega arith in
    record { todo = rw e (todo_all (node_lines 0 (tabulate (node_at tree) 0 nodes)) out at (omega arith)); within = omega arith; room = omega arith }

module _ (nodes : ℕ) (tree out₀ : List ℕ) (at₀ : ℕ) (out : List ℕ) (at k : ℕ) (f : Nodes nodes tree out₀ at₀ out at k) (h : k < nodes) (i : 8 * nodes + 8 ≤ length tree) where
  lent : take (8 * k + 8 + 8 - (8 * k + 8)) (drop (8 * k + 8) tree) ≡ words (node_at tree k)
  lent =
      let e : 8 * k + 8 + 8 - (8 * k + 8) ≡ 8 = omega arith in
      rw e (record_words tree k (omega arith))

  -- there is room for the line
  pub line_room : at + 11 + 11 * length (take (8 * k + 8 + 8 - (8 * k + 8)) (drop (8 * k + 8) tree)) ≤ length out
  line_room = rw lent (omega arith)

  pub nodes_step : (out' : List ℕ) (at' fields : ℕ) → fields ≡ node_fields_lem (get_or tree (8 * k + 8) 0)
      → Wrote (line (decimal k ∷ masked (8 + 16 * fields) (take (8 * k + 8 + 8 - (8 * k + 8)) (drop (8 * k + 8) tree)))) out at out' at'
      → Nodes nodes tree out₀ at₀ out' at' (k + 1)
  nodes_step out' at' fields e v =
      let n = node_at tree k in
      let bytes = line (decimal k ∷ masked (8 + 16 * fields) (words n)) in
      let w : Wrote bytes out at out' at' = rw lent at v in
      let l = long bytes out out' at at' w in
      let p : lines_from nodes k tree ≡ bytes ++ lines_from nodes (k + 1) tree = line_at nodes k tree h ∙ rw (e, node-parts n) refl in
      record {
        todo = todo_step (node_lines 0 (nodes_of tree nodes)) out₀ at₀ (lines_from nodes k tree) out at f.todo bytes (lines_from nodes (k + 1) tree) out' at' p w;
        within = omega arith;
        room = omega (arith, line_few k (8 + 16 * fields) (words n));
      }

pub nodes_done : (nodes : ℕ) (tree out₀ : List ℕ) (at₀ : ℕ) (out : List ℕ) (at k : ℕ) → Nodes nodes tree out₀ at₀ out at k → nodes ≤ k
    → Wrote (node_lines 0 (nodes_of tree nodes)) out₀ at₀ out at
nodes_done nodes tree out₀ at₀ out at k f h = todo_none (node_lines 0 (nodes_of tree nodes)) out₀ at₀ (lines_from nodes k tree) out at f.todo (lines_end nodes k tree h)

-- ---- the header's line, and the nodes behind it
module _ (tree : List ℕ) (h : 8 ≤ length tree) (first : ℕ) where
  abbrev header_line : List ℕ
  header_line = line (decimal first ∷ masked 0 (take 7 (drop 1 tree)))

  pub header_ends : (r : ℕ) (out out' : List ℕ) → Wrote header_line out 0 out' r → (r ≤ 88) × (length out' ≡ length out)
  header_ends r out out' w =
      let seven : length (take 7 (drop 1 tree)) ≡ 7 = length-take-le 7 (drop 1 tree) (simp length-drop (omega arith)) in
      (omega (arith, seven, line_few first 0 (take 7 (drop 1 tree))), long header_line out out' 0 r w)

  pub tree_lines : first ≡ get_or tree 0 0 → (nodes : List Node) → printed_tree (take 8 tree) nodes ≡ header_line ++ node_lines 0 nodes
  unfolding printed_tree
  tree_lines e nodes = rw (header_words tree h, header_parts (take 7 (drop 1 tree)), e)
