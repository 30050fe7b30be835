-- Zeros in an area, and the records of a tree's nodes.
-- Assumes nothing.
use mathlib.Core.Path.{◌≡◌, refl, sym, ap, ap₂, ◌∙◌}
use mathlib.Core.List.{List, [], ◌∷◌, ◌++◌, append-nil, append_assoc}
use Prim.Native.Nat.{ℕ, zero, suc, ◌+◌, ◌-◌, ◌*◌, ◌≤◌}
use native.Mathlib.Omega.{arith}
use lib.ListN.{length, get_or, take, drop, replicate, length-append, length-drop, length-take, drop_of_length-le}
use lib.Seq.{length-take-le, drop-cons, drop-drop, take-add, take-append-add, take_at}
use borrow.Rule.Slice.PartMut.{put_mid}
use Rattle.areas.specs.Area.{area}
use Rattle.ast.specs.Node.{Node, words}
use Rattle.ast.specs.Words.{tabulate, node_at, nodes_of}
use Rattle.ast.proofs.Nodes.{length_nodes}
use Rattle.reader.specs.Outcome.{tree_area, header, records}
use Rattle.reader.specs.Steps.{padded}

-- ---- zeros

-- an area with nothing but zeros
pub zeros_pad : {k size : ℕ} → k ≡ size → replicate k 0 ≡ padded size []
unfolding padded
zeros_pad {k} {size} e = let z : size - 0 ≡ k = omega arith in rw z

zeros_behind : (k m : ℕ) {size : ℕ} (l zs : List ℕ) → length l ≡ size → k ≤ size → zs ≡ replicate m 0 → m ≡ size - k → put_mid k (length l - k) l zs ≡ padded size (take k l)
unfolding padded
zeros_behind k m l zs e h z s =
    let past = drop_of_length-le (drop k l) {i = length l - k} (simp length-drop (omega arith)) in
    rw (past, append-nil zs, z, s, length-take-le k l (omega arith))

-- the header, the records as they stand, and zeros behind them
pub finished : (n t x nodes openings m : ℕ) (tree tree₁ zs : List ℕ) → length tree ≡ tree_area n → 8 * nodes + 8 ≤ tree_area n
    → tree₁ ≡ header n t x nodes openings ++ drop 8 tree → zs ≡ replicate m 0 → m ≡ length tree₁ - (8 * nodes + 8)
    → put_mid (8 * nodes + 8) (length tree₁ - (8 * nodes + 8)) tree₁ zs ≡ padded (tree_area n) (header n t x nodes openings ++ take (8 * nodes) (drop 8 tree))
finished n t x nodes openings m tree tree₁ zs e h w z s =
    zeros_behind (8 * nodes + 8) m tree₁ zs long h z (omega (arith, long)) ∙ ap (padded (tree_area n)) front
  where
    long : length tree₁ ≡ tree_area n
    long = ap length w ∙ length-append (header n t x nodes openings) (drop 8 tree) ∙ rw (length-drop 8 tree, e) (omega arith)

    front : take (8 * nodes + 8) tree₁ ≡ header n t x nodes openings ++ take (8 * nodes) (drop 8 tree)
    front =
        let s : 8 * nodes + 8 ≡ 8 + 8 * nodes = omega arith in
        rw s (ap (take (8 + 8 * nodes)) w ∙ take-append-add (header n t x nodes openings) (drop 8 tree) (8 * nodes))

-- ---- records

-- m words from p + j on, one by one
words_from : (l : List ℕ) (p j m : ℕ) → p + j + m ≤ length l → take m (drop (p + j) l) ≡ tabulate (λ i. get_or l (p + i) 0) j m
words_from l p j zero h = refl
words_from l p j (suc m) h =
    let e : suc (p + j) ≡ p + (j + 1) = omega arith in
    rw (drop-cons l (p + j) 0 (omega arith)) (rw e (ap (λ ws. get_or l (p + j) 0 ∷ ws) (words_from l p (j + 1) m (omega arith))))

-- the eight words of a node
node_words : (tree : List ℕ) (k : ℕ) → 8 * k + 16 ≤ length tree → take 8 (drop (8 * k + 8) tree) ≡ words (node_at tree k)
node_words tree k h =
    let z : 8 * k + 8 + 0 ≡ 8 * k + 8 = omega arith in
    rw z at (words_from tree (8 * k + 8) 0 8 (omega arith))

records_from : (tree : List ℕ) (i k : ℕ) → 8 * (i + k) + 8 ≤ length tree → take (8 * k) (drop (8 * i + 8) tree) ≡ records (tabulate (node_at tree) i k)
records_from tree i zero h = refl
records_from tree i (suc k) h =
    let e : 8 * suc k ≡ 8 + 8 * k = omega arith in
    let s : 8 * i + 8 + 8 ≡ 8 * (i + 1) + 8 = omega arith in
    ap (λ (m : ℕ). take m (drop (8 * i + 8) tree)) e
    ∙ take-add 8 (8 * k) (drop (8 * i + 8) tree)
    ∙ ap (λ (ws : List ℕ). ws ++ take (8 * k) (drop 8 (drop (8 * i + 8) tree))) (node_words tree i (omega arith))
    ∙ ap (λ (l : List ℕ). words (node_at tree i) ++ take (8 * k) l) (drop-drop 8 (8 * i + 8) tree ∙ ap (λ (m : ℕ). drop m tree) s)
    ∙ ap (λ (ws : List ℕ). words (node_at tree i) ++ ws) (records_from tree (i + 1) k (omega arith))

pub records_of : (tree : List ℕ) (k : ℕ) → 8 * k + 8 ≤ length tree → take (8 * k) (drop 8 tree) ≡ records (nodes_of tree k)
unfolding nodes_of
records_of tree k h = records_from tree 0 k (omega arith)

pub length_records : (ns : List Node) → length (records ns) ≡ 8 * length ns
length_records [] = refl
length_records (n ∷ ns) = omega (arith, length_records ns)

-- equal words are equal nodes
node_same : (x y : Node) → words x ≡ words y → x ≡ y
node_same x y e = ap of e
  where
    of : List ℕ → Node
    of l = record { kind = get_or l 0 0; start = get_or l 1 0; end = get_or l 2 0; next = get_or l 3 0; p = get_or l 4 0; q = get_or l 5 0; r = get_or l 6 0; s = get_or l 7 0 }

records_same : (xs ys : List Node) → length xs ≡ length ys → records xs ≡ records ys → xs ≡ ys
records_same [] [] l e = refl
records_same [] (y ∷ ys) l e = absurd (omega arith)
records_same (x ∷ xs) [] l e = absurd (omega arith)
records_same (x ∷ xs) (y ∷ ys) l e =
    let w : words x ≡ words y = cc in
    let t : records xs ≡ records ys = cc in
    ap₂ ◌∷◌ (node_same x y w) (records_same xs ys (omega arith) t)

-- the nodes of a tree whose words are these records
pub nodes_are : (tree : List ℕ) (k : ℕ) (ns : List Node) → k ≡ length ns → take (8 * k) (drop 8 tree) ≡ records ns → nodes_of tree k ≡ ns
unfolding nodes_of
nodes_are tree k [] e h = rw e
nodes_are tree k (n ∷ ns) e h =
    let m : length (take (8 * k) (drop 8 tree)) ≡ 8 * k = ap length h ∙ length_records (n ∷ ns) ∙ omega arith in
    let long : 8 * k + 8 ≤ length tree = omega (arith, length-take (8 * k) (drop 8 tree), length-drop 8 tree) in
    records_same (nodes_of tree k) (n ∷ ns) (length_nodes tree k ∙ e) (sym (records_of tree k long) ∙ h)

-- what stands in front of an area's zeros
pub area_front : (size k : ℕ) (filled before : List ℕ) → length filled ≡ k → take k (area size filled before) ≡ filled
unfolding area
area_front size k filled before e =
    let zeros : List ℕ = replicate (size - length filled) 0 in
    ap (take k) (append_assoc filled zeros (drop size before)) ∙ take_at filled (zeros ++ drop size before) k e

-- and behind a header
pub area_records : (size n t x nodes openings : ℕ) (rs before : List ℕ) → length rs ≡ 8 * nodes → take (8 * nodes) (drop 8 (area size (header n t x nodes openings ++ rs) before)) ≡ rs
unfolding area
area_records size n t x nodes openings rs before e =
    let zeros : List ℕ = replicate (size - length (header n t x nodes openings ++ rs)) 0 in
    ap (take (8 * nodes)) (append_assoc rs zeros (drop size before)) ∙ take_at rs (zeros ++ drop size before) (8 * nodes) e
