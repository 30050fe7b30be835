-- The parts of a line by their mask, and how long they are.
-- Assumes nothing.
use mathlib.Core.Path.{◌≡◌, refl, ap, ◌∙◌}
use mathlib.Core.Bool.{Bool, true, false, cond}
use mathlib.Core.List.{List, [], ◌∷◌, ◌++◌, map, append-nil}
use Prim.Native.Nat.{ℕ, zero, suc, ◌+◌, ◌*◌, ◌/◌, ◌%◌, ◌≤◌}
use native.Mathlib.Omega.{arith}
use borrow.Author.Tests.{eq-eqb, ne_eqb}
use lib.Dec.{eqb}
use lib.ListN.{length, get_or, take, drop, length-append}
use lib.Seq.{drop-cons}
use Rattle.numbers.specs.Digits.{digits}
use Rattle.numbers.proofs.Written.{few}
use Rattle.ast.specs.Node.{Node, none, words, holds_node, fields_of}
use Rattle.ast.specs.Words.{node_at}
use Rattle.ast.specs.Mask.{node_fields_lem}
use Rattle.printing.specs.Printed.{decimal, spaced, line, node_parts, printed_no}
use Rattle.printing.specs.Masked.{word, masked}

-- a word, by what the code tests
pub word_dash : (holds : Bool) (w : ℕ) → holds ≡ true → w ≡ none → word holds w ≡ 45 ∷ []
unfolding word
word_dash holds w l e = rw (l, eq-eqb w none e)

pub word_link : (holds : Bool) (w : ℕ) → holds ≡ true → (w ≡ none → ⊥) → word holds w ≡ decimal w
unfolding word
word_link holds w l e = rw (l, ne_eqb w none e)

pub word_plain : (holds : Bool) (w : ℕ) → holds ≡ false → word holds w ≡ decimal w
unfolding word
word_plain holds w l = rw l

-- a word takes at most 10 bytes, a line of words 11 for each
pub word_few : (holds : Bool) (w : ℕ) → length (word holds w) ≤ 10
unfolding word
word_few false w = few 10 w
word_few true w = by_test (eqb w none) (few 10 w)
  where
    by_test : (b : Bool) → length (decimal w) ≤ 10 → length (cond b (45 ∷ []) (decimal w)) ≤ 10
    by_test true h = omega arith
    by_test false h = h

pub spaced_few : (mask : ℕ) (ws : List ℕ) → length (spaced (masked mask ws)) ≤ 11 * length ws
unfolding spaced masked
spaced_few mask [] = omega arith
spaced_few mask (w ∷ ws) =
    rw (length-append (word (eqb (mask % 2) 1) w) (spaced (masked (mask / 2) ws))) (omega (arith, word_few (eqb (mask % 2) 1) w, spaced_few (mask / 2) ws))

pub line_few : (first mask : ℕ) (ws : List ℕ) → length (line (decimal first ∷ masked mask ws)) ≤ 11 + 11 * length ws
line_few first mask ws =
    rw (length-append (decimal first ++ spaced (masked mask ws)) (10 ∷ []), length-append (decimal first) (spaced (masked mask ws))) (omega (arith, few 10 first, spaced_few mask ws))

-- a mask by its bits, the lowest first; above them all are clear
bits : List Bool → ℕ
bits [] = 0
bits (b ∷ bs) = cond b 1 0 + 2 * bits bs

parts : List Bool → List ℕ → List (List ℕ)
parts [] ws = map decimal ws
parts (b ∷ bs) [] = []
parts (b ∷ bs) (w ∷ ws) = word b w ∷ parts bs ws

by_bits : (bs : List Bool) (ws : List ℕ) → masked (bits bs) ws ≡ parts bs ws
unfolding bits parts masked word
by_bits [] [] = refl
by_bits [] (w ∷ ws) = ap (λ (l : List (List ℕ)). decimal w ∷ l) (by_bits [] ws)
by_bits (b ∷ bs) [] = refl
by_bits (true ∷ bs) (w ∷ ws) =
    let e : (1 + 2 * bits bs) % 2 ≡ 1 = omega arith in
    let h : (1 + 2 * bits bs) / 2 ≡ bits bs = omega arith in
    rw (e, h, by_bits bs ws)
by_bits (false ∷ bs) (w ∷ ws) =
    let e : (0 + 2 * bits bs) % 2 ≡ 0 = omega arith in
    let h : (0 + 2 * bits bs) / 2 ≡ bits bs = omega arith in
    rw (e, h, by_bits bs ws)

-- the header: no word holds a node's number
pub header_parts : (ws : List ℕ) → masked 0 ws ≡ map decimal ws
unfolding bits parts
header_parts ws = by_bits [] ws

-- the mask of a record
times : (b : Bool) (k : ℕ) → cond b k 0 ≡ k * cond b 1 0
times true k = omega arith
times false k = omega arith

pub node-parts : (n : Node) → masked (8 + 16 * node_fields_lem n.kind) (words n) ≡ node_parts n
unfolding node_fields_lem bits parts word
node-parts n =
    let p = holds_node (fields_of n.kind).p in
    let q = holds_node (fields_of n.kind).q in
    let r = holds_node (fields_of n.kind).r in
    let s = holds_node (fields_of n.kind).s in
    let bs = false ∷ false ∷ false ∷ true ∷ p ∷ q ∷ r ∷ s ∷ [] in
    let e : 8 + 16 * node_fields_lem n.kind ≡ bits bs = omega (arith, times q 2, times r 4, times s 8) in
    ap (λ (m : ℕ). masked m (words n)) e ∙ by_bits bs (words n)

-- so the mask fits a word
pub fields_few : (kind : ℕ) → node_fields_lem kind ≤ 15
unfolding node_fields_lem
fields_few kind =
    omega (arith, most (holds_node (fields_of kind).p) 1, most (holds_node (fields_of kind).q) 2, most (holds_node (fields_of kind).r) 4, most (holds_node (fields_of kind).s) 8)
  where
    most : (b : Bool) (k : ℕ) → cond b k 0 ≤ k
    most true k = omega arith
    most false k = omega arith

-- words of a list from place i + j on
listed : ℕ → List ℕ → ℕ → ℕ → List ℕ
listed zero l i j = []
listed (suc n) l i j = get_or l (i + j) 0 ∷ listed n l i (suc j)

front : (n : ℕ) (l : List ℕ) (i j : ℕ) → i + j + n ≤ length l → take n (drop (i + j) l) ≡ listed n l i j
unfolding listed
front zero l i j h = refl
front (suc n) l i j h =
    let e : suc (i + j) ≡ i + suc j = omega arith in
    rw (drop-cons l (i + j) 0 (omega arith), e, front n l i (suc j) (omega arith))

-- the eight words of a record are its node's; the eight of the header
pub record_words : (tree : List ℕ) (k : ℕ) → 8 * k + 16 ≤ length tree → take 8 (drop (8 * k + 8) tree) ≡ words (node_at tree k)
unfolding listed
record_words tree k h =
    let e : 8 * k + 8 + 0 ≡ 8 * k + 8 = omega arith in
    rw e at (front 8 tree (8 * k + 8) 0 (omega arith))

pub header_words : (tree : List ℕ) → 8 ≤ length tree → take 8 tree ≡ get_or tree 0 0 ∷ take 7 (drop 1 tree)
header_words [] h = absurd (omega arith)
header_words (w ∷ ws) h = refl

-- a refusal's line, as it is written
pub no_line : (number place : ℕ) → printed_no number place ≡ 110 ∷ 111 ∷ [] ++ (32 ∷ decimal number ++ 32 ∷ digits 20 place) ++ 10 ∷ []
unfolding printed_no spaced
no_line number place = rw (append-nil (digits 20 place))
