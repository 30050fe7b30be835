-- The printed form, as a list of bytes: "prints the header, then index and record per node, none as `-` where a field holds a node number
-- (Int and Float halves print as numbers; a refusal: `no`, number, place ..)" (01, Scripts).
-- Assumes nothing.
use Rattle.std.specs.Prelude.{ℕ, ◌+◌, cond, List, [], ◌∷◌, ◌++◌, map, eqb}
use Rattle.numbers.specs.Digits.{digits}
use Rattle.ast.specs.Node.{Node, Field, maybe, none, holds_node, fields_of}

-- "values are written in base ten": a word has at most ten digits; the law `decimal_value` (proofs/Value.antt) says that they are the word
abbrev pub decimal : ℕ → List ℕ
decimal w = digits 10 w

-- a node's number, or `-` for none
abbrev pub link : ℕ → List ℕ
link w = cond (eqb w none) (45 ∷ []) (decimal w)

-- "none as `-` where a field holds a node number"
abbrev pub shown : Field → ℕ → List ℕ
shown f w = cond (holds_node f) (link w) (decimal w)

-- each part behind a space
unfoldable pub spaced : List (List ℕ) → List ℕ
spaced [] = []
spaced (part ∷ parts) = 32 ∷ part ++ spaced parts

-- a line: parts with one space between two, and a line feed at the end
abbrev pub line : List (List ℕ) → List ℕ
line [] = 10 ∷ []
line (part ∷ parts) = part ++ spaced parts ++ 10 ∷ []

-- "index and record": the fields of a record in their order, of which `next` holds a node's number in every kind
abbrev pub node_parts : Node → List (List ℕ)
node_parts n =
    decimal n.kind ∷ decimal n.start ∷ decimal n.end ∷ shown maybe n.next ∷ shown (fields_of n.kind).p n.p
    ∷ shown (fields_of n.kind).q n.q
    ∷ shown (fields_of n.kind).r n.r
    ∷ shown (fields_of n.kind).s n.s
    ∷ []

-- a line for each node, the first of which has number k
unfoldable pub node_lines : ℕ → List Node → List ℕ
node_lines k [] = []
node_lines k (n ∷ ns) = line (decimal k ∷ node_parts n) ++ node_lines (k + 1) ns

-- "prints the header, then index and record per node"
unfoldable pub printed_tree : List ℕ → List Node → List ℕ
printed_tree header nodes = line (map decimal header) ++ node_lines 0 nodes

-- "a refusal: `no`, number, place"; a place is no word, and may have twenty digits
unfoldable pub printed_no : ℕ → ℕ → List ℕ
printed_no number place = line ((110 ∷ 111 ∷ []) ∷ decimal number ∷ digits 20 place ∷ [])
