-- Nodes: the eight fields of a record, and what the last four hold in each kind (01, Tree).
-- Assumes nothing.
use Rattle.std.specs.Prelude.{ℕ, suc, Bool, true, false, ◌&&◌, ◌||◌, List, [], ◌∷◌, eqb, ltb, get_or}

-- "N records of 8 words: kind, start, end, next, p, q, r, s"
pub record Node : Type 0 where
  pub kind : ℕ
  pub start : ℕ
  pub end : ℕ
  pub next : ℕ
  pub p : ℕ
  pub q : ℕ
  pub r : ℕ
  pub s : ℕ

-- "Unused words are 0; none is 4294967295."
abbrev pub none : ℕ
none = 4294967295

-- a node's words, in order
abbrev pub words : Node → List ℕ
words n = n.kind ∷ n.start ∷ n.end ∷ n.next ∷ n.p ∷ n.q ∷ n.r ∷ n.s ∷ []

-- a new node: it is in no list yet
abbrev pub made : ℕ → ℕ → ℕ → ℕ → ℕ → ℕ → ℕ → Node
made kind start end p q r s = record { kind = kind; start = start; end = end; next = none; p = p; q = q; r = r; s = s }

-- the same node with the member that follows it; and with another span
abbrev pub linked : ℕ → Node → Node
linked m n = record { kind = n.kind; start = n.start; end = n.end; next = m; p = n.p; q = n.q; r = n.r; s = n.s }

abbrev pub spanned : ℕ → ℕ → Node → Node
spanned a b n = record { kind = n.kind; start = a; end = b; next = n.next; p = n.p; q = n.q; r = n.r; s = n.s }

-- what is read where there is no node
abbrev pub blank : Node
blank = record { kind = 0; start = 0; end = 0; next = 0; p = 0; q = 0; r = 0; s = 0 }

-- What a field holds: nothing, and so 0; a number that is no node's (a place, an operator, a word of a literal); a node; a node or none;
-- a list, which "is its first node or none, then next".
pub data Field : Type 0 where
  unused word node maybe list : Field

pub record Fields : Type 0 where
  pub p : Field
  pub q : Field
  pub r : Field
  pub s : Field

abbrev pub row : Field → Field → Field → Field → Fields
row p q r s = record { p = p; q = q; r = r; s = s }

-- The one table of what each kind's fields hold, in the order of the kinds from 1 on. "Names are start and end in the source", two words.
abbrev pub table : List Fields
table =
    row list unused unused unused  -- 1 Program
    ∷ row node list list maybe  -- 2 If
    ∷ row node list unused unused  -- 3 While
    ∷ row word word node list  -- 4 For
    ∷ row word word list list  -- 5 Def
    ∷ row node unused unused unused  -- 6 Return
    ∷ row node node unused unused  -- 7 Assign
    ∷ row word word list unused  -- 8 Class
    ∷ row unused unused unused unused  -- 9 Break
    ∷ row unused unused unused unused  -- 10 Continue
    ∷ row unused unused unused unused  -- 11 Pass
    ∷ row node unused unused unused  -- 12 Expr
    ∷ row word word list list  -- 13 Method
    ∷ row node list unused unused  -- 14 Elif
    ∷ row list unused unused unused  -- 15 Else
    ∷ row word word unused unused  -- 16 Name
    ∷ row node node unused unused  -- 17 Pair
    ∷ row word unused unused unused  -- 18 Bool
    ∷ row word word unused unused  -- 19 Int
    ∷ row word word unused unused  -- 20 String
    ∷ row word word word word  -- 21 Float: "in r and s the start and end of its token" (02, change 3)
    ∷ row unused unused unused unused  -- 22 None
    ∷ row word word unused unused  -- 23 Variable
    ∷ row word node unused unused  -- 24 Unary
    ∷ row word node node unused  -- 25 Binary
    ∷ row node list unused unused  -- 26 Call
    ∷ row node word word unused  -- 27 Attribute
    ∷ row list unused unused unused  -- 28 List
    ∷ row list unused unused unused  -- 29 Dict
    ∷ row list unused unused unused  -- 30 Tuple
    ∷ row list unused unused unused  -- 31 Set
    ∷ row list unused unused unused  -- 32 TreeSet
    ∷ row node node unused unused  -- 33 Index
    ∷ row list node unused unused  -- 34 Lambda
    ∷ []

-- what the fields of this kind hold
abbrev pub fields_of : ℕ → Fields
fields_of k = get_or (row unused unused unused unused ∷ table) k (row unused unused unused unused)

-- the field holds a node's number, or none: there it prints as `-`
abbrev pub holds_node : Field → Bool
holds_node unused = false
holds_node word = false
holds_node node = true
holds_node maybe = true
holds_node list = true

-- A test of nodes against the table, for the scripts that are computed. The number in a field of node i is such as the field holds: 0; any; a node
-- written before; that or none.
abbrev pub field_fits : Field → ℕ → ℕ → Bool
field_fits unused i x = eqb x 0
field_fits word i x = true
field_fits node i x = ltb x i
field_fits maybe i x = eqb x none || ltb x i
field_fits list i x = eqb x none || ltb x i

-- node i has fields as its kind says, and none or a greater number for its next
abbrev pub node_fits : ℕ → Node → Bool
node_fits i n =
    field_fits (fields_of n.kind).p i n.p && field_fits (fields_of n.kind).q i n.q && field_fits (fields_of n.kind).r i n.r && field_fits (fields_of n.kind).s i n.s
    && ltb i n.next

-- so have all these nodes, from number i on
abbrev pub all_fit : ℕ → List Node → Bool
all_fit i [] = true
all_fit i (n ∷ ns) = node_fits i n && all_fit (suc i) ns
