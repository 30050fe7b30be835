-- What is kept beside the tokens while a script is read: the number of the next token, the nodes that are written, and the values at hand.
-- The actions are laid out so that a value's nodes are one stretch, and in place only the last node of a stretch is changed (not proved yet).
-- Assumes nothing.
use Rattle.std.specs.Prelude.{ℕ, ◌-◌, List, [], ◌∷◌, ◌++◌, length, get_or, set, drop}
use Rattle.ast.specs.Node.{Node}
use Rattle.ast.specs.Node as ast

-- A value at hand, by numbers of tokens and of nodes.
pub data Value : Type 0 where
  token : ℕ → Value  -- a token that was taken
  node : ℕ → Value  -- a node
  signs : ℕ → ℕ → Value  -- the first of some signs, and how many they are
  growing : ℕ → ℕ → Value  -- a list in the making: its first node and its last
  list : ℕ → Value  -- a whole list: its first node, or none
  chain : ℕ → ℕ → Value  -- comparisons: their node, and the last operand

pub record Kept : Type 0 where
  pub at : ℕ
  pub nodes : List Node
  pub values : List Value

-- "at first 0, and the nodes kept, at first none"
abbrev pub blank : Kept
blank = record { at = 0; nodes = []; values = [] }

-- the first number of a value; how many signs; the last node of a list in the making; the last operand of a chain. Of another value they are 0, which no
-- action asks (proofs/Sorts.antt)
unfoldable pub number : Value → ℕ
number (token t) = t
number (node n) = n
number (signs f c) = f
number (growing f l) = f
number (list f) = f
number (chain w l) = w

unfoldable pub count : Value → ℕ
count (token t) = 0
count (node n) = 0
count (signs f c) = c
count (growing f l) = 0
count (list f) = 0
count (chain w l) = 0

unfoldable pub last : Value → ℕ
last (token t) = 0
last (node n) = 0
last (signs f c) = 0
last (growing f l) = l
last (list f) = 0
last (chain w l) = 0

unfoldable pub operand : Value → ℕ
operand (token t) = 0
operand (node n) = 0
operand (signs f c) = 0
operand (growing f l) = 0
operand (list f) = 0
operand (chain w l) = l

-- a node as a list of one; a list with another behind it; a chain as its node. Any other value stays.
unfoldable pub one : Value → Value
one (token t) = token t
one (node n) = growing n n
one (signs f c) = signs f c
one (growing f l) = growing f l
one (list f) = list f
one (chain w l) = chain w l

unfoldable pub both : Value → Value → Value
unfolding last
both (token t) v = token t
both (node n) v = node n
both (signs f c) v = signs f c
both (growing f l) v = growing f (last v)
both (list f) v = list f
both (chain w l) v = chain w l

unfoldable pub whole : Value → Value
whole (token t) = token t
whole (node n) = node n
whole (signs f c) = signs f c
whole (growing f l) = growing f l
whole (list f) = list f
whole (chain w l) = node w

-- the value that came last to hand, or so many before it
abbrev pub top : ℕ → Kept → Value
top i k = get_or k.values i (token 0)

-- the token that was taken last
abbrev pub taken : Kept → ℕ
taken k = k.at - 1

-- this value in place of the last i
abbrev pub put : ℕ → Value → Kept → Kept
put i v k = record { at = k.at; nodes = k.nodes; values = v ∷ drop i k.values }

-- a node written behind the others; its value takes the place of the last i
abbrev pub write : ℕ → Node → Kept → Kept
write i n k = record { at = k.at; nodes = k.nodes ++ (n ∷ []); values = node (length k.nodes) ∷ drop i k.values }

-- a node that is there, by its number
abbrev pub nth : ℕ → Kept → Node
nth i k = get_or k.nodes i ast.blank

-- the nodes with that of number i changed
abbrev pub change : ℕ → (Node → Node) → Kept → Kept
change i f k = record { at = k.at; nodes = set k.nodes i (f (nth i k)); values = k.values }
