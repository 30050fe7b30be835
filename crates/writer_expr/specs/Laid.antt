-- Words of a tree that hold an erased tree. Contracts of inner functions alone cite this; what the writer promises stands in `writer`.
-- Assumes nothing.
use Rattle.std.specs.Prelude.{ℕ, ◌+◌, ◌-◌, ◌*◌, ◌≤◌, ◌≡◌, cond, List, [], ◌∷◌, eqb, length, get_or}
use Rattle.token.specs.Code as token
use Rattle.ast.specs.Kind as kind
use Rattle.ast.specs.Node.{none}
use Rattle.ast.specs.Operator.{binary_op_lem}
use Rattle.ast.specs.Words.{node_at}
use Rattle.unparse.specs.Trees.{Item, Expr, Name, Pair, Sort, a, some, list, Tree}
use Rattle.standard.specs.Alike.{places, hidden, chosen, bytes_at}
use Rattle.standard.specs.Bare.{Bare, b_node, b_end, b_nil, b_word, b_child, b_list, b_more, b_one, b_full, b_first, b_link, size_b, top_b, head_b, operand_b, fields_b}
use Rattle.standard.specs.Plant.{plant}

-- the kind of the node before e, and the word j of its record
abbrev pub kind_at : List ℕ → ℕ → ℕ
kind_at tr e = (node_at tr (e - 1)).kind

abbrev pub word_at : List ℕ → ℕ → ℕ → ℕ
word_at tr e j = get_or tr (8 * (e - 1) + 8 + j) 0

-- the four fields of node i
abbrev pub fields_at : List ℕ → ℕ → List ℕ
fields_at tr i = (node_at tr i).p ∷ (node_at tr i).q ∷ (node_at tr i).r ∷ (node_at tr i).s ∷ []

-- the place of a node of the kind k lies in the text, or in the source: "20 String (p offset, q length in the text)", "Names are start and end" (01, Tree)
abbrev pub Inside : List ℕ → List ℕ → ℕ → List ℕ → Type 0
Inside src txt k [] = Unit {0}
Inside src txt k (p ∷ []) = Unit {0}
Inside src txt k (p ∷ q ∷ l) = cond (eqb k kind.String) (p + q ≤ length txt) ((p ≤ q) × (q ≤ length src))

-- node i has this kind, these bytes at its place, and these fields, with 0 for what is a place
pub record Root (src txt tr : List ℕ) (i k : ℕ) (bs ws : List ℕ) : Type 0 where
  pub kind : (node_at tr i).kind ≡ k
  pub fields : hidden (places k) (fields_at tr i) ≡ ws
  pub bytes : bytes_at src txt k (chosen (places k) (fields_at tr i)) ≡ bs
  pub inside : Inside src txt k (chosen (places k) (fields_at tr i))

-- The nodes of a tree stand from node b on: `onto_b`, read off the words. A writer needs neither spans nor `next`.
unfoldable pub Laid : List ℕ → List ℕ → List ℕ → ℕ → Bare → Type 0
unfolding size_b head_b operand_b fields_b binary_op_lem
Laid src txt tr b (b_node k bs r) = Laid src txt tr b r × Root src txt tr (b + size_b r) k bs (fields_b b r)
Laid src txt tr b b_end = Unit {0}
Laid src txt tr b b_nil = Unit {0}
Laid src txt tr b (b_word w r) = Laid src txt tr b r
Laid src txt tr b (b_child x r) = Laid src txt tr b x × Laid src txt tr (b + size_b x) r
Laid src txt tr b (b_list l r) = Laid src txt tr b l × Laid src txt tr (b + size_b l) r
Laid src txt tr b (b_more l x) = Laid src txt tr b l × Laid src txt tr (b + size_b l) x
Laid src txt tr b (b_one x) = Laid src txt tr b x
Laid src txt tr b (b_full l) = Laid src txt tr b l
Laid src txt tr b (b_first op x y) =
    (Laid src txt tr b x × Laid src txt tr (b + size_b x) y)
    × Root src txt tr (b + size_b x + size_b y) kind.Binary [] (op ∷ top_b b x ∷ top_b (b + size_b x) y ∷ 0 ∷ [])
Laid src txt tr b (b_link op c y) =
    (Laid src txt tr b c × Laid src txt tr (b + size_b c) y)
    × (Root src txt tr (b + size_b c + size_b y) kind.Binary [] (op ∷ operand_b b c ∷ top_b (b + size_b c) y ∷ 0 ∷ [])
    × Root src txt tr (b + size_b c + size_b y + 1) kind.Binary [] (binary_op_lem token.And ∷ top_b b c ∷ (b + size_b c + size_b y) ∷ 0 ∷ []))

-- The tree x stands from node b on, and ends before node e.
pub record Stands {s : Sort} (src txt tr : List ℕ) (b : ℕ) (x : Tree s) (e : ℕ) : Type 0 where
  pub laid : Laid src txt tr b (plant x)
  pub ends : e ≡ b + size_b (plant x)
  pub held : 8 * e + 8 ≤ length tr
  pub few : e ≤ none

-- some expression ends before node e
pub record Some (src txt tr : List ℕ) (e : ℕ) : Type 0 where
  pub from : ℕ
  pub tree : Tree (a Expr)
  pub stands : Stands src txt tr from tree e

-- what a list within an expression may have as its members
pub data Inline : Item → Type 0 where
  exprs : Inline Expr
  names : Inline Name
  pairs : Inline Pair

-- a member; members of a list, the first of which has the number f; a list, which may be empty, by its first node or none
pub record SomeMember (src txt tr : List ℕ) (e : ℕ) : Type 0 where
  pub item : Item
  pub inline : Inline item
  pub from : ℕ
  pub tree : Tree (a item)
  pub stands : Stands src txt tr from tree e

pub record SomeMembers (src txt tr : List ℕ) (e f : ℕ) : Type 0 where
  pub item : Item
  pub inline : Inline item
  pub from : ℕ
  pub tree : Tree (some item)
  pub stands : Stands src txt tr from tree e
  pub head : f ≡ head_b from (plant tree)

pub record SomeList (src txt tr : List ℕ) (e f : ℕ) : Type 0 where
  pub item : Item
  pub inline : Inline item
  pub from : ℕ
  pub tree : Tree (list item)
  pub stands : Stands src txt tr from tree e
  pub head : f ≡ head_b from (plant tree)
