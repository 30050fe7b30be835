-- What the words say of an expression that stands there: its parts, where they stand, and its text.
-- Assumes nothing.
use mathlib.Core.Path.{◌≡◌}
use mathlib.Core.List.{List, ◌++◌}
use Prim.Native.Nat.{ℕ, ◌-◌, ◌≤◌}
use lib.ListN.{length}
use Rattle.source.specs.Bytes.{part}
use Rattle.rendered.specs.Spelled.{spelled_fixed}
use Rattle.token.specs.Code.{LParen, RParen, LBracket, RBracket, Lambda, Comma, Dot}
use Rattle.unparse.specs.Trees.{Item, Expr, Name, a, some, list, Void, Tree}
use Rattle.unparse.specs.Trees as tree
use Rattle.unparse.specs.Levels.{T}
use Rattle.standard.specs.Text.{text, within, void_text, led, colon}
use Rattle.standard.specs.Bare.{head_b}
use Rattle.standard.specs.Plant.{plant}
use Rattle.writer_expr.specs.Levels.{text_at, text_of}
use Rattle.writer_expr.specs.Laid.{Stands, Inline, word_at}
use Rattle.writer_expr.specs.Forms.{Form, binary, unary, call, attribute, index, lambda, tuple, enclosed, leaf, opens, closes}
use Rattle.writer_expr.proofs.Leaves.{LeafView}
use Rattle.writer_expr.proofs.Operators.{binary_text, sign_text_lem}

-- ---- the texts of the forms

-- what stands in the parentheses of a tuple that is not empty
unfoldable pub inside_text : Tree (some Expr) → List ℕ
inside_text (tree.one x) = text_of x ++ spelled_fixed Comma
inside_text (tree.more l x) = text_of (tree.more l x)

abbrev pub tuple_text : Tree (list Expr) → List ℕ
tuple_text tree.nil = void_text Void.no_members
tuple_text (tree.full l) = within LParen (inside_text l) RParen

-- a whole statement's
abbrev pub whole_text : Tree (list Expr) → List ℕ
whole_text tree.nil = void_text Void.no_members
whole_text (tree.full l) = inside_text l

abbrev pub lambda_text : Tree (list Name) → Tree (a Expr) → List ℕ
lambda_text l x = spelled_fixed Lambda ++ led l (text_of l ++ colon (text_of x))

abbrev pub index_text : Tree (a Expr) → Tree (a Expr) → List ℕ
index_text x y = text_at 7 x ++ within LBracket (text_of y) RBracket

abbrev pub call_text : Tree (a Expr) → Tree (list Expr) → List ℕ
call_text x l = text_at 7 x ++ within LParen (text_of l) RParen

abbrev pub attribute_text : List ℕ → Tree (a Expr) → List ℕ
attribute_text name x = text_at 7 x ++ (spelled_fixed Dot ++ name)

abbrev pub enclosed_text : ℕ → {i : Item} → Tree (list i) → List ℕ
enclosed_text k l = opens k ++ (text_of l ++ closes k)

-- ---- the parts

-- an expression with one part at its left, and a name in the source
pub record Named (src txt tr : List ℕ) (b : ℕ) (x : Tree (a Expr)) (e : ℕ) : Type 0 where
  pub left : Tree (a Expr)
  pub says : text_of x ≡ attribute_text (part src (word_at tr e 5) (word_at tr e 6)) left
  pub ahead : Stands src txt tr b left (e - 1)
  pub name : (word_at tr e 5 ≤ word_at tr e 6) × (word_at tr e 6 ≤ length src)

-- with two parts; the last two nodes of a chain have theirs so too
pub record Two (f : Tree (a Expr) → Tree (a Expr) → List ℕ) (src txt tr : List ℕ) (b : ℕ) (x : Tree (a Expr)) (e : ℕ) : Type 0 where
  pub mid : ℕ
  pub left : Tree (a Expr)
  pub right : Tree (a Expr)
  pub says : text_of x ≡ f left right
  pub ahead : Stands src txt tr b left mid
  pub behind : Stands src txt tr mid right (e - 1)

-- with a part and a list; with a list alone; with a list and a part
pub record Listing (src txt tr : List ℕ) (b : ℕ) (x : Tree (a Expr)) (e : ℕ) : Type 0 where
  pub mid : ℕ
  pub left : Tree (a Expr)
  pub list : Tree (list Expr)
  pub says : text_of x ≡ call_text left list
  pub ahead : Stands src txt tr b left mid
  pub behind : Stands src txt tr mid list (e - 1)
  pub head : word_at tr e 5 ≡ head_b mid (plant list)

pub record Bracketed (k : ℕ) (src txt tr : List ℕ) (b : ℕ) (x : Tree (a Expr)) (e : ℕ) : Type 0 where
  pub item : Item
  pub inline : Inline item
  pub list : Tree (list item)
  pub says : text_of x ≡ enclosed_text k list
  pub behind : Stands src txt tr b list (e - 1)
  pub head : word_at tr e 4 ≡ head_b b (plant list)

pub record Tuple (src txt tr : List ℕ) (b : ℕ) (x : Tree (a Expr)) (e : ℕ) : Type 0 where
  pub list : Tree (list Expr)
  pub says : text_of x ≡ tuple_text list
  pub whole : text 0 T x ≡ whole_text list
  pub behind : Stands src txt tr b list (e - 1)
  pub head : word_at tr e 4 ≡ head_b b (plant list)

pub record Lambdas (src txt tr : List ℕ) (b : ℕ) (x : Tree (a Expr)) (e : ℕ) : Type 0 where
  pub mid : ℕ
  pub list : Tree (list Name)
  pub right : Tree (a Expr)
  pub says : text_of x ≡ lambda_text list right
  pub ahead : Stands src txt tr b list mid
  pub behind : Stands src txt tr mid right (e - 1)
  pub head : word_at tr e 4 ≡ head_b b (plant list)

-- a sign and its operand
pub record Signs (src txt tr : List ℕ) (b : ℕ) (x : Tree (a Expr)) (e : ℕ) : Type 0 where
  pub right : Tree (a Expr)
  pub says : text_of x ≡ sign_text_lem (word_at tr e 4) right
  pub behind : Stands src txt tr b right (e - 1)

abbrev pub View : Form → (src txt tr : List ℕ) → ℕ → Tree (a Expr) → ℕ → Type 0
View binary src txt tr b x e = Two (binary_text (word_at tr e 4)) src txt tr b x e
View index src txt tr b x e = Two index_text src txt tr b x e
View attribute src txt tr b x e = Named src txt tr b x e
View call src txt tr b x e = Listing src txt tr b x e
View (enclosed k) src txt tr b x e = Bracketed k src txt tr b x e
View unary src txt tr b x e = Signs src txt tr b x e
View lambda src txt tr b x e = Lambdas src txt tr b x e
View tuple src txt tr b x e = Tuple src txt tr b x e
View (leaf k) src txt tr b x e = LeafView src txt tr b x e
