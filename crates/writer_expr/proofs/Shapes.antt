-- Roots: the kind of a tree's last node, and which expressions are a Binary.
-- Assumes nothing.
use mathlib.Core.Path.{◌≡◌, refl, ap, subst}
use mathlib.Core.List.{List}
use Prim.Native.Nat.{ℕ, ◌+◌, ◌-◌, ◌≤◌, ◌<◌}
use native.Mathlib.Omega.{arith}
use lib.ListN.{get_or}
use Rattle.ast.specs.Kind as kind
use Rattle.unparse.specs.Trees.{Item, Expr, Sort, a, some, chain, several, Op, Comparison, Literal, Bracket, Void, Tree}
use Rattle.unparse.specs.Trees as tree
use Rattle.standard.specs.Text.{text}
use Rattle.standard.specs.Bare.{Bare, b_node, b_end, b_nil, b_word, b_child, b_list, b_more, b_one, b_full, b_first, b_link, size_b, head_b, operand_b}
use Rattle.standard.specs.Plant.{plant}
use Rattle.writer_expr.specs.Levels.{rank_of, text_of}
use Rattle.writer_expr.specs.Laid.{Root, Laid, Inline, exprs, names, pairs, Stands, kind_at}
use Rattle.writer_expr.specs.Forms.{rule_at_lem}

-- the kind of the last node; 0 where none is
unfoldable pub kind_b : Bare → ℕ
kind_b (b_node k bs r) = k
kind_b (b_first op x y) = kind.Binary
kind_b (b_link op c y) = kind.Binary
kind_b b_end = 0
kind_b b_nil = 0
kind_b (b_word w r) = 0
kind_b (b_child x r) = 0
kind_b (b_list l r) = 0
kind_b (b_more l x) = 0
kind_b (b_one x) = 0
kind_b (b_full l) = 0

-- what the words say of it
pub rooted : {src txt tr : List ℕ} (e : ℕ) {i k : ℕ} {bs ws : List ℕ} → e ≡ i + 1 → Root src txt tr i k bs ws → Root src txt tr (e - 1) k bs ws
rooted {src} {txt} {tr} e {i} {k} {bs} {ws} h r = let p : i ≡ e - 1 = omega arith in subst (λ (j : ℕ). Root src txt tr j k bs ws) p r

pub field_is : (j : ℕ) {l m : List ℕ} → l ≡ m → get_or l j 0 ≡ get_or m j 0
field_is j e = ap (λ (l : List ℕ). get_or l j 0) e

root_kind : (src txt tr : List ℕ) (b e : ℕ) (x : Bare) → Laid src txt tr b x → e ≡ b + size_b x → 1 ≤ kind_b x → kind_at tr e ≡ kind_b x
unfolding Laid size_b kind_b
root_kind src txt tr b e (b_node k bs r) d h l = (rooted e (omega arith) d.1).kind
root_kind src txt tr b e (b_first op x y) d h l = (rooted e (omega arith) d.1).kind
root_kind src txt tr b e (b_link op c y) d h l = (rooted e (omega arith) d.1.1).kind
root_kind src txt tr b e b_end d h l = absurd (omega arith)
root_kind src txt tr b e b_nil d h l = absurd (omega arith)
root_kind src txt tr b e (b_word w r) d h l = absurd (omega arith)
root_kind src txt tr b e (b_child x r) d h l = absurd (omega arith)
root_kind src txt tr b e (b_list m r) d h l = absurd (omega arith)
root_kind src txt tr b e (b_more m x) d h l = absurd (omega arith)
root_kind src txt tr b e (b_one x) d h l = absurd (omega arith)
root_kind src txt tr b e (b_full m) d h l = absurd (omega arith)

root_there : (x : Bare) → 1 ≤ kind_b x → 1 ≤ size_b x
unfolding size_b kind_b
root_there (b_node k bs r) l = omega arith
root_there (b_first op x y) l = omega arith
root_there (b_link op c y) l = omega arith
root_there b_end l = absurd (omega arith)
root_there b_nil l = absurd (omega arith)
root_there (b_word w r) l = absurd (omega arith)
root_there (b_child x r) l = absurd (omega arith)
root_there (b_list m r) l = absurd (omega arith)
root_there (b_more m x) l = absurd (omega arith)
root_there (b_one x) l = absurd (omega arith)
root_there (b_full m) l = absurd (omega arith)

-- ---- expressions

-- an expression by its root: a Binary of three kinds, or another, whose rule is told by its kind
pub data Shape : Tree (a Expr) → Type 0 where
  twofold : (o : Op) (x y : Tree (a Expr)) → Shape (tree.binary o x y)
  compared : (o : Comparison) (x y : Tree (a Expr)) → Shape (tree.compare (tree.two o x y))
  chained : (c : Tree chain) (o : Comparison) (y : Tree (a Expr)) → Shape (tree.compare (tree.link c o y))
  other : (x : Tree (a Expr)) → (kind_b (plant x) ≡ kind.Binary → ⊥) → kind.Bool ≤ kind_b (plant x) → ((op : ℕ) → rank_of x ≡ rule_at_lem (kind_b (plant x)) op) → Shape x

pub shape : (x : Tree (a Expr)) → Shape x
unfolding plant kind_b rank_of rule_at_lem
shape (tree.literal Literal.int l) = other (tree.literal Literal.int l) (λ h. omega arith) (omega arith) (λ op. refl)
shape (tree.literal Literal.bool l) = other (tree.literal Literal.bool l) (λ h. omega arith) (omega arith) (λ op. refl)
shape (tree.literal Literal.string l) = other (tree.literal Literal.string l) (λ h. omega arith) (omega arith) (λ op. refl)
shape (tree.literal Literal.float l) = other (tree.literal Literal.float l) (λ h. omega arith) (omega arith) (λ op. refl)
shape (tree.literal Literal.none l) = other (tree.literal Literal.none l) (λ h. omega arith) (omega arith) (λ op. refl)
shape (tree.variable x) = other (tree.variable x) (λ h. omega arith) (omega arith) (λ op. refl)
shape (tree.unary g x) = other (tree.unary g x) (λ h. omega arith) (omega arith) (λ op. refl)
shape (tree.binary o x y) = twofold o x y
shape (tree.compare (tree.two o x y)) = compared o x y
shape (tree.compare (tree.link c o y)) = chained c o y
shape (tree.attribute x n) = other (tree.attribute x n) (λ h. omega arith) (omega arith) (λ op. refl)
shape (tree.apply x y) = other (tree.apply x y) (λ h. omega arith) (omega arith) (λ op. refl)
shape (tree.index x y) = other (tree.index x y) (λ h. omega arith) (omega arith) (λ op. refl)
shape (tree.bracket Bracket.squares x) = other (tree.bracket Bracket.squares x) (λ h. omega arith) (omega arith) (λ op. refl)
shape (tree.bracket Bracket.treeset x) = other (tree.bracket Bracket.treeset x) (λ h. omega arith) (omega arith) (λ op. refl)
shape (tree.void Void.no_pairs) = other (tree.void Void.no_pairs) (λ h. omega arith) (omega arith) (λ op. refl)
shape (tree.void Void.no_members) = other (tree.void Void.no_members) (λ h. omega arith) (omega arith) (λ op. refl)
shape (tree.dict x) = other (tree.dict x) (λ h. omega arith) (omega arith) (λ op. refl)
shape (tree.set x) = other (tree.set x) (λ h. omega arith) (omega arith) (λ op. refl)
shape (tree.single x) = other (tree.single x) (λ h. omega arith) (omega arith) (λ op. refl)
shape (tree.tuple x) = other (tree.tuple x) (λ h. omega arith) (omega arith) (λ op. refl)
shape (tree.lambda x y) = other (tree.lambda x y) (λ h. omega arith) (omega arith) (λ op. refl)

-- names and pairs have lower kinds
expr_late : {x : Tree (a Expr)} → Shape x → kind.Bool ≤ kind_b (plant x)
unfolding plant kind_b
expr_late (twofold o x y) = omega arith
expr_late (compared o x y) = omega arith
expr_late (chained c o y) = omega arith
expr_late (other x n l r) = l

late : {i : Item} → Inline i → (x : Tree (a i)) → kind.Name ≤ kind_b (plant x)
unfolding plant kind_b
late exprs x = let l = expr_late (shape x) in omega arith
late names (tree.name w l) = omega arith
late pairs (tree.pair x y) = omega arith

pub positive : {i : Item} → Inline i → (x : Tree (a i)) → 1 ≤ size_b (plant x)
positive n x = let l = late n x in root_there (plant x) (omega arith)

module _ {src txt tr : List ℕ} where
  pub kind_is : {i : Item} → Inline i → {b e : ℕ} {x : Tree (a i)} → Stands src txt tr b x e → kind_at tr e ≡ kind_b (plant x)
  kind_is n {b} {e} {x} s = let l = late n x in root_kind src txt tr b e (plant x) s.laid s.ends (omega arith)

  -- an expression's kind
  pub no_name : {b e : ℕ} {x : Tree (a Expr)} → Stands src txt tr b x e → kind.Bool ≤ kind_at tr e
  no_name {x = x} s = let k = kind_is exprs s in let l = expr_late (shape x) in omega arith

-- ---- where the first of several stands

-- a chain's last operand stands before its last node
pub operand_low : (b : ℕ) (c : Tree chain) → operand_b b (plant c) < b + size_b (plant c) - 1
unfolding plant operand_b size_b
operand_low b (tree.two o x y) = let h = positive exprs y in omega arith
operand_low b (tree.link c o y) = let h = positive exprs y in omega arith

-- so does the first member of a list
pub head_low : {i : Item} → Inline i → (b : ℕ) (l : Tree (some i)) → head_b b (plant l) < b + size_b (plant l)
unfolding plant head_b size_b
head_low n b (tree.one x) = let h = positive n x in omega arith
head_low n b (tree.more l x) = let h = head_low n b l in omega arith

-- ---- two or more members of a tuple, as any members

unfoldable pub grown : Tree several → Tree (some Expr)
grown (tree.both x y) = tree.more (tree.one x) y
grown (tree.also l x) = tree.more (grown l) x

pub grown_plant : (l : Tree several) → plant l ≡ plant (grown l)
unfolding plant grown
grown_plant (tree.both x y) = refl
grown_plant (tree.also l x) = rw (grown_plant l)

pub grown_text : (l : Tree several) → text_of l ≡ text_of (grown l)
unfolding text grown
grown_text (tree.both x y) = refl
grown_text (tree.also l x) = rw (grown_text l)

-- ---- a part of a tree

pub inner : (src txt tr : List ℕ) {s t : Sort} {b e c m : ℕ} {x : Tree s} → Stands src txt tr b x e → (y : Tree t) → Laid src txt tr c (plant y) → m ≡ c + size_b (plant y) → m ≤ e → Stands src txt tr c y m
inner src txt tr s y d h l = record { laid = d; ends = h; held = omega (arith, s.held); few = omega (arith, s.few) }
