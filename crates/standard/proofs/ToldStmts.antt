-- Statements and what belongs to them: a node of each kind is told if its fields are.
-- Assumes nothing.
use mathlib.Core.Path.{◌≡◌, refl}
use mathlib.Core.Bool.{false}
use mathlib.Core.List.{List, []}
use Prim.Native.Nat.{ℕ}
use native.Mathlib.Omega.{arith}
use lib.Dec.{eqb}
use Rattle.tokens.specs.Token.{Token}
use Rattle.ast.specs.Kind as kind
use Rattle.ast.specs.Node.{none}
use Rattle.trees.specs.Tree.{whole, Tree, done, unused, word, child, kids, other, nil, full}
use Rattle.trees.specs.Flat.{head, fields}
use Rattle.trees.specs.Roles.{words, Filled}
use Rattle.unparse.specs.Trees.{Word, Load}
use Rattle.unparse.specs.Trees as to
use Rattle.unparse.specs.Brackets.{filled, enclosing}
use Rattle.standard.specs.Erase.{of_kind, erase}
use Rattle.standard.proofs.Fine.{Fine}
use Rattle.standard.proofs.Fine as fine
use Rattle.standard.specs.Bare.{b_node, b_end, b_word, b_child, b_list, b_one, b_full, places_of, bare}
use Rattle.standard.specs.Plant.{free₁, free₂, free₃, plant}
use Rattle.standard.proofs.Clear.{Clear}
use Rattle.standard.proofs.Told.{Leaves, OfKind, tells}
use Rattle.standard.proofs.ToldExprs.{spell_is}

module _ (W : Word → Load → Type 0) (L : to.Literal → Load → Type 0) (source text : List ℕ) (toks : List Token) (leaves : Leaves W L source text toks) where
  -- a Block that is not `none`
  block : (b : ℕ) (l : Tree whole) → eqb (head b l) none ≡ false → fine.Filled ((erase source text l).whole to.Stmt)
  unfolding head erase
  block b nil h = let z : ◌≡◌ {A = ℕ} 0 1 = cc in absurd (omega arith)
  block b (full l) h = tt

  pub of_Program : OfKind W L source text toks kind.Program
  unfolding of_kind erase bare places_of plant words fields Clear Fine Filled filled enclosing
  of_Program (kids l (unused (unused (unused done)))) (el, z) f w = tells (λ i. b_node kind.Program [] (b_list (el.planted i) free₃)) (λ c. el.fine c.1.0)

  pub of_If : OfKind W L source text toks kind.If
  unfolding of_kind erase bare places_of plant words fields Clear Fine Filled filled enclosing
  of_If (child x (kids l (kids m (other o done)))) (ex, (el, (em, (eo, z)))) f w =
      tells (λ i. b_node kind.If [] (b_child (ex.planted i) (b_list (el.planted i) (b_list (em.planted i) (b_list (eo.planted i) b_end)))))
      (λ c. (ex.fine c.1.0, block _ l c.0.1, el.fine c.1.1.0, em.fine c.1.1.1.0, eo.fine c.1.1.1.1.0))

  pub of_While : OfKind W L source text toks kind.While
  unfolding of_kind erase bare places_of plant words fields Clear Fine Filled filled enclosing
  of_While (child x (kids l (unused (unused done)))) (ex, (el, z)) f w =
      tells (λ i. b_node kind.While [] (b_child (ex.planted i) (b_list (el.planted i) free₂)))
      (λ c. (ex.fine c.1.0, block _ l c.0.1, el.fine c.1.1.0))

  pub of_For : OfKind W L source text toks kind.For
  unfolding of_kind erase bare places_of plant words fields Clear Fine Filled filled enclosing
  of_For (word s (word e (child x (kids l done)))) (ex, (el, z)) f w =
      tells (λ i. b_node kind.For (spell_is source s e i) (b_word 0 (b_word 0 (b_child (ex.planted i) (b_list (el.planted i) b_end)))))
      (λ c. (leaves.named kind.For s e w, ex.fine c.1.0, block _ l c.0.1, el.fine c.1.1.0))

  pub of_Def : OfKind W L source text toks kind.Def
  unfolding of_kind erase bare places_of plant words fields Clear Fine Filled filled enclosing
  of_Def (word s (word e (kids l (kids m done)))) (el, (em, z)) f w =
      tells (λ i. b_node kind.Def (spell_is source s e i) (b_word 0 (b_word 0 (b_list (el.planted i) (b_list (em.planted i) b_end)))))
      (λ c. (leaves.named kind.Def s e w, el.fine c.1.0, block _ m c.0.1, em.fine c.1.1.0))

  pub of_Return : OfKind W L source text toks kind.Return
  unfolding of_kind erase bare places_of plant words fields Clear Fine Filled filled enclosing
  of_Return (child x (unused (unused (unused done)))) (ex, z) f w = tells (λ i. b_node kind.Return [] (b_child (ex.planted i) free₃)) (λ c. ex.fine c.1.0)

  pub of_Assign : OfKind W L source text toks kind.Assign
  unfolding of_kind erase bare places_of plant words fields Clear Fine Filled filled enclosing
  of_Assign (child x (child y (unused (unused done)))) (ex, (ey, z)) f w =
      tells (λ i. b_node kind.Assign [] (b_child (ex.planted i) (b_child (ey.planted i) free₂)))
      (λ c. (ex.fine c.1.0, ey.fine c.1.1.0))

  pub of_Class : OfKind W L source text toks kind.Class
  unfolding of_kind erase bare places_of plant words fields Clear Fine Filled filled enclosing
  of_Class (word s (word e (kids nil (unused done)))) h f w = absurd (f tt).0
  of_Class (word s (word e (kids (full l) (unused done)))) (el, z) f w =
      tells (λ i. b_node kind.Class (spell_is source s e i) (b_word 0 (b_word 0 (b_list (el.planted i) free₁))))
      (λ c. (leaves.named kind.Class s e w, el.fine c.1.0))

  pub of_Break : OfKind W L source text toks kind.Break
  unfolding of_kind erase bare places_of plant words fields Clear Fine Filled filled enclosing
  of_Break (unused (unused (unused (unused done)))) z f w = tells refl (λ c. tt)

  pub of_Continue : OfKind W L source text toks kind.Continue
  unfolding of_kind erase bare places_of plant words fields Clear Fine Filled filled enclosing
  of_Continue (unused (unused (unused (unused done)))) z f w = tells refl (λ c. tt)

  pub of_Pass : OfKind W L source text toks kind.Pass
  unfolding of_kind erase bare places_of plant words fields Clear Fine Filled filled enclosing
  of_Pass (unused (unused (unused (unused done)))) z f w = tells refl (λ c. tt)

  pub of_Expr : OfKind W L source text toks kind.Expr
  unfolding of_kind erase bare places_of plant words fields Clear Fine Filled filled enclosing
  of_Expr (child x (unused (unused (unused done)))) (ex, z) f w = tells (λ i. b_node kind.Expr [] (b_child (ex.planted i) free₃)) (λ c. ex.fine c.1.0)

  pub of_Method : OfKind W L source text toks kind.Method
  unfolding of_kind erase bare places_of plant words fields Clear Fine Filled filled enclosing
  of_Method (word s (word e (kids l (kids m done)))) (el, (em, z)) f w =
      tells (λ i. b_node kind.Method (spell_is source s e i) (b_word 0 (b_word 0 (b_list (el.planted i) (b_list (em.planted i) b_end)))))
      (λ c. (leaves.named kind.Method s e w, el.fine c.1.0, block _ m c.0.1, em.fine c.1.1.0))

  pub of_Elif : OfKind W L source text toks kind.Elif
  unfolding of_kind erase bare places_of plant words fields Clear Fine Filled filled enclosing
  of_Elif (child x (kids l (unused (unused done)))) (ex, (el, z)) f w =
      tells (λ i. b_node kind.Elif [] (b_child (ex.planted i) (b_list (el.planted i) free₂)))
      (λ c. (ex.fine c.1.0, block _ l c.0.1, el.fine c.1.1.0))

  pub of_Else : OfKind W L source text toks kind.Else
  unfolding of_kind erase bare places_of plant words fields Clear Fine Filled filled enclosing
  of_Else (kids l (unused (unused (unused done)))) (el, z) f w =
      tells (λ i. b_full (b_one (b_node kind.Else [] (b_list (el.planted i) free₃))))
      (λ c. (block _ l c.0.1, el.fine c.1.0))
