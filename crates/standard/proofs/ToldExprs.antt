-- Expressions, names and pairs: a node of each kind is told if its fields are.
-- Assumes nothing.
use mathlib.Core.Path.{◌≡◌, refl, ap, sym, ◌∙◌}
use mathlib.Core.Bool.{Bool, true, false, cond, ◌&&◌}
use mathlib.Core.List.{List, [], ◌∷◌}
use Prim.Native.Nat.{ℕ, zero, suc, ◌+◌, ◌-◌}
use native.Mathlib.Omega.{arith}
use lib.Dec.{T, eqb, eqb→eq}
use lib.ListN.{get_or, drop, take}
use Rattle.grammar.specs.Sets.{mem}
use Rattle.source.specs.Bytes.{part}
use Rattle.tokens.specs.Token.{Token}
use Rattle.ast.specs.Kind as kind
use Rattle.trees.specs.Tree.{done, unused, word, child, kids, nil, full}
use Rattle.trees.specs.Flat.{fields}
use Rattle.trees.specs.Roles.{words, Filled, unaries, arithmetics}
use Rattle.trees.proofs.Apt.{each}
use Rattle.unparse.specs.Trees.{Word, Load}
use Rattle.unparse.specs.Trees as to
use Rattle.unparse.specs.Brackets.{filled, enclosing, several_of, tuple_of}
use Rattle.unparse.specs.Operators.{sign_of, op_of}
use Rattle.standard.specs.Erase.{sign_from, op_from, name_in, of_kind, erase}
use Rattle.standard.proofs.Fine.{Fine}
use Rattle.standard.specs.Bare.{Bare, b_node, b_word, b_child, b_list, b_more, b_full, places_of, bare}
use Rattle.standard.specs.Plant.{free₁, free₂, free₃, free₄, spelling, sign_number, op_number, plant}
use Rattle.standard.proofs.Clear.{Clear}
use Rattle.standard.proofs.Told.{Leaves, OfKind, tells}

sign-number : (w : ℕ) → T (mem w unaries) → sign_number (sign_from w) ≡ w
unfolding sign_from sign_of
sign-number w h = each (λ w. sign_number (sign_from w) ≡ w) w unaries (refl, (refl, (refl, tt))) h

op-number : (w : ℕ) → T (mem w arithmetics) → op_number (op_from w) ≡ w
unfolding op_from op_of
op-number w h = each (λ w. op_number (op_from w) ≡ w) w arithmetics (refl, (refl, (refl, (refl, (refl, (refl, (refl, (refl, tt)))))))) h

-- the members of a Tuple
several_is : (g : to.Tree (to.some to.Expr)) (y : to.Tree (to.a to.Expr)) → plant (several_of g y) ≡ b_more (plant g) (plant y)
unfolding several_of plant
several_is (to.one x) y = refl
several_is (to.more g x) y = ap (λ (b : Bare). b_more b (plant y)) (several_is g x)

tuple_is : (g : to.Tree (to.some to.Expr)) → plant (tuple_of g) ≡ b_node kind.Tuple [] (b_list (b_full (plant g)) free₃)
unfolding tuple_of plant
tuple_is (to.one x) = refl
tuple_is (to.more g x) = ap (λ (b : Bare). b_node kind.Tuple [] (b_list (b_full b) free₃)) (several_is g x)

several_fine : (W : Word → Load → Type 0) (L : to.Literal → Load → Type 0) (g : to.Tree (to.some to.Expr)) (y : to.Tree (to.a to.Expr)) → Fine W L g → Fine W L y → Fine W L (several_of g y)
unfolding several_of Fine
several_fine W L (to.one x) y f h = (f, h)
several_fine W L (to.more g x) y f h = (several_fine W L g x f.0 f.1, h)

tuple_fine : (W : Word → Load → Type 0) (L : to.Literal → Load → Type 0) (g : to.Tree (to.some to.Expr)) → Fine W L g → Fine W L (tuple_of g)
unfolding tuple_of Fine
tuple_fine W L (to.one x) f = f
tuple_fine W L (to.more g x) f = several_fine W L g x f.0 f.1

-- a name's bytes, `t` among them
tee_is : (s : List ℕ) (i : ℕ) → get_or s i 0 ≡ 116 → take 1 (drop i s) ≡ 116 ∷ []
tee_is [] i h = absurd (omega arith)
tee_is (x ∷ s) zero h = ap (λ (n : ℕ). n ∷ []) h
tee_is (x ∷ s) (suc i) h = tee_is s i h

pub spell_is : (source : List ℕ) (s e : ℕ) → spelling (name_in source s e) ≡ part source s e
spell_is source s e = go (eqb e (s + 1)) (λ h. eqb→eq e (s + 1) h) (eqb (get_or source s 0) 116) (λ h. eqb→eq (get_or source s 0) 116 h)
  where
    go : (a : Bool) → (T a → e ≡ s + 1) → (b : Bool) → (T b → get_or source s 0 ≡ 116) →
        spelling (to.name (cond (a && b) Word.tee Word.identifier) (cond (a && b) [] (part source s e))) ≡ part source s e
    go true f true g = let h : e - s ≡ 1 = omega (arith, f tt) in sym (rw h (tee_is source s (g tt)))
    go true f false g = refl
    go false f b g = refl

module _ (W : Word → Load → Type 0) (L : to.Literal → Load → Type 0) (source text : List ℕ) (toks : List Token) (leaves : Leaves W L source text toks) where
  pub of_Name : OfKind W L source text toks kind.Name
  unfolding of_kind erase bare places_of plant words fields Clear Fine Filled filled enclosing
  of_Name (word s (word e (unused (unused done)))) z f w = tells (λ i. b_node kind.Name (spell_is source s e i) free₄) (λ c. leaves.named kind.Name s e w)

  pub of_Pair : OfKind W L source text toks kind.Pair
  unfolding of_kind erase bare places_of plant words fields Clear Fine Filled filled enclosing
  of_Pair (child x (child y (unused (unused done)))) (ex, (ey, z)) f w =
      tells (λ i. b_node kind.Pair [] (b_child (ex.planted i) (b_child (ey.planted i) free₂)))
      (λ c. (ex.fine c.1.0, ey.fine c.1.1.0))

  pub of_Bool : OfKind W L source text toks kind.Bool
  unfolding of_kind erase bare places_of plant words fields Clear Fine Filled filled enclosing
  of_Bool (word p (unused (unused (unused done)))) z f w = tells refl (λ c. leaves.valued kind.Bool (p ∷ []) w)

  pub of_Int : OfKind W L source text toks kind.Int
  unfolding of_kind erase bare places_of plant words fields Clear Fine Filled filled enclosing
  of_Int (word p (word q (unused (unused done)))) z f w = tells refl (λ c. leaves.valued kind.Int (p ∷ q ∷ []) w)

  pub of_String : OfKind W L source text toks kind.String
  unfolding of_kind erase bare places_of plant words fields Clear Fine Filled filled enclosing
  of_String (word p (word q (unused (unused done)))) z f w = tells refl (λ c. leaves.valued kind.String (p ∷ q ∷ []) w)

  pub of_Float : OfKind W L source text toks kind.Float
  unfolding of_kind erase bare places_of plant words fields Clear Fine Filled filled enclosing
  of_Float (word p (word q (word s (word e done)))) z f w = tells refl (λ c. leaves.valued kind.Float (p ∷ q ∷ s ∷ e ∷ []) w)

  pub of_None : OfKind W L source text toks kind.None
  unfolding of_kind erase bare places_of plant words fields Clear Fine Filled filled enclosing
  of_None (unused (unused (unused (unused done)))) z f w = tells refl (λ c. leaves.valued kind.None [] w)

  pub of_Variable : OfKind W L source text toks kind.Variable
  unfolding of_kind erase bare places_of plant words fields Clear Fine Filled filled enclosing
  of_Variable (word s (word e (unused (unused done)))) z f w = tells (λ i. b_node kind.Variable (spell_is source s e i) free₄) (λ c. leaves.named kind.Variable s e w)

  pub of_Unary : OfKind W L source text toks kind.Unary
  unfolding of_kind erase bare places_of plant words fields Clear Fine Filled filled enclosing
  of_Unary (word o (child x (unused (unused done)))) (ex, z) f w = tells (λ i. b_node kind.Unary [] (b_word (sign-number o w i) (b_child (ex.planted i) free₂))) (λ c. ex.fine c.1.0)

  pub of_Binary : OfKind W L source text toks kind.Binary
  unfolding of_kind erase bare places_of plant words fields Clear Fine Filled filled enclosing
  of_Binary (word o (child x (child y (unused done)))) (ex, (ey, z)) f w =
      tells (λ i. b_node kind.Binary [] (b_word (op-number o w i) (b_child (ex.planted i) (b_child (ey.planted i) free₁))))
      (λ c. (ex.fine c.1.0, ey.fine c.1.1.0))

  pub of_Call : OfKind W L source text toks kind.Call
  unfolding of_kind erase bare places_of plant words fields Clear Fine Filled filled enclosing
  of_Call (child x (kids l (unused (unused done)))) (ex, (el, z)) f w =
      tells (λ i. b_node kind.Call [] (b_child (ex.planted i) (b_list (el.planted i) free₂)))
      (λ c. (ex.fine c.1.0, el.fine c.1.1.0))

  pub of_Attribute : OfKind W L source text toks kind.Attribute
  unfolding of_kind erase bare places_of plant words fields Clear Fine Filled filled enclosing
  of_Attribute (child x (word s (word e (unused done)))) (ex, z) f w =
      tells (λ i. b_node kind.Attribute (spell_is source s e i) (b_child (ex.planted i) free₃))
      (λ c. (ex.fine c.1.0, leaves.named kind.Attribute s e w))

  pub of_List : OfKind W L source text toks kind.List
  unfolding of_kind erase bare places_of plant words fields Clear Fine Filled filled enclosing
  of_List (kids l (unused (unused (unused done)))) (el, z) f w = tells (λ i. b_node kind.List [] (b_list (el.planted i) free₃)) (λ c. el.fine c.1.0)

  pub of_Dict : OfKind W L source text toks kind.Dict
  unfolding of_kind erase bare places_of plant words fields Clear Fine Filled filled enclosing
  of_Dict (kids nil (unused (unused (unused done)))) h f w = tells refl (λ c. tt)
  of_Dict (kids (full l) (unused (unused (unused done)))) (el, z) f w = tells (λ i. b_node kind.Dict [] (b_list (el.planted i) free₃)) (λ c. el.fine c.1.0)

  pub of_Tuple : OfKind W L source text toks kind.Tuple
  unfolding of_kind erase bare places_of plant words fields Clear Fine Filled filled enclosing
  of_Tuple (kids nil (unused (unused (unused done)))) h f w = tells refl (λ c. tt)
  of_Tuple (kids (full l) (unused (unused (unused done)))) (el, z) f w =
      tells (tuple_is ((erase source text l).growing to.Expr) ∙ ap (λ (b : Bare). b_node kind.Tuple [] (b_list b free₃)) el.planted)
      (λ c. tuple_fine W L ((erase source text l).growing to.Expr) (el.fine c.1.0))

  pub of_Set : OfKind W L source text toks kind.Set
  unfolding of_kind erase bare places_of plant words fields Clear Fine Filled filled enclosing
  of_Set (kids nil (unused (unused (unused done)))) h f w = absurd (f tt).0
  of_Set (kids (full l) (unused (unused (unused done)))) (el, z) f w = tells (λ i. b_node kind.Set [] (b_list (el.planted i) free₃)) (λ c. el.fine c.1.0)

  pub of_TreeSet : OfKind W L source text toks kind.TreeSet
  unfolding of_kind erase bare places_of plant words fields Clear Fine Filled filled enclosing
  of_TreeSet (kids l (unused (unused (unused done)))) (el, z) f w = tells (λ i. b_node kind.TreeSet [] (b_list (el.planted i) free₃)) (λ c. el.fine c.1.0)

  pub of_Index : OfKind W L source text toks kind.Index
  unfolding of_kind erase bare places_of plant words fields Clear Fine Filled filled enclosing
  of_Index (child x (child y (unused (unused done)))) (ex, (ey, z)) f w =
      tells (λ i. b_node kind.Index [] (b_child (ex.planted i) (b_child (ey.planted i) free₂)))
      (λ c. (ex.fine c.1.0, ey.fine c.1.1.0))

  pub of_Lambda : OfKind W L source text toks kind.Lambda
  unfolding of_kind erase bare places_of plant words fields Clear Fine Filled filled enclosing
  of_Lambda (kids l (child x (unused (unused done)))) (el, (ex, z)) f w =
      tells (λ i. b_node kind.Lambda [] (b_list (el.planted i) (b_child (ex.planted i) free₂)))
      (λ c. (el.fine c.1.0, ex.fine c.1.1.0))
