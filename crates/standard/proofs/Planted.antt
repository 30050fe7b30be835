-- Every proper tree is told: what it says is planted as the tree without its places, and is fine where no block is empty.
-- Assumes nothing.
use mathlib.Core.Path.{◌≡◌, refl, ap, ap₂, subst}
use mathlib.Core.List.{List, [], ◌∷◌}
use Prim.Native.Nat.{ℕ, zero, suc}
use lib.Dec.{T}
use lib.ListN.{get_or}
use Rattle.grammar.specs.Sets.{mem}
use Rattle.tokens.specs.Token.{Token}
use Rattle.ast.specs.Node.{Field}
use Rattle.trees.specs.Tree.{Part, single, chain, growing, whole, row, Tree, nil, full, one, more}
use Rattle.trees.specs.Roles.{Cat, nothing, script, cat_of, comparings, Proper, p_node, p_chained, p_done, p_unused, p_word, p_child, p_kids, p_other, p_nil, p_full, p_one, p_more, p_first, p_link}
use Rattle.trees.proofs.Apt.{each}
use Rattle.unparse.specs.Trees.{Word, Load}
use Rattle.unparse.specs.Trees as to
use Rattle.unparse.specs.Operators.{comparison_of}
use Rattle.standard.specs.Erase.{comparison_from, of_kind, erase, said}
use Rattle.standard.specs.Alike.{places, bytes_at}
use Rattle.standard.proofs.Fine.{Fine}
use Rattle.standard.specs.Bare.{b_node, b_nil, b_more, b_one, b_full, b_first, b_link, places_of, bare}
use Rattle.standard.specs.Plant.{comparison_number, plant}
use Rattle.standard.proofs.Clear.{Open, Clear}
use Rattle.standard.proofs.Told.{Kin, an_item, the-else, the-script, no_kin, kin, Leaves, Tells, Told, ToldG, ToldW, ToldO, B, Row, Of, OfKind, tells}
use Rattle.standard.proofs.ToldExprs as exprs
use Rattle.standard.proofs.ToldStmts as statements

-- every kind of node, from 0 on, and those behind
abbrev Cases : (ℕ → Type 0) → ℕ → Type 0
Cases Q zero = (k : ℕ) → Q k
Cases Q (suc n) = Q 0 × Cases (λ k. Q (suc k)) n

infixr 20 ◌&◌
abbrev ◌&◌ : {A C : Type 0} → A → C → A × C
◌&◌ x y = (x, y)

by_cases : (Q : ℕ → Type 0) (n : ℕ) → Cases Q n → (k : ℕ) → Q k
by_cases Q zero c k = c k
by_cases Q (suc n) c zero = c.0
by_cases Q (suc n) c (suc k) = by_cases (λ k. Q (suc k)) n c.1 k

comparison-number : (w : ℕ) → T (mem w comparings) → comparison_number (comparison_from w) ≡ w
unfolding comparison_from comparison_of
comparison-number w h = each (λ w. comparison_number (comparison_from w) ≡ w) w comparings (refl, (refl, (refl, (refl, (refl, (refl, tt)))))) h

module _ (W : Word → Load → Type 0) (L : to.Literal → Load → Type 0) (source text : List ℕ) (toks : List Token) (leaves : Leaves W L source text toks) where
  kinded : (k : ℕ) → OfKind W L source text toks k
  kinded =
      by_cases (OfKind W L source text toks) 35
      ((λ r h f w. tt)
      & statements.of_Program W L source text toks leaves
      & statements.of_If W L source text toks leaves
      & statements.of_While W L source text toks leaves
      & statements.of_For W L source text toks leaves
      & statements.of_Def W L source text toks leaves
      & statements.of_Return W L source text toks leaves
      & statements.of_Assign W L source text toks leaves
      & statements.of_Class W L source text toks leaves
      & statements.of_Break W L source text toks leaves
      & statements.of_Continue W L source text toks leaves
      & statements.of_Pass W L source text toks leaves
      & statements.of_Expr W L source text toks leaves
      & statements.of_Method W L source text toks leaves
      & statements.of_Elif W L source text toks leaves
      & statements.of_Else W L source text toks leaves
      & exprs.of_Name W L source text toks leaves
      & exprs.of_Pair W L source text toks leaves
      & exprs.of_Bool W L source text toks leaves
      & exprs.of_Int W L source text toks leaves
      & exprs.of_String W L source text toks leaves
      & exprs.of_Float W L source text toks leaves
      & exprs.of_None W L source text toks leaves
      & exprs.of_Variable W L source text toks leaves
      & exprs.of_Unary W L source text toks leaves
      & exprs.of_Binary W L source text toks leaves
      & exprs.of_Call W L source text toks leaves
      & exprs.of_Attribute W L source text toks leaves
      & exprs.of_List W L source text toks leaves
      & exprs.of_Dict W L source text toks leaves
      & exprs.of_Tuple W L source text toks leaves
      & exprs.of_Set W L source text toks leaves
      & exprs.of_TreeSet W L source text toks leaves
      & exprs.of_Index W L source text toks leaves
      & exprs.of_Lambda W L source text toks leaves
      & (λ k r h f w. tt))

  -- lists, by what they have as members
  nil_told : (c : Kin) → ToldW W L c (erase source text nil) b_nil (Clear nil)
  unfolding erase plant Fine
  nil_told (an_item i) = tells refl (λ c. tt)
  nil_told the-else = tt
  nil_told the-script = tt
  nil_told no_kin = tt

  full_told : (c : Kin) (l : Tree growing) → ToldG W L c (erase source text l) (B W L source text l) (Clear l) → ToldW W L c (erase source text (full l)) (B W L source text (full l)) (Clear (full l))
  unfolding erase bare plant Fine Clear
  full_told (an_item i) l h = tells (ap b_full h.planted) h.fine
  full_told the-else l h = tt
  full_told the-script l h = tt
  full_told no_kin l h = tt

  one_told : (c : Kin) (x : Tree single) → Told W L c (erase source text x) (B W L source text x) (Clear x) → ToldG W L c (erase source text (one x)) (B W L source text (one x)) (Clear (one x))
  unfolding erase bare plant Fine Clear
  one_told (an_item i) x h = tells (ap b_one h.planted) h.fine
  one_told the-else x h = tt
  one_told the-script x h = tt
  one_told no_kin x h = tt

  more_told : (c : Kin) (l : Tree growing) (x : Tree single) → ToldG W L c (erase source text l) (B W L source text l) (Clear l) → Told W L c (erase source text x) (B W L source text x) (Clear x) →
      ToldG W L c (erase source text (more l x)) (B W L source text (more l x)) (Clear (more l x))
  unfolding erase bare plant Fine Clear
  more_told (an_item i) l x g h = tells (ap₂ b_more g.planted h.planted) (λ c. (g.fine c.0, h.fine c.1))
  more_told the-else l x g h = tt
  more_told the-script l x g h = tt
  more_told no_kin l x g h = tt

  no_other : (c : Kin) → ToldO W L c (erase source text nil) b_nil (Clear nil)
  unfolding erase plant Fine
  no_other (an_item i) = tt
  no_other the-else = tells refl (λ c. tt)
  no_other the-script = tt
  no_other no_kin = tt

  one_other : (c : Kin) (x : Tree single) → Told W L c (erase source text x) (B W L source text x) (Clear x) → ToldO W L c (erase source text (full (one x))) (B W L source text (full (one x))) (Clear (full (one x)))
  unfolding erase bare Clear
  one_other (an_item i) x h = tt
  one_other the-else x h = h
  one_other the-script x h = tt
  one_other no_kin x h = tt

  abbrev Holds : (i : Part) → List Cat → Tree i → Type 0
  Holds single cs x = Told W L (kin (get_or cs 0 nothing)) (erase source text x) (B W L source text x) (Clear x)
  Holds chain cs x = Tells W L (erase source text x) (B W L source text x) (Clear x)
  Holds growing cs l = ToldG W L (kin (get_or cs 0 nothing)) (erase source text l) (B W L source text l) (Clear l)
  Holds whole cs l = ToldW W L (kin (get_or cs 0 nothing)) (erase source text l) (B W L source text l) (Clear l)
  Holds (row fs) cs r = Row W L source text cs r

  told : {i : Part} {cs : List Cat} {x : Tree i} → Proper source toks i cs x → Holds i cs x
  unfolding erase bare plant Fine Clear comparison_from
  told (p_node {k} {fs} {h} {r} e w f p) =
      let q : Told W L (kin (cat_of k)) (of_kind source text k (erase source text r)) (b_node k (bytes_at source text k (places_of (places k) r)) (bare source text (places k) r)) (Open k r × Clear r) =
      subst (λ (fs : List Field). Of W L source text toks k fs) h (kinded k) r (told p) f w in
      subst (λ (c : Cat). Told W L (kin c) (of_kind source text k (erase source text r)) (b_node k (bytes_at source text k (places_of (places k) r)) (bare source text (places k) r)) (Open k r × Clear r)) e q
  told (p_chained p) = let h = told p in tells h.planted h.fine
  told p_done = tt
  told (p_unused p) = told p
  told (p_word p) = told p
  told (p_child p q) = (told p, told q)
  told (p_kids p q) = (told p, told q)
  told (p_other {c} p_nil z q) = (no_other (kin c), told q)
  told (p_other {c} (p_full (p_one {x} p)) z q) = (one_other (kin c) x (told p), told q)
  told (p_other (p_full (p_more l p)) z q) = absurd z
  told (p_nil {c}) = nil_told (kin c)
  told (p_full {c} {l} p) = full_told (kin c) l (told p)
  told (p_one {c} {x} p) = one_told (kin c) x (told p)
  told (p_more {c} {l} {x} p q) = more_told (kin c) l x (told p) (told q)
  told (p_first {op} h p q) =
      let x = told p in let y = told q in
      tells (λ i. b_first (comparison-number op h i) (x.planted i) (y.planted i)) (λ c. (x.fine c.0, y.fine c.1))
  told (p_link {op} h p q) =
      let x = told p in let y = told q in
      tells (λ i. b_link (comparison-number op h i) (x.planted i) (y.planted i)) (λ c. (x.fine c.0, y.fine c.1))

  pub told_script : (t : Tree single) → Proper source toks single (script ∷ []) t → Tells W L (said source text t) (bare source text [] t) (Clear t)
  told_script t p = told p

-- of a whole script, with nothing asked of its leaves
pub planted : (source text : List ℕ) (toks : List Token) (t : Tree single) → Proper source toks single (script ∷ []) t → plant (said source text t) ≡ bare source text [] t
unfolding Fine
planted source text toks t p =
    (told_script (λ w l. Unit {0}) (λ c l. Unit {0}) source text toks (record { named = λ k s e h. tt; valued = λ k ws h. tt }) t p).planted
