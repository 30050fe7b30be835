-- Trees that are proper, and stay so.
-- Assumes nothing.
use mathlib.Core.Path.{◌≡◌, refl, ap, sym, ◌∙◌, subst}
use mathlib.Core.Bool.{not}
use mathlib.Core.List.{List, [], ◌∷◌}
use Prim.Native.Nat.{ℕ}
use native.Mathlib.Omega.{arith}
use lib.Dec.{T}
use lib.Ieee.{Float}
use lib.ListN.{get_or}
use Rattle.grammar.specs.Sets.{mem}
use Rattle.literal.specs.declared.Literal.{Literal}
use Rattle.literal.specs.declared.Literal.TheVariants as L
use Rattle.tokens.specs.Token.{Token}
use Rattle.ast.specs.Kind as kind
use Rattle.ast.specs.declared.Content.{Content}
use Rattle.ast.specs.Literal.{leaf_of_lem}
use Rattle.ast.specs.Operator.{unary_op_lem, binary_op_lem}
use Rattle.pyhyeon.specs.Action.{named, alone, enclose, empty, define, token_at_lem}
use Rattle.pyhyeon.specs.Rules.{names, literals, comparisons, sign_set}
use Rattle.trees.specs.Tree.{single, chain, growing, whole, Tree, node, done, unused, word, kids, nil}
use Rattle.trees.specs.Roles.{Cat, expression, statement, name, same-cat, cat_of, unaries, arithmetics, comparings, words, valued, OfLeaf, Token_of, Says, Some, Filled, Proper, p_node, p_chained, p_done, p_unused, p_word, p_kids, p_nil, p_one, p_more, p_first, p_link}
use Rattle.trees.proofs.Editing.{widen, widen_c, joined}
use Rattle.trees.proofs.Apt.{Apt, each}
use Rattle.trees.proofs.Making.{free₁, free₂, free₃, leaf, from, upto}
use Rattle.trees.proofs.Moves.{Mark, plain, arithmetic, comparing, called, filled, arithmetic_codes, is_yes, is_cat, firstly, enclosed}

-- what the mark of a list says
abbrev pub Peopled : Mark → Tree whole → Type 0
Peopled plain l = Unit {0}
Peopled arithmetic l = Unit {0}
Peopled comparing l = Unit {0}
Peopled called l = Unit {0}
Peopled filled l = Some l

module _ (source : List ℕ) (toks : List Token) where
  -- trees that stay proper
  widen_chain : (a z : ℕ) {c : Tree chain} → Proper source toks chain (expression ∷ []) c → Proper source toks chain (expression ∷ []) (widen_c a z c)
  unfolding widen_c
  widen_chain a z (p_first o x y) = p_first o x y
  widen_chain a z (p_link o c y) = p_link o c y

  pub widen_proper : (a z : ℕ) {c : Cat} {x : Tree single} → Proper source toks single (c ∷ []) x → Proper source toks single (c ∷ []) (widen a z x)
  unfolding widen
  widen_proper a z (p_node e o f r) = p_node e o f r
  widen_proper a z (p_chained c) = p_chained (widen_chain a z c)

  pub joined_proper : {c : Cat} {l k : Tree growing} → Proper source toks growing (c ∷ []) l → Proper source toks growing (c ∷ []) k → Proper source toks growing (c ∷ []) (joined l k)
  unfolding joined
  joined_proper u (p_one x) = p_more u x
  joined_proper u (p_more v x) = p_more (joined_proper u v) x

  pub proper₁ : {c : Cat} → Proper source toks _ (c ∷ []) free₁
  proper₁ = p_unused p_done

  pub proper₂ : {c d : Cat} → Proper source toks _ (c ∷ d ∷ []) free₂
  proper₂ = p_unused proper₁

  pub proper₃ : {c d e : Cat} → Proper source toks _ (c ∷ d ∷ e ∷ []) free₃
  proper₃ = p_unused proper₂

  -- the literal of token t
  pub leaf_proper : (t : ℕ) → Token_of source toks literals t → Proper source toks single (expression ∷ []) (leaf (from source toks t) (upto source toks t) (token_at_lem source toks t).literal)
  unfolding leaf words
  leaf_proper t h = go (token_at_lem source toks t).literal refl
    where
      its_leaf : Literal → Content
      its_leaf l = leaf_of_lem (from source toks t) (upto source toks t) l

      says : (k : ℕ) (ws : List ℕ) (l : Literal) → (token_at_lem source toks t).literal ≡ l → OfLeaf (its_leaf l) k ws → Says source toks valued k ws
      says k ws l e q = (t, h, subst (λ (l : Literal). OfLeaf (its_leaf l) k ws) (sym e) q)

      go : (l : Literal) → (token_at_lem source toks t).literal ≡ l → Proper source toks single (expression ∷ []) (leaf (from source toks t) (upto source toks t) l)
      go (L.Bool x) e = p_node refl (says _ ((its_leaf (L.Bool x)).p ∷ []) _ e (refl, refl, refl, refl, refl)) (λ u. absurd u) (p_word proper₃)
      go (L.Int x) e = p_node refl (says _ ((its_leaf (L.Int x)).p ∷ (its_leaf (L.Int x)).q ∷ []) _ e (refl, refl, refl, refl, refl)) (λ u. absurd u) (p_word (p_word proper₂))
      go (L.String a x) e = p_node refl (says _ (a ∷ x ∷ []) _ e (refl, refl, refl, refl, refl)) (λ u. absurd u) (p_word (p_word proper₂))
      go (L.Float x) e =
          p_node refl (says _ ((its_leaf (L.Float x)).p ∷ (its_leaf (L.Float x)).q ∷ from source toks t ∷ upto source toks t ∷ []) _ e (refl, refl, refl, refl, refl)) (λ u. absurd u)
          (p_word (p_word (p_word (p_word p_done))))
      go L.None e = p_node refl (says _ [] _ e (refl, refl, refl, refl, refl)) (λ u. absurd u) (p_unused proper₃)

  -- What is said of a Float, as of a name: its last two words are the place of its token.
  pub float_says : (ws : List ℕ) → Says source toks valued kind.Float ws →
      (t : ℕ) × Token_of source toks literals t × ((x : Float) × ((token_at_lem source toks t).literal ≡ L.Float x)) × (get_or ws 2 0 ≡ from source toks t) × (get_or ws 3 0 ≡ upto source toks t)
  float_says ws (t, h, (k, p, q, r, s)) =
      let (x, e) = go (token_at_lem source toks t).literal k in
      (t, h, (x, e), r ∙ ap (λ (l : Literal). (leaf_of_lem (from source toks t) (upto source toks t) l).r) e, s ∙ ap (λ (l : Literal). (leaf_of_lem (from source toks t) (upto source toks t) l).s) e)
    where
      go : (l : Literal) → kind.Float ≡ (leaf_of_lem (from source toks t) (upto source toks t) l).kind → (x : Float) × (l ≡ L.Float x)
      go (L.Bool b) e = absurd (omega arith)
      go (L.Int z) e = absurd (omega arith)
      go (L.String a n) e = absurd (omega arith)
      go (L.Float x) e = (x, refl)
      go L.None e = absurd (omega arith)

  -- those of an action's kind
  pub named_proper : (k : ℕ) → T (mem k (kind.Name ∷ kind.Variable ∷ [])) → (t : ℕ) → Token_of source toks names t → (s e : ℕ) (h : Apt (named k)) → Proper source toks single (cat_of k ∷ []) (node k s e h (word (from source toks t) (word (upto source toks t) free₂)))
  unfolding words
  named_proper k = each (λ k. (t : ℕ) → Token_of source toks names t → (s e : ℕ) (h : Apt (named k)) → Proper source toks single (cat_of k ∷ []) (node k s e h (word (from source toks t) (word (upto source toks t) free₂)))) k (kind.Name ∷ kind.Variable ∷ [])
      ((λ t u s e h. p_node refl (t, u, refl) (λ f. absurd f) (p_word (p_word proper₂))), ((λ t u s e h. p_node refl (t, u, refl) (λ f. absurd f) (p_word (p_word proper₂))), tt))

  pub alone_proper : (k : ℕ) → T (mem k (kind.Break ∷ kind.Continue ∷ kind.Pass ∷ [])) → (s e : ℕ) (h : Apt (alone k)) → Proper source toks single (cat_of k ∷ []) (node k s e h (unused free₃))
  unfolding words
  alone_proper k = each (λ k. (s e : ℕ) (h : Apt (alone k)) → Proper source toks single (cat_of k ∷ []) (node k s e h (unused free₃))) k (kind.Break ∷ kind.Continue ∷ kind.Pass ∷ [])
      ((λ s e h. p_node refl tt (λ f. absurd f) (p_unused proper₃)), ((λ s e h. p_node refl tt (λ f. absurd f) (p_unused proper₃)), ((λ s e h. p_node refl tt (λ f. absurd f) (p_unused proper₃)), tt)))

  pub enclose_proper : (k : ℕ) → T (mem k (kind.List ∷ kind.Dict ∷ kind.Tuple ∷ kind.Set ∷ kind.TreeSet ∷ [])) → (s e : ℕ) (h : Apt (enclose k)) (l : Tree whole) → Proper source toks whole (firstly k ∷ []) l → Peopled (enclosed k) l →
      Proper source toks single (cat_of k ∷ []) (node k s e h (kids l free₃))
  unfolding words Filled
  enclose_proper k = each (λ k. (s e : ℕ) (h : Apt (enclose k)) (l : Tree whole) → Proper source toks whole (firstly k ∷ []) l → Peopled (enclosed k) l → Proper source toks single (cat_of k ∷ []) (node k s e h (kids l free₃))) k
      (kind.List ∷ kind.Dict ∷ kind.Tuple ∷ kind.Set ∷ kind.TreeSet ∷ [])
      ((λ s e h l w v. p_node refl tt (λ f. absurd f) (p_kids w proper₃)), ((λ s e h l w v. p_node refl tt (λ f. absurd f) (p_kids w proper₃)), ((λ s e h l w v. p_node refl tt (λ f. absurd f) (p_kids w proper₃)), ((λ s e h l w v. p_node refl tt (λ f. (v, tt)) (p_kids w proper₃)), ((λ s e h l w v. p_node refl tt (λ f. absurd f) (p_kids w proper₃)), tt)))))

  pub empty_proper : (k : ℕ) → T (mem k (kind.Dict ∷ kind.Tuple ∷ [])) → (s e : ℕ) (h : Apt (empty k)) → Proper source toks single (cat_of k ∷ []) (node k s e h (kids nil free₃))
  unfolding words
  empty_proper k = each (λ k. (s e : ℕ) (h : Apt (empty k)) → Proper source toks single (cat_of k ∷ []) (node k s e h (kids nil free₃))) k (kind.Dict ∷ kind.Tuple ∷ [])
      ((λ s e h. p_node refl tt (λ f. absurd f) (p_kids p_nil proper₃)), ((λ s e h. p_node refl tt (λ f. absurd f) (p_kids p_nil proper₃)), tt))

  pub define_proper : (k : ℕ) → T (mem k (kind.Def ∷ kind.Method ∷ [])) → (t : ℕ) → Token_of source toks names t → (s e : ℕ) (h : Apt (define k)) (l m : Tree whole) → Proper source toks whole (name ∷ []) l → Proper source toks whole (statement ∷ []) m →
      Proper source toks single (cat_of k ∷ []) (node k s e h (word (from source toks t) (word (upto source toks t) (kids l (kids m done)))))
  unfolding words
  define_proper k = each (λ k. (t : ℕ) → Token_of source toks names t → (s e : ℕ) (h : Apt (define k)) (l m : Tree whole) → Proper source toks whole (name ∷ []) l → Proper source toks whole (statement ∷ []) m →
      Proper source toks single (cat_of k ∷ []) (node k s e h (word (from source toks t) (word (upto source toks t) (kids l (kids m done)))))) k (kind.Def ∷ kind.Method ∷ [])
      ((λ t w s e h l m u v. p_node refl (t, w, refl) (λ f. absurd f) (p_word (p_word (p_kids u (p_kids v p_done))))), ((λ t w s e h l m u v. p_node refl (t, w, refl) (λ f. absurd f) (p_word (p_word (p_kids u (p_kids v p_done))))), tt))

pub signs_are : (c : ℕ) → T (mem c sign_set) → T (mem (unary_op_lem c) unaries)
unfolding unary_op_lem
signs_are c = each (λ c. T (mem (unary_op_lem c) unaries)) c sign_set (tt, (tt, (tt, tt)))

pub arithmetics_are : (c : ℕ) → T (mem c arithmetic_codes) → T (mem (binary_op_lem c) arithmetics)
unfolding binary_op_lem
arithmetics_are c = each (λ c. T (mem (binary_op_lem c) arithmetics)) c arithmetic_codes (tt, (tt, (tt, (tt, (tt, (tt, (tt, (tt, tt))))))))

pub comparings_are : (c : ℕ) → T (mem c comparisons) → T (mem (binary_op_lem c) comparings)
unfolding binary_op_lem
comparings_are c = each (λ c. T (mem (binary_op_lem c) comparings)) c comparisons (tt, (tt, (tt, (tt, (tt, (tt, tt))))))

-- what the test of two categories says
pub is_same : (c d : Cat) → T (is_cat c d) → c ≡ d
is_same c d t = go (same-cat c d) t
  where
    go : (x : Dec (c ≡ d)) → T (is_yes x) → c ≡ d
    go (yes q) t = q
    go (no f) t = absurd t

pub isn't : {c d : Cat} → T (not (is_cat c d)) → c ≡ d → ⊥
isn't {c} {d} e p = go (same-cat c d) e
  where
    go : (x : Dec (c ≡ d)) → T (not (is_yes x)) → ⊥
    go (yes q) e = e
    go (no f) e = f p
