-- The words of each expression say what it is.
-- Assumes nothing.
use mathlib.Core.Path.{◌≡◌, refl, sym, ap, ◌∙◌, subst}
use mathlib.Core.Bool.{Bool, true, false, cond}
use mathlib.Core.List.{List, [], ◌∷◌}
use Prim.Native.Nat.{ℕ, ◌+◌, ◌≤◌}
use native.Mathlib.Omega.{arith}
use Rattle.std.proofs.lemmas.Bool.{eqb-false}
use borrow.Author.Tests.{ne_eqb}
use lib.Dec.{eqb}
use Rattle.source.proofs.Ranges.{NotIn}
use Rattle.ast.specs.Kind as kind
use Rattle.unparse.specs.Trees.{Item, Expr, Name, Pair, a, several, Literal, Bracket, Void, Word, Tree}
use Rattle.unparse.specs.Trees as tree
use Rattle.standard.specs.Text.{text, fit_text}
use Rattle.standard.specs.Bare.{Bare, size_b, head_b, fields_b}
use Rattle.standard.specs.Plant.{plant, spelling}
use Rattle.writer_expr.specs.Levels.{text_of}
use Rattle.writer_expr.specs.Laid.{Laid, Stands, Inline, exprs, pairs, kind_at, word_at}
use Rattle.writer_expr.specs.Forms.{Form, enclosed, leaf, form_of, Linked, opens, closes}
use Rattle.writer_expr.proofs.Shapes.{rooted, field_is, kind_b, kind_is, inner, grown, grown_plant, grown_text}
use Rattle.writer_expr.proofs.Leaves.{literal_view, variable_view}
use Rattle.writer_expr.proofs.Operators.{sign_text_lem, op_text, compare_text, sign_text}
use Rattle.writer_expr.proofs.View.{View, Bracketed, Tuple, inside_text, enclosed_text}
use Rattle.writer_expr.proofs.Chains.{op_words, compare_words, chain_words, joined}

-- a name's text is its bytes
spelled_is : (n : Tree (a Name)) → text_of n ≡ spelling n
unfolding text
spelled_is (tree.name Word.tee l) = refl
spelled_is (tree.name Word.identifier l) = refl

inside_grown : (l : Tree several) → inside_text (grown l) ≡ text_of (grown l)
unfolding inside_text grown
inside_grown (tree.both x y) = refl
inside_grown (tree.also l x) = refl

module _ (src txt tr : List ℕ) where
  -- a list in its brackets
  bracketed : {b e k : ℕ} {x : Tree (a Expr)} → Stands src txt tr b x e → {i : Item} → Inline i → (l : Tree (tree.list i)) → text_of x ≡ enclosed_text k l → Laid src txt tr b (plant l) → e ≡ b + size_b (plant l) + 1 →
      word_at tr e 4 ≡ head_b b (plant l) → Bracketed k src txt tr b x e
  bracketed s {i} n l t d h p = record { item = i; inline = n; list = l; says = t; behind = inner src txt tr s l d (omega arith) (omega arith); head = p }

  tuple_view : (b e : ℕ) (l : Tree several) → Stands src txt tr b (tree.tuple l) e → Tuple src txt tr b (tree.tuple l) e
  unfolding Laid size_b fields_b head_b plant text fit_text
  tuple_view b e l s =
      let r = rooted e (omega (arith, s.ends)) s.laid.1 in
      let p = field_is 0 r.fields in
      let g = grown_plant l in
      record {
        list = tree.full (grown l);
        says = rw (inside_grown l, grown_text l);
        whole = grown_text l ∙ sym (inside_grown l);
        behind = inner src txt tr s (tree.full (grown l)) (subst (λ (x : Bare). Laid src txt tr b x) g s.laid.0.0) (omega (arith, s.ends, ap size_b g)) (omega arith);
        head = p ∙ ap (head_b b) g;
      }

  viewed : (b e : ℕ) (x : Tree (a Expr)) → Stands src txt tr b x e → (Linked tr e → ⊥) → View (form_of (kind_b (plant x))) src txt tr b x e
  unfolding Laid size_b fields_b head_b plant kind_b text fit_text form_of inside_text opens closes
  viewed b e (tree.literal Literal.int l) s plain = literal_view src txt tr b e Literal.int l s
  viewed b e (tree.literal Literal.bool l) s plain = literal_view src txt tr b e Literal.bool l s
  viewed b e (tree.literal Literal.string l) s plain = literal_view src txt tr b e Literal.string l s
  viewed b e (tree.literal Literal.float l) s plain = literal_view src txt tr b e Literal.float l s
  viewed b e (tree.literal Literal.none l) s plain = literal_view src txt tr b e Literal.none l s
  viewed b e (tree.variable x) s plain = variable_view src txt tr b e x s
  viewed b e (tree.binary o y z) s plain =
      let j = op_words src txt tr b e o y z s in
      joined src txt tr y z s j (op_text o y z)
  viewed b e (tree.compare (tree.two o y z)) s plain =
      let j = compare_words src txt tr b e o y z s in
      joined src txt tr y z s j (compare_text o y z)
  viewed b e (tree.compare (tree.link c o y)) s plain = absurd (plain (chain_words src txt tr b e c o y s))
  viewed b e (tree.index y z) s plain =
      record {
        mid = b + size_b (plant y);
        left = y;
        right = z;
        says = refl;
        ahead = inner src txt tr s y s.laid.0.0 refl (omega (arith, s.ends));
        behind = inner src txt tr s z s.laid.0.1.0 (omega (arith, s.ends)) (omega arith);
      }
  viewed b e (tree.attribute y n) s plain =
      let r = rooted e (omega (arith, s.ends)) s.laid.1 in
      record {
        left = y;
        says = rw (spelled_is n, r.bytes);
        ahead = inner src txt tr s y s.laid.0.0 (omega (arith, s.ends)) (omega arith);
        name = r.inside;
      }
  viewed b e (tree.apply y l) s plain =
      let r = rooted e (omega (arith, s.ends)) s.laid.1 in
      let q = field_is 1 r.fields in
      record {
        mid = b + size_b (plant y);
        left = y;
        list = l;
        says = refl;
        ahead = inner src txt tr s y s.laid.0.0 refl (omega (arith, s.ends));
        behind = inner src txt tr s l s.laid.0.1.0 (omega (arith, s.ends)) (omega arith);
        head = q;
      }
  viewed b e (tree.bracket Bracket.squares l) s plain =
      bracketed s exprs l refl s.laid.0.0 (omega (arith, s.ends)) (field_is 0 (rooted e (omega (arith, s.ends)) s.laid.1).fields)
  viewed b e (tree.bracket Bracket.treeset l) s plain =
      bracketed s exprs l refl s.laid.0.0 (omega (arith, s.ends)) (field_is 0 (rooted e (omega (arith, s.ends)) s.laid.1).fields)
  viewed b e (tree.void Void.no_pairs) s plain =
      bracketed s pairs (tree.nil {i = Pair}) refl s.laid.0.0 (omega (arith, s.ends)) (field_is 0 (rooted e (omega (arith, s.ends)) s.laid.1).fields)
  viewed b e (tree.dict l) s plain =
      bracketed s pairs (tree.full l) refl s.laid.0.0 (omega (arith, s.ends)) (field_is 0 (rooted e (omega (arith, s.ends)) s.laid.1).fields)
  viewed b e (tree.set l) s plain =
      bracketed s exprs (tree.full l) refl s.laid.0.0 (omega (arith, s.ends)) (field_is 0 (rooted e (omega (arith, s.ends)) s.laid.1).fields)
  viewed b e (tree.void Void.no_members) s plain =
      let r = rooted e (omega (arith, s.ends)) s.laid.1 in
      let p = field_is 0 r.fields in
      record {
        list = tree.nil {i = Expr};
        says = refl;
        whole = refl;
        behind = inner src txt tr s (tree.nil {i = Expr}) s.laid.0.0 (omega (arith, s.ends)) (omega arith);
        head = p;
      }
  viewed b e (tree.single y) s plain =
      let r = rooted e (omega (arith, s.ends)) s.laid.1 in
      let p = field_is 0 r.fields in
      record {
        list = tree.full (tree.one y);
        says = refl;
        whole = refl;
        behind = inner src txt tr s (tree.full (tree.one y)) s.laid.0.0 (omega (arith, s.ends)) (omega arith);
        head = p;
      }
  viewed b e (tree.tuple l) s plain = tuple_view b e l s
  viewed b e (tree.lambda l y) s plain =
      let r = rooted e (omega (arith, s.ends)) s.laid.1 in
      let p = field_is 0 r.fields in
      record {
        mid = b + size_b (plant l);
        list = l;
        right = y;
        says = refl;
        ahead = inner src txt tr s l s.laid.0.0 refl (omega (arith, s.ends));
        behind = inner src txt tr s y s.laid.0.1.0 (omega (arith, s.ends)) (omega arith);
        head = p;
      }
  viewed b e (tree.unary g y) s plain =
      let r = rooted e (omega (arith, s.ends)) s.laid.1 in
      let p = field_is 0 r.fields in
      record {
        right = y;
        says = sign_text g y ∙ ap (λ (op : ℕ). sign_text_lem op y) (sym p);
        behind = inner src txt tr s y s.laid.0.0 (omega (arith, s.ends)) (omega arith);
      }

  -- by the form that the kind has
  pub view : {f : Form} {b e : ℕ} {x : Tree (a Expr)} → (form_of (kind_at tr e) ≡ f) × (Linked tr e → ⊥) → Stands src txt tr b x e → View f src txt tr b x e
  view {b = b} {e = e} {x = x} p s = subst (λ (g : Form). View g src txt tr b x e) (sym (ap form_of (kind_is exprs s)) ∙ p.0) (viewed b e x s p.1)

-- ---- the form of a kind that the code has read, and found

pub form-of : (f : ℕ → Form) {k n m : ℕ} → n ≡ m → n ≡ k → form_of k ≡ f k → form_of m ≡ f m
form-of f p q h = subst (λ (j : ℕ). form_of j ≡ f j) (sym q ∙ p) h

pub form_leaf : (k : ℕ) → NotIn (kind.TreeSet ∷ kind.Set ∷ kind.Dict ∷ kind.List ∷ kind.Tuple ∷ kind.Lambda ∷ kind.Index ∷ kind.Attribute ∷ kind.Call ∷ kind.Unary ∷ kind.Binary ∷ []) k → form_of k ≡ leaf k
unfolding form_of
form_leaf k n =
    simp (ne_eqb k kind.TreeSet n.1, ne_eqb k kind.Set n.0.1, ne_eqb k kind.Dict n.0.0.1, ne_eqb k kind.List n.0.0.0.1, ne_eqb k kind.Tuple n.0.0.0.0.1, ne_eqb k kind.Lambda n.0.0.0.0.0.1, ne_eqb k kind.Index n.0.0.0.0.0.0.1, ne_eqb k kind.Attribute n.0.0.0.0.0.0.0.1, ne_eqb k kind.Call n.0.0.0.0.0.0.0.0.1, ne_eqb k kind.Unary n.0.0.0.0.0.0.0.0.0.1, ne_eqb k kind.Binary n.0.0.0.0.0.0.0.0.0.0.1)

-- the kinds from List to TreeSet but a tuple's
pub form_enclosed : (k : ℕ) → 28 ≤ k → k ≤ 32 → (k ≡ 30 → ⊥) → form_of k ≡ enclosed k
unfolding form_of
form_enclosed k l h n =
    simp (ne_eqb k kind.Binary (λ e. omega arith), ne_eqb k kind.Unary (λ e. omega arith), ne_eqb k kind.Call (λ e. omega arith), ne_eqb k kind.Attribute (λ e. omega arith), ne_eqb k kind.Index (λ e. omega arith), ne_eqb k kind.Lambda (λ e. omega arith), ne_eqb k kind.Tuple n)
    (go (eqb k kind.List) (eqb k kind.Dict) (eqb k kind.Set) (eqb k kind.TreeSet) refl refl refl refl)
  where
    go : (p q r s : Bool) → eqb k kind.List ≡ p → eqb k kind.Dict ≡ q → eqb k kind.Set ≡ r → eqb k kind.TreeSet ≡ s → cond p (enclosed k) (cond q (enclosed k) (cond r (enclosed k) (cond s (enclosed k) (leaf k)))) ≡ enclosed k
    go true q r s u v w y = refl
    go false true r s u v w y = refl
    go false false true s u v w y = refl
    go false false false true u v w y = refl
    go false false false false u v w y = absurd (let u₁ = eqb-false k 28 u in let v₁ = eqb-false k 29 v in let w₁ = eqb-false k 31 w in let y₁ = eqb-false k 32 y in omega arith)
