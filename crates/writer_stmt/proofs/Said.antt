-- What a line says, from what was put of its parts.
-- Assumes nothing.
use mathlib.Core.Path.{◌≡◌, refl, sym, ap, ◌∙◌, subst}
use mathlib.Core.List.{List, [], ◌∷◌, ◌++◌, append_assoc}
use Prim.Native.Nat.{ℕ, ◌*◌}
use borrow.Author.Tests.{ne_eqb, eqb-true}
use Rattle.std.proofs.lemmas.Bool.{eqb-false}
use lib.Dec.{eqb}
use mathlib.Core.Bool.{Bool, true, false}
use lib.ListN.{replicate}
use Rattle.token.specs.Code as token
use Rattle.source.specs.Bytes.{part}
use Rattle.source.proofs.Ranges.{NotIn}
use Rattle.rendered.specs.Spelled.{spelled_fixed}
use Rattle.spacing.specs.Indentation.{step}
use Rattle.ast.specs.Kind as kind
use Rattle.unparse.specs.Trees.{Expr, Name, a, list, Tree}
use Rattle.standard.specs.Text.{after, operator, line}
use Rattle.writing.specs.Wrote.{Wrote}
use Rattle.writing.proofs.Writes.{then, same}
use Rattle.writer_expr.specs.Levels.{text_of, text_whole}
use Rattle.writer_expr.specs.Laid.{Stands, Some, SomeList, names, kind_at, word_at}
use Rattle.writer_expr.specs.Put.{Put}
use Rattle.writing.specs.declared.back.Back.{Back}
use Rattle.writer_expr.proofs.Tuples.{put_as}
use Rattle.writer_stmt.specs.Words.{Form, def, alone, alone_of, form_of, for_text, def_text, One, Two, Names, Says}

-- ---- parts, and what stands before them

pub part_is : (src : List ℕ) {p q p' q' : ℕ} → p ≡ p' → q ≡ q' → part src p q ≡ part src p' q'
part_is src h i = rw (h, i)

pub name_put : (c : ℕ) {t u : List ℕ} {o o₁ o₂ : Back} → t ≡ u → Wrote t o o₁ → Wrote (spelled_fixed c ++ 32 ∷ []) o₁ o₂ → Wrote (after c u) o o₂
name_put c {t} {u} h w v = same (append_assoc (spelled_fixed c) (32 ∷ []) t ∙ ap (after c) h) (then w v)

module _ {b : ℕ} {o o₁ o₂ : Back} where
  -- a keyword and a space
  pub keyword_put : (c : ℕ) {t : List ℕ} {s : ℕ} → Put t b o o₁ s → Wrote (spelled_fixed c ++ 32 ∷ []) o₁ o₂ → Put (after c t) b o o₂ s
  keyword_put c {t} p w = record { wrote = same (append_assoc (spelled_fixed c) (32 ∷ []) t) (then p.wrote w); first = p.first }

  pub for_put : {o₃ : Back} {s : ℕ} (n : List ℕ) (x : Tree (a Expr)) → Put (text_of x) b o o₁ s → Wrote (operator token.In) o₁ o₂ → Wrote (after token.For n) o₂ o₃
      → Put (for_text n x) b o o₃ s
  for_put n x p i w =
      let t = append_assoc (spelled_fixed token.For) (32 ∷ n) (operator token.In ++ text_of x) ∙ ap (λ (y : List ℕ). spelled_fixed token.For ++ 32 ∷ (n ++ 32 ∷ y)) (append_assoc (spelled_fixed token.In) (32 ∷ []) (text_of x)) in
      record { wrote = same t (then (then p.wrote i) w); first = p.first }

  pub def_put : {o₃ o₄ : Back} {s : ℕ} (n : List ℕ) (l : Tree (list Name)) → Wrote (spelled_fixed token.RParen) o o₁ → Put (text_of l) b o₁ o₂ s
      → Wrote (spelled_fixed token.LParen) o₂ o₃ → Wrote (after token.Def n) o₃ o₄ → Put (def_text n l) b o o₄ s
  def_put n l c p o w = record {
    wrote = same (append_assoc (spelled_fixed token.Def) (32 ∷ n) (spelled_fixed token.LParen ++ (text_of l ++ spelled_fixed token.RParen))) (then (then (then c p.wrote) o) w);
    first = p.first;
  }

-- ---- a line, and one that opens a block

module _ (d : ℕ) (w : List ℕ) {b : ℕ} {o o₁ o₂ : Back} where
  pub line_put : {r : ℕ} → Wrote (10 ∷ []) o o₁ → Put (replicate (step * d) 32 ++ w) b o₁ o₂ r → Put (line d w) b o o₂ r
  line_put f p = record { wrote = same (append_assoc (replicate (step * d) 32) w (10 ∷ [])) (then f p.wrote); first = p.first }

  pub head_put : {o₃ : Back} {r : ℕ} → Wrote (10 ∷ []) o o₁ → Wrote (spelled_fixed token.Colon) o₁ o₂ → Put (replicate (step * d) 32 ++ w) b o₂ o₃ r
      → Put (line d (w ++ spelled_fixed token.Colon)) b o o₃ r
  head_put f c p =
      let blanks : List ℕ = replicate (step * d) 32 in
      record {
        wrote = same (append_assoc blanks w (spelled_fixed token.Colon ++ 10 ∷ []) ∙ ap (λ (y : List ℕ). blanks ++ y) (sym (append_assoc w (spelled_fixed token.Colon) (10 ∷ [])))) (then (then f c) p.wrote);
        first = p.first;
      }

-- ---- an expression stands there

module _ {src txt tr : List ℕ} {b m : ℕ} {w : List ℕ} where
  pub some_one : {f : Tree (a Expr) → List ℕ} → One f src txt tr b m w → Some src txt tr m
  some_one v = record { from = b; tree = v.tree; stands = v.stands }

  pub one_put : {f : Tree (a Expr) → List ℕ} {o o₁ : Back} {r : ℕ} (v : One f src txt tr b m w) → Put (f v.tree) b o o₁ r → Put w b o o₁ r
  one_put v p = put_as (sym v.says) p

  pub some_value : Two src txt tr b m w → Some src txt tr m
  some_value v = record { from = v.mid; tree = v.right; stands = v.behind }

  pub target_stands : {n : ℕ} (v : Two src txt tr b m w) → n ≡ v.mid → Stands src txt tr b v.left n
  target_stands v h = subst (Stands src txt tr b v.left) (sym h) v.ahead

  pub some_target : {n : ℕ} (v : Two src txt tr b m w) → n ≡ v.mid → Some src txt tr n
  some_target v h = record { from = b; tree = v.left; stands = target_stands v h }

  pub two_put : {o o₁ o₂ o₃ : Back} {s r : ℕ} (v : Two src txt tr b m w) → Put (text_whole v.right) v.mid o o₁ s → Wrote (operator token.Equal) o₁ o₂
      → Put (text_whole v.left) b o₂ o₃ r → Put w b o o₃ r
  two_put v p c q = record { wrote = same (sym v.says) (then (then p.wrote c) q.wrote); first = q.first }

  pub some_names : {e : ℕ} → Names src txt tr b m e w → SomeList src txt tr m (word_at tr e 6)
  some_names v = record { item = Name; inline = names; from = b; tree = v.list; stands = v.stands; head = v.head }

-- ---- the form of a kind that the code has read, and found

pub form_is : {f : Form} {k n m : ℕ} → n ≡ m → n ≡ k → form_of k ≡ f → form_of m ≡ f
form_is {f} p q h = subst (λ (j : ℕ). form_of j ≡ f) (sym q ∙ p) h

pub form_def : (k : ℕ) → ((k ≡ kind.Def → ⊥) → (k ≡ kind.Method → ⊥) → ⊥) → form_of k ≡ def
unfolding form_of
form_def k h = go (eqb k kind.Def) (eqb k kind.Method) refl refl
  where
    go : (p q : Bool) → eqb k kind.Def ≡ p → eqb k kind.Method ≡ q → form_of k ≡ def
    go true q u v = ap form_of (eqb-true k kind.Def u)
    go false true u v = ap form_of (eqb-true k kind.Method v)
    go false false u v = absurd (h (eqb-false k kind.Def u) (eqb-false k kind.Method v))

pub form_alone : (k : ℕ) → NotIn (kind.Class ∷ kind.Method ∷ kind.Def ∷ kind.For ∷ kind.Elif ∷ kind.While ∷ kind.If ∷ kind.Assign ∷ kind.Return ∷ kind.Expr ∷ []) k → form_of k ≡ alone (alone_of k)
unfolding form_of
form_alone k n =
    simp (ne_eqb k kind.Class n.1, ne_eqb k kind.Method n.0.1, ne_eqb k kind.Def n.0.0.1, ne_eqb k kind.For n.0.0.0.1, ne_eqb k kind.Elif n.0.0.0.0.1, ne_eqb k kind.While n.0.0.0.0.0.1, ne_eqb k kind.If n.0.0.0.0.0.0.1, ne_eqb k kind.Assign n.0.0.0.0.0.0.0.1, ne_eqb k kind.Return n.0.0.0.0.0.0.0.0.1, ne_eqb k kind.Expr n.0.0.0.0.0.0.0.0.0.1)

pub form_rest : {k m : ℕ} → k ≡ m → form_of k ≡ alone (alone_of k) → form_of m ≡ alone (alone_of k)
form_rest {k} p h = subst (λ (j : ℕ). form_of j ≡ alone (alone_of k)) p h

pub as_form : (src txt tr : List ℕ) (b m e : ℕ) (w : List ℕ) {f : Form} → form_of (kind_at tr e) ≡ f → Says (form_of (kind_at tr e)) src txt tr b m e w → Says f src txt tr b m e w
as_form src txt tr b m e w h s = subst (λ (g : Form). Says g src txt tr b m e w) h s
