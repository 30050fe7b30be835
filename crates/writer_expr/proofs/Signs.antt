-- Runs of signs, told by kinds alone.
-- Assumes nothing.
use mathlib.Core.Path.{◌≡◌, refl, sym, ap, ◌∙◌, subst}
use mathlib.Core.Logic.{⊎_elim}
use mathlib.Core.List.{List, [], ◌∷◌, ◌++◌, append_assoc}
use Prim.Native.Nat.{ℕ, zero, suc, ◌+◌, ◌-◌, ◌≤◌, ◌<◌}
use native.Mathlib.Omega.{arith}
use native.Mathlib.Nat.{eq-or-lt_of_le}
use Rattle.rendered.specs.Spelled.{spelled_fixed}
use Rattle.ast.specs.Kind as kind
use Rattle.unparse.specs.Trees.{a, Expr, Tree}
use Rattle.writing.specs.Wrote.{Wrote}
use Rattle.writing.proofs.Writes.{then, same}
use Rattle.writer_expr.specs.Levels.{rank_of, text_at, text_of, sign_of}
use Rattle.writer_expr.specs.Laid.{Stands, Some, kind_at, word_at}
use Rattle.writer_expr.specs.Forms.{unary, form_of, rule_at_lem, signs}
use Rattle.std.specs.Prelude.{None}
use Rattle.writer_expr.specs.Put.{Put, Turned}
use Rattle.writing.specs.declared.back.Back.{Back}
use Rattle.writer_expr.proofs.Fits.{fit_in}
use Rattle.writer_expr.proofs.View.{Signs}
use Rattle.writer_expr.proofs.Chains.{view_rule}
use Rattle.writer_expr.proofs.Viewed.{view}
use Rattle.writer_expr.proofs.Turns.{finished}

-- the nodes before which all of these numbers end are signs
abbrev pub Run : List ℕ → ℕ → ℕ → Type 0
Run tr j e = (k : ℕ) → j < k → k ≤ e → kind_at tr k ≡ kind.Unary

-- one more below; one more above
pub run_more : (tr : List ℕ) {j e : ℕ} → Run tr j e → kind_at tr j ≡ kind.Unary → Run tr (j - 1) e
run_more tr {j} f h k p q = ⊎_elim (λ (i : j ≡ k). subst (λ (m : ℕ). kind_at tr m ≡ kind.Unary) i h) (λ (i : j < k). f k i q) (eq-or-lt_of_le {n = j} {m = k} (omega arith))

run_top : (tr : List ℕ) {j e : ℕ} → Run tr j (e - 1) → kind_at tr e ≡ kind.Unary → Run tr j e
run_top tr {e = e} f h k p q = ⊎_elim (λ (i : k ≡ e). subst (λ (m : ℕ). kind_at tr m ≡ kind.Unary) (sym i) h) (λ (i : k < e). f k p (omega arith)) (eq-or-lt_of_le {n = k} {m = e} q)

pub signs_none : (tr : List ℕ) (j : ℕ) → signs tr j (j - j) ≡ []
unfolding signs
signs_none tr j = let e : j - j ≡ 0 = omega arith in rw e

pub signs_more : (tr : List ℕ) (j k : ℕ) → j ≤ k → signs tr j (k + 1 - j) ≡ (spelled_fixed (sign_of (word_at tr (k + 1) 4)) ++ 32 ∷ []) ++ signs tr j (k - j)
unfolding signs
signs_more tr j k h =
    let e : k + 1 - j ≡ suc (k - j) = omega arith in
    let f : j + suc (k - j) ≡ k + 1 = omega arith in
    rw e (ap (λ (m : ℕ). (spelled_fixed (sign_of (word_at tr m 4)) ++ 32 ∷ []) ++ signs tr j (k - j)) f)

-- ---- what n signs stand before

pub record Signed (src txt tr : List ℕ) (b : ℕ) (x : Tree (a Expr)) (j n : ℕ) : Type 0 where
  pub tree : Tree (a Expr)
  pub stands : Stands src txt tr b tree j
  pub parts : text_at 6 x ≡ signs tr j n ++ text_at 6 tree

module _ (src txt tr : List ℕ) where
  -- a node of this kind is a sign, whose text is an U with no parentheses
  pub sign_view : {b e : ℕ} {x : Tree (a Expr)} → kind_at tr e ≡ kind.Unary → Stands src txt tr b x e → Signs src txt tr b x e
  unfolding form_of
  sign_view {b} {e} {x} u s = view src txt tr {f = unary} (ap form_of u, λ l. let r = l.root in omega arith) s

  sign_as : {b e : ℕ} {x : Tree (a Expr)} → kind_at tr e ≡ kind.Unary → Stands src txt tr b x e → text_at 6 x ≡ text_of x
  unfolding rule_at_lem
  sign_as {b} {e} {x} u s =
      let r : rank_of x ≡ 6 = view_rule src txt tr (λ l. let r = l.root in omega arith) s ∙ ap (λ (k : ℕ). rule_at_lem k (word_at tr e 4)) u in
      sym (fit_in x 6 6 r (omega arith) (omega arith))

  signed : (b j n e : ℕ) (x : Tree (a Expr)) → e ≡ j + n → Run tr j e → Stands src txt tr b x e → Signed src txt tr b x j n
  unfolding signs
  signed b j zero e x h f s = let i : e ≡ j = omega arith in record { tree = x; stands = subst (Stands src txt tr b x) i s; parts = refl }
  signed b j (suc n) e x h f s =
      let u = f e (omega arith) (omega arith) in
      let v = sign_view u s in
      let g = signed b j n (e - 1) v.right (omega arith) (λ k p q. f k p (omega arith)) v.behind in
      let w : List ℕ = spelled_fixed (sign_of (word_at tr e 4)) ++ 32 ∷ [] in
      record {
        tree = g.tree;
        stands = g.stands;
        parts = sign_as u s ∙ v.says ∙ ap (λ (z : List ℕ). w ++ z) g.parts ∙ sym (append_assoc w (signs tr j n) (text_at 6 g.tree))
            ∙ ap (λ (m : ℕ). ((spelled_fixed (sign_of (word_at tr m 4)) ++ 32 ∷ []) ++ signs tr j n) ++ text_at 6 g.tree) h;
      }

  -- as the code finds them
  pub signed_from : {b e j : ℕ} {x : Tree (a Expr)} → kind_at tr e ≡ kind.Unary → j ≤ e - 1 → Run tr j (e - 1) → Stands src txt tr b x e → Signed src txt tr b x j (e - j)
  signed_from {b} {e} {j} {x} u h f s = signed b j (e - j) e x (omega arith) (run_top tr f u) s

  pub some_signed : {b : ℕ} {x : Tree (a Expr)} {j n : ℕ} → Signed src txt tr b x j n → Some src txt tr j
  some_signed {b = b} g = record { from = b; tree = g.tree; stands = g.stands }

  pub turn_unary : {b e : ℕ} {x : Tree (a Expr)} {o o₁ o₂ : Back} {s : ℕ} {j : ℕ} → kind_at tr e ≡ kind.Unary → Stands src txt tr b x e → (g : Signed src txt tr b x j (e - j))
      → Put (text_at 6 g.tree) b o o₁ s → Wrote (signs tr j (e - j)) o₁ o₂
      → Turned src txt tr (text_of x) b e o o₂ (record { end = s; left = None })
  turn_unary u v g w t = finished (same (sym g.parts ∙ sign_as u v) (then w.wrote t)) w.first
