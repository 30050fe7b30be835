-- Tuples and lambdas.
-- Assumes nothing.
use mathlib.Core.Path.{◌≡◌, refl, sym, ap, ◌∙◌, subst}
use mathlib.Core.Bool.{cond}
use mathlib.Core.List.{List, [], ◌∷◌, ◌++◌, append_assoc, append-nil}
use Prim.Native.Nat.{ℕ, ◌-◌}
use native.Mathlib.Omega.{arith}
use borrow.Author.Tests.{eq-eqb, ne_eqb}
use lib.Dec.{eqb}
use Rattle.rendered.specs.Spelled.{spelled_fixed}
use Rattle.token.specs.Code.{LParen, RParen, Colon, Comma, Lambda}
use Rattle.ast.specs.Kind as kind
use Rattle.ast.specs.Node.{none}
use Rattle.unparse.specs.Trees.{Expr, Name, a, some, list, Void, Tree}
use Rattle.unparse.specs.Trees as tree
use Rattle.standard.specs.Text.{text, fit_text, within, void_text, led}
use Rattle.standard.specs.Bare.{size_b, head_b}
use Rattle.standard.specs.Plant.{plant}
use Rattle.writing.specs.Wrote.{Wrote}
use Rattle.writing.proofs.Writes.{then, same}
use Rattle.writer_expr.specs.Levels.{text_of, text_whole}
use Rattle.writer_expr.specs.Laid.{Laid, exprs, names, Stands, Some, SomeList, kind_at, word_at}
use Rattle.writer_expr.specs.Forms.{tuple, form_of}
use Rattle.std.specs.Prelude.{Some as some, None}
use Rattle.writer_expr.specs.Put.{Put, Turned, PutsList}
use Rattle.writing.specs.declared.back.Back.{Back}
use Rattle.writer_expr.proofs.Shapes.{kind_b, positive, kind_is, head_low, inner}
use Rattle.writer_expr.proofs.View.{inside_text, tuple_text, whole_text, Tuple, Lambdas}
use Rattle.writer_expr.proofs.Viewed.{view}
use Rattle.writer_expr.proofs.Turns.{finished}

-- any other expression as a whole statement's
no_tuple : (x : Tree (a Expr)) → (kind_b (plant x) ≡ kind.Tuple → ⊥) → text_whole x ≡ text_of x
unfolding text fit_text plant kind_b
no_tuple (tree.literal c l) h = refl
no_tuple (tree.variable x) h = refl
no_tuple (tree.unary g x) h = refl
no_tuple (tree.binary o x y) h = refl
no_tuple (tree.compare c) h = refl
no_tuple (tree.attribute x n) h = refl
no_tuple (tree.apply x y) h = refl
no_tuple (tree.index x y) h = refl
no_tuple (tree.bracket b x) h = refl
no_tuple (tree.void v) h = refl
no_tuple (tree.dict x) h = refl
no_tuple (tree.set x) h = refl
no_tuple (tree.single x) h = absurd (h refl)
no_tuple (tree.tuple x) h = absurd (h refl)
no_tuple (tree.lambda x y) h = refl

-- the same text under another name
pub put_as : {t u : List ℕ} {b : ℕ} {o : Back} {o₁ : Back} {r : ℕ} → t ≡ u → Put t b o o₁ r → Put u b o o₁ r
put_as e p = record { wrote = same e p.wrote; first = p.first }

module _ (src txt tr : List ℕ) where
  -- a node of this kind is a tuple
  pub tuple_at : {b e : ℕ} {x : Tree (a Expr)} → kind_at tr e ≡ kind.Tuple → Stands src txt tr b x e → Tuple src txt tr b x e
  unfolding form_of
  tuple_at k s = view src txt tr {f = tuple} (ap form_of k, λ l. let r = l.root in omega arith) s

  pub some_tuple : {b e f : ℕ} {x : Tree (a Expr)} → Tuple src txt tr b x e → f ≡ word_at tr e 4 → SomeList src txt tr (e - 1) f
  some_tuple {b = b} v p = record { item = Expr; inline = exprs; from = b; tree = v.list; stands = v.behind; head = p ∙ v.head }

  -- with no member
  tuple_none : (b e f : ℕ) (l : Tree (list Expr)) → Stands src txt tr b l e → f ≡ head_b b (plant l) → f ≡ none → (tuple_text l ≡ void_text Void.no_members) × (whole_text l ≡ void_text Void.no_members) × (e ≡ b)
  unfolding size_b head_b plant
  tuple_none b e f tree.nil s h j = (refl, refl, omega (arith, s.ends))
  tuple_none b e f (tree.full l) s h j = let u = head_low exprs b l in absurd (omega (arith, s.ends, s.few))

  pub turn_empty : {b e f : ℕ} {x : Tree (a Expr)} {o o₁ : Back} → Tuple src txt tr b x e → f ≡ word_at tr e 4 → f ≡ none → Wrote (void_text Void.no_members) o o₁
      → Turned src txt tr (text_of x) b e o o₁ (record { end = e - 1; left = None })
  turn_empty {b} {e} {f} v p j w = let q = tuple_none b (e - 1) f v.list v.behind (p ∙ v.head) j in finished (same (sym (v.says ∙ q.0)) w) q.2

  -- so it has its parentheses as a whole statement's too, as any other expression has its text
  pub whole_empty : {b e f : ℕ} {x : Tree (a Expr)} → kind_at tr e ≡ kind.Tuple → Stands src txt tr b x e → f ≡ word_at tr e 4 → f ≡ none → text_of x ≡ text_whole x
  whole_empty {b} {e} {f} k s p j = let v = tuple_at k s in let q = tuple_none b (e - 1) f v.list v.behind (p ∙ v.head) j in v.says ∙ q.0 ∙ sym (v.whole ∙ q.1)

  pub whole_other : {b e : ℕ} {x : Tree (a Expr)} → (kind_at tr e ≡ kind.Tuple → ⊥) → Stands src txt tr b x e → text_of x ≡ text_whole x
  whole_other {x = x} k s = sym (no_tuple x (λ h. k (kind_is exprs s ∙ h)))

  -- with members: the comma of a tuple of one
  inside_is : (b e f : ℕ) (l : Tree (some Expr)) → Stands src txt tr b l e → f ≡ head_b b (plant l) → inside_text l ≡ text_of l ++ cond (eqb (e - 1) f) (spelled_fixed Comma) []
  unfolding size_b head_b plant text inside_text
  inside_is b e f (tree.one x) s h = let p : e - 1 ≡ f = omega (arith, s.ends) in rw (eq-eqb (e - 1) f p)
  inside_is b e f (tree.more l x) s h =
      let u = head_low exprs b l in
      let q = positive exprs x in
      let p : e - 1 ≡ f → ⊥ = λ w. omega (arith, s.ends) in
      rw (ne_eqb (e - 1) f p) (sym (append-nil (text_of (tree.more l x))))

  inside_put : {o o₁ o₂ : Back} {r : ℕ} (b e f : ℕ) (l : Tree (list Expr)) → Stands src txt tr b l e → f ≡ head_b b (plant l) → (f ≡ none → ⊥)
      → Wrote (cond (eqb (e - 1) f) (spelled_fixed Comma) []) o o₁ → PutsList src txt tr some e f o₁ o₂ r → Put (whole_text l) b o o₂ r
  unfolding Laid size_b head_b plant
  inside_put b e f tree.nil s h j c p = absurd (j h)
  inside_put b e f (tree.full l) s h j c p =
      let t = inner src txt tr s l s.laid s.ends (omega arith) in
      let q = p Expr exprs b l t h in
      record { wrote = same (sym (inside_is b e f l t h)) (then c q.wrote); first = q.first }

  pub members_inside : {b e f : ℕ} {x : Tree (a Expr)} {o o₁ o₂ : Back} {r : ℕ} → Tuple src txt tr b x e → f ≡ word_at tr e 4 → (word_at tr e 4 ≡ none → ⊥)
      → Wrote (cond (eqb (e - 1 - 1) f) (spelled_fixed Comma) []) o o₁ → PutsList src txt tr some (e - 1) f o₁ o₂ r → Put (text_whole x) b o o₂ r
  members_inside {b} {e} {f} v p j c q =
      let g = inside_put b (e - 1) f v.list v.behind (p ∙ v.head) (λ m. j (sym p ∙ m)) c q in
      put_as (sym v.whole) g

  -- in parentheses
  tuple_some : (b : ℕ) (l : Tree (list Expr)) {f : ℕ} → f ≡ head_b b (plant l) → (f ≡ none → ⊥) → tuple_text l ≡ within LParen (whole_text l) RParen
  unfolding head_b plant
  tuple_some b tree.nil h j = absurd (j h)
  tuple_some b (tree.full l) h j = refl

  pub turn_tuple : {b e : ℕ} {x : Tree (a Expr)} {o o₁ o₂ o₃ : Back} {s : ℕ} → Tuple src txt tr b x e → (word_at tr e 4 ≡ none → ⊥)
      → Wrote (spelled_fixed RParen) o o₁ → Put (text_whole x) b o₁ o₂ s → Wrote (spelled_fixed LParen) o₂ o₃
      → Turned src txt tr (text_of x) b e o o₃ (record { end = s; left = None })
  turn_tuple {b} {x = x} v j c w u =
      let t : text_of x ≡ within LParen (text_whole x) RParen = v.says ∙ tuple_some b v.list v.head j ∙ ap (λ (y : List ℕ). within LParen y RParen) (sym v.whole) in
      finished (same (sym t) (then (then c w.wrote) u)) w.first

  -- ---- lambdas

  pub some_body : {b e : ℕ} {x : Tree (a Expr)} → Lambdas src txt tr b x e → Some src txt tr (e - 1)
  some_body v = record { from = v.mid; tree = v.right; stands = v.behind }

  pub params_stand : {b e m : ℕ} {x : Tree (a Expr)} (v : Lambdas src txt tr b x e) → m ≡ v.mid → Stands src txt tr b v.list m
  params_stand {b = b} v h = subst (Stands src txt tr b v.list) (sym h) v.ahead

  pub some_params : {b e f m : ℕ} {x : Tree (a Expr)} (v : Lambdas src txt tr b x e) → m ≡ v.mid → f ≡ word_at tr e 4 → SomeList src txt tr m f
  some_params {b = b} v h p = record { item = Name; inline = names; from = b; tree = v.list; stands = params_stand v h; head = p ∙ v.head }

  gap_is : (b e f : ℕ) (l : Tree (list Name)) → Stands src txt tr b l e → f ≡ head_b b (plant l) → (w : List ℕ) → cond (eqb f none) [] (32 ∷ []) ++ w ≡ led l w
  unfolding size_b head_b plant
  gap_is b e f tree.nil s h w = rw (eq-eqb f none h)
  gap_is b e f (tree.full l) s h w =
      let u = head_low names b l in
      let p : f ≡ none → ⊥ = λ q. omega (arith, s.ends, s.few) in
      rw (ne_eqb f none p)

  pub turn_lambda : {b e f : ℕ} {x : Tree (a Expr)} {o o₁ o₂ o₃ o₄ o₅ : Back} {s r : ℕ} (v : Lambdas src txt tr b x e) → f ≡ word_at tr e 4
      → Put (text_of v.right) v.mid o o₁ s → Wrote (spelled_fixed Colon ++ 32 ∷ []) o₁ o₂ → Put (text_of v.list) b o₂ o₃ r
      → Wrote (cond (eqb f none) [] (32 ∷ [])) o₃ o₄ → Wrote (spelled_fixed Lambda) o₄ o₅
      → Turned src txt tr (text_of x) b e o o₅ (record { end = r; left = None })
  turn_lambda {b} {e} {f} v h p c q g u =
      let w : List ℕ = text_of v.list ++ ((spelled_fixed Colon ++ 32 ∷ []) ++ text_of v.right) in
      let t = ap (λ (y : List ℕ). spelled_fixed Lambda ++ y) (gap_is b v.mid f v.list v.ahead (h ∙ v.head) w ∙ ap (λ (y : List ℕ). led v.list (text_of v.list ++ y)) (append_assoc (spelled_fixed Colon) (32 ∷ []) (text_of v.right))) in
      finished (same (t ∙ sym v.says) (then (then (then (then p.wrote c) q.wrote) g) u)) q.first
