-- Lines with lists below them, from what was put of these.
-- Assumes nothing.
use Rattle.std.specs.Prelude.{Option, Some as some, None, MatchOption, Bool, true, false, cond}
use lib.Dec.{eqb}
use Rattle.std.proofs.lemmas.Bool.{eqb-false}
use borrow.Author.Tests.{eqb-true}
use mathlib.Core.Path.{ap, refl, subst, sym, ◌∙◌, ◌≡◌}
use mathlib.Core.List.{List, [], ◌++◌, append_assoc}
use Prim.Native.Nat.{ℕ, suc, ◌+◌, ◌-◌, ◌<◌}
use native.Mathlib.Omega.{arith}
use Rattle.token.specs.Code.{Colon}
use Rattle.rendered.specs.Spelled.{spelled_fixed}
use Rattle.ast.specs.Node.{none}
use Rattle.unparse.specs.Trees.{other, Tree}
use Rattle.unparse.specs.Trees as tree
use Rattle.unparse.specs.Levels.{X}
use Rattle.standard.specs.Text.{text, line, opening}
use Rattle.standard.specs.Bare.{size_b, head_b}
use Rattle.standard.specs.Plant.{plant}
use Rattle.writing.proofs.Writes.{nothing, then, same}
use Rattle.writer_expr.specs.Laid.{Stands, kind_at, word_at}
use Rattle.writer_expr.specs.Put.{Put}
use Rattle.writing.specs.declared.back.Back.{Back}
use Rattle.writer_stmt.specs.Words.{form_of, Says, SomeWords}
use Rattle.writer_stmt.specs.Lines.{stmt, elif, else, block_word_lem, SomeLine, SomeLines, SomeElse, PutsElse, PutsLine}
use Rattle.writer_stmt.proofs.View.{Simple, Opened, Branch}

-- the word of a kind that the code has read
abbrev pub word_of : ℕ → Option ℕ
word_of w = cond (eqb w 0) None (some w)

word_is : (w : ℕ) {o : Option ℕ} → o ≡ word_of w → MatchOption o (w ≡ 0) (λ j. (j ≡ w) × (w ≡ 0 → ⊥))
word_is w e = subst (λ (o : Option ℕ). MatchOption o (w ≡ 0) (λ j. (j ≡ w) × (w ≡ 0 → ⊥))) (sym e) (go (eqb w 0) refl)
  where
    go : (p : Bool) → eqb w 0 ≡ p → MatchOption (cond p None (some w)) (w ≡ 0) (λ j. (j ≡ w) × (w ≡ 0 → ⊥))
    go true z = eqb-true w 0 z
    go false z = (refl, eqb-false w 0 z)

pub block_none : {k n : ℕ} {o : Option ℕ} → k ≡ n → o ≡ word_of (block_word_lem k) → o ≡ None → block_word_lem n ≡ 0
block_none {k} p q h = ap block_word_lem (sym p) ∙ (rw h at (word_is (block_word_lem k) q))

pub block_at : {j k n : ℕ} {o : Option ℕ} → k ≡ n → o ≡ word_of (block_word_lem k) → o ≡ some j → (j ≡ block_word_lem k) × (block_word_lem n ≡ 0 → ⊥)
block_at {k = k} p q h = let w = rw h at (word_is (block_word_lem k) q) in (w.0, λ z. w.1 (ap block_word_lem p ∙ z))

module _ {d : ℕ} {src txt tr : List ℕ} {b : ℕ} {t : List ℕ} {e : ℕ} where
  pub some_simple : Simple d src txt tr b t e → SomeWords src txt tr (e - 1) e
  some_simple v = record { from = b; text = v.words; says = v.says }

  -- ---- one list

  pub body_head : {f j k : ℕ} (v : Opened d src txt tr b t e) → k ≡ kind_at tr e → j ≡ block_word_lem k → f ≡ word_at tr e j → f ≡ head_b v.mid (plant v.body)
  body_head v p q h = h ∙ ap (λ (i : ℕ). word_at tr e i) (q ∙ ap block_word_lem p) ∙ v.head

  pub some_body : {f : ℕ} (v : Opened d src txt tr b t e) → f ≡ head_b v.mid (plant v.body) → SomeLines src txt tr (e - 1) f
  some_body v h = record { item = v.item; line = v.line; from = v.mid; tree = v.body; stands = v.behind; head = h }

  pub opened_says : {m : ℕ} (v : Opened d src txt tr b t e) → m ≡ v.mid → Says (form_of (kind_at tr e)) src txt tr b m e v.words
  opened_says v h = subst (λ (n : ℕ). Says (form_of (kind_at tr e)) src txt tr b n e v.words) (sym h) v.says

  pub some_opened : {m : ℕ} (v : Opened d src txt tr b t e) → m ≡ v.mid → SomeWords src txt tr m e
  some_opened v h = record { from = b; text = v.words; says = opened_says v h }

  pub opened_put : {o o₁ o₂ : Back} {s r : ℕ} (v : Opened d src txt tr b t e) → Put (text (d + 1) X v.body) v.mid o o₁ s → Put (line d (v.words ++ spelled_fixed Colon)) b o₁ o₂ r
      → Put t b o o₂ r
  opened_put v p q =
      let n : suc d ≡ d + 1 = omega arith in
      record { wrote = same (sym (v.text ∙ ap (λ (m : ℕ). opening d v.words (text m X v.body)) n)) (then p.wrote q.wrote); first = q.first }

  -- ---- the three of an If

  pub some_last : {f : ℕ} (v : Branch d src txt tr b t e) → f ≡ word_at tr e 7 → SomeElse src txt tr (e - 1) f
  some_last v h = record { from = v.mid₂; tree = v.last; stands = v.last_stands; head = h ∙ v.last_head }

  pub elifs_at : {m : ℕ} (v : Branch d src txt tr b t e) → m ≡ v.mid₂ → Stands src txt tr v.mid₁ v.elifs m
  elifs_at v h = subst (Stands src txt tr v.mid₁ v.elifs) (sym h) v.elifs_stand

  pub some_elifs : {f m : ℕ} (v : Branch d src txt tr b t e) → m ≡ v.mid₂ → f ≡ word_at tr e 6 → SomeLines src txt tr m f
  some_elifs v h p = record { item = tree.Elif; line = elif; from = v.mid₁; tree = v.elifs; stands = elifs_at v h; head = p ∙ v.elifs_head }

  pub body_at : {m : ℕ} (v : Branch d src txt tr b t e) → m ≡ v.mid₁ → Stands src txt tr v.mid v.body m
  body_at v h = subst (Stands src txt tr v.mid v.body) (sym h) v.body_stands

  pub some_block : {f m : ℕ} (v : Branch d src txt tr b t e) → m ≡ v.mid₁ → f ≡ word_at tr e 5 → SomeLines src txt tr m f
  some_block v h p = record { item = tree.Stmt; line = stmt; from = v.mid; tree = v.body; stands = body_at v h; head = p ∙ v.body_head }

  pub branch_says : {m : ℕ} (v : Branch d src txt tr b t e) → m ≡ v.mid → Says (form_of (kind_at tr e)) src txt tr b m e v.words
  branch_says v h = subst (λ (n : ℕ). Says (form_of (kind_at tr e)) src txt tr b n e v.words) (sym h) v.says

  pub some_branch : {m : ℕ} (v : Branch d src txt tr b t e) → m ≡ v.mid → SomeWords src txt tr m e
  some_branch v h = record { from = b; text = v.words; says = branch_says v h }

  pub branch_put : {o o₁ o₂ o₃ o₄ : Back} {s u v r : ℕ} (w : Branch d src txt tr b t e) → Put (text d X w.last) w.mid₂ o o₁ s → Put (text d X w.elifs) w.mid₁ o₁ o₂ u
      → Put (text (d + 1) X w.body) w.mid o₂ o₃ v → Put (line d (w.words ++ spelled_fixed Colon)) b o₃ o₄ r → Put t b o o₄ r
  branch_put w p q o k =
      let n : suc d ≡ d + 1 = omega arith in
      let rest : List ℕ = text d X w.elifs ++ text d X w.last in
      let u = ap (λ (m : ℕ). opening d w.words (text m X w.body) ++ rest) n ∙ append_assoc (line d (w.words ++ spelled_fixed Colon)) (text (d + 1) X w.body) rest in
      record { wrote = same (sym (w.text ∙ u)) (then (then (then p.wrote q.wrote) o.wrote) k.wrote); first = k.first }

-- ---- an Else, or none

module _ (src txt tr : List ℕ) where
  else_there : (b e f : ℕ) (x : Tree other) → Stands src txt tr b x e → f ≡ head_b b (plant x) → (f ≡ none → ⊥) → b < e
  unfolding size_b head_b plant
  else_there b e f tree.without s h j = absurd (j h)
  else_there b e f (tree.otherwise y) s h j = omega (arith, s.ends)

  pub some-else : {e f : ℕ} → SomeElse src txt tr e f → (f ≡ none → ⊥) → SomeLine src txt tr e
  some-else {e} {f} v j = record { sort = other; line = else; from = v.from; tree = v.tree; stands = v.stands; there = else_there v.from e f v.tree v.stands v.head j }

  else_none : (d b e f : ℕ) (x : Tree other) → Stands src txt tr b x e → f ≡ head_b b (plant x) → f ≡ none → (text d X x ≡ []) × (e ≡ b)
  unfolding size_b head_b plant text
  else_none d b e f tree.without s h j = (refl, omega (arith, s.ends))
  else_none d b e f (tree.otherwise y) s h j = absurd (omega (arith, s.ends, s.few))

  pub no_else : (d : ℕ) {e f : ℕ} {o : Back} → f ≡ none → PutsElse src txt tr d e f o o e
  no_else d {e} {f} {o} j b x s h = let q = else_none d b e f x s h j in record { wrote = same (sym q.0) (nothing o); first = q.1 }

  pub else_put : (d : ℕ) {e f : ℕ} {o o₁ : Back} {r : ℕ} → (f ≡ none → ⊥) → PutsLine src txt tr d e o o₁ r → PutsElse src txt tr d e f o o₁ r
  else_put d {e = e} {f = f} j p b x s h = p other else b x s (else_there b e f x s h j)
