-- A turn at each form of expression, from what its calls have put.
-- Assumes nothing.
use mathlib.Core.Path.{◌≡◌, sym, ◌∙◌, subst}
use mathlib.Core.List.{List}
use Prim.Native.Nat.{ℕ, min, ◌+◌, ◌-◌, ◌*◌, ◌≤◌, ◌<◌}
use native.Mathlib.Omega.{arith}
use lib.ListN.{length}
use Rattle.source.specs.Bytes.{part}
use Rattle.rendered.specs.Spelled.{spelled_fixed}
use Rattle.token.specs.Code.{LParen, RParen, LBracket, RBracket, Dot}
use Rattle.ast.specs.Words.{node_at}
use Rattle.unparse.specs.Trees.{a, Expr, Tree}
use Rattle.standard.specs.Text.{within, operator}
use Rattle.writing.specs.Wrote.{Wrote}
use Rattle.writing.proofs.Writes.{then, same}
use Rattle.writer_expr.specs.Levels.{number, text_at, text_of, operator_of, rule_of_lem, left_of}
use Rattle.writer_expr.specs.Laid.{Stands, Some, SomeList, exprs, kind_at, word_at}
use Rattle.writer_expr.specs.Forms.{leaf_text, opens, closes}
use Rattle.std.specs.Prelude.{Some as some, None}
use Rattle.writer_expr.specs.Put.{Put, Turned}
use Rattle.writing.specs.declared.back.Back.{Back}
use Rattle.writer_expr.specs.declared.rules.Rule.{Rule}
use Rattle.writer_expr.specs.declared.rules.Rule.TheVariants.{C, F}
use Rattle.writer_expr.proofs.Shapes.{positive}
use Rattle.writer_expr.proofs.Leaves.{LeafView}
use Rattle.writer_expr.proofs.Operators.{binary_text, link_text, rule_small}
use Rattle.writer_expr.proofs.View.{index_text, Named, Two, Listing, Bracketed}
use Rattle.writer_expr.proofs.Turns.{finished, going}

module _ {src txt tr : List ℕ} {b e : ℕ} {x : Tree (a Expr)} where
  -- what the code asks of the words
  pub held : Stands src txt tr b x e → (0 < e) × (8 * e + 8 ≤ length tr)
  held s = let h = positive exprs x in let n = s.ends in (omega arith, s.held)

  pub some_behind : {f : Tree (a Expr) → Tree (a Expr) → List ℕ} → Two f src txt tr b x e → Some src txt tr (e - 1)
  some_behind v = record { from = v.mid; tree = v.right; stands = v.behind }

  pub some_arguments : {f : ℕ} → Listing src txt tr b x e → f ≡ word_at tr e 5 → SomeList src txt tr (e - 1) f
  some_arguments v p = record { item = Expr; inline = exprs; from = v.mid; tree = v.list; stands = v.behind; head = p ∙ v.head }

  pub some_bracketed : {k f : ℕ} → Bracketed k src txt tr b x e → f ≡ word_at tr e 4 → SomeList src txt tr (e - 1) f
  some_bracketed v p = record { item = v.item; inline = v.inline; from = b; tree = v.list; stands = v.behind; head = p ∙ v.head }

  -- a right operand, and what stands before it
  pub turn_binary : {o o₁ o₂ : Back} {s : ℕ} {op k : ℕ} (l m n : Rule) (v : Two (binary_text (word_at tr e 4)) src txt tr b x e) → op ≡ word_at tr e 4 → number l ≡ rule_of_lem op → number m ≡ left_of (number l)
      → number n ≡ min (number l + 1) 7 → k ≡ operator_of op → Put (text_at (number n) v.right) v.mid o o₁ s → Wrote (operator k) o₁ o₂
      → Turned src txt tr (text_of x) b e o o₂ (record { end = s; left = some m })
  turn_binary {op = op} l m n v o p q g r w u =
      let h = positive exprs v.right in
      let i = v.behind.ends in
      let f = w.first in
      let t : number n ≡ rule_of_lem op + 1 = omega (arith, rule_small op) in
      going v.left m (v.says ∙ rw (q, p, t, r, o)) (subst (λ (y : ℕ). Stands src txt tr b v.left y) (sym f) v.ahead) (then w.wrote u) (omega arith)

  pub turn_link : {o o₁ o₂ : Back} {s : ℕ} {op k : ℕ} (v : Two (link_text (word_at tr (e - 1) 4)) src txt tr b x (e - 1)) → op ≡ word_at tr (e - 1) 4 → k ≡ operator_of op
      → Put (text_at 4 v.right) v.mid o o₁ s → Wrote (operator k) o₁ o₂
      → Turned src txt tr (text_of x) b e o o₂ (record { end = s; left = some C })
  turn_link v o r w u =
      let h = positive exprs v.right in
      let n = v.behind.ends in
      let f = w.first in
      going v.left C (v.says ∙ rw (r, o)) (subst (λ (y : ℕ). Stands src txt tr b v.left y) (sym f) v.ahead) (then w.wrote u) (omega arith)

  pub turn_index : {o o₁ o₂ o₃ : Back} {s : ℕ} (v : Two index_text src txt tr b x e) → Wrote (spelled_fixed RBracket) o o₁
      → Put (text_of v.right) v.mid o₁ o₂ s → Wrote (spelled_fixed LBracket) o₂ o₃
      → Turned src txt tr (text_of x) b e o o₃ (record { end = s; left = some F })
  turn_index v c w u =
      let h = positive exprs v.right in
      let n = v.behind.ends in
      let f = w.first in
      going v.left F v.says (subst (λ (y : ℕ). Stands src txt tr b v.left y) (sym f) v.ahead) (then (then c w.wrote) u) (omega arith)

  pub turn_call : {o o₁ o₂ o₃ : Back} {s : ℕ} (v : Listing src txt tr b x e) → 0 < e → Wrote (spelled_fixed RParen) o o₁
      → Put (text_of v.list) v.mid o₁ o₂ s → Wrote (spelled_fixed LParen) o₂ o₃
      → Turned src txt tr (text_of x) b e o o₃ (record { end = s; left = some F })
  turn_call v h c w u =
      let n = v.behind.ends in
      let f = w.first in
      going v.left F v.says (subst (λ (y : ℕ). Stands src txt tr b v.left y) (sym f) v.ahead) (then (then c w.wrote) u) (omega arith)

  pub turn_attribute : {o o₁ o₂ : Back} {p q : ℕ} (v : Named src txt tr b x e) → 0 < e → p ≡ word_at tr e 5 → q ≡ word_at tr e 6 → Wrote (part src p q) o o₁ → Wrote (spelled_fixed Dot) o₁ o₂
      → Turned src txt tr (text_of x) b e o o₂ (record { end = e - 1; left = some F })
  turn_attribute v h i j w u = going v.left F (v.says ∙ rw (i, j)) v.ahead (then w u) (omega arith)

  pub turn_enclosed : {o o₁ o₂ o₃ : Back} {f g : List ℕ} {s : ℕ} {k : ℕ} (v : Bracketed (kind_at tr e) src txt tr b x e) → k ≡ kind_at tr e → f ≡ opens k → g ≡ closes k → Wrote g o o₁ → Put (text_of v.list) b o₁ o₂ s
      → Wrote f o₂ o₃ → Turned src txt tr (text_of x) b e o o₃ (record { end = s; left = None })
  turn_enclosed v k i j c w u = finished (same (rw (i, j, k) (sym v.says)) (then (then c w.wrote) u)) w.first

  pub turn_leaf : {o o₁ : Back} → LeafView src txt tr b x e → Wrote (leaf_text src txt (node_at tr (e - 1))) o o₁ → Turned src txt tr (text_of x) b e o o₁ (record { end = e - 1; left = None })
  turn_leaf v w = let n = v.alone in finished (same (sym v.says) w) (omega arith)

pub turn_parens : {src txt tr : List ℕ} {b e : ℕ} (x : Tree (a Expr)) {o o₁ o₂ o₃ : Back} {s : ℕ} → Wrote (spelled_fixed RParen) o o₁ → Put (text_of x) b o₁ o₂ s → Wrote (spelled_fixed LParen) o₂ o₃
    → Turned src txt tr (within LParen (text_of x) RParen) b e o o₃ (record { end = s; left = None })
turn_parens x c w u = finished (then (then c w.wrote) u) w.first
