-- Members of lists, told apart by their kinds; and pairs.
-- Assumes nothing.
use mathlib.Core.Path.{◌≡◌, refl, sym, ap, ◌∙◌, subst}
use mathlib.Core.List.{List, [], ◌∷◌, ◌++◌, append_assoc}
use Prim.Native.Nat.{ℕ, ◌+◌, ◌-◌, ◌*◌, ◌≤◌, ◌<◌}
use native.Mathlib.Omega.{arith}
use lib.ListN.{length}
use Rattle.rendered.specs.Spelled.{spelled_fixed}
use Rattle.token.specs.Code.{Colon}
use Rattle.ast.specs.Kind as kind
use Rattle.ast.specs.Words.{node_at}
use Rattle.unparse.specs.Trees.{Item, Expr, Pair, a, Tree}
use Rattle.unparse.specs.Trees as tree
use Rattle.standard.specs.Text.{text, colon}
use Rattle.standard.specs.Bare.{size_b, fields_b}
use Rattle.standard.specs.Plant.{plant}
use Rattle.writing.specs.Wrote.{Wrote}
use Rattle.writing.proofs.Writes.{then, same}
use Rattle.writer_expr.specs.Levels.{text_at, text_of}
use Rattle.writer_expr.specs.Laid.{Laid, Inline, exprs, names, pairs, Stands, Some, SomeMember, kind_at}
use Rattle.writer_expr.specs.Forms.{leaf_text, Leaf}
use Rattle.writer_expr.specs.Put.{Put, Puts, PutsMember}
use Rattle.writing.specs.declared.back.Back.{Back}
use Rattle.writer_expr.proofs.Shapes.{kind_b, positive, kind_is, no_name, inner}
use Rattle.writer_expr.proofs.Leaves.{name_view}

-- the kinds of names and pairs
name_kind : {src txt tr : List ℕ} {b e : ℕ} (x : Tree (a Item.Name)) → Stands src txt tr b x e → kind_at tr e ≡ kind.Name
unfolding plant kind_b
name_kind (tree.name w l) s = kind_is names s

pair_kind : {src txt tr : List ℕ} {b e : ℕ} (x : Tree (a Pair)) → Stands src txt tr b x e → kind_at tr e ≡ kind.Pair
unfolding plant kind_b
pair_kind (tree.pair x y) s = kind_is pairs s

-- some pair ends before node e; its key and its value
pub record SomePair (src txt tr : List ℕ) (e : ℕ) : Type 0 where
  pub from : ℕ
  pub tree : Tree (a Pair)
  pub stands : Stands src txt tr from tree e

pub record Pairing (src txt tr : List ℕ) (b : ℕ) (x : Tree (a Pair)) (e : ℕ) : Type 0 where
  pub mid : ℕ
  pub left : Tree (a Expr)
  pub right : Tree (a Expr)
  pub says : text_of x ≡ text_of left ++ colon (text_of right)
  pub ahead : Stands src txt tr b left mid
  pub behind : Stands src txt tr mid right (e - 1)
  pub falls : mid < e

module _ (src txt tr : List ℕ) where
  pub held_member : {e : ℕ} → SomeMember src txt tr e → (0 < e) × (8 * e + 8 ≤ length tr)
  held_member m = let h = positive m.inline m.tree in let n = m.stands.ends in (omega arith, m.stands.held)

  -- ---- what stands there, by its kind

  pub name_inside : {e : ℕ} → SomeMember src txt tr e → kind_at tr e ≡ kind.Name → Leaf src txt (node_at tr (e - 1))
  name_inside {e} m k = go m.inline m.tree m.stands
    where
      go : {i : Item} → Inline i → {b : ℕ} (x : Tree (a i)) → Stands src txt tr b x e → Leaf src txt (node_at tr (e - 1))
      go exprs x s = let h = no_name s in absurd (omega arith)
      go names {b} x s = (name_view src txt tr b e x s).inside
      go pairs x s = let h = pair_kind x s in absurd (omega arith)

  pub some_pair : {e : ℕ} → SomeMember src txt tr e → kind_at tr e ≡ kind.Pair → SomePair src txt tr e
  some_pair {e} m k = go m.inline m.tree m.stands
    where
      go : {i : Item} → Inline i → {b : ℕ} (x : Tree (a i)) → Stands src txt tr b x e → SomePair src txt tr e
      go exprs x s = let h = no_name s in absurd (omega arith)
      go names x s = let h = name_kind x s in absurd (omega arith)
      go pairs {b} x s = record { from = b; tree = x; stands = s }

  pub some_expr : {e : ℕ} → SomeMember src txt tr e → (kind_at tr e ≡ kind.Name → ⊥) → (kind_at tr e ≡ kind.Pair → ⊥) → Some src txt tr e
  some_expr {e} m k l = go m.inline m.tree m.stands
    where
      go : {i : Item} → Inline i → {b : ℕ} (x : Tree (a i)) → Stands src txt tr b x e → Some src txt tr e
      go exprs {b} x s = record { from = b; tree = x; stands = s }
      go names x s = absurd (k (name_kind x s))
      go pairs x s = absurd (l (pair_kind x s))

  -- ---- what was put

  pub name_puts : {e : ℕ} {o o₁ : Back} → kind_at tr e ≡ kind.Name → Wrote (leaf_text src txt (node_at tr (e - 1))) o o₁ → PutsMember src txt tr e o o₁ (e - 1)
  name_puts k w i exprs b x s = let h = no_name s in absurd (omega arith)
  name_puts {e} k w i names b x s = let v = name_view src txt tr b e x s in record { wrote = same (sym v.says) w; first = let n = v.alone in omega arith }
  name_puts k w i pairs b x s = let h = pair_kind x s in absurd (omega arith)

  pub pair_puts : {e : ℕ} {o o₁ : Back} {r : ℕ} → kind_at tr e ≡ kind.Pair → ((b : ℕ) (x : Tree (a Pair)) → Stands src txt tr b x e → Put (text_of x) b o o₁ r) → PutsMember src txt tr e o o₁ r
  pair_puts k p i exprs b x s = let h = no_name s in absurd (omega arith)
  pair_puts k p i names b x s = let h = name_kind x s in absurd (omega arith)
  pair_puts k p i pairs b x s = p b x s

  pub expr_puts : {e : ℕ} {o o₁ : Back} {r : ℕ} → (kind_at tr e ≡ kind.Name → ⊥) → (kind_at tr e ≡ kind.Pair → ⊥) → Puts src txt tr (text_at 0) e o o₁ r → PutsMember src txt tr e o o₁ r
  expr_puts k l p i exprs b x s = p b x s
  expr_puts k l p i names b x s = absurd (k (name_kind x s))
  expr_puts k l p i pairs b x s = absurd (l (pair_kind x s))

  -- ---- pairs

  paired : (b e : ℕ) (x : Tree (a Pair)) → Stands src txt tr b x e → Pairing src txt tr b x e
  unfolding Laid size_b fields_b plant text
  paired b e (tree.pair x y) s = record {
    mid = b + size_b (plant x);
    left = x;
    right = y;
    says = refl;
    ahead = inner src txt tr s x s.laid.0.0 refl (omega (arith, s.ends));
    behind = inner src txt tr s y s.laid.0.1.0 (omega (arith, s.ends)) (omega arith);
    falls = omega (arith, s.ends);
  }

  pub view_pair : {b e : ℕ} {x : Tree (a Pair)} → Stands src txt tr b x e → Pairing src txt tr b x e
  view_pair {b} {e} {x} s = paired b e x s

  pub some_value : {b e : ℕ} {x : Tree (a Pair)} → Pairing src txt tr b x e → Some src txt tr (e - 1)
  some_value v = record { from = v.mid; tree = v.right; stands = v.behind }

  pub key_stands : {b e m : ℕ} {x : Tree (a Pair)} (v : Pairing src txt tr b x e) → m ≡ v.mid → Stands src txt tr b v.left m
  key_stands {b} v h = subst (Stands src txt tr b v.left) (sym h) v.ahead

  pub some_key : {b e m : ℕ} {x : Tree (a Pair)} (v : Pairing src txt tr b x e) → m ≡ v.mid → Some src txt tr m
  some_key {b} v h = record { from = b; tree = v.left; stands = key_stands v h }

  pub pair_put : {b e : ℕ} {x : Tree (a Pair)} {o o₁ o₂ o₃ : Back} {s r : ℕ} (v : Pairing src txt tr b x e)
      → Put (text_of v.right) v.mid o o₁ s → Wrote (spelled_fixed Colon ++ 32 ∷ []) o₁ o₂ → Put (text_of v.left) b o₂ o₃ r → Put (text_of x) b o o₃ r
  pair_put v p c q = record {
    wrote = same (ap (λ (w : List ℕ). text_of v.left ++ w) (append_assoc (spelled_fixed Colon) (32 ∷ []) (text_of v.right)) ∙ sym v.says) (then (then p.wrote c) q.wrote);
    first = q.first;
  }
