-- Names and literals: one node, whose words say its text.
-- Assumes nothing.
use mathlib.Core.Path.{◌≡◌}
use mathlib.Core.Logic.{◌⊎◌, inl, inr, ⊎_elim}
use mathlib.Core.List.{List}
use Prim.Native.Nat.{ℕ, ◌+◌, ◌-◌, ◌≤◌}
use native.Mathlib.Omega.{arith}
use borrow.Author.Tests.{ne_eqb}
use lib.Dec.{eqb}
use lib.ListN.{length}
use Rattle.source.specs.Bytes.{part}
use Rattle.numbers.specs.Bits.{int_of}
use Rattle.rendered.specs.Spelled.{spelled_fixed, spelled_bool, spelled_int, spelled_string}
use Rattle.token.specs.Code as token
use Rattle.ast.specs.Kind as kind
use Rattle.ast.specs.Node.{Node}
use Rattle.ast.specs.Words.{node_at}
use Rattle.unparse.specs.Trees.{Sort, a, Name, Literal, Word, Load, Tree}
use Rattle.unparse.specs.Trees as tree
use Rattle.standard.specs.Text.{text, fit_text}
use Rattle.standard.specs.Bare.{size_b, fields_b}
use Rattle.standard.specs.Plant.{plant}
use Rattle.writer_expr.specs.Levels.{text_of}
use Rattle.writer_expr.specs.Laid.{Laid, Stands}
use Rattle.writer_expr.specs.Forms.{leaf_text, Leaf}
use Rattle.writer_expr.proofs.Shapes.{rooted, field_is}

-- the text of a node of each kind
module _ (src txt : List ℕ) (n : Node) where
  pub text_none : n.kind ≡ kind.None → leaf_text src txt n ≡ spelled_fixed token.None
  unfolding leaf_text
  text_none h = rw h

  pub text_bool : n.kind ≡ kind.Bool → leaf_text src txt n ≡ spelled_bool (eqb n.p 1)
  unfolding leaf_text
  text_bool h = rw h

  pub text_int : n.kind ≡ kind.Int → leaf_text src txt n ≡ spelled_int (int_of n.p n.q)
  unfolding leaf_text
  text_int h = rw h

  pub text_string : n.kind ≡ kind.String → leaf_text src txt n ≡ spelled_string (part txt n.p (n.p + n.q))
  unfolding leaf_text
  text_string h = rw h

  pub text_float : n.kind ≡ kind.Float → leaf_text src txt n ≡ part src n.r n.s
  unfolding leaf_text
  text_float h = rw h

  pub text_rest : (n.kind ≡ kind.None → ⊥) → (n.kind ≡ kind.Bool → ⊥) → (n.kind ≡ kind.Int → ⊥) → (n.kind ≡ kind.String → ⊥) → (n.kind ≡ kind.Float → ⊥) → leaf_text src txt n ≡ part src n.p n.q
  unfolding leaf_text
  text_rest f g h i j = rw (ne_eqb n.kind kind.None f, ne_eqb n.kind kind.Bool g, ne_eqb n.kind kind.Int h, ne_eqb n.kind kind.String i, ne_eqb n.kind kind.Float j)

  text_variable : n.kind ≡ kind.Variable → leaf_text src txt n ≡ part src n.p n.q
  unfolding leaf_text
  text_variable h = rw h

  text_name : n.kind ≡ kind.Name → leaf_text src txt n ≡ part src n.p n.q
  unfolding leaf_text
  text_name h = rw h

-- one node, and its text
pub record LeafView {s : Sort} (src txt tr : List ℕ) (b : ℕ) (x : Tree s) (e : ℕ) : Type 0 where
  pub says : text_of x ≡ leaf_text src txt (node_at tr (e - 1))
  pub alone : e ≡ b + 1
  pub inside : Leaf src txt (node_at tr (e - 1))

module _ (src txt tr : List ℕ) where
  pub literal_view : (b e : ℕ) (c : Literal) (l : Load) → Stands src txt tr b (tree.literal c l) e → LeafView src txt tr b (tree.literal c l) e
  unfolding Laid size_b fields_b plant text fit_text
  literal_view b e Literal.int l s =
      let r = rooted e (omega (arith, s.ends)) s.laid.1 in
      let p = field_is 0 r.fields in
      let q = field_is 1 r.fields in
      let k = r.kind in
      record {
        says = rw (text_int src txt (node_at tr (e - 1)) k, p, q);
        alone = omega (arith, s.ends);
        inside = record { string = λ h. absurd (omega arith); float = λ h. absurd (omega arith); name = λ u v w x y. absurd (w k) };
      }
  literal_view b e Literal.bool l s =
      let r = rooted e (omega (arith, s.ends)) s.laid.1 in
      let p = field_is 0 r.fields in
      let k = r.kind in
      record {
        says = rw (text_bool src txt (node_at tr (e - 1)) k, p);
        alone = omega (arith, s.ends);
        inside = record { string = λ h. absurd (omega arith); float = λ h. absurd (omega arith); name = λ u v w x y. absurd (v k) };
      }
  literal_view b e Literal.string l s =
      let r = rooted e (omega (arith, s.ends)) s.laid.1 in
      let k = r.kind in
      record {
        says = rw (text_string src txt (node_at tr (e - 1)) k, r.bytes);
        alone = omega (arith, s.ends);
        inside = record { string = λ h. r.inside; float = λ h. absurd (omega arith); name = λ u v w x y. absurd (x k) };
      }
  literal_view b e Literal.float l s =
      let r = rooted e (omega (arith, s.ends)) s.laid.1 in
      let k = r.kind in
      record {
        says = rw (text_float src txt (node_at tr (e - 1)) k, r.bytes);
        alone = omega (arith, s.ends);
        inside = record { string = λ h. absurd (omega arith); float = λ h. r.inside; name = λ u v w x y. absurd (y k) };
      }
  literal_view b e Literal.none l s =
      let r = rooted e (omega (arith, s.ends)) s.laid.1 in
      let k = r.kind in
      record {
        says = rw (text_none src txt (node_at tr (e - 1)) k);
        alone = omega (arith, s.ends);
        inside = record { string = λ h. absurd (omega arith); float = λ h. absurd (omega arith); name = λ u v w x y. absurd (u k) };
      }

  -- a name's bytes, as a node's of some kind
  named : (n : Node) → (n.kind ≡ kind.Variable) ⊎ (n.kind ≡ kind.Name) → (n.p ≤ n.q) × (n.q ≤ length src) → Leaf src txt n
  named n h i = record { string = λ k. absurd (⊎_elim (λ g. omega arith) (λ g. omega arith) h); float = λ k. absurd (⊎_elim (λ g. omega arith) (λ g. omega arith) h); name = λ u v w x y. i }

  pub variable_view : (b e : ℕ) (x : Tree (a Name)) → Stands src txt tr b (tree.variable x) e → LeafView src txt tr b (tree.variable x) e
  unfolding Laid size_b fields_b plant text fit_text
  variable_view b e (tree.name Word.tee l) s =
      let r = rooted e (omega (arith, s.ends)) s.laid.1 in
      record { says = rw (text_variable src txt (node_at tr (e - 1)) r.kind, r.bytes); alone = omega (arith, s.ends); inside = named (node_at tr (e - 1)) (inl r.kind) r.inside }
  variable_view b e (tree.name Word.identifier l) s =
      let r = rooted e (omega (arith, s.ends)) s.laid.1 in
      record { says = rw (text_variable src txt (node_at tr (e - 1)) r.kind, r.bytes); alone = omega (arith, s.ends); inside = named (node_at tr (e - 1)) (inl r.kind) r.inside }

  pub name_view : (b e : ℕ) (x : Tree (a Name)) → Stands src txt tr b x e → LeafView src txt tr b x e
  unfolding Laid size_b fields_b plant text
  name_view b e (tree.name Word.tee l) s =
      let r = rooted e (omega (arith, s.ends)) s.laid.1 in
      record { says = rw (text_name src txt (node_at tr (e - 1)) r.kind, r.bytes); alone = omega (arith, s.ends); inside = named (node_at tr (e - 1)) (inr r.kind) r.inside }
  name_view b e (tree.name Word.identifier l) s =
      let r = rooted e (omega (arith, s.ends)) s.laid.1 in
      record { says = rw (text_name src txt (node_at tr (e - 1)) r.kind, r.bytes); alone = omega (arith, s.ends); inside = named (node_at tr (e - 1)) (inr r.kind) r.inside }
