-- Operators and chains of comparisons: what the words say of them, and how they are told apart.
-- Assumes nothing.
use mathlib.Core.Path.{◌≡◌, refl, sym, ap, ◌∙◌}
use mathlib.Core.Logic.{⊎_elim}
use mathlib.Core.Bool.{true, false}
use mathlib.Core.List.{List, []}
use Prim.Native.Nat.{ℕ, ◌+◌, ◌-◌, ◌≤◌, ◌<◌}
use native.Mathlib.Omega.{arith}
use Rattle.ast.specs.Kind as kind
use Rattle.ast.specs.Operator.{binary_op_lem}
use Rattle.unparse.specs.Trees.{Expr, a, chain, Op, Comparison, Tree}
use Rattle.unparse.specs.Trees as tree
use Rattle.standard.specs.Bare.{Bare, b_node, b_word, b_child, b_first, b_link, size_b, top_b, operand_b, fields_b}
use Rattle.standard.specs.Plant.{plant, free₁, op_number, comparison_number}
use Rattle.writer_expr.specs.Levels.{rank_of, text_of}
use Rattle.writer_expr.specs.Laid.{Laid, Stands, exprs, kind_at, word_at}
use Rattle.writer_expr.specs.Forms.{Linked, rule_at_lem}
use Rattle.writer_expr.proofs.Shapes.{rooted, field_is, Shape, twofold, compared, chained, other, shape, positive, kind_is, operand_low, inner}
use Rattle.writer_expr.proofs.Operators.{binary_text, link_text, link-text, compares, compares_not, op_rule, compare_rule}
use Rattle.writer_expr.proofs.View.{Two}

-- an operator with two operands, as the words have it
pub record Joined (src txt tr : List ℕ) (o : ℕ) (x y : Bare) (b e : ℕ) : Type 0 where
  pub kind : kind_at tr e ≡ kind.Binary
  pub op : word_at tr e 4 ≡ o
  pub left : word_at tr e 5 ≡ top_b b x
  pub ahead : Laid src txt tr b x
  pub behind : Laid src txt tr (b + size_b x) y
  pub ends : e - 1 ≡ b + size_b x + size_b y

-- a chain of two comparisons or more
data Chained : Tree (a Expr) → Type 0 where
  a_chain : (c : Tree chain) (o : Comparison) (y : Tree (a Expr)) → Chained (tree.compare (tree.link c o y))

chain_rule : {x : Tree (a Expr)} → Chained x → rank_of x ≡ 3
unfolding rank_of
chain_rule (a_chain c o y) = refl

module _ (src txt tr : List ℕ) where
  node_joined : (b e op : ℕ) (x y : Bare) → Laid src txt tr b (b_node kind.Binary [] (b_word op (b_child x (b_child y free₁)))) → e ≡ b + size_b (b_node kind.Binary [] (b_word op (b_child x (b_child y free₁)))) → Joined src txt tr op x y b e
  unfolding Laid size_b fields_b
  node_joined b e op x y d h =
      let r = rooted e (omega arith) d.1 in
      record { kind = r.kind; op = field_is 0 r.fields; left = field_is 1 r.fields; ahead = d.0.0; behind = d.0.1.0; ends = omega arith }

  first_joined : (b e op : ℕ) (x y : Bare) → Laid src txt tr b (b_first op x y) → e ≡ b + size_b (b_first op x y) → Joined src txt tr op x y b e
  unfolding Laid size_b
  first_joined b e op x y d h =
      let r = rooted e (omega arith) d.1 in
      record { kind = r.kind; op = field_is 0 r.fields; left = field_is 1 r.fields; ahead = d.0.0; behind = d.0.1; ends = omega arith }

  pub op_words : (b e : ℕ) (o : Op) (x y : Tree (a Expr)) → Stands src txt tr b (tree.binary o x y) e → Joined src txt tr (op_number o) (plant x) (plant y) b e
  unfolding plant
  op_words b e o x y s = node_joined b e (op_number o) (plant x) (plant y) s.laid s.ends

  pub compare_words : (b e : ℕ) (o : Comparison) (x y : Tree (a Expr)) → Stands src txt tr b (tree.compare (tree.two o x y)) e → Joined src txt tr (comparison_number o) (plant x) (plant y) b e
  unfolding plant
  compare_words b e o x y s = first_joined b e (comparison_number o) (plant x) (plant y) s.laid s.ends

  pub joined : {b e op : ℕ} {z : Tree (a Expr)} (x y : Tree (a Expr)) → Stands src txt tr b z e → Joined src txt tr op (plant x) (plant y) b e → text_of z ≡ binary_text op x y → Two (binary_text (word_at tr e 4)) src txt tr b z e
  joined {b} x y s j t =
      let p = positive exprs y in
      let h = j.ends in
      record {
        mid = b + size_b (plant x);
        left = x;
        right = y;
        says = t ∙ ap (λ (k : ℕ). binary_text k x y) (sym j.op);
        ahead = inner src txt tr s x j.ahead refl (omega arith);
        behind = inner src txt tr s y j.behind h (omega arith);
      }

  -- the words of a chain
  chain_bare : (b e op : ℕ) (c y : Bare) → Laid src txt tr b (b_link op c y) → e ≡ b + size_b (b_link op c y) → 7 ≤ op → op ≤ 12 → operand_b b c < b + size_b c - 1 → Linked tr e
  unfolding Laid size_b binary_op_lem
  chain_bare b e op c y d h lo hi n =
      let r = rooted e (omega arith) d.1.1 in
      let q = rooted (e - 1) (omega arith) d.1.0 in
      let f = field_is 0 q.fields in
      let g = field_is 1 q.fields in
      let w = field_is 1 r.fields in
      record {
        some = omega arith;
        root = r.kind;
        op = field_is 0 r.fields;
        right = q.kind;
        low = omega arith;
        high = omega arith;
        shared = omega arith;
      }

  pub chain_words : (b e : ℕ) (c : Tree chain) (o : Comparison) (y : Tree (a Expr)) → Stands src txt tr b (tree.compare (tree.link c o y)) e → Linked tr e
  unfolding plant
  chain_words b e c o y s = let w = compares o in chain_bare b e (comparison_number o) (plant c) (plant y) s.laid s.ends w.0 w.1 (operand_low b c)

  -- what a comparison has at its left stands in it
  compares_own : (b e : ℕ) {x : Tree (a Expr)} → Shape x → Stands src txt tr b x e → kind_at tr e ≡ kind.Binary → 7 ≤ word_at tr e 4 → word_at tr e 4 ≤ 12 → b ≤ word_at tr e 5
  compares_own b e (twofold o x y) s k lo hi = let j = (op_words b e o x y s).op in absurd (⊎_elim (λ p. omega arith) (λ p. omega arith) (compares_not o))
  compares_own b e (compared o x y) s k lo hi = let j = (compare_words b e o x y s).left in let p = positive exprs x in omega arith
  compares_own b e (chained c o y) s k lo hi = let j = (chain_words b e c o y s).op in absurd (omega arith)
  compares_own b e (other x n l r) s k lo hi = absurd (n (sym (kind_is exprs s) ∙ k))

  -- the last link of a chain, and the chain before it
  link_parts : (b e op : ℕ) (c y : Bare) → Laid src txt tr b (b_link op c y) → e ≡ b + size_b (b_link op c y) → (word_at tr (e - 1) 4 ≡ op) × Laid src txt tr b c × Laid src txt tr (b + size_b c) y × (e - 1 - 1 ≡ b + size_b c + size_b y)
  unfolding Laid size_b
  link_parts b e op c y d h = (field_is 0 (rooted (e - 1) (omega arith) d.1.0).fields, d.0.0, d.0.1, omega arith)

  told : (b e : ℕ) {x : Tree (a Expr)} → Shape x → Stands src txt tr b x e → Linked tr e → Chained x
  told b e (twofold o x y) s l =
      let j = op_words b e o x y s in
      let p = compares_own (b + size_b (plant x)) (e - 1) (shape y) (inner src txt tr s y j.behind j.ends (omega arith)) l.right l.low l.high in
      absurd (omega (arith, j.left, l.shared))
  told b e (compared o x y) s l = let j = (compare_words b e o x y s).op in let p = compares o in absurd (omega (arith, l.op))
  told b e (other x n m r) s l = absurd (n (sym (kind_is exprs s) ∙ l.root))
  told b e (chained c o y) s l = a_chain c o y

  linked : (b e : ℕ) {x : Tree (a Expr)} → Chained x → Stands src txt tr b x e → Two (link_text (word_at tr (e - 1) 4)) src txt tr b x (e - 1)
  unfolding plant
  linked b e (a_chain c o y) s =
      let w = link_parts b e (comparison_number o) (plant c) (plant y) s.laid s.ends in
      let p = positive exprs y in
      let h = w.3 in
      record {
        mid = b + size_b (plant c);
        left = tree.compare c;
        right = y;
        says = link-text o c y ∙ ap (λ (k : ℕ). link_text k (tree.compare c) y) (sym w.0);
        ahead = inner src txt tr s (tree.compare c) w.1 refl (omega arith);
        behind = inner src txt tr s y w.2 h (omega arith);
      }

  pub view_link : {b e : ℕ} {x : Tree (a Expr)} → Linked tr e → Stands src txt tr b x e → Two (link_text (word_at tr (e - 1) 4)) src txt tr b x (e - 1)
  view_link {b} {e} {x} l s = linked b e (told b e (shape x) s l) s

  -- the rule of the text
  ruled : (b e : ℕ) {x : Tree (a Expr)} → Shape x → Stands src txt tr b x e → (Linked tr e → ⊥) → rank_of x ≡ rule_at_lem (kind_at tr e) (word_at tr e 4)
  unfolding rank_of rule_at_lem
  ruled b e (twofold o x y) s plain = let j = op_words b e o x y s in rw (j.kind, j.op) (op_rule o)
  ruled b e (compared o x y) s plain = let j = compare_words b e o x y s in rw (j.kind, j.op) (compare_rule o)
  ruled b e (chained c o y) s plain = absurd (plain (chain_words b e c o y s))
  ruled b e (other x n l r) s plain = r (word_at tr e 4) ∙ ap (λ (k : ℕ). rule_at_lem k (word_at tr e 4)) (sym (kind_is exprs s))

  pub view_rule : {b e : ℕ} {x : Tree (a Expr)} → (Linked tr e → ⊥) → Stands src txt tr b x e → rank_of x ≡ rule_at_lem (kind_at tr e) (word_at tr e 4)
  view_rule {b} {e} {x} plain s = ruled b e (shape x) s plain

  pub link_rule : {b e : ℕ} {x : Tree (a Expr)} → Linked tr e → Stands src txt tr b x e → rank_of x ≡ 3
  link_rule {b} {e} {x} l s = chain_rule (told b e (shape x) s l)

-- ---- what the code answers

pub not_link : {tr : List ℕ} {e : ℕ} → (Linked tr e → ⊥) → (false ≡ true → Linked tr e) × (false ≡ false → Linked tr e → ⊥)
not_link h = (λ p. absurd (let z : ◌≡◌ {A = ℕ} 0 1 = cc in omega arith), λ p. h)

pub rule_eq : {k p k' p' : ℕ} → k ≡ k' → p ≡ p' → rule_at_lem k p ≡ rule_at_lem k' p'
rule_eq h i = rw (h, i)
