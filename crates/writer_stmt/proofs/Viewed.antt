-- The words of each line say what it is.
-- Assumes nothing.
use mathlib.Core.Path.{◌≡◌, refl, sym, ap, ◌∙◌, subst}
use mathlib.Core.List.{List}
use Prim.Native.Nat.{ℕ, ◌+◌, ◌-◌, ◌<◌}
use native.Mathlib.Omega.{arith}
use lib.ListN.{get_or}
use Rattle.token.specs.Code as token
use Rattle.rendered.specs.Spelled.{spelled_fixed}
use Rattle.ast.specs.Kind as kind
use Rattle.unparse.specs.Trees.{Item, Name, a, Sort, Alone, Word, Tree}
use Rattle.unparse.specs.Trees as tree
use Rattle.unparse.specs.Levels.{X, T}
use Rattle.standard.specs.Text.{text}
use Rattle.standard.specs.Bare.{size_b, head_b, fields_b}
use Rattle.standard.specs.Plant.{plant, spelling}
use Rattle.writer_expr.specs.Levels.{text_whole}
use Rattle.writer_expr.specs.Laid.{Laid, Stands, kind_at, word_at}
use Rattle.writer_expr.proofs.Depth.{any_depth}
use Rattle.writer_expr.proofs.Shapes.{rooted, inner}
use Rattle.writer_stmt.specs.Words.{alone_of, form_of, name_at, return_text, asked_text, assign_text, for_text, def_text, class_text, Says}
use Rattle.writer_stmt.specs.Lines.{Line, stmt, elif, method, else, block_word_lem}
use Rattle.writer_stmt.proofs.View.{Simple, Opened, Branch, View, simple, opened, branched}

-- a name's text is its bytes
named : (d : ℕ) (n : Tree (a Name)) → text d X n ≡ spelling n
unfolding text
named d (tree.name Word.tee l) = refl
named d (tree.name Word.identifier l) = refl

module _ (d : ℕ) (src txt tr : List ℕ) where
  -- by the kind that the node has
  at_kind : (b m e : ℕ) (w : List ℕ) {k : ℕ} → kind_at tr e ≡ k → Says (form_of k) src txt tr b m e w → Says (form_of (kind_at tr e)) src txt tr b m e w
  at_kind b m e w h s = subst (λ (j : ℕ). Says (form_of j) src txt tr b m e w) (sym h) s

  at_block : (e : ℕ) {k v : ℕ} → kind_at tr e ≡ k → word_at tr e (block_word_lem k) ≡ v → word_at tr e (block_word_lem (kind_at tr e)) ≡ v
  at_block e {v = v} h p = subst (λ (j : ℕ). word_at tr e (block_word_lem j) ≡ v) (sym h) p

  viewed : {s : Sort} → Line s → (b e : ℕ) (x : Tree s) → Stands src txt tr b x e → b < e → View d src txt tr b (text d X x) e
  unfolding Laid size_b fields_b head_b plant text form_of alone_of block_word_lem
  viewed stmt b e (tree.expression x) s h =
      let r = rooted e (omega (arith, s.ends)) s.laid.1 in
      let k = r.kind in
      simple (ap block_word_lem k) (λ i. omega arith) (record {
        words = text_whole x;
        says = at_kind b (e - 1) e (text_whole x) k (record { tree = x; says = refl; stands = inner src txt tr s x s.laid.0.0 (omega (arith, s.ends)) (omega arith) });
        text = rw (any_depth tt d T x);
      })
  viewed stmt b e (tree.return x) s h =
      let r = rooted e (omega (arith, s.ends)) s.laid.1 in
      let k = r.kind in
      simple (ap block_word_lem k) (λ i. omega arith) (record {
        words = return_text x;
        says = at_kind b (e - 1) e (return_text x) k (record { tree = x; says = refl; stands = inner src txt tr s x s.laid.0.0 (omega (arith, s.ends)) (omega arith) });
        text = rw (any_depth tt d T x);
      })
  viewed stmt b e (tree.assign x y) s h =
      let r = rooted e (omega (arith, s.ends)) s.laid.1 in
      let k = r.kind in
      simple (ap block_word_lem k) (λ i. omega arith) (record {
        words = assign_text x y;
        says = at_kind b (e - 1) e (assign_text x y) k (record { mid = b + size_b (plant x); left = x; right = y; says = refl; ahead = inner src txt tr s x s.laid.0.0 refl (omega (arith, s.ends)); behind = inner src txt tr s y s.laid.0.1.0 (omega (arith, s.ends)) (omega arith) });
        text = rw (any_depth tt d T x, any_depth tt d T y);
      })
  viewed stmt b e (tree.alone Alone.break) s h =
      let r = rooted e (omega (arith, s.ends)) s.laid.1 in
      let k = r.kind in
      simple (ap block_word_lem k) (λ i. omega arith) (record {
        words = spelled_fixed token.Break;
        says = at_kind b (e - 1) e (spelled_fixed token.Break) k (record { says = refl; empty = omega (arith, s.ends) });
        text = refl;
      })
  viewed stmt b e (tree.alone Alone.continue) s h =
      let r = rooted e (omega (arith, s.ends)) s.laid.1 in
      let k = r.kind in
      simple (ap block_word_lem k) (λ i. omega arith) (record {
        words = spelled_fixed token.Continue;
        says = at_kind b (e - 1) e (spelled_fixed token.Continue) k (record { says = refl; empty = omega (arith, s.ends) });
        text = refl;
      })
  viewed stmt b e (tree.alone Alone.pass) s h =
      let r = rooted e (omega (arith, s.ends)) s.laid.1 in
      let k = r.kind in
      simple (ap block_word_lem k) (λ i. omega arith) (record {
        words = spelled_fixed token.Pass;
        says = at_kind b (e - 1) e (spelled_fixed token.Pass) k (record { says = refl; empty = omega (arith, s.ends) });
        text = refl;
      })
  viewed stmt b e (tree.while x y) s h =
      let r = rooted e (omega (arith, s.ends)) s.laid.1 in
      let k = r.kind in
      opened (λ i. let j = sym (ap block_word_lem k) ∙ i in omega arith) (λ i. omega arith) (record {
        mid = b + size_b (plant x);
        item = Item.Stmt;
        line = stmt;
        body = y;
        words = asked_text token.While x;
        says = at_kind b (b + size_b (plant x)) e (asked_text token.While x) k (record { tree = x; says = refl; stands = inner src txt tr s x s.laid.0.0 refl (omega (arith, s.ends)) });
        text = rw (any_depth tt d X x);
        behind = inner src txt tr s (y) s.laid.0.1.0 (omega (arith, s.ends)) (omega arith);
        head = at_block e k (ap (λ (l : List ℕ). get_or l 1 0) r.fields);
      })
  viewed elif b e (tree.elif x y) s h =
      let r = rooted e (omega (arith, s.ends)) s.laid.1 in
      let k = r.kind in
      opened (λ i. let j = sym (ap block_word_lem k) ∙ i in omega arith) (λ i. omega arith) (record {
        mid = b + size_b (plant x);
        item = Item.Stmt;
        line = stmt;
        body = y;
        words = asked_text token.Elif x;
        says = at_kind b (b + size_b (plant x)) e (asked_text token.Elif x) k (record { tree = x; says = refl; stands = inner src txt tr s x s.laid.0.0 refl (omega (arith, s.ends)) });
        text = rw (any_depth tt d X x);
        behind = inner src txt tr s (y) s.laid.0.1.0 (omega (arith, s.ends)) (omega arith);
        head = at_block e k (ap (λ (l : List ℕ). get_or l 1 0) r.fields);
      })
  viewed stmt b e (tree.for n x y) s h =
      let r = rooted e (omega (arith, s.ends)) s.laid.1 in
      let k = r.kind in
      opened (λ i. let j = sym (ap block_word_lem k) ∙ i in omega arith) (λ i. omega arith) (record {
        mid = b + size_b (plant x);
        item = Item.Stmt;
        line = stmt;
        body = y;
        words = for_text (name_at src tr e) x;
        says = at_kind b (b + size_b (plant x)) e (for_text (name_at src tr e) x) k ((record { tree = x; says = refl; stands = inner src txt tr s x s.laid.0.0 refl (omega (arith, s.ends)) }, r.inside));
        text = rw (any_depth tt d X x, named d n, r.bytes);
        behind = inner src txt tr s (y) s.laid.0.1.0 (omega (arith, s.ends)) (omega arith);
        head = at_block e k (ap (λ (l : List ℕ). get_or l 3 0) r.fields);
      })
  viewed stmt b e (tree.define (tree.def n l y)) s h =
      let r = rooted e (omega (arith, s.ends)) s.laid.1 in
      let k = r.kind in
      opened (λ i. let j = sym (ap block_word_lem k) ∙ i in omega arith) (λ i. omega arith) (record {
        mid = b + size_b (plant l);
        item = Item.Stmt;
        line = stmt;
        body = y;
        words = def_text (name_at src tr e) l;
        says = at_kind b (b + size_b (plant l)) e (def_text (name_at src tr e) l) k ((record { list = l; says = refl; stands = inner src txt tr s l s.laid.0.0 refl (omega (arith, s.ends)); head = ap (λ (l : List ℕ). get_or l 2 0) r.fields }, r.inside));
        text = rw (any_depth tt d X l, named d n, r.bytes);
        behind = inner src txt tr s (y) s.laid.0.1.0 (omega (arith, s.ends)) (omega arith);
        head = at_block e k (ap (λ (l : List ℕ). get_or l 3 0) r.fields);
      })
  viewed method b e (tree.def n l y) s h =
      let r = rooted e (omega (arith, s.ends)) s.laid.1 in
      let k = r.kind in
      opened (λ i. let j = sym (ap block_word_lem k) ∙ i in omega arith) (λ i. omega arith) (record {
        mid = b + size_b (plant l);
        item = Item.Stmt;
        line = stmt;
        body = y;
        words = def_text (name_at src tr e) l;
        says = at_kind b (b + size_b (plant l)) e (def_text (name_at src tr e) l) k ((record { list = l; says = refl; stands = inner src txt tr s l s.laid.0.0 refl (omega (arith, s.ends)); head = ap (λ (l : List ℕ). get_or l 2 0) r.fields }, r.inside));
        text = rw (any_depth tt d X l, named d n, r.bytes);
        behind = inner src txt tr s (y) s.laid.0.1.0 (omega (arith, s.ends)) (omega arith);
        head = at_block e k (ap (λ (l : List ℕ). get_or l 3 0) r.fields);
      })
  viewed stmt b e (tree.class n l) s h =
      let r = rooted e (omega (arith, s.ends)) s.laid.1 in
      let k = r.kind in
      opened (λ i. let j = sym (ap block_word_lem k) ∙ i in omega arith) (λ i. omega arith) (record {
        mid = b;
        item = Item.Def;
        line = method;
        body = tree.full l;
        words = class_text (name_at src tr e);
        says = at_kind b (b) e (class_text (name_at src tr e)) k (record { says = refl; empty = refl; name = r.inside });
        text = rw (named d n, r.bytes);
        behind = inner src txt tr s (tree.full l) s.laid.0.0 (omega (arith, s.ends)) (omega arith);
        head = at_block e k (ap (λ (l : List ℕ). get_or l 2 0) r.fields);
      })
  viewed else b e (tree.otherwise y) s h =
      let r = rooted e (omega (arith, s.ends)) s.laid.1 in
      let k = r.kind in
      opened (λ i. let j = sym (ap block_word_lem k) ∙ i in omega arith) (λ i. omega arith) (record {
        mid = b;
        item = Item.Stmt;
        line = stmt;
        body = y;
        words = spelled_fixed token.Else;
        says = at_kind b (b) e (spelled_fixed token.Else) k (record { says = refl; empty = refl });
        text = refl;
        behind = inner src txt tr s (y) s.laid.0.0 (omega (arith, s.ends)) (omega arith);
        head = at_block e k (ap (λ (l : List ℕ). get_or l 0 0) r.fields);
      })
  viewed else b e tree.without s h = absurd (omega (arith, s.ends))
  viewed stmt b e (tree.branch x y z u) s h =
      let r = rooted e (omega (arith, s.ends)) s.laid.1 in
      let k = r.kind in
      branched k (record {
        mid = b + size_b (plant x);
        mid₁ = b + size_b (plant x) + size_b (plant y);
        mid₂ = b + size_b (plant x) + size_b (plant y) + size_b (plant z);
        body = y;
        elifs = z;
        last = u;
        words = asked_text token.If x;
        says = at_kind b (b + size_b (plant x)) e (asked_text token.If x) k (record { tree = x; says = refl; stands = inner src txt tr s x s.laid.0.0 refl (omega (arith, s.ends)) });
        text = rw (any_depth tt d X x);
        body_stands = inner src txt tr s y s.laid.0.1.0 refl (omega (arith, s.ends));
        elifs_stand = inner src txt tr s z s.laid.0.1.1.0 refl (omega (arith, s.ends));
        last_stands = inner src txt tr s u s.laid.0.1.1.1.0 (omega (arith, s.ends)) (omega arith);
        body_head = ap (λ (l : List ℕ). get_or l 1 0) r.fields;
        elifs_head = ap (λ (l : List ℕ). get_or l 2 0) r.fields;
        last_head = ap (λ (l : List ℕ). get_or l 3 0) r.fields;
      })

  -- ---- by what the code has found of its kind

  module _ {s : Sort} (n : Line s) {b e : ℕ} {x : Tree s} (t : Stands src txt tr b x e) (h : b < e) where
    pub as_simple : (kind_at tr e ≡ kind.If → ⊥) → block_word_lem (kind_at tr e) ≡ 0 → Simple d src txt tr b (text d X x) e
    as_simple i j = go (viewed n b e x t h)
      where
        go : View d src txt tr b (text d X x) e → Simple d src txt tr b (text d X x) e
        go (simple k l v) = v
        go (opened k l v) = absurd (k j)
        go (branched k v) = absurd (i k)

    pub as_opened : (kind_at tr e ≡ kind.If → ⊥) → (block_word_lem (kind_at tr e) ≡ 0 → ⊥) → Opened d src txt tr b (text d X x) e
    as_opened i j = go (viewed n b e x t h)
      where
        go : View d src txt tr b (text d X x) e → Opened d src txt tr b (text d X x) e
        go (simple k l v) = absurd (j k)
        go (opened k l v) = v
        go (branched k v) = absurd (i k)

    pub as_branch : kind_at tr e ≡ kind.If → Branch d src txt tr b (text d X x) e
    as_branch i = go (viewed n b e x t h)
      where
        go : View d src txt tr b (text d X x) e → Branch d src txt tr b (text d X x) e
        go (simple k l v) = absurd (l i)
        go (opened k l v) = absurd (l i)
        go (branched k v) = v
