-- Lists of lines: the members, from the last to the first.
-- Assumes nothing.
use mathlib.Core.Path.{◌≡◌, refl, sym, ap, ◌∙◌}
use mathlib.Core.List.{List, [], ◌++◌, append_assoc, append-nil}
use Prim.Native.Nat.{ℕ, ◌+◌, ◌-◌, ◌≤◌, ◌<◌}
use native.Mathlib.Omega.{arith}
use Rattle.ast.specs.Node.{none}
use Rattle.unparse.specs.Trees.{Item, a, some, list, Tree}
use Rattle.unparse.specs.Trees as tree
use Rattle.unparse.specs.Levels.{X}
use Rattle.standard.specs.Text.{text}
use Rattle.standard.specs.Bare.{size_b, head_b}
use Rattle.standard.specs.Plant.{plant}
use Rattle.writing.specs.Wrote.{Wrote}
use Rattle.writing.proofs.Writes.{nothing, then, same}
use Rattle.writer_expr.specs.Laid.{Laid, Stands}
use Rattle.writer_expr.specs.Put.{Put}
use Rattle.writing.specs.declared.back.Back.{Back}
use Rattle.writer_expr.proofs.Shapes.{inner}
use Rattle.writer_stmt.specs.Lines.{Line, stmt, elif, method, SomeLine, PutsLine, PutsLines}

-- Of the text t of a list, which begins with node b and whose first member has the number f, the end was put: what is left of it is the text of members.
pub record LeftOf (d : ℕ) (i : Item) (src txt tr t : List ℕ) (b f : ℕ) (o n : Back) (e : ℕ) : Type 0 where
  pub tree : Tree (some i)
  pub done : List ℕ
  pub parts : t ≡ text d X tree ++ done
  pub stands : Stands src txt tr b tree e
  pub head : f ≡ head_b b (plant tree)
  pub wrote : Wrote done o n

-- nothing parts members
parted : (d : ℕ) {i : Item} → Line (a i) → (l : Tree (some i)) (x : Tree (a i)) → text d X (tree.more l x) ≡ text d X l ++ text d X x
unfolding text
parted d stmt l x = refl
parted d elif l x = refl
parted d method l x = refl

-- a member has a node; the first one stands before the list's end
positive : {i : Item} → Line (a i) → (x : Tree (a i)) → 1 ≤ size_b (plant x)
unfolding plant size_b
positive stmt (tree.expression x) = omega arith
positive stmt (tree.assign x y) = omega arith
positive stmt (tree.return x) = omega arith
positive stmt (tree.alone w) = omega arith
positive stmt (tree.branch x b y z) = omega arith
positive stmt (tree.while x b) = omega arith
positive stmt (tree.for n x b) = omega arith
positive stmt (tree.define (tree.def n l b)) = omega arith
positive stmt (tree.class n l) = omega arith
positive elif (tree.elif x b) = omega arith
positive method (tree.def n l b) = omega arith

head_low : {i : Item} → Line (a i) → (b : ℕ) (l : Tree (some i)) → head_b b (plant l) < b + size_b (plant l)
unfolding plant head_b size_b
head_low n b (tree.one x) = let h = positive n x in omega arith
head_low n b (tree.more l x) = let h = head_low n b l in omega arith

module _ (d : ℕ) (src txt tr : List ℕ) where
  -- the last member
  last_line : {i : Item} → Line (a i) → (b e : ℕ) (l : Tree (some i)) → Stands src txt tr b l e → SomeLine src txt tr e
  unfolding Laid size_b plant
  last_line {i} n b e (tree.one x) s = let p = positive n x in record { sort = a i; line = n; from = b; tree = x; stands = inner src txt tr s x s.laid s.ends (omega arith); there = omega (arith, s.ends) }
  last_line {i} n b e (tree.more l x) s =
      let p = positive n x in
      record { sort = a i; line = n; from = b + size_b (plant l); tree = x; stands = inner src txt tr s x s.laid.1 (omega (arith, s.ends)) (omega arith); there = omega (arith, s.ends) }

  pub some-line : {i : Item} → Line (a i) → {b e : ℕ} {l : Tree (some i)} → Stands src txt tr b l e → SomeLine src txt tr e
  some-line n {b} {e} {l} s = last_line n b e l s

  module _ {o o₁ : Back} {r : ℕ} (e f : ℕ) (p : PutsLine src txt tr d e o o₁ r) {i : Item} (n : Line (a i)) where
    -- it is the first; it is not
    last_ends : (b : ℕ) (l : Tree (some i)) → Stands src txt tr b l e → f ≡ head_b b (plant l) → e - 1 ≡ f → Put (text d X l) b o o₁ r
    unfolding Laid size_b head_b plant text
    last_ends b (tree.one x) s h j = let q = positive n x in p (a i) n b x (inner src txt tr s x s.laid s.ends (omega arith)) (omega (arith, s.ends))
    last_ends b (tree.more l x) s h j = let u = head_low n b l in let q = positive n x in absurd (omega (arith, s.ends))

    last_goes : (b : ℕ) (l : Tree (some i)) → Stands src txt tr b l e → f ≡ head_b b (plant l) → (e - 1 ≡ f → ⊥) → LeftOf d i src txt tr (text d X l) b f o o₁ r
    unfolding Laid size_b head_b plant
    last_goes b (tree.one x) s h j = absurd (j (omega (arith, s.ends)))
    last_goes b (tree.more l x) s h j =
        let k = positive n x in
        let q = p (a i) n (b + size_b (plant l)) x (inner src txt tr s x s.laid.1 (omega (arith, s.ends)) (omega arith)) (omega (arith, s.ends)) in
        let o = q.first in
        record {
          tree = l;
          done = text d X x;
          parts = parted d n l x;
          stands = inner src txt tr s l s.laid.0 o (omega (arith, s.ends));
          head = h;
          wrote = q.wrote;
        }

    pub member_ends : {b : ℕ} {l : Tree (some i)} → Stands src txt tr b l e → f ≡ head_b b (plant l) → e - 1 ≡ f → Put (text d X l) b o o₁ r
    member_ends {b} {l} s h j = last_ends b l s h j

    pub member_goes : {b : ℕ} {l : Tree (some i)} → Stands src txt tr b l e → f ≡ head_b b (plant l) → (e - 1 ≡ f → ⊥) → LeftOf d i src txt tr (text d X l) b f o o₁ r
    member_goes {b} {l} s h j = last_goes b l s h j

  module _ {i : Item} {t : List ℕ} {b f : ℕ} {o o₁ o₂ : Back} {e₁ : ℕ} (s : LeftOf d i src txt tr t b f o o₁ e₁) where
    pub of_goes : {e₂ : ℕ} → LeftOf d i src txt tr (text d X s.tree) b f o₁ o₂ e₂ → LeftOf d i src txt tr t b f o o₂ e₂
    of_goes g = record {
      tree = g.tree;
      done = g.done ++ s.done;
      parts = s.parts ∙ ap (λ (u : List ℕ). u ++ s.done) g.parts ∙ append_assoc (text d X g.tree) g.done s.done;
      stands = g.stands;
      head = g.head;
      wrote = then s.wrote g.wrote;
    }

    pub of_ends : {r : ℕ} → Put (text d X s.tree) b o₁ o₂ r → Put t b o o₂ r
    of_ends g = record { wrote = same (sym s.parts) (then s.wrote g.wrote); first = g.first }

  -- ---- a list, which may be empty

  -- all of it is left
  list_full : {i : Item} (o : Back) (b e f : ℕ) (l : Tree (list i)) → Stands src txt tr b l e → f ≡ head_b b (plant l) → (f ≡ none → ⊥) → LeftOf d i src txt tr (text d X l) b f o o e
  unfolding Laid size_b head_b plant text
  list_full o b e f tree.nil s h j = absurd (j h)
  list_full o b e f (tree.full l) s h j =
      record { tree = l; done = []; parts = sym (append-nil (text d X l)); stands = inner src txt tr s l s.laid s.ends (omega arith); head = h; wrote = nothing o }

  pub of_all : {i : Item} {b e f : ℕ} {l : Tree (list i)} (o : Back) → Stands src txt tr b l e → f ≡ head_b b (plant l) → (f ≡ none → ⊥) → LeftOf d i src txt tr (text d X l) b f o o e
  of_all {b = b} {e = e} {f = f} {l = l} o s h j = list_full o b e f l s h j

  list_none : {i : Item} → Line (a i) → (b e f : ℕ) (l : Tree (list i)) → Stands src txt tr b l e → f ≡ head_b b (plant l) → f ≡ none → (text d X l ≡ []) × (e ≡ b)
  unfolding size_b head_b plant text
  list_none n b e f tree.nil s h j = (refl, omega (arith, s.ends))
  list_none n b e f (tree.full l) s h j = let u = head_low n b l in absurd (omega (arith, s.ends, s.few))

  pub none_put : {o : Back} {e f : ℕ} → f ≡ none → PutsLines src txt tr d e f o o e
  none_put {o} {e} {f} j i n b l s h = let q = list_none n b e f l s h j in record { wrote = same (sym q.0) (nothing o); first = q.1 }
