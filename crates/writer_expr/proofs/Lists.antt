-- Lists: the members, from the last to the first.
-- Assumes nothing.
use mathlib.Core.Path.{◌≡◌, refl, sym, ap, ◌∙◌}
use mathlib.Core.List.{List, [], ◌++◌, append_assoc, append-nil}
use Prim.Native.Nat.{ℕ, ◌+◌, ◌-◌}
use native.Mathlib.Omega.{arith}
use Rattle.ast.specs.Node.{none}
use Rattle.unparse.specs.Trees.{Item, a, some, list, Tree}
use Rattle.unparse.specs.Trees as tree
use Rattle.standard.specs.Text.{text, comma}
use Rattle.standard.specs.Bare.{size_b, head_b}
use Rattle.standard.specs.Plant.{plant}
use Rattle.writing.specs.Wrote.{Wrote}
use Rattle.writing.proofs.Writes.{nothing, then, same}
use Rattle.writer_expr.specs.Levels.{text_of}
use Rattle.writer_expr.specs.Laid.{Laid, Inline, exprs, names, pairs, Stands, SomeMember, SomeMembers, SomeList}
use Rattle.writer_expr.specs.Put.{Put, PutsMember, PutsList}
use Rattle.writing.specs.declared.back.Back.{Back}
use Rattle.writer_expr.proofs.Shapes.{positive, head_low, inner}

-- Of the text t of a list, which begins with node b and whose first member has the number f, the end was put: what is left of it is the text of members.
pub record LeftOf (i : Item) (src txt tr t : List ℕ) (b f : ℕ) (o n : Back) (e : ℕ) : Type 0 where
  pub tree : Tree (some i)
  pub done : List ℕ
  pub parts : t ≡ text_of tree ++ done
  pub stands : Stands src txt tr b tree e
  pub head : f ≡ head_b b (plant tree)
  pub wrote : Wrote done o n

-- members are parted by a comma and a space
parted : {i : Item} → Inline i → (l : Tree (some i)) (x : Tree (a i)) → text_of (tree.more l x) ≡ text_of l ++ (comma ++ text_of x)
unfolding text
parted exprs l x = refl
parted names l x = refl
parted pairs l x = refl

module _ (src txt tr : List ℕ) where
  -- the last member
  some_last : {i : Item} → Inline i → (b e : ℕ) (l : Tree (some i)) → Stands src txt tr b l e → SomeMember src txt tr e
  unfolding Laid size_b plant
  some_last {i} n b e (tree.one x) s = record { item = i; inline = n; from = b; tree = x; stands = inner src txt tr s x s.laid s.ends (omega arith) }
  some_last {i} n b e (tree.more l x) s = record { item = i; inline = n; from = b + size_b (plant l); tree = x; stands = inner src txt tr s x s.laid.1 (omega (arith, s.ends)) (omega arith) }

  pub some-member : {i : Item} → Inline i → {b e : ℕ} {l : Tree (some i)} → Stands src txt tr b l e → SomeMember src txt tr e
  some-member n {b} {e} {l} s = some_last n b e l s

  module _ {o o₁ : Back} {r : ℕ} (e f : ℕ) (p : PutsMember src txt tr e o o₁ r) {i : Item} (n : Inline i) where
    -- it is the first; it is not
    last_ends : (b : ℕ) (l : Tree (some i)) → Stands src txt tr b l e → f ≡ head_b b (plant l) → e - 1 ≡ f → Put (text_of l) b o o₁ r
    unfolding Laid size_b head_b plant text
    last_ends b (tree.one x) s h j = p i n b x (inner src txt tr s x s.laid s.ends (omega arith))
    last_ends b (tree.more l x) s h j = let u = head_low n b l in let q = positive n x in absurd (omega (arith, s.ends))

    last_goes : {o₂ : Back} (b : ℕ) (l : Tree (some i)) → Stands src txt tr b l e → f ≡ head_b b (plant l) → (e - 1 ≡ f → ⊥) → Wrote comma o₁ o₂
        → LeftOf i src txt tr (text_of l) b f o o₂ r
    unfolding Laid size_b head_b plant
    last_goes b (tree.one x) s h j w = absurd (j (omega (arith, s.ends)))
    last_goes b (tree.more l x) s h j w =
        let q = p i n (b + size_b (plant l)) x (inner src txt tr s x s.laid.1 (omega (arith, s.ends)) (omega arith)) in
        let o = q.first in
        record {
          tree = l;
          done = comma ++ text_of x;
          parts = parted n l x;
          stands = inner src txt tr s l s.laid.0 o (omega (arith, s.ends));
          head = h;
          wrote = then q.wrote w;
        }

    pub member_ends : {b : ℕ} {l : Tree (some i)} → Stands src txt tr b l e → f ≡ head_b b (plant l) → e - 1 ≡ f → Put (text_of l) b o o₁ r
    member_ends {b} {l} s h j = last_ends b l s h j

    pub member_goes : {b : ℕ} {l : Tree (some i)} {o₂ : Back} → Stands src txt tr b l e → f ≡ head_b b (plant l) → (e - 1 ≡ f → ⊥) → Wrote comma o₁ o₂
        → LeftOf i src txt tr (text_of l) b f o o₂ r
    member_goes {b} {l} s h j w = last_goes b l s h j w

  pub of_all : {i : Item} {b e f : ℕ} {l : Tree (some i)} (o : Back) → Stands src txt tr b l e → f ≡ head_b b (plant l) → LeftOf i src txt tr (text_of l) b f o o e
  of_all {l = l} o s h = record { tree = l; done = []; parts = sym (append-nil (text_of l)); stands = s; head = h; wrote = nothing o }

  module _ {i : Item} {t : List ℕ} {b f : ℕ} {o o₁ o₂ : Back} {e₁ : ℕ} (s : LeftOf i src txt tr t b f o o₁ e₁) where
    pub of_goes : {e₂ : ℕ} → LeftOf i src txt tr (text_of s.tree) b f o₁ o₂ e₂ → LeftOf i src txt tr t b f o o₂ e₂
    of_goes g = record {
      tree = g.tree;
      done = g.done ++ s.done;
      parts = s.parts ∙ ap (λ (u : List ℕ). u ++ s.done) g.parts ∙ append_assoc (text_of g.tree) g.done s.done;
      stands = g.stands;
      head = g.head;
      wrote = then s.wrote g.wrote;
    }

    pub of_ends : {r : ℕ} → Put (text_of s.tree) b o₁ o₂ r → Put t b o o₂ r
    of_ends g = record { wrote = same (sym s.parts) (then s.wrote g.wrote); first = g.first }

  -- ---- a list, which may be empty

  list_full : {i : Item} (b e f : ℕ) (l : Tree (list i)) → Inline i → Stands src txt tr b l e → f ≡ head_b b (plant l) → (f ≡ none → ⊥) → SomeMembers src txt tr e f
  unfolding Laid size_b head_b plant
  list_full b e f tree.nil n s h j = absurd (j h)
  list_full {i} b e f (tree.full l) n s h j = record { item = i; inline = n; from = b; tree = l; stands = inner src txt tr s l s.laid s.ends (omega arith); head = h }

  pub some-members : {e f : ℕ} → SomeList src txt tr e f → (f ≡ none → ⊥) → SomeMembers src txt tr e f
  some-members {e} {f} v j = list_full v.from e f v.tree v.inline v.stands v.head j

  list_none : {i : Item} → Inline i → (b e f : ℕ) (l : Tree (list i)) → Stands src txt tr b l e → f ≡ head_b b (plant l) → f ≡ none → (text_of l ≡ []) × (e ≡ b)
  unfolding size_b head_b plant text
  list_none n b e f tree.nil s h j = (refl, omega (arith, s.ends))
  list_none n b e f (tree.full l) s h j = let u = head_low n b l in absurd (omega (arith, s.ends, s.few))

  pub none_put : {o : Back} {e f : ℕ} → f ≡ none → PutsList src txt tr list e f o o e
  none_put {o} {e} {f} j i n b l s h = let q = list_none n b e f l s h j in record { wrote = same (sym q.0) (nothing o); first = q.1 }

  list_put : {o o₁ : Back} {r : ℕ} {i : Item} (n : Inline i) (b e f : ℕ) (l : Tree (list i)) → Stands src txt tr b l e → f ≡ head_b b (plant l) → (f ≡ none → ⊥)
      → PutsList src txt tr some e f o o₁ r → Put (text_of l) b o o₁ r
  unfolding Laid size_b head_b plant text
  list_put n b e f tree.nil s h j p = absurd (j h)
  list_put {i = i} n b e f (tree.full l) s h j p = p i n b l (inner src txt tr s l s.laid s.ends (omega arith)) h

  pub members_put : {o o₁ : Back} {r : ℕ} {e f : ℕ} → (f ≡ none → ⊥) → PutsList src txt tr some e f o o₁ r → PutsList src txt tr list e f o o₁ r
  members_put {e = e} {f = f} j p i n b l s h = list_put n b e f l s h j p
