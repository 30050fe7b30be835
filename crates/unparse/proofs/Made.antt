-- Steps that the machine of erased trees makes a tree of: it leaves one more value, in which that tree is. And lists.
-- Assumes nothing.
use mathlib.Core.Path.{◌≡◌, refl}
use mathlib.Core.List.{List, [], ◌∷◌}
use Prim.Native.Nat.{ℕ}
use Rattle.token.specs.Code.{Comma}
use Rattle.pyhyeon.specs.Action as act
use Rattle.unparse.specs.Trees.{Item, Load, Expr, a, some, list, chain, other, Tree}
use Rattle.unparse.specs.Trees as tree
use Rattle.unparse.proofs.Write.{Steps, key, run, ◌›◌, perform}
use Rattle.unparse.specs.Values.{Value}
use Rattle.unparse.proofs.Machine.{Kept, keep, join, build, trees, loads}

-- what is kept: these loads ahead, and above the values st one more, of which this holds
pub record Result {Z : Type 0} (get : Value → Z) (z : Z) (l : List Load) (st : List Value) (k : Kept) : Type 0 where
  pub code : ℕ
  pub load : Load
  pub top : Value
  pub is : k ≡ keep l code load (top ∷ st)
  pub good : get top ≡ z

pub made : {Z : Type 0} {get : Value → Z} {z : Z} {l : List Load} {st : List Value} {c : ℕ} {n : Load} {v : Value} → get v ≡ z → Result get z l st (keep l c n (v ∷ st))
made e = record { code = _; load = _; top = _; is = refl; good = e }

-- steps that make a value of which this holds
pub record Made {Z : Type 0} (get : Value → Z) (z : Z) (e : Steps) : Type 0 where
  pub at : (l : List Load) (c : ℕ) (n : Load) (st : List Value) → Result get z l st (perform trees e (keep (loads e l) c n st))

-- the tree of each sort in a value
abbrev pub the_expr : Value → Tree (a Expr)
the_expr v = v.item Expr

abbrev pub the_chain : Value → Tree chain
the_chain v = v.links

abbrev pub whole : (i : Item) → Value → Tree (list i)
whole i v = v.whole i

abbrev pub growing : (i : Item) → Value → Tree (some i)
growing i v = v.growing i

abbrev pub item : (i : Item) → Value → Tree (a i)
item i v = v.item i

abbrev pub after : Value → Tree other
after v = v.after

-- lists
pub one_of : {i : Item} {x : Tree (a i)} {e : Steps} → Made (item i) x e → Made (growing i) (tree.one x) (e › run act.list_one)
unfolding build
one_of f = record { at = λ l c n st. let h = f.at l c n st in rw h.is (made (cc)) }

pub joined_by : {i : Item} {x : Tree (some i)} {y : Tree (a i)} {d e : Steps} → Made (growing i) x d → Made (growing i) (tree.one y) e → Made (growing i) (tree.more x y) (d › e › run act.list_join)
unfolding build join
joined_by {d} {e} f g = record {
  at = λ l c n st.
      let h₁ = f.at (loads e l) c n st in
      let h₂ = g.at l h₁.code h₁.load (h₁.top ∷ st) in
      rw (h₁.is, h₂.is) (made (rw (h₁.good, h₂.good)));
}

pub comma_joined : {i : Item} {x : Tree (some i)} {y : Tree (a i)} {d e : Steps} → Made (growing i) x d → Made (growing i) (tree.one y) e → Made (growing i) (tree.more x y) (d › key Comma › e › run act.list_join)
unfolding build join
comma_joined {d} {e} f g = record {
  at = λ l c n st.
      let h₁ = f.at ([] ∷ loads e l) c n st in
      let h₂ = g.at l Comma [] (h₁.top ∷ st) in
      rw (h₁.is, h₂.is) (made (rw (h₁.good, h₂.good)));
}

pub for_nil : (i : Item) → Made (whole i) tree.nil (run act.list_none)
unfolding build
for_nil i = record { at = λ l c n st. made refl }

pub for_full : {i : Item} {x : Tree (some i)} {e : Steps} → Made (growing i) x e → Made (whole i) (tree.full x) (e › run act.list_done)
unfolding build
for_full f = record { at = λ l c n st. let h = f.at l c n st in rw h.is (made (cc)) }
