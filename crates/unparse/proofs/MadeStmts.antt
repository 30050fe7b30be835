-- The machine of erased trees makes each form of statement of its steps, where it makes its parts of theirs.
-- Assumes nothing.
use mathlib.Core.Path.{refl}
use mathlib.Core.List.{[], ◌∷◌}
use Prim.Native.Nat.{ℕ}
use Rattle.token.specs.Code as token
use Rattle.token.specs.Code.{LParen, RParen, Equal, Indent}
use Rattle.pyhyeon.specs.Action as act
use Rattle.unparse.specs.Trees.{Load, Expr, Name, Stmt, Elif, Def, a, some, list, other, Word, Alone, Tree, word_code, alone_code, alone_kind}
use Rattle.unparse.specs.Trees as tree
use Rattle.unparse.proofs.Write.{Steps, put, key, run, ◌›◌, simple, block}
use Rattle.unparse.specs.Values.{Value, a_token}
use Rattle.unparse.specs.Brackets.{filled}
use Rattle.unparse.proofs.Machine.{build, loads}
use Rattle.unparse.proofs.Codes.{word_is, alone_is}
use Rattle.unparse.proofs.Made.{made, Made, the_expr, whole, growing, item, after}

-- statements
pub simply : {x : Tree (a Stmt)} {e : Steps} → Made (item Stmt) x e → Made (growing Stmt) (tree.one x) (simple e)
unfolding build
simply f = record { at = λ l c n st. let h = f.at ([] ∷ l) c n st in rw h.is (made (cc)) }

pub for_expression : {x : Tree (a Expr)} {e : Steps} → Made the_expr x e → Made (item Stmt) (tree.expression x) (e › run act.expr)
unfolding build
for_expression f = record { at = λ l c n st. let h = f.at l c n st in rw h.is (made (cc)) }

pub for_assign : {x y : Tree (a Expr)} {d e : Steps} → Made the_expr x d → Made the_expr y e → Made (item Stmt) (tree.assign x y) (d › key Equal › e › run act.assign)
unfolding build
for_assign {d} {e} f g = record {
  at = λ l c n st.
      let h₁ = f.at ([] ∷ loads e l) c n st in
      let h₂ = g.at l Equal [] (h₁.top ∷ st) in
      rw (h₁.is, h₂.is) (made (cc));
}

pub for_return : {x : Tree (a Expr)} {e : Steps} → Made the_expr x e → Made (item Stmt) (tree.return x) (key token.Return › run act.mark › e › run act.return)
unfolding build
for_return f = record { at = λ l c n st. let h = f.at l token.Return [] (a_token token.Return [] ∷ st) in rw h.is (made (cc)) }

pub for_alone : (w : Alone) → Made (item Stmt) (tree.alone w) (key (alone_code w) › run (act.alone (alone_kind w)))
unfolding build
for_alone w = record { at = λ l c n st. made (rw (alone_is w)) }

-- a block
pub body : {Z : Type 0} {get : Value → Z} {z : Z} {e : Steps} → Made get z e → Made get z (block e)
body f = record { at = λ l c n st. let h = f.at ([] ∷ l) Indent [] st in rw h.is (made h.good) }

pub for_while : {x : Tree (a Expr)} {y : Tree (list Stmt)} {d e : Steps} → Made the_expr x d → Made (whole Stmt) y e → Made (item Stmt) (tree.while x y) (key token.While › run act.mark › d › e › run act.while)
unfolding build
for_while {d} {e} f g = record {
  at = λ l c n st.
      let h₁ = f.at (loads e l) token.While [] (a_token token.While [] ∷ st) in
      let h₂ = g.at l h₁.code h₁.load (h₁.top ∷ a_token token.While [] ∷ st) in
      rw (h₁.is, h₂.is) (made (cc));
}

pub for_for : {x : Tree (a Expr)} {y : Tree (list Stmt)} {d e : Steps} (w : Word) (i : Load) → Made the_expr x d → Made (whole Stmt) y e →
    Made (item Stmt) (tree.for (tree.name w i) x y) (key token.For › run act.mark › put (word_code w) i › run act.mark › key token.In › d › e › run act.for)
unfolding build
for_for {d} {e} w i f g = record {
  at = λ l c n st.
      let h₁ = f.at (loads e l) token.In [] (a_token (word_code w) i ∷ a_token token.For [] ∷ st) in
      let h₂ = g.at l h₁.code h₁.load (h₁.top ∷ a_token (word_code w) i ∷ a_token token.For [] ∷ st) in
      rw (h₁.is, h₂.is) (made (cc (word_is w)));
}

-- a definition: a method, and a statement
pub for_def : {x : Tree (list Name)} {y : Tree (list Stmt)} {d e : Steps} (w : Word) (i : Load) (k : ℕ) → Made (whole Name) x d → Made (whole Stmt) y e →
    Made (item Def) (tree.def (tree.name w i) x y) ((key token.Def › run act.mark › put (word_code w) i › run act.mark › key LParen › d › key RParen › e) › run (act.define k))
unfolding build
for_def {d} {e} w i k f g = record {
  at = λ l c n st.
      let h₁ = f.at ([] ∷ loads e l) LParen [] (a_token (word_code w) i ∷ a_token token.Def [] ∷ st) in
      let h₂ = g.at l RParen [] (h₁.top ∷ a_token (word_code w) i ∷ a_token token.Def [] ∷ st) in
      rw (h₁.is, h₂.is) (made (cc (word_is w)));
}

pub for_define : {x : Tree (list Name)} {y : Tree (list Stmt)} {d e : Steps} (w : Word) (i : Load) (k : ℕ) → Made (whole Name) x d → Made (whole Stmt) y e →
    Made (item Stmt) (tree.define (tree.def (tree.name w i) x y)) ((key token.Def › run act.mark › put (word_code w) i › run act.mark › key LParen › d › key RParen › e) › run (act.define k))
unfolding build
for_define {d} {e} w i k f g = record {
  at = λ l c n st.
      let h₁ = f.at ([] ∷ loads e l) LParen [] (a_token (word_code w) i ∷ a_token token.Def [] ∷ st) in
      let h₂ = g.at l RParen [] (h₁.top ∷ a_token (word_code w) i ∷ a_token token.Def [] ∷ st) in
      rw (h₁.is, h₂.is) (made (cc (word_is w)));
}

-- the methods of a class
pub methods : {x : Tree (some Def)} {e : Steps} → Made (growing Def) x e → Made (λ v. filled (v.whole Def)) x (e › run act.list_done)
unfolding build filled
methods f = record { at = λ l c n st. let h = f.at l c n st in rw h.is (made h.good) }

pub for_class : {x : Tree (some Def)} {e : Steps} (w : Word) (i : Load) → Made (λ v. filled (v.whole Def)) x e →
    Made (item Stmt) (tree.class (tree.name w i) x) (key token.Class › run act.mark › put (word_code w) i › run act.mark › e › run act.class)
unfolding build
for_class {e} w i f = record { at = λ l c n st. let h = f.at l (word_code w) i (a_token (word_code w) i ∷ a_token token.Class [] ∷ st) in rw h.is (made (cc (word_is w))) }

pub for_elif : {x : Tree (a Expr)} {y : Tree (list Stmt)} {d e : Steps} → Made the_expr x d → Made (whole Stmt) y e → Made (growing Elif) (tree.one (tree.elif x y)) (key token.Elif › run act.mark › d › e › run act.elif › run act.list_one)
unfolding build
for_elif {d} {e} f g = record {
  at = λ l c n st.
      let h₁ = f.at (loads e l) token.Elif [] (a_token token.Elif [] ∷ st) in
      let h₂ = g.at l h₁.code h₁.load (h₁.top ∷ a_token token.Elif [] ∷ st) in
      rw (h₁.is, h₂.is) (made (cc));
}

pub for_else : {x : Tree (list Stmt)} {e : Steps} → Made (whole Stmt) x e → Made after (tree.otherwise x) (key token.Else › run act.mark › e › run act.else › run act.list_one › run act.list_done)
unfolding build
for_else f = record { at = λ l c n st. let h = f.at l token.Else [] (a_token token.Else [] ∷ st) in rw h.is (made (cc)) }

pub for_without : Made after tree.without (run act.list_none)
unfolding build
for_without = record { at = λ l c n st. made refl }

pub for_branch : {x : Tree (a Expr)} {y : Tree (list Stmt)} {z : Tree (list Elif)} {u : Tree other} {e₁ e₂ e₃ e₄ : Steps} →
    Made the_expr x e₁ → Made (whole Stmt) y e₂ → Made (whole Elif) z e₃ → Made after u e₄ →
    Made (item Stmt) (tree.branch x y z u) (key token.If › run act.mark › e₁ › e₂ › e₃ › e₄ › run act.branch)
unfolding build
for_branch {e₂} {e₃} {e₄} f g h i = record {
  at = λ l c n st.
      let h₁ = f.at (loads e₂ (loads e₃ (loads e₄ l))) token.If [] (a_token token.If [] ∷ st) in
      let h₂ = g.at (loads e₃ (loads e₄ l)) h₁.code h₁.load (h₁.top ∷ a_token token.If [] ∷ st) in
      let h₃ = h.at (loads e₄ l) h₂.code h₂.load (h₂.top ∷ h₁.top ∷ a_token token.If [] ∷ st) in
      let h₄ = i.at l h₃.code h₃.load (h₃.top ∷ h₂.top ∷ h₁.top ∷ a_token token.If [] ∷ st) in
      rw (h₁.is, h₂.is, h₃.is, h₄.is) (made (cc));
}

pub for_program : {x : Tree (list Stmt)} {e : Steps} → Made (whole Stmt) x e → Made (λ v. v.result) (tree.program x) (e › run act.program)
unfolding build
for_program f = record { at = λ l c n st. let h = f.at l c n st in rw h.is (made (cc)) }
