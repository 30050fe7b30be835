-- What each action does to the room that the values need.
-- Assumes nothing.
use mathlib.Core.Path.{◌≡◌, subst, sym}
use mathlib.Core.List.{List, ◌∷◌}
use Prim.Native.Nat.{ℕ, suc, ◌≤◌, max}
use native.Mathlib.Omega.{arith}
use Rattle.ast.specs.Kind as kind
use Rattle.pyhyeon.specs.Action.{binary, compare, compare_more, signs_more, list_one, list_done}
use Rattle.pyhyeon.specs.Action as act
use Rattle.unparse.specs.Trees.{Item, Expr, Name, Pair, Stmt, Elif, Def}
use Rattle.unparse.specs.Trees as tree
use Rattle.unparse.specs.Levels.{Level, T as Lt, X, C, S, U, G, F, level_of, below}
use Rattle.unparse.proofs.Write.{raise, need}
use Rattle.unparse.specs.Values.{Value}
use Rattle.unparse.specs.Brackets.{filled, tuple_of, enclosing}
use Rattle.unparse.specs.Operators.{op_of}
use Rattle.unparse.proofs.Machine.{Kept, signed as with-signs, join, build, trees}
use Rattle.unparse.proofs.Signs.{wrap, signed_is}
use Rattle.unparse.proofs.Needs.{climbs, need_wrap, need_join, need_binary, need_tuple, need_bare}
use Rattle.unparse.proofs.Room.{Top, on, expr, item, growing, several, whole, body, links}

-- expressions
module _ {m : ℕ} {st : List Value} (k : Kept) where
  -- an operator: of the level of its rule
  pub a_binary : {st₁ : List Value} {t : Value} (l l' : Level) → level_of (op_of t.code) ≡ l → below (op_of t.code) ≡ l' → Top (expr l) m st st₁ → Top (expr l') m (t ∷ st₁) k.values → Top (expr l) m st (build binary k).values
  unfolding build
  a_binary {t} l l' e e' p q =
      let o = op_of t.code in
      let x = p.top.item Expr in
      let y = q.top.item Expr in
      let z : need l (tree.binary o x y) ≤ m =
      subst (λ (l : Level). need l (tree.binary o x y) ≤ m) e
      (need_binary o x y m (subst (λ (l : Level). need l x ≤ m) (sym e) p.small) (subst (λ (l : Level). need l y ≤ m) (sym e') q.small)) in
      rw (q.is, p.is) (on z)

  pub a_compare : {st₁ : List Value} {t : Value} → Top (expr S) m st st₁ → Top (expr S) m (t ∷ st₁) k.values → Top links m st (build compare k).values
  unfolding build need
  a_compare p q = let x = p.small in let y = q.small in rw (q.is, p.is) (on (omega arith))

  pub a_link : {st₁ : List Value} {t : Value} → Top links m st st₁ → Top (expr S) m (t ∷ st₁) k.values → Top links m st (build compare_more k).values
  unfolding build need
  a_link p q = let x = p.small in let y = q.small in rw (q.is, p.is) (on (omega arith))

  pub a_compared : Top links m st k.values → Top (expr C) m st (build act.compared k).values
  unfolding build need raise
  a_compared p = rw p.is (on p.small)

  pub a_signs : Top (λ v. 0) m st k.values → Top (λ v. 0) m st (build signs_more k).values
  unfolding build
  a_signs p = rw p.is (on (omega arith))

  pub a_unary : {st₁ : List Value} → Top (λ v. 0) m st st₁ → Top (expr F) m st₁ k.values → Top (expr U) m st (build act.unary k).values
  unfolding build
  a_unary p q =
      let s = p.top.signs in
      let x = q.top.item Expr in
      let z : need G (wrap s x) ≤ m = need_wrap s x m (omega (arith, (climbs x).gf, q.small)) in
      let u : need U (wrap s x) ≤ m = omega (arith, (climbs (wrap s x)).ug) in
      let u₁ : need U ((with-signs s q.top).item Expr) ≤ m = rw (signed_is s q.top) u in
      rw (q.is, p.is) (on u₁)

  pub a_one : (i : Item) → Top (item i) m st k.values → Top (growing i) m st (build list_one k).values
  unfolding build need
  a_one i p = rw p.is (on p.small)

  pub a_join : {st₁ : List Value} (i : Item) → Top (growing i) m st st₁ → Top (growing i) m st₁ k.values → Top (growing i) m st (build act.list_join k).values
  unfolding build
  a_join i p q = rw (q.is, p.is) (on (need_join _ _ m p.small q.small))

  pub a_done : (i : Item) → Top (growing i) m st k.values → Top (whole i) m st (build list_done k).values
  unfolding build need
  a_done i p = rw p.is (on p.small)

  pub a_pair : {st₁ : List Value} → Top (expr X) m st st₁ → Top (expr X) m st₁ k.values → Top (item Pair) m st (build act.pair k).values
  unfolding build need
  a_pair p q = let x = p.small in let y = q.small in rw (q.is, p.is) (on (omega arith))

  pub a_lambda : {st₁ : List Value} {t : Value} → Top (whole Name) m (t ∷ st) st₁ → Top (expr X) m st₁ k.values → Top (expr X) (suc m) st (build act.lambda k).values
  unfolding build need raise
  a_lambda p q = let x = p.small in let y = q.small in rw (q.is, p.is) (on (omega arith))

  -- brackets
  pub a_list : {t : Value} → Top (whole Expr) m (t ∷ st) k.values → Top (expr F) m st (build (act.enclose kind.List) k).values
  unfolding build need raise enclosing
  a_list p = rw p.is (on p.small)

  pub a_treeset : {t : Value} → Top (whole Expr) m (t ∷ st) k.values → Top (expr F) m st (build (act.enclose kind.TreeSet) k).values
  unfolding build need raise enclosing
  a_treeset p = rw p.is (on p.small)

  pub a_dict : {t : Value} (c : ℕ) → Top (growing Pair) m (t ∷ st) k.values → Top (expr F) m st (build (act.enclose kind.Dict) (trees.shift c (build list_done k))).values
  unfolding build need raise enclosing filled
  a_dict c p = rw p.is (on p.small)

  pub a_set : {t : Value} (c : ℕ) → Top (growing Expr) m (t ∷ st) k.values → Top (expr F) m st (build (act.enclose kind.Set) (trees.shift c (build list_done k))).values
  unfolding build need raise enclosing filled
  a_set c p = rw p.is (on p.small)

  pub a_tuple : {t : Value} (c : ℕ) → Top (growing Expr) m (t ∷ st) k.values → Top (expr F) m st (build (act.enclose kind.Tuple) (trees.shift c (build list_done k))).values
  unfolding build enclosing filled
  a_tuple c p = let z = need_tuple (p.top.growing Expr) m p.small in rw p.is (on z)

  pub a_group : {t : Value} → Top (expr X) m (t ∷ st) k.values → Top (expr F) m st (build act.group k).values
  unfolding build
  a_group p = let z : need F (p.top.item Expr) ≤ m = omega (arith, p.small, (climbs (p.top.item Expr)).fx) in rw p.is (on z)

  -- what stands behind an F
  pub a_attribute : Top (expr F) m st k.values → Top (expr F) m st (build act.attribute k).values
  unfolding build need raise
  a_attribute p = rw p.is (on p.small)

  pub a_apply : {st₁ : List Value} → Top (expr F) m st st₁ → Top (whole Expr) m st₁ k.values → Top (expr F) m st (build act.apply k).values
  unfolding build need raise
  a_apply p q = let x = p.small in let y = q.small in rw (q.is, p.is) (on (omega arith))

  pub a_index : {st₁ : List Value} → Top (expr F) m st st₁ → Top (expr X) m st₁ k.values → Top (expr F) m st (build act.index k).values
  unfolding build need raise
  a_index p q = let x = p.small in let y = q.small in rw (q.is, p.is) (on (omega arith))

  -- a bare tuple
  pub a_several : {st₁ : List Value} → Top (growing Expr) m st st₁ → Top (expr X) m st₁ k.values → Top several m st (build act.list_join (build list_one k)).values
  unfolding build need join
  a_several p q =
      let g = p.top.growing Expr in
      let y = q.top.item Expr in
      let x = p.small in let z = q.small in
      let b : need Lt (tuple_of (tree.more g y)) ≤ m = need_bare g y m p.small q.small in
      rw (q.is, p.is) (on (omega arith))

  pub a_lone : Top (expr X) m st k.values → Top several m st (build list_one k).values
  unfolding build need raise tuple_of
  a_lone p = let x = p.small in rw p.is (on (omega arith))

  pub a_bare : Top several m st k.values → Top (expr Lt) m st (build act.tuple k).values
  unfolding build
  a_bare p = let z : need Lt (tuple_of (p.top.growing Expr)) ≤ m = omega (arith, p.small) in rw p.is (on z)

-- statements
module _ {m : ℕ} {st : List Value} (k : Kept) where
  pub a_expr : Top (expr Lt) m st k.values → Top (item Stmt) m st (build act.expr k).values
  unfolding build need
  a_expr p = rw p.is (on p.small)

  pub a_assign : {st₁ : List Value} → Top (expr Lt) m st st₁ → Top (expr Lt) m st₁ k.values → Top (item Stmt) m st (build act.assign k).values
  unfolding build need
  a_assign p q = let x = p.small in let y = q.small in rw (q.is, p.is) (on (omega arith))

  pub a_return : {t : Value} → Top (expr Lt) m (t ∷ st) k.values → Top (item Stmt) m st (build act.return k).values
  unfolding build need
  a_return p = rw p.is (on p.small)

  pub a_while : {st₁ : List Value} {t : Value} → Top (expr X) m (t ∷ st) st₁ → Top body m st₁ k.values → Top (item Stmt) m st (build act.while k).values
  unfolding build need
  a_while p q = let x = p.small in let y = q.small in rw (q.is, p.is) (on (omega arith))

  pub a_for : {st₁ : List Value} {t u : Value} → Top (expr X) m (u ∷ t ∷ st) st₁ → Top body m st₁ k.values → Top (item Stmt) m st (build act.for k).values
  unfolding build need
  a_for p q = let x = p.small in let y = q.small in rw (q.is, p.is) (on (omega arith))

  -- a definition, as a statement and as a method
  pub a_define : {st₁ : List Value} {t u : Value} (c : ℕ) → Top (whole Name) m (u ∷ t ∷ st) st₁ → Top body m st₁ k.values → Top (λ v. max (item Stmt v) (item Def v)) m st (build (act.define c) k).values
  unfolding build need
  a_define c p q = let x = p.small in let y = q.small in rw (q.is, p.is) (on (omega arith))

  pub a_elif : {st₁ : List Value} {t : Value} → Top (expr X) m (t ∷ st) st₁ → Top body m st₁ k.values → Top (item Elif) m st (build act.elif k).values
  unfolding build need
  a_elif p q = let x = p.small in let y = q.small in rw (q.is, p.is) (on (omega arith))

  pub a_else : {t : Value} → Top body m (t ∷ st) k.values → Top (λ v. need X v.after) m st (build list_done (build list_one (build act.else k))).values
  unfolding build need
  a_else p = rw p.is (on p.small)

  pub a_branch : {st₁ st₂ st₃ : List Value} {t : Value} → Top (expr X) m (t ∷ st) st₁ → Top body m st₁ st₂ → Top (whole Elif) m st₂ st₃ → Top (λ v. need X v.after) m st₃ k.values → Top (item Stmt) m st (build act.branch k).values
  unfolding build need
  a_branch p q r s = let x = p.small in let y = q.small in let z = r.small in let u = s.small in rw (s.is, r.is, q.is, p.is) (on (omega arith))

  pub a_class : {t u : Value} (c : ℕ) → Top (growing Def) m (u ∷ t ∷ st) k.values → Top (item Stmt) m st (build act.class (trees.shift c (build list_done k))).values
  unfolding build need filled
  a_class c p = rw p.is (on p.small)

  pub a_program : Top (whole Stmt) m st k.values → Top (λ v. need X v.result) m st (build act.program k).values
  unfolding build need
  a_program p = rw p.is (on p.small)
