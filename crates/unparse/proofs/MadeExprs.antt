-- The machine of erased trees makes each form of expression of its steps, where it makes its parts of theirs.
-- Assumes nothing.
use mathlib.Core.Path.{◌≡◌, refl, ap, sym, subst, ◌∙◌}
use mathlib.Core.List.{List, [], ◌∷◌}
use Prim.Native.Nat.{ℕ}
use Rattle.token.specs.Code.{LParen, RParen, LBracket, RBracket, LBrace, RBrace, Colon, Comma, Dot, Lambda}
use Rattle.ast.specs.Kind as kind
use Rattle.pyhyeon.specs.Symbol.{Tee}
use Rattle.pyhyeon.specs.Action as act
use Rattle.unparse.specs.Trees.{Load, Expr, Name, Pair, a, some, list, chain, several, Literal, Word, Sign, Op, Comparison, Bracket, Void, Tree, literal_code, word_code, sign_code, op_code, comparison_code}
use Rattle.unparse.specs.Trees as tree
use Rattle.unparse.specs.Levels.{Level, T as Lt, X, E, O, A, C, S, P, U, G, F, same_level, pick, level_of, below}
use Rattle.unparse.proofs.Write.{Steps, put, key, run, ◌›◌, perform, fit, bracketed, voided, tupled, ending, dress, enclosed}
use Rattle.unparse.specs.Values.{Value, a_token, the_signs, the_growing}
use Rattle.unparse.specs.Brackets.{filled, several_of, tuple_of, enclosing}
use Rattle.unparse.specs.Operators.{sign_of}
use Rattle.unparse.proofs.Machine.{Kept, keep, join, build, trees, loads}
use Rattle.unparse.proofs.Signs.{wrap, signed_is}
use Rattle.unparse.proofs.Levels.{Rungs, fitted}
use Rattle.unparse.proofs.Codes.{literal_is, word_is, sign_is, op_is, comparison_is}
use Rattle.unparse.proofs.Made.{made, Made, the_expr, the_chain, whole, growing, item}

-- After signs: with the signs that were there before, it is the same.
pub record Over (x : Tree (a Expr)) (l : List Load) (v : Value) (st : List Value) (k : Kept) : Type 0 where
  pub code : ℕ
  pub load : Load
  pub top : Value
  pub under : Value
  pub is : k ≡ keep l code load (top ∷ under ∷ st)
  pub good : wrap under.signs (top.item Expr) ≡ wrap v.signs x

pub record Signed (x : Tree (a Expr)) (e : Steps) : Type 0 where
  pub at : (l : List Load) (c : ℕ) (n : Load) (v : Value) (st : List Value) → Over x l v st (perform trees e (keep (loads e l) c n (v ∷ st)))

abbrev pub MadeAt : Tree (a Expr) → Level → Steps → Type 0
MadeAt x Lt e = Made the_expr x e
MadeAt x X e = Made the_expr x e
MadeAt x E e = Made the_expr x e
MadeAt x O e = Made the_expr x e
MadeAt x A e = Made the_expr x e
MadeAt x C e = Made the_expr x e
MadeAt x S e = Made the_expr x e
MadeAt x P e = Made the_expr x e
MadeAt x U e = Made the_expr x e
MadeAt x G e = Signed x e
MadeAt x F e = Made the_expr x e

dressed : {x : Tree (a Expr)} {e : Steps} → Signed x e → Made the_expr x (dress e)
unfolding build wrap
dressed {e} f = record { at = λ l c n st. let h = f.at l c n (the_signs []) st in rw h.is (made (signed_is h.under.signs h.top ∙ h.good)) }

unsigned : {x : Tree (a Expr)} {e : Steps} → Made the_expr x e → Signed x e
unsigned {e} f = record { at = λ l c n v st. let h = f.at l c n (v ∷ st) in record { code = h.code; load = h.load; top = h.top; under = v; is = h.is; good = ap (wrap v.signs) h.good } }

enclosed_is : {x : Tree (a Expr)} {e : Steps} → Made the_expr x e → Made the_expr x (enclosed e)
unfolding build
enclosed_is {e} f = record { at = λ l c n st. let h = f.at ([] ∷ l) LParen [] (a_token LParen [] ∷ st) in rw h.is (made h.good) }

pub by_build : (x : Tree (a Expr)) → Rungs (λ d l e. MadeAt x l e)
by_build x = record { step_t = λ f. f; step_x = λ f. f; step_e = λ f. f; step_o = λ f. f; step_a = λ f. f; step_c = λ f. f; step_s = λ f. f; step_p = λ f. f; step_u = λ f. dressed f; step_g = λ f. unsigned f; step_f = λ f. enclosed_is f }

pub for_literal : (c : Literal) (n : Load) → Made the_expr (tree.literal c n) (put (literal_code c) n › run act.literal)
unfolding build
for_literal c n = record { at = λ l c₀ n₀ st. made (rw (literal_is c)) }

pub for_variable : (w : Word) (n : Load) → Made the_expr (tree.variable (tree.name w n)) (put (word_code w) n › run (act.named kind.Variable))
unfolding build
for_variable w n = record { at = λ l c₀ n₀ st. made (rw (word_is w)) }

pub for_unary : {x : Tree (a Expr)} {e : Steps} (g : Sign) → Signed x e → Signed (tree.unary g x) (key (sign_code g) › run act.signs_more › e)
unfolding build wrap
for_unary {e} g f = record {
  at = λ l c n v st. let h = f.at l (sign_code g) [] (the_signs (sign_of (sign_code g) ∷ v.signs)) st in
      record { code = h.code; load = h.load; top = h.top; under = h.under; is = h.is; good = h.good ∙ ap (λ (g : Sign). wrap v.signs (tree.unary g _)) (sign_is g) };
}

for_binary : {x y : Tree (a Expr)} {d e : Steps} (o : Op) → Made the_expr x d → Made the_expr y e → Made the_expr (tree.binary o x y) (d › key (op_code o) › run act.mark › e › run act.binary)
unfolding build
for_binary {d} {e} o f g = record {
  at = λ l c n st.
      let h₁ = f.at ([] ∷ loads e l) c n st in
      let h₂ = g.at l (op_code o) [] (a_token (op_code o) [] ∷ h₁.top ∷ st) in
      rw (h₁.is, h₂.is) (made (cc (op_is o)));
}

pub for_op : (x y : Tree (a Expr)) (o : Op) (d e : Steps) → MadeAt x (level_of o) d → MadeAt y (below o) e → MadeAt (tree.binary o x y) (level_of o) (d › key (op_code o) › run act.mark › e › run act.binary)
for_op x y Op.or d e f g = for_binary Op.or f g
for_op x y Op.and d e f g = for_binary Op.and f g
for_op x y Op.plus d e f g = for_binary Op.plus f g
for_op x y Op.minus d e f g = for_binary Op.minus f g
for_op x y Op.star d e f g = for_binary Op.star f g
for_op x y Op.slashes d e f g = for_binary Op.slashes f g
for_op x y Op.slash d e f g = for_binary Op.slash f g
for_op x y Op.percent d e f g = for_binary Op.percent f g

pub for_two : {x y : Tree (a Expr)} {d e : Steps} (o : Comparison) → Made the_expr x d → Made the_expr y e → Made the_chain (tree.two o x y) (d › key (comparison_code o) › run act.mark › e › run act.compare)
unfolding build
for_two {d} {e} o f g = record {
  at = λ l c n st.
      let h₁ = f.at ([] ∷ loads e l) c n st in
      let h₂ = g.at l (comparison_code o) [] (a_token (comparison_code o) [] ∷ h₁.top ∷ st) in
      rw (h₁.is, h₂.is) (made (cc (comparison_is o)));
}

pub for_link : {x : Tree chain} {y : Tree (a Expr)} {d e : Steps} (o : Comparison) → Made the_chain x d → Made the_expr y e → Made the_chain (tree.link x o y) (d › key (comparison_code o) › run act.mark › e › run act.compare_more)
unfolding build
for_link {d} {e} o f g = record {
  at = λ l c n st.
      let h₁ = f.at ([] ∷ loads e l) c n st in
      let h₂ = g.at l (comparison_code o) [] (a_token (comparison_code o) [] ∷ h₁.top ∷ st) in
      rw (h₁.is, h₂.is) (made (cc (comparison_is o)));
}

pub for_compare : {x : Tree chain} {e : Steps} → Made the_chain x e → Made the_expr (tree.compare x) (e › run act.compared)
unfolding build
for_compare f = record { at = λ l c n st. let h = f.at l c n st in rw h.is (made (ap tree.compare h.good)) }

pub for_attribute : {x : Tree (a Expr)} {e : Steps} (w : Word) (n : Load) → Made the_expr x e → Made the_expr (tree.attribute x (tree.name w n)) (e › key Dot › put (word_code w) n › run act.attribute)
unfolding build
for_attribute w i f = record { at = λ l c n st. let h = f.at ([] ∷ i ∷ l) c n st in rw h.is (made (cc (word_is w))) }

pub for_apply : {x : Tree (a Expr)} {y : Tree (list Expr)} {d e : Steps} → Made the_expr x d → Made (whole Expr) y e → Made the_expr (tree.apply x y) (d › key LParen › e › key RParen › run act.apply)
unfolding build
for_apply {d} {e} f g = record {
  at = λ l c n st.
      let h₁ = f.at ([] ∷ loads e ([] ∷ l)) c n st in
      let h₂ = g.at ([] ∷ l) LParen [] (h₁.top ∷ st) in
      rw (h₁.is, h₂.is) (made (cc));
}

pub for_index : {x y : Tree (a Expr)} {d e : Steps} → Made the_expr x d → Made the_expr y e → Made the_expr (tree.index x y) (d › key LBracket › e › key RBracket › run act.index)
unfolding build
for_index {d} {e} f g = record {
  at = λ l c n st.
      let h₁ = f.at ([] ∷ loads e ([] ∷ l)) c n st in
      let h₂ = g.at ([] ∷ l) LBracket [] (h₁.top ∷ st) in
      rw (h₁.is, h₂.is) (made (cc));
}

pub for_bracket : {x : Tree (list Expr)} {e : Steps} (b : Bracket) → Made (whole Expr) x e → Made the_expr (tree.bracket b x) (bracketed b e)
unfolding build enclosing
for_bracket Bracket.squares f = record { at = λ l c n st. let h = f.at ([] ∷ l) LBracket [] (a_token LBracket [] ∷ st) in rw h.is (made (cc)) }
for_bracket Bracket.treeset f = record { at = λ l c n st. let h = f.at ([] ∷ l) LBrace [] (a_token Tee [] ∷ st) in rw h.is (made (cc)) }

pub for_void : (v : Void) → Made the_expr (tree.void v) (voided v)
unfolding build
for_void Void.no_pairs = record { at = λ l c n st. made refl }
for_void Void.no_members = record { at = λ l c n st. made refl }

pub for_dict : {x : Tree (some Pair)} {e : Steps} → Made (growing Pair) x e → Made the_expr (tree.dict x) (key LBrace › run act.mark › e › run act.list_done › key RBrace › run (act.enclose kind.Dict))
unfolding build enclosing filled
for_dict f = record { at = λ l c n st. let h = f.at ([] ∷ l) LBrace [] (a_token LBrace [] ∷ st) in rw h.is (made (cc)) }

pub for_set : {x : Tree (some Expr)} {e : Steps} → Made (growing Expr) x e → Made the_expr (tree.set x) (key LBrace › run act.mark › e › run act.list_done › key RBrace › run (act.enclose kind.Set))
unfolding build enclosing filled
for_set f = record { at = λ l c n st. let h = f.at ([] ∷ l) LBrace [] (a_token LBrace [] ∷ st) in rw h.is (made (cc)) }

pub for_pair : {x y : Tree (a Expr)} {d e : Steps} → Made the_expr x d → Made the_expr y e → Made (item Pair) (tree.pair x y) (d › key Colon › e › run act.pair)
unfolding build
for_pair {d} {e} f g = record {
  at = λ l c n st.
      let h₁ = f.at ([] ∷ loads e l) c n st in
      let h₂ = g.at l Colon [] (h₁.top ∷ st) in
      rw (h₁.is, h₂.is) (made (cc));
}

pub single_in_parens : {x : Tree (a Expr)} {e : Steps} → Made the_expr x e →
    Made the_expr (tree.single x) (key LParen › run act.mark › (e › key Comma › run act.list_one) › run act.list_done › key RParen › run (act.enclose kind.Tuple))
unfolding build enclosing filled tuple_of
single_in_parens f = record { at = λ l c n st. let h = f.at ([] ∷ [] ∷ l) LParen [] (a_token LParen [] ∷ st) in rw h.is (made (cc)) }

pub single_bare : {x : Tree (a Expr)} {e : Steps} → Made the_expr x e → Made the_expr (tree.single x) ((e › key Comma › run act.list_one) › run act.tuple)
unfolding build tuple_of
single_bare f = record { at = λ l c n st. let h = f.at ([] ∷ l) c n st in rw h.is (made (cc)) }

pub for_lambda : {x : Tree (list Name)} {y : Tree (a Expr)} {d e : Steps} → Made (whole Name) x d → Made the_expr y e → Made the_expr (tree.lambda x y) (key Lambda › run act.mark › d › key Colon › e › run act.lambda)
unfolding build
for_lambda {d} {e} f g = record {
  at = λ l c n st.
      let h₁ = f.at ([] ∷ loads e l) Lambda [] (a_token Lambda [] ∷ st) in
      let h₂ = g.at l Colon [] (h₁.top ∷ a_token Lambda [] ∷ st) in
      rw (h₁.is, h₂.is) (made (cc));
}

-- the members of a tuple as a list
pub members : Tree several → Tree (some Expr)
members (tree.both x y) = tree.more (tree.one x) y
members (tree.also x y) = tree.more (members x) y

several_is : (x : Tree several) (y : Tree (a Expr)) → several_of (members x) y ≡ tree.also x y
unfolding members several_of
several_is (tree.both x z) y = refl
several_is (tree.also x z) y = ap (λ (t : Tree several). tree.also t y) (several_is x z)

tuple_is : (x : Tree several) → tuple_of (members x) ≡ tree.tuple x
unfolding members tuple_of several_of
tuple_is (tree.both x y) = refl
tuple_is (tree.also x y) = ap tree.tuple (several_is x y)

pub for_both : {x y : Tree (a Expr)} {d e : Steps} → Made the_expr x d → Made the_expr y e → Made (growing Expr) (members (tree.both x y)) (d › key Comma › run act.list_one › e › run act.list_one › run act.list_join)
unfolding build members join
for_both {d} {e} f g = record {
  at = λ l c n st.
      let h₁ = f.at ([] ∷ loads e l) c n st in
      let h₂ = g.at l Comma [] (the_growing (λ i. tree.one (h₁.top.item i)) h₁.top.after ∷ st) in
      rw (h₁.is, h₂.is) (made (cc));
}

pub for_also : (x : Tree several) {y : Tree (a Expr)} {d e : Steps} → Made (growing Expr) (members x) d → Made the_expr y e → Made (growing Expr) (members (tree.also x y)) (d › key Comma › e › run act.list_one › run act.list_join)
unfolding build members join
for_also x {d} {e} f g = record {
  at = λ l c n st.
      let h₁ = f.at ([] ∷ loads e l) c n st in
      let h₂ = g.at l Comma [] (h₁.top ∷ st) in
      rw (h₁.is, h₂.is) (made (cc));
}

pub bare : {x : Tree several} {e : Steps} → Made (growing Expr) (members x) e → Made the_expr (tree.tuple x) (e › run act.tuple)
unfolding build
bare {x} f = record { at = λ l c n st. let h = f.at l c n st in rw h.is (made (ap tuple_of h.good ∙ tuple_is x)) }

pub in_parens : {x : Tree several} {e : Steps} → Made (growing Expr) (members x) e → Made the_expr (tree.tuple x) (key LParen › run act.mark › e › run act.list_done › key RParen › run (act.enclose kind.Tuple))
unfolding build enclosing filled
in_parens {x} f = record { at = λ l c n st. let h = f.at ([] ∷ l) LParen [] (a_token LParen [] ∷ st) in rw h.is (made (ap tuple_of h.good ∙ tuple_is x)) }

pub either : (x : Tree (a Expr)) {e : Steps} (l : Level) → Made the_expr x (e › run act.tuple) →
    Made the_expr x (key LParen › run act.mark › e › run act.list_done › key RParen › run (act.enclose kind.Tuple)) → MadeAt x l (tupled l e)
either x {e} l f g = by (same_level l Lt)
  where
    by : (y : Dec (l ≡ Lt)) → MadeAt x l (pick y (e › run act.tuple) (fit F l (key LParen › run act.mark › e › run act.list_done › key RParen › run (act.enclose kind.Tuple))))
    by (yes h) = subst (λ (l : Level). MadeAt x l (e › run act.tuple)) (sym h) f
    by (no h) = fitted (by_build x) {d = 0} F tt g l

pub for_name : (w : Word) (n : Load) → Made (growing Name) (tree.one (tree.name w n)) (ending Name (put (word_code w) n))
unfolding build
for_name w i = record { at = λ l c n st. made (cc (word_is w)) }
