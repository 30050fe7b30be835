-- The room that trees need: up the ladder, and of lists and signs.
-- Assumes nothing.
use mathlib.Core.List.{List, [], ◌∷◌}
use Prim.Native.Nat.{ℕ, suc, ◌≤◌}
use native.Mathlib.Omega.{arith}
use Rattle.unparse.specs.Trees.{Item, Expr, a, some, Sign, Op, Tree}
use Rattle.unparse.specs.Trees as tree
use Rattle.unparse.specs.Levels.{Level, T as Lt, X, E, O, A, C, S, P, U, G, F, level_of, below}
use Rattle.unparse.proofs.Write.{raise, need}
use Rattle.unparse.specs.Brackets.{several_of, tuple_of}
use Rattle.unparse.proofs.Machine.{join}
use Rattle.unparse.proofs.Signs.{wrap}

-- the lower the rule, the more room, but never more than as an E
pub record Climbs (f : Level → ℕ) : Type 0 where
  pub eo : f E ≤ f O
  pub oa : f O ≤ f A
  pub ac : f A ≤ f C
  pub cs : f C ≤ f S
  pub sp : f S ≤ f P
  pub pu : f P ≤ f U
  pub ug : f U ≤ f G
  pub gf : f G ≤ f F
  pub fx : f F ≤ f X
  pub tx : f Lt ≤ f X
  pub xe : f X ≤ suc (f E)

raised : (own : Level) (d : ℕ) → Climbs (λ l. raise own l d)
unfolding raise
raised Lt d = omega arith
raised X d = omega arith
raised E d = omega arith
raised O d = omega arith
raised A d = omega arith
raised C d = omega arith
raised S d = omega arith
raised P d = omega arith
raised U d = omega arith
raised G d = omega arith
raised F d = omega arith

pub climbs : (x : Tree (a Expr)) → Climbs (λ l. need l x)
unfolding need raise
climbs (tree.literal c n) = raised F 0
climbs (tree.variable x) = raised F 0
climbs (tree.unary g x) = raised G _
climbs (tree.binary o x y) = raised (level_of o) _
climbs (tree.compare c) = raised C _
climbs (tree.attribute x n) = raised F _
climbs (tree.apply x y) = raised F _
climbs (tree.index x y) = raised F _
climbs (tree.bracket b x) = raised F _
climbs (tree.void v) = raised F _
climbs (tree.dict x) = raised F _
climbs (tree.set x) = raised F _
climbs (tree.single x) = omega arith
climbs (tree.tuple x) = omega arith
climbs (tree.lambda x y) = raised E _

pub need_wrap : (s : List Sign) (x : Tree (a Expr)) (m : ℕ) → need G x ≤ m → need G (wrap s x) ≤ m
unfolding need raise wrap
need_wrap [] x m le = le
need_wrap (g ∷ s) x m le = need_wrap s (tree.unary g x) m le

pub need_join : {i : Item} (g h : Tree (some i)) (m : ℕ) → need X g ≤ m → need X h ≤ m → need X (join g h) ≤ m
unfolding need join
need_join g (tree.one x) m p q = omega arith
need_join g (tree.more h x) m p q = omega (arith, need_join g h m p (omega arith))

pub need_binary : (o : Op) (x y : Tree (a Expr)) (m : ℕ) → need (level_of o) x ≤ m → need (below o) y ≤ m → need (level_of o) (tree.binary o x y) ≤ m
unfolding need raise
need_binary Op.or x y m p q = omega arith
need_binary Op.and x y m p q = omega arith
need_binary Op.plus x y m p q = omega arith
need_binary Op.minus x y m p q = omega arith
need_binary Op.star x y m p q = omega arith
need_binary Op.slashes x y m p q = omega arith
need_binary Op.slash x y m p q = omega arith
need_binary Op.percent x y m p q = omega arith

need_several : (g : Tree (some Expr)) (y : Tree (a Expr)) (m : ℕ) → need X g ≤ m → need X y ≤ m → need X (several_of g y) ≤ m
unfolding need several_of
need_several (tree.one x) y m p q = omega arith
need_several (tree.more g x) y m p q = omega (arith, need_several g x m (omega arith) (omega arith))

pub need_tuple : (g : Tree (some Expr)) (m : ℕ) → need X g ≤ m → need F (tuple_of g) ≤ m
unfolding need raise tuple_of
need_tuple (tree.one x) m p = p
need_tuple (tree.more g y) m p = need_several g y m (omega arith) (omega arith)

-- bare, where it has two members or more
pub need_bare : (g : Tree (some Expr)) (y : Tree (a Expr)) (m : ℕ) → need X g ≤ m → need X y ≤ m → need Lt (tuple_of (tree.more g y)) ≤ m
unfolding need raise tuple_of
need_bare g y m p q = need_several g y m p q
