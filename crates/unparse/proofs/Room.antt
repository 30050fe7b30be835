-- The room that the values at hand need, rule by rule, and what keeps it.
-- Assumes nothing.
use mathlib.Core.Path.{◌≡◌, refl}
use mathlib.Core.List.{List, ◌∷◌}
use Prim.Native.Nat.{ℕ, suc, ◌≤◌, max}
use Rattle.grammar.specs.Grammar.{Part, many, tail}
use Rattle.grammar.proofs.Back.{One, o_none, o_more, o_end, o_trail, o_item}
use Rattle.pyhyeon.specs.Action.{Action}
use Rattle.pyhyeon.specs.Rules.{Rule, Program, Line, Simple, Block, Class}
use Rattle.pyhyeon.specs.Rules as rule
use Rattle.unparse.specs.Trees.{Item, Expr, Stmt}
use Rattle.unparse.specs.Levels.{Level, T as Lt, X, O, A, C, S, P, U, F}
use Rattle.unparse.proofs.Write.{need}
use Rattle.unparse.specs.Values.{Value}
use Rattle.unparse.specs.Brackets.{tuple_of}
use Rattle.unparse.proofs.Machine.{Kept, trees}

-- above the values st one more, of which f is at most m
pub record Top (f : Value → ℕ) (m : ℕ) (st vs : List Value) : Type 0 where
  pub top : Value
  pub is : vs ≡ top ∷ st
  pub small : f top ≤ m

pub on : {f : Value → ℕ} {m : ℕ} {st : List Value} {v : Value} → f v ≤ m → Top f m st (v ∷ st)
on le = record { top = _; is = refl; small = le }

-- what a rule leaves
abbrev pub bound : Rule → Value → ℕ
bound Program v = need X v.result
bound Line v = need X (v.growing Stmt)
bound Simple v = need X (v.item Stmt)
bound Block v = suc (need X (v.whole Stmt))
bound Class v = need X (v.item Stmt)
bound rule.E v = need X (v.item Expr)
bound rule.O v = need O (v.item Expr)
bound rule.A v = need A (v.item Expr)
bound rule.C v = need C (v.item Expr)
bound rule.S v = need S (v.item Expr)
bound rule.P v = need P (v.item Expr)
bound rule.U v = need U (v.item Expr)
bound rule.F v = need F (v.item Expr)

abbrev pub Left : ℕ → Rule → Kept → Kept → Type 0
Left m r k k' = Top (bound r) m k.values k'.values

-- the room for an expression; for a list in the making, and as a bare tuple; for a list
abbrev pub expr : Level → Value → ℕ
expr l v = need l (v.item Expr)

abbrev pub item : Item → Value → ℕ
item i v = need X (v.item i)

abbrev pub growing : Item → Value → ℕ
growing i v = need X (v.growing i)

abbrev pub several : Value → ℕ
several v = max (need X (v.growing Expr)) (need Lt (tuple_of (v.growing Expr)))

abbrev pub whole : Item → Value → ℕ
whole i v = need X (v.whole i)

-- with the Block that it is in
abbrev pub body : Value → ℕ
body v = suc (need X (v.whole Stmt))

abbrev pub links : Value → ℕ
links v = need X v.links

module _ {m : ℕ} where
  pub less : {f g : Value → ℕ} {st vs : List Value} → ((v : Value) → f v ≤ m → g v ≤ m) → Top f m st vs → Top g m st vs
  less i h = record { top = h.top; is = h.is; small = i h.top h.small }

  -- what is repeated keeps what each time keeps
  pub many_keeps : {q : Part Action Rule} {f : Value → ℕ} {st : List Value} {k k' : Kept} → ((k k' : Kept) → One trees (Left m) q k k' → Top f m st k.values → Top f m st k'.values) →
      One trees (Left m) (many q) k k' → Top f m st k.values → Top f m st k'.values
  many_keeps g o_none h = h
  many_keeps g (o_more v w) h = many_keeps g w (g _ _ v h)

  pub tail_keeps : {c : ℕ} {q : Part Action Rule} {f : Value → ℕ} {st : List Value} {k k' : Kept} → ((k k' : Kept) → One trees (Left m) q k k' → Top f m st k.values → Top f m st k'.values) →
      One trees (Left m) (tail c q) k k' → Top f m st k.values → Top f m st k'.values
  tail_keeps g o_end h = h
  tail_keeps g o_trail h = h
  tail_keeps g (o_item v w) h = tail_keeps g w (g _ _ v h)
