-- The levels whose operators group left: O, A, S and P.
-- Assumes nothing.
use mathlib.Core.Path.{◌≡◌, refl}
use mathlib.Core.List.{List, [], ◌∷◌}
use Prim.Native.Nat.{ℕ, ◌<◌}
use native.Mathlib.Omega.{arith}
use lib.Dec.{T}
use Rattle.grammar.specs.Grammar.{Part, act, tok, call, many, ◌⨾◌}
use Rattle.grammar.specs.Descent.{null, begins}
use Rattle.grammar.specs.Check.{low, takes}
use Rattle.token.specs.declared.NodeNumber.{NodeNumber}
use Rattle.pyhyeon.specs.Machine.{Value, token, node}
use Rattle.pyhyeon.specs.Action.{Action, mark, binary}
use Rattle.pyhyeon.specs.Rules.{Rule, level}
use Rattle.pyhyeon.specs.Tables.{first, least, rank, pyhyeon}
use Rattle.leaves.specs.declared.State.{State}
use Rattle.leaves.specs.declared.Added.{Added}
use Rattle.leaves.specs.Contract.{Writes}
use Rattle.joint.proofs.Chain.{turn_on, turn_end}
use Rattle.joint.proofs.Ends.{tok_mark, wrote_then}
use Rattle.levels.specs.declared.Level.{Level}
use Rattle.levels.specs.declared.Level.TheVariants as level
use Rattle.std.specs.Prelude.{Option, Some, None}
use Rattle.levels.specs.declared.Left.{Left}
use Rattle.levels.proofs.Operators.{operand}
use Rattle.levels.specs.Levels.{operators, Held, Joined}
use Rattle.levels.proofs.Operands.{Joint, Goes, goes_alone}

-- an operator with its right operand
abbrev term : Rule → List ℕ → Part Action Rule
term r ops = tok ops ⨾ act mark ⨾ call r ⨾ act binary

-- It begins with an operator. No rule has such a part for comparisons, of which the laws hold all the same.
pub begins_level : (l : Level) → begins first (term (operand l) (operators l)) ≡ operators l
unfolding begins null
begins_level level.Or = refl
begins_level level.And = refl
begins_level level.Comparison = refl
begins_level level.Sum = refl
begins_level level.Product = refl

pub low_level : (l : Level) → T (low pyhyeon 100 100 (many (term (operand l) (operators l))))
unfolding low takes least rank
low_level level.Or = tt
low_level level.And = tt
low_level level.Comparison = tt
low_level level.Sum = tt
low_level level.Product = tt

-- nothing stands before the first operand; an operator before any other
pub held_none : (s : State) → Held None s
held_none s = record { op = λ x e. let z : ◌≡◌ {A = ℕ} 0 1 = cc in absurd (omega arith); node = λ x e. let z : ◌≡◌ {A = ℕ} 0 1 = cc in absurd (omega arith) }

pub held_one : {s : State} {x : Left} → x.0.0 < s.at.0 → x.1.0 < s.nodes → Held (Some x) s
held_one {x = x} h k = record {
  op = λ x₁ e. let a : x ≡ x₁ = cc in rw (← a) h;
  node = λ x₁ e. let a : x ≡ x₁ = cc in rw (← a) k;
}

-- the values at hand when the operand is read, and what is done with it before q
abbrev hand : Option Left → List Value
hand None = []
hand (Some x) = token x.0.0 ∷ node x.1.0 ∷ []

abbrev joining : Option Left → Part Action Rule → Part Action Rule
joining None q = q
joining (Some x) q = act binary ⨾ q

abbrev pub grouping : Level → Joint (Option Left)
grouping l = record {
  level = l;
  nothing = None;
  held = Held;
  body = level (operand l) (operators l);
  rest = λ b. joining b (many (term (operand l) (operators l)));
  behind = λ b. many (term (operand l) (operators l));
  hand = hand;
  value = λ b m n. node m;
  next = λ b op m n. Some (record { 0 = op; 1 = m });
  begun = held_none;
  starts = λ vs c. c;
  alone = λ c. c;
  later = λ b h k w. record { op = λ x e. omega (arith, w.op x e, h); node = λ x e. omega (arith, w.node x e, k) };
  hung = λ b h k p. held_one h k;
  ends = λ b m n h f u. turn_end (low_level l) h (rw (begins_level l) f) u;
  turns = λ b m n h f c. turn_on (low_level l) h (rw (begins_level l) f) (tok_mark h f c);
}

goes_both : (l : Level) {src toks : List ℕ} {x : Left} {n : NodeNumber} {s : State} {tr : List ℕ} {r : Added} {tr' : List ℕ} → Writes src toks binary (node n.0 ∷ token x.0.0 ∷ node x.1.0 ∷ []) s tr r tr' → Goes (grouping l) src toks (Some x) n s tr r tr'
goes_both l w = record {
  at = rw w.after;
  opened = rw w.after;
  used = rw w.after;
  nodes = rw w.after (omega arith, omega arith);
  there = λ h. rw (w.after, w.node) (omega arith);
  same = λ c. wrote_then w c;
}

pub goes : (l : Level) {src toks : List ℕ} (b : Option Left) {n : NodeNumber} {s : State} {tr : List ℕ} {r : Added} {tr' : List ℕ} → Joined src toks b n s tr r tr' → Goes (grouping l) src toks b n s tr r tr'
goes l None j = let e = j.alone refl in rw (e.0, e.1) (goes_alone (grouping l))
goes l (Some x) j = goes_both l (j.both x refl)
