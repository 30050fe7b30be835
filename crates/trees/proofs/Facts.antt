-- Facts of the values at hand and of what a machine keeps, which every token and every action keep.
-- Assumes nothing.
use mathlib.Core.Path.{◌≡◌}
use mathlib.Core.List.{List, ◌∷◌, ◌++◌}
use Prim.Native.Nat.{ℕ, ◌+◌, ◌-◌, ◌<◌}
use lib.Dec.{T}
use lib.ListN.{length}
use Rattle.grammar.specs.Sets.{mem}
use Rattle.grammar.specs.Trial.{Machine}
use Rattle.tokens.specs.Token.{Token}
use Rattle.pyhyeon.specs.Symbol.{symbol}
use Rattle.pyhyeon.specs.Machine.{Kept}
use Rattle.pyhyeon.specs.Sorts.{Sort, taking, leaving}
use Rattle.pyhyeon.specs.Rules.{names, literals, comparisons, sign_set}
use Rattle.pyhyeon.specs.Action as pyhyeon
use Rattle.pyhyeon.specs.Action.{Action, mark, literal, named, alone, signs_none, signs_more, unary, binary, compare, compare_more, compared, list_none, list_one, list_join, list_done, enclose, empty, group, tuple, pair, attribute, apply, index, lambda, expr, assign, return, branch, elif, else, while, for, define, class, program, token_at_lem}
use Rattle.trees.specs.Roles.{Token_of}
use Rattle.trees.proofs.Flow.{Since, still, anything, after}
use Rattle.trees.proofs.Stack.{Stack, ◌▸◌}
use Rattle.trees.proofs.Apt.{Apt, apt}
use Rattle.trees.proofs.Making.{code, make}
use Rattle.trees.proofs.Moves.{arithmetic_codes}

-- What is known of the tokens of an action, after n tokens: a literal, a name, an operator is such; a sign follows those before it.
abbrev pub Timely : (source : List ℕ) (toks : List Token) (a : Action) → ℕ → (τ : List Sort) → Stack (taking a ++ τ) → Type 0
Timely source toks mark n τ st = Unit {0}
Timely source toks literal n τ st = Token_of source toks literals (n - 1)
Timely source toks (named k) n τ st = Token_of source toks names (n - 1)
Timely source toks (alone k) n τ st = Unit {0}
Timely source toks signs_none n τ st = Unit {0}
Timely source toks signs_more n τ (v ▸ st) = (v.0 + v.1 + 1 ≡ n) × T (mem (code source toks (n - 1)) sign_set)
Timely source toks unary n τ st = Unit {0}
Timely source toks binary n τ (y ▸ u ▸ st) = T (mem (code source toks u) arithmetic_codes)
Timely source toks compare n τ (y ▸ u ▸ st) = T (mem (code source toks u) comparisons)
Timely source toks compare_more n τ (y ▸ u ▸ st) = T (mem (code source toks u) comparisons)
Timely source toks compared n τ st = Unit {0}
Timely source toks list_none n τ st = Unit {0}
Timely source toks list_one n τ st = Unit {0}
Timely source toks list_join n τ st = Unit {0}
Timely source toks list_done n τ st = Unit {0}
Timely source toks (enclose k) n τ st = Unit {0}
Timely source toks (empty k) n τ st = Unit {0}
Timely source toks group n τ st = Unit {0}
Timely source toks tuple n τ st = Unit {0}
Timely source toks pair n τ st = Unit {0}
Timely source toks attribute n τ st = Token_of source toks names (n - 1)
Timely source toks apply n τ st = Unit {0}
Timely source toks index n τ st = Unit {0}
Timely source toks lambda n τ st = Unit {0}
Timely source toks expr n τ st = Unit {0}
Timely source toks assign n τ st = Unit {0}
Timely source toks return n τ st = Unit {0}
Timely source toks branch n τ st = Unit {0}
Timely source toks elif n τ st = Unit {0}
Timely source toks else n τ st = Unit {0}
Timely source toks while n τ st = Unit {0}
Timely source toks for n τ (l ▸ x ▸ i ▸ st) = Token_of source toks names i
Timely source toks (define k) n τ (m ▸ l ▸ i ▸ st) = Token_of source toks names i
Timely source toks class n τ (l ▸ i ▸ st) = Token_of source toks names i
Timely source toks program n τ st = Unit {0}

-- A machine that has the nodes' among what it keeps.
pub record Over (source : List ℕ) (toks : List Token) : Type 1 where
  pub machine : Machine Action
  pub nodes : machine.Kept → Kept
  pub shifts : (c : ℕ) (k : machine.Kept) → nodes (machine.shift c k) ≡ (pyhyeon.machine source toks).shift c (nodes k)
  pub runs : (a : Action) (k : machine.Kept) → nodes (machine.run a k) ≡ pyhyeon.perform source toks a (nodes k)

-- A fact of the values at hand and of what a machine keeps.
pub record FactOver (source : List ℕ) (toks : List Token) (M : Machine Action) : Type 1 where
  pub Of : (σ : List Sort) → Since → ℕ → Stack σ → M.Kept → Type 0
  pub forgets : (σ : List Sort) (f : Since) (n : ℕ) (st : Stack σ) (k : M.Kept) → Of σ f n st k → Of σ anything n st k
  pub token_keeps : (σ : List Sort) (f : Since) (set : List ℕ) (n : ℕ) (st : Stack σ) → n < length toks → T (mem (symbol source (token_at_lem source toks n)) set) →
      (c : ℕ) → c ≡ symbol source (token_at_lem source toks n) → (k : M.Kept) → Of σ f n st k → Of σ (after f set) (n + 1) st (M.shift c k)
  pub act_keeps : (a : Action) (f : Since) → T (apt a f) → (h : Apt a) (n : ℕ) (τ : List Sort) (st : Stack (taking a ++ τ)) → Timely source toks a n τ st →
      (k : M.Kept) → Of (taking a ++ τ) f n st k → Of (leaving a ∷ τ) still n (make source toks a h n {τ = τ} st) (M.run a k)
