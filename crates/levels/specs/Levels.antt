-- What stands before and behind an operand of a level of operators. Only contracts cite this.
-- Assumes nothing.
use Rattle.std.specs.Prelude.{ℕ, ◌+◌, ◌<◌, ◌≡◌, true, false, Option, Some, None, Result, Ok, Err, List, [], ◌∷◌, ◌++◌}
use Rattle.grammar.specs.Sets.{mem}
use Rattle.token.specs.Code.{Or, And}
use Rattle.token.specs.declared.TokenNumber.{TokenNumber}
use Rattle.token.specs.declared.NodeNumber.{NodeNumber}
use Rattle.pyhyeon.specs.Machine.{Value, token, node, chain}
use Rattle.pyhyeon.specs.Action.{Action, binary, compare, compare_more, perform}
use Rattle.pyhyeon.specs.Rules.{comparisons, sums, products}
use Rattle.pyhyeon.specs.Tables.{first_u}
use Rattle.leaves.specs.declared.State.{State}
use Rattle.leaves.specs.declared.Added.{Added}
use Rattle.leaves.specs.declared.Refused.{Refused}
use Rattle.leaves.specs.declared.Refused.TheVariants as refused
use Rattle.lookahead.specs.Tokens.{tokens_of, symbol_at}
use Rattle.leaves.specs.Contract.{past, added, kept, Frame, Writes}
use Rattle.levels.specs.declared.Level.{Level}
use Rattle.levels.specs.declared.Level.TheVariants as level
use Rattle.levels.specs.declared.Left.{Left}
use Rattle.levels.specs.declared.Chain.{Chain}
use Rattle.levels.specs.declared.Chain.TheVariants as links

-- the operators of each level: "O: A by `or`. A: C by `and`. C: S by comparisons. S: P by + -. P: U by * // / %." (01, Grammar)
abbrev pub operators : Level → List ℕ
operators level.Or = Or ∷ []
operators level.And = And ∷ []
operators level.Comparison = comparisons
operators level.Sum = sums
operators level.Product = products

-- the operator and the node lie before the state
pub record Held (b : Option Left) (s : State) : Type 0 where
  pub op : (x : Left) → b ≡ Some x → x.0.0 < s.at.0
  pub node : (x : Left) → b ≡ Some x → x.1.0 < s.nodes

-- The operand n joined to what stands before it: with nothing there it is n itself, and nothing is written; else the action `binary` is done with the
-- operator and the node of all that stands before that.
pub record Joined (src toks : List ℕ) (b : Option Left) (n : NodeNumber) (s : State) (tr : List ℕ) (r : Added) (tr' : List ℕ) : Type 0 where
  pub alone : b ≡ None → (r ≡ record { 0 = n; 1 = s }) × (tr' ≡ tr)
  pub both : (x : Left) → b ≡ Some x → Writes src toks binary (node n.0 ∷ token x.0.0 ∷ node x.1.0 ∷ []) s tr r tr'

-- what stands before the operand behind the operator op, where l is the node of all before that and n the operand right before it
abbrev pub lengthened : Chain → TokenNumber → NodeNumber → NodeNumber → Chain
lengthened links.Nothing op l n = links.First op l
lengthened (links.First o k) op l n = links.Further op l n
lengthened (links.Further o k x) op l n = links.Further op l n

-- the operator and the nodes of a chain lie before the state
pub record Hung (b : Chain) (s : State) : Type 0 where
  pub first : (o : TokenNumber) (l : NodeNumber) → b ≡ links.First o l → (o.0 < s.at.0) × (l.0 < s.nodes)
  pub further : (o : TokenNumber) (l x : NodeNumber) → b ≡ links.Further o l x → (o.0 < s.at.0) × (l.0 < s.nodes) × (x.0 < s.nodes)

-- The action x is done with the values `ins`, and its last node, with the operand y, is a chain that takes their place.
pub record Chains (src toks : List ℕ) (x : Action) (ins : List Value) (y : ℕ) (s : State) (tr : List ℕ) (r : Added) (s' : State) (tr' : List ℕ) : Type 0 where
  pub node : r.0.0 + 1 ≡ s'.nodes
  pub after : r.1 ≡ s'
  pub same : (vs : List Value) → perform src (tokens_of src toks) x (kept s tr (ins ++ vs)) ≡ kept s' tr' (chain r.0.0 y ∷ vs)
  pub frame : Frame s.nodes tr s'.nodes tr'

-- The operand n compared with what stands before it: the action `compare` for the first comparison, which writes a node, and `compare_more` for a further
-- one, which writes two.
pub record Compared (src toks : List ℕ) (b : Chain) (n : NodeNumber) (s : State) (tr : List ℕ) (r : Added) (tr' : List ℕ) : Type 0 where
  pub alone : b ≡ links.Nothing → (r ≡ record { 0 = n; 1 = s }) × (tr' ≡ tr)
  pub first : (op : TokenNumber) (l : NodeNumber) → b ≡ links.First op l → Chains src toks compare (node n.0 ∷ token op.0 ∷ node l.0 ∷ []) n.0 s tr r (added s) tr'
  pub further : (op : TokenNumber) (l x : NodeNumber) → b ≡ links.Further op l x → Chains src toks compare_more (node n.0 ∷ token op.0 ∷ chain l.0 x.0 ∷ []) n.0 s tr r (added (added s)) tr'

-- Behind an operand that ends at s there is no operator of the level; or one, and behind it what can begin an operand, or what cannot, which is 16 there.
pub record Stands (src toks : List ℕ) (l : Level) (s : State) (r : Result (Option State) Refused) : Type 0 where
  pub nothing : r ≡ Ok None → mem (symbol_at src toks s.at.0) (operators l) ≡ false
  pub operand : (t : State) → r ≡ Ok (Some t) → (t ≡ past s) × (mem (symbol_at src toks s.at.0) (operators l) ≡ true) × (mem (symbol_at src toks (s.at.0 + 1)) first_u ≡ true)
  pub missing : (x : Refused) → r ≡ Err x → (x ≡ refused.Missing (past s)) × (mem (symbol_at src toks s.at.0) (operators l) ≡ true) × (mem (symbol_at src toks (s.at.0 + 1)) first_u ≡ false)
