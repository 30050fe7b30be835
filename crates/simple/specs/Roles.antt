-- What a t is to its statement: the part of Simple that is left where it is read, and the values at hand there.
-- Only contracts of private functions cite this: each part is one of Simple, "return t; t = t; t" (specs/Tables.antt of pyhyeon, `joined Simple`).
-- Assumes nothing.
use Rattle.std.specs.Prelude.{ℕ, ◌<◌, ◌≡◌, Bool, false, List, [], ◌∷◌}
use Rattle.grammar.specs.Sets.{mem}
use Rattle.grammar.specs.Grammar.{Part, act, ◌⨾◌, ◌∕◌}
use Rattle.token.specs.Code.{Equal}
use Rattle.token.specs.declared.TokenNumber.{TokenNumber}
use Rattle.token.specs.declared.NodeNumber.{NodeNumber}
use Rattle.pyhyeon.specs.Machine.{Value, token, node}
use Rattle.pyhyeon.specs.Action.{Action, expr, assign, return}
use Rattle.pyhyeon.specs.Rules.{Rule, tk}
use Rattle.pyhyeon.specs.Tables.{t_joined}
use Rattle.leaves.specs.declared.State.{State}
use Rattle.lookahead.specs.Tokens.{symbol_at}
use Rattle.simple.specs.declared.Role.{Role}
use Rattle.simple.specs.declared.Role.TheVariants as role

-- the action that ends the statement where the t is its last
abbrev pub does : Role → Action
does (role.Return k) = return
does role.First = expr
does (role.Value n) = assign

-- what is left behind the t: `=` and a value may follow the first
abbrev pub behind : Role → Part Action Rule
behind (role.Return k) = act (does (role.Return k))
behind role.First = tk Equal ⨾ t_joined ⨾ act assign ∕ act (does role.First)
behind (role.Value n) = act (does (role.Value n))

abbrev pub stated : Role → Part Action Rule
stated r = t_joined ⨾ behind r

-- the values at hand before the t
abbrev pub hand : Role → List Value
hand (role.Return k) = token k.0 ∷ []
hand role.First = []
hand (role.Value n) = node n.0 ∷ []

-- a first t is a target where `=` stands behind it
abbrev pub targets : (src toks : List ℕ) → ℕ → Role → Bool
targets src toks i (role.Return k) = false
targets src toks i role.First = mem (symbol_at src toks i) (Equal ∷ [])
targets src toks i (role.Value n) = false

-- the keyword, or the target, lies before the state
pub record Placed (r : Role) (s : State) : Type 0 where
  pub keyword : (k : TokenNumber) → r ≡ role.Return k → k.0 < s.at.0
  pub target : (n : NodeNumber) → r ≡ role.Value n → n.0 < s.nodes
