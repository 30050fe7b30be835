-- The Methods of a Class and the Elifs of an If, by the choice between them: what one of them tells, and what is left of the list.
-- Assumes nothing.
use Prim.Native.Nat.{ℕ, ◌≤◌}
use mathlib.Core.Path.{◌≡◌, refl}
use mathlib.Core.Bool.{Bool, true, false}
use mathlib.Core.List.{List, [], ◌∷◌}
use Rattle.grammar.specs.Sets.{mem}
use Rattle.grammar.specs.Grammar.{Part, act, ◌⨾◌}
use Rattle.grammar.specs.Descent.{null, begins}
use Rattle.token.specs.Code as code
use Rattle.token.specs.declared.NodeNumber.{NodeNumber}
use Rattle.pyhyeon.specs.Machine.{Value, node}
use Rattle.pyhyeon.specs.Action.{Action, list_one, list_join}
use Rattle.pyhyeon.specs.Rules.{Rule}
use Rattle.leaves.specs.declared.State.{State}
use Rattle.lookahead.specs.Tokens.{eof_at, symbol_at, Tokens}
use Rattle.std.specs.Prelude.{Err}
use Rattle.leaves.specs.declared.Refused.{Refused}
use Rattle.leaves.specs.Contract.{Parsed, read, Shape, a_node, Comes, Parts}
use Rattle.lookahead.proofs.Tokens.{before_eof}
use Rattle.joint.proofs.Chain.{flat, flat_then, flat_stop, part_then, part_stop, many_on, many_end}
use Rattle.joint.proofs.Counts.{Came, came_start}
use Rattle.stmt.specs.Parts.{leading, member, others, elif_on}
use Rattle.stmt.proofs.Branches.{low_elifs, taking_elif}
use Rattle.stmt.proofs.Classes.{low_methods, taking_method}

module _ {src toks : List ℕ} {room : ℕ} {s : State} {tr tr₁ : List ℕ} {b : Parsed} where
  pub came_member : {n : NodeNumber} {s₁ : State} (methods : Bool) → Tokens src toks → s.at.0 ≤ eof_at toks → mem (symbol_at src toks s.at.0) (leading methods ∷ []) ≡ true → Parts src toks room (member methods) [] a_node s tr b tr₁ → b ≡ read n s₁ →
      Came src toks 0 a_node s n s₁
  came_member true w h e r p = came_start _ _ w taking_method (before_eof (code.Def ∷ []) refl w h e) r p
  came_member false w h e r p = came_start _ _ w taking_elif (before_eof (code.Elif ∷ []) refl w h e) r p

  -- one more of them, and the rest after it; one that is refused
  pub others_on : {n : NodeNumber} {s₁ : State} {out : Shape} {vs ws : List Value} {q : Part Action Rule} {a : Parsed} {t : List ℕ} (methods : Bool) → s.at.0 ≤ eof_at toks → mem (symbol_at src toks s.at.0) (leading methods ∷ []) ≡ true → Parts src toks room (member methods) [] a_node s tr b tr₁ → b ≡ read n s₁ →
      Comes src toks room (act list_one ⨾ act list_join ⨾ others methods ⨾ q) out vs (node n.0 ∷ ws) s₁ tr₁ a t → Comes src toks room (others methods ⨾ q) out vs ws s tr a t
  unfolding begins null
  others_on true h e r p c = many_on low_methods h e (part_then r p c)
  others_on false h e r p c = many_on low_elifs h e (flat (flat_then {p = elif_on} r p c))

  pub others_stop : {x : Refused} {out : Shape} {q : Part Action Rule} {vs ws : List Value} (methods : Bool) → s.at.0 ≤ eof_at toks → mem (symbol_at src toks s.at.0) (leading methods ∷ []) ≡ true → Parts src toks room (member methods) [] a_node s tr b tr₁ → b ≡ Err x →
      Comes src toks room (others methods ⨾ q) out vs ws s tr (Err x) tr₁
  unfolding begins null
  others_stop true h e r p = many_on low_methods h e (part_stop _ r p)
  others_stop false h e r p = many_on low_elifs h e (flat (flat_stop {p = elif_on} _ _ r p))

module _ {src toks : List ℕ} {room : ℕ} {s : State} {tr : List ℕ} where
  -- no more of them
  pub others_end : {out : Shape} {q : Part Action Rule} {vs ws : List Value} {a : Parsed} {t : List ℕ} (methods : Bool) → s.at.0 ≤ eof_at toks → mem (symbol_at src toks s.at.0) (leading methods ∷ []) ≡ false →
      Comes src toks room q out vs ws s tr a t → Comes src toks room (others methods ⨾ q) out vs ws s tr a t
  unfolding begins null
  others_end true h e c = many_end low_methods h e c
  others_end false h e c = many_end low_elifs h e c
