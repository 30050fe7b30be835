-- An E that was read: by its rule, where it begins; by `enter`.
-- Assumes nothing.
use mathlib.Core.Path.{◌≡◌, refl}
use mathlib.Core.List.{List, []}
use Prim.Native.Nat.{ℕ}
use Rattle.grammar.specs.Grammar.{call}
use Rattle.token.specs.declared.NodeNumber.{NodeNumber}
use Rattle.pyhyeon.specs.Rules.{E}
use Rattle.pyhyeon.specs.Tables.{first, first_e, rank}
use Rattle.leaves.specs.declared.State.{State}
use Rattle.leaves.specs.Contract.{Parsed, read, a_node, Rules, Parts, Ready, Begun}
use Rattle.lookahead.proofs.Tokens.{before_eof}
use Rattle.joint.proofs.Bounds.{Grown, spares_e, after_rule, after_call}

module _ {src toks tr₀ : List ℕ} {more room : ℕ} {s s' : State} {tr tr' : List ℕ} {a : Parsed} {n : NodeNumber} (r : Ready src toks tr₀ s more) where
  pub after-e : Begun src toks s E → Rules src toks room E a_node s tr a tr' → a ≡ read n s' → Grown src toks 8 s n s'
  unfolding first rank
  after-e b reads e = after_rule src toks r.tokens spares_e (before_eof first_e refl r.tokens r.here b.seen) reads e

  pub after_enter : Parts src toks room (call E) [] a_node s tr a tr' → a ≡ read n s' → Grown src toks 8 s n s'
  unfolding first rank
  after_enter reads e = after_call src toks r.tokens spares_e refl r.here reads e
