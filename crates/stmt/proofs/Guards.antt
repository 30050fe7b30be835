-- The two answers of code that reads an E and the Block behind it.
-- Assumes nothing.
use Prim.Native.Nat.{ℕ}
use mathlib.Core.Path.{◌≡◌}
use mathlib.Core.List.{List}
use native.Mathlib.Omega.{arith}
use Rattle.std.specs.Prelude.{Result, Ok, Err}
use Rattle.std.specs.Result.{IsErrAnd}
use Rattle.grammar.specs.Grammar.{Part, call, ◌⨾◌}
use Rattle.pyhyeon.specs.Machine.{Value}
use Rattle.pyhyeon.specs.Action.{Action}
use Rattle.pyhyeon.specs.Rules.{Rule, E, Block}
use Rattle.leaves.specs.declared.State.{State}
use Rattle.leaves.specs.declared.Refused.{Refused}
use Rattle.leaves.specs.Contract.{Shape, Comes}
use Rattle.stmt.specs.declared.Clause.{Clause}
use Rattle.stmt.specs.Guards.{BothRead, Guards}

module _ {src toks : List ℕ} {room : ℕ} {s : State} {tr tr' : List ℕ} where
  pub guards_both : {b : Clause} → BothRead src toks room s tr b.0 b.1 b.2 tr' → Guards src toks room s tr (Ok b) tr'
  guards_both {b} d = record {
    leads = λ {b = b₁} e. let a : b ≡ b₁ = cc in rw a at d;
    stops = λ e. let z : ◌≡◌ {A = ℕ} 0 1 = cc in absurd (omega arith);
  }

  -- what `?` hands on is the refusal that it met
  pub guards_stop : {e : Refused} (r : Result Clause Refused) → IsErrAnd r (λ y. y ≡ e) → ((out : Shape) (q : Part Action Rule) (vs ws : List Value) → Comes src toks room (call E ⨾ call Block ⨾ q) out vs ws s tr (Err e) tr') → Guards src toks room s tr r tr'
  guards_stop (Ok b) k f = absurd k
  guards_stop {e} (Err y) k f = rw k (record {
    leads = λ e₁. let z : ◌≡◌ {A = ℕ} 0 1 = cc in absurd (omega arith);
    stops = λ {e = y₁} {out} {q} {vs} {ws} e₁. let a : e ≡ y₁ = cc in rw a at (f out q vs ws);
  })
