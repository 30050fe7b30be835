-- What a function that takes one token tells its callers. Only private contracts cite this.
-- Assumes nothing.
use Rattle.std.specs.Prelude.{Bool, true, false, ◌≡◌, Result, Ok, Err}
use Rattle.leaves.specs.declared.State.{State}
use Rattle.leaves.specs.declared.Refused.{Refused}
use Rattle.leaves.specs.declared.Refused.TheVariants as refused
use Rattle.leaves.specs.Contract.{past}

-- Where the token at s fits, the state past it is the answer; where it does not, it is refused so.
pub record Takes (fits : Bool) (s : State) (r : Result State Refused) : Type 0 where
  pub taken : (s' : State) → r ≡ Ok s' → (s' ≡ past s) × (fits ≡ true)
  pub other : (e : Refused) → r ≡ Err e → (e ≡ refused.Misfit s) × (fits ≡ false)
