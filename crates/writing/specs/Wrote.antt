-- What a writer from the back does to a lent slice. Contracts of inner functions alone cite this; what the writer promises stands in `writer`.
-- Assumes nothing.
use Rattle.std.specs.Prelude.{ℕ, ◌+◌, ◌-◌, ◌<◌, ◌≡◌, List, ◌++◌, length, drop}
use Rattle.writing.specs.Written.{room}
use Rattle.writing.specs.declared.back.Back.{Back}

-- `at` is one more than the place of the byte written last, and 0 once there was no room. The bytes t were put before it, which made `out'` of `out`; what
-- lies before them is not told.
pub record WroteAt (t out : List ℕ) (at : ℕ) (out' : List ℕ) (at' : ℕ) : Type 0 where
  pub next : at' ≡ at - length t
  pub text : 0 < at' → drop (at' - 1) out' ≡ t ++ drop (at - 1) out
  pub long : length out' ≡ length out

-- the same of a slice with its `at`, which made n of o; it is still the slice that was lent
pub record Wrote (t : List ℕ) (o n : Back) : Type 0 where
  pub next : n.at ≡ o.at - length t
  pub text : 0 < n.at → drop (n.at - 1) n.out.now ≡ t ++ drop (o.at - 1) o.out.now
  pub long : length n.out.now ≡ length o.out.now
  pub same : n.out.ghost_name ≡ o.out.ghost_name

-- nothing is written yet into a slice that held `before`
pub record Empty (o : Back) (before : List ℕ) : Type 0 where
  pub start : o.at ≡ room (length before) + 1
  pub holds : o.out.now ≡ before
