-- What a writer does to a lent buffer.
-- Assumes nothing.
use Rattle.std.specs.Prelude.{ℕ, ◌+◌, ◌≤◌, ◌≡◌, List, ◌++◌, length, take, drop}
use Rattle.std.proofs.lemmas.List.Edits.{sets}

-- These bytes were put into `out` from place `at` on, which made `out'` of it, and r is the place behind them. Private contracts cite it.
pub record Wrote (bytes out : List ℕ) (at : ℕ) (out' : List ℕ) (r : ℕ) : Type 0 where
  pub text : out' ≡ sets out at bytes
  pub next : r ≡ at + length bytes
  pub within : r ≤ length out

-- The bytes stand at the start of the buffer, r of them, and what lies behind them is as it was. The last two follow, and spare a caller who lends
-- the first r bytes a proof that they are there.
pub record Shows (bytes out out' : List ℕ) (r : ℕ) : Type 0 where
  pub text : out' ≡ bytes ++ drop r out
  pub count : r ≡ length bytes
  pub within : r ≤ length out'
  pub lent : r ≡ length (take r out')
