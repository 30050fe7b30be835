-- The tokens that steps write, each by its symbol and its load.
-- Assumes nothing.
use Prim.Native.Nat.{ℕ}
use mathlib.Core.List.{List, [], ◌∷◌}
use Rattle.unparse.specs.Trees.{Load}
use Rattle.unparse.proofs.Write.{Steps, put, run, ◌›◌}

pub record Sign : Type 0 where
  pub symbol : ℕ
  pub load : Load

abbrev pub sign : ℕ → Load → Sign
sign c l = record { symbol = c; load = l }

-- a token with no load
abbrev pub plain : ℕ → Sign
plain c = sign c []

-- before some others
abbrev pub signs : Steps → List Sign → List Sign
signs (put c l) r = sign c l ∷ r
signs (run a) r = r
signs (d › e) r = signs d (signs e r)
