-- The token at a place depends only on the bytes from there on.
-- Assumes nothing.
use mathlib.Core.Path.{◌≡◌, refl, ap, ◌∙◌}
use mathlib.Core.Bool.{Bool, true, false, cond}
use mathlib.Core.List.{List, ◌++◌}
use Prim.Native.Nat.{ℕ, ◌+◌}
use native.Mathlib.Omega.{arith}
use lib.Dec.{eqb}
use lib.ListN.{length, drop}
use Rattle.std.specs.Prelude.{Option, Some, None}
use Rattle.raw_token.specs.Table.{raw_token, table, longest, found, token_at_lem}
use Rattle.raw_token.specs.declared.RawToken.{RawToken}

-- what is found, k bytes further on
abbrev shifted : ℕ → Option RawToken → Option RawToken
shifted k (Some t) = Some (raw_token t.code (k + t.end))
shifted k None = None

token_local : (s : List ℕ) (at : ℕ) → token_at_lem s at ≡ shifted at (token_at_lem (drop at s) 0)
unfolding token_at_lem
token_local s at = go (longest (0, 0) table (drop at s))
  where
    by_test : (t : Bool) (c n : ℕ) → cond t None (Some (raw_token c (at + n))) ≡ shifted at (cond t None (Some (raw_token c (0 + n))))
    by_test true c n = refl
    by_test false c n = ap (λ (k : ℕ). Some (raw_token c k)) (omega arith)

    go : (best : ℕ × ℕ) → found at best ≡ shifted at (found 0 best)
    go best = by_test (eqb best.1 0) best.0 best.1

-- what is a token at the front of a list is one where the list stands
pub token-at : (s : List ℕ) (at code : ℕ) (w r : List ℕ) → drop at s ≡ w ++ r → token_at_lem (w ++ r) 0 ≡ Some (raw_token code (length w)) → token_at_lem s at ≡ Some (raw_token code (at + length w))
token-at s at code w r e f = token_local s at ∙ ap (λ (x : List ℕ). shifted at (token_at_lem x 0)) e ∙ ap (shifted at) f
