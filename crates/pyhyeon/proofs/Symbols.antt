-- A token by its symbol, and the one that stands next.
-- Assumes nothing.
use mathlib.Core.Path.{◌≡◌}
use mathlib.Core.Bool.{Bool, true, false, cond}
use mathlib.Core.List.{List, [], ◌∷◌}
use Prim.Native.Nat.{ℕ, zero, suc, ◌<◌}
use native.Mathlib.Omega.{arith}
use lib.ListN.{length, drop}
use Rattle.token.specs.Code as code
use Rattle.tokens.specs.Token.{Token}
use Rattle.pyhyeon.specs.Symbol.{Tee, is_tee, symbol, symbols}
use Rattle.pyhyeon.specs.Action.{token_at_lem}

-- Tee is another code than Eof
pub symbol_eof : (source : List ℕ) (t : Token) → symbol source t ≡ code.Eof → t.code ≡ code.Eof
symbol_eof source t = go (is_tee source t)
  where
    go : (b : Bool) → cond b Tee t.code ≡ code.Eof → t.code ≡ code.Eof
    go true e = absurd (omega arith)
    go false e = e

pub symbol_float : (source : List ℕ) (t : Token) → t.code ≡ code.Float → symbol source t ≡ code.Float
symbol_float source t e = rw e

-- token n stands next, and t is its symbol
pub record Next (source : List ℕ) (toks : List Token) (n t : ℕ) : Type 0 where
  pub there : n < length toks
  pub is : t ≡ symbol source (token_at_lem source toks n)

pub next-token : (source : List ℕ) (toks : List Token) (n : ℕ) {t : ℕ} {l : List ℕ} → t ∷ l ≡ drop n (symbols source toks) → Next source toks n t
unfolding symbols
next-token source [] zero e = let z : ◌≡◌ {A = ℕ} 0 1 = cc in absurd (omega arith)
next-token source [] (suc n) e = let z : ◌≡◌ {A = ℕ} 0 1 = cc in absurd (omega arith)
next-token source (u ∷ toks) zero e = record { there = omega arith; is = cc }
next-token source (u ∷ toks) (suc n) e = let h = next-token source toks n e in record { there = omega (arith, h.there); is = h.is }
