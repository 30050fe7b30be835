-- Runs of tokens, passed one by one.
-- Assumes nothing.
use mathlib.Core.Path.{◌≡◌}
use mathlib.Core.List.{List}
use Prim.Native.Nat.{ℕ, ◌+◌, ◌≤◌, ◌<◌}
use native.Mathlib.Decide.{dec_lt}
use native.Mathlib.Omega.{arith}
use Rattle.token.specs.Code.{Eof}
use Rattle.lookahead.specs.Tokens.{eof_at, symbol_at, Tokens}
use Rattle.lookahead.specs.Run.{Passed}
use Rattle.lookahead.proofs.Tokens.{not_last}

-- the next one too, where Eof is no such symbol: it is not the last token
pub pass_one : {Such : ℕ → Type 0} {src toks : List ℕ} {t k c : ℕ} → Tokens src toks → (Such Eof → ⊥) → Passed Such src toks t k → c ≡ symbol_at src toks k → Such c
    → (k < eof_at toks) × Passed Such src toks t (k + 1)
pass_one {Such} {src} {toks} {t} {k} w f p d e =
    let here = rw d at e in
    let l = not_last w p.inside (λ h. f (rw h at here)) in
    (l, record { order = omega (arith, p.order); inside = omega (arith, l); each = λ j a b. go j a b (dec_lt j k) here })
  where
    go : (j : ℕ) → t ≤ j → j < k + 1 → Dec (j < k) → Such (symbol_at src toks k) → Such (symbol_at src toks j)
    go j a b (yes h) e = p.each j a h
    go j a b (no h) e = let d : j ≡ k = omega arith in rw d e
