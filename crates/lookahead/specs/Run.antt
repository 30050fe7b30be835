-- Runs of tokens, for contracts of the functions that pass them.
-- Assumes nothing.
use Rattle.std.specs.Prelude.{ℕ, ◌≤◌, ◌<◌, ◌≡◌, true, false, List}
use Rattle.grammar.specs.Sets.{mem}
use Rattle.lookahead.specs.Tokens.{eof_at, symbol_at}

-- the symbols of the tokens from t on, up to `end`, are all such
pub record Passed (Such : ℕ → Type 0) (src toks : List ℕ) (t end : ℕ) : Type 0 where
  pub order : t ≤ end
  pub inside : end ≤ eof_at toks
  pub each : (k : ℕ) → t ≤ k → k < end → Such (symbol_at src toks k)

-- the tokens from t on, up to `end`, are in the set, and that one is not
pub record Run (src toks set : List ℕ) (t end : ℕ) : Type 0 where
  pub order : t ≤ end
  pub inside : end ≤ eof_at toks
  pub each : (k : ℕ) → t ≤ k → k < end → mem (symbol_at src toks k) set ≡ true
  pub stop : mem (symbol_at src toks end) set ≡ false
