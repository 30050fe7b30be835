-- A token (01, Questions: "code, start, end each, Eof last"): its code, the places in the source where it starts and ends, and the literal that it
-- stands for (None where it is no literal).
-- A list of these, with Eof last, is what the scanner promises and all that the tree reader relies on.
-- Assumes nothing.
use Rattle.std.specs.Prelude.{ℕ}
use Rattle.literal.specs.declared.Literal.{Literal}

pub record Token : Type 0 where
  pub code : ℕ
  pub start : ℕ
  pub end : ℕ
  pub literal : Literal

abbrev pub token : ℕ → ℕ → ℕ → Literal → Token
token code start end literal = record { code = code; start = start; end = end; literal = literal }
