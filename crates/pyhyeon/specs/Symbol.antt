-- What the rules ask of a token: its code, and whether it is the name `t`.
-- Assumes nothing.
use Rattle.std.specs.Prelude.{ℕ, ◌+◌, Bool, cond, ◌&&◌, List, map, eqb, get_or}
use Rattle.token.specs.Code.{Identifier}
use Rattle.tokens.specs.Token.{Token}

-- The name `t`: a code of its own, above Eof = 49, for the rules alone.
abbrev pub Tee : ℕ
Tee = 50

-- from start to end stands one byte, which is `t` (116)
abbrev pub tee_at : List ℕ → ℕ → ℕ → Bool
tee_at source start end = eqb end (start + 1) && eqb (get_or source start 0) 116

-- an Identifier that is so
abbrev pub is_tee : List ℕ → Token → Bool
is_tee source t = eqb t.code Identifier && tee_at source t.start t.end

abbrev pub symbol : List ℕ → Token → ℕ
symbol source t = cond (is_tee source t) Tee t.code

-- the symbols of a script's tokens, Eof with them
unfoldable pub symbols : List ℕ → List Token → List ℕ
symbols source toks = map (symbol source) toks
