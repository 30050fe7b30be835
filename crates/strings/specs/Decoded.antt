-- The bytes that a String stands for: what is between its quotes, decoded. Document 01: "Escapes n t r \ " ' are decoded; another keeps its
-- backslash."
-- Assumes nothing.
use Rattle.std.specs.Prelude.{ℕ, Bool, true, false, cond, List, [], ◌∷◌, ◌++◌, eqb, zero, suc, ◌+◌, ◌≤◌, ◌≡◌, length, drop, Option, Some, None}
use Rattle.strings.specs.declared.Piece.{Piece}

-- what a backslash with the byte b stands for, of n t r \ " ' in this order; 0 where it is no escape
abbrev pub unescape : ℕ → ℕ
unescape b =
    cond (eqb b 110) 10
    (cond (eqb b 116) 9
    (cond (eqb b 114) 13
    (cond (eqb b 92) 92
    (cond (eqb b 34) 34
    (cond (eqb b 39) 39 0)))))

-- 0 is none
abbrev pub some_byte : ℕ → Option ℕ
some_byte zero = None
some_byte (suc n) = Some (suc n)

-- the same as an answer
abbrev pub unescape_at : ℕ → Option ℕ
unescape_at b = some_byte (unescape b)

-- a backslash (92) with the byte b, decoded or kept
abbrev pub escape : ℕ → List ℕ
escape b = cond (eqb (unescape b) 0) (92 ∷ b ∷ []) (unescape b ∷ [])

-- byte by byte, where `true` says that an open backslash stands before; one at the end is kept
abbrev pub decode_from : Bool → List ℕ → List ℕ
decode_from false [] = []
decode_from true [] = 92 ∷ []
decode_from false (b ∷ l) = cond (eqb b 92) (decode_from true l) (b ∷ decode_from false l)
decode_from true (b ∷ l) = escape b ++ decode_from false l

unfoldable pub decoded : List ℕ → List ℕ
decoded l = decode_from false l

-- ---- what a private reader answers; only contracts of private functions cite these

abbrev pub bytes_of : Piece → List ℕ
bytes_of p = cond p.kept (92 ∷ p.byte ∷ []) (p.byte ∷ [])

-- p is what stands at the place i of s, and the rest is decoded by itself
pub record Reads (s : List ℕ) (i : ℕ) (p : Piece) : Type 0 where
  pub decodes : decoded (drop i s) ≡ bytes_of p ++ decoded (drop (i + p.len) s)
  pub no_more : length (bytes_of p) ≤ p.len
  pub within : i + p.len ≤ length s
