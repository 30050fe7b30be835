-- A String by characters, as document 01 has it (Raw tokens): "String: same quote at both ends, line feeds allowed, a backslash with any
-- character but a line feed. Escapes n t r \ " ' are decoded; another keeps its backslash." The scanner's definitions go by bytes: `string` of
-- raw_token and `decoded` of strings. That both come to the same in well-formed UTF-8 is shown in proofs/Strings.antt (`string_is`,
-- `decoded_is`).
-- Assumes nothing.
use Rattle.std.specs.Prelude.{ℕ, ◌+◌, ◌≡◌, Bool, false, cond, List, [], ◌∷◌, ◌++◌, eqb, length, take, drop, None}
use Rattle.source.specs.Bytes.{part}
use Rattle.utf8.specs.Table.{utf8_error_lem}
use Rattle.raw_token.specs.Pattern.{behind}
use Rattle.strings.specs.Decoded as D
use Rattle.strings.specs.Decoded.{escape}
use Rattle.literal.specs.Literal.{unquoted}
use Rattle.lexical.specs.Characters.{characters}

-- the character c is the one of ASCII with the number b, which is one byte
abbrev pub is : ℕ → List ℕ → Bool
is b [] = false
is b (a ∷ []) = eqb a b
is b (a ∷ d ∷ c) = false

-- The bytes of what follows an opening quote q, up to and with the closing one, and 0 where none closes: the next is the closing quote; or "a
-- backslash with any character but a line feed" (92, 10); or any other character
abbrev pub closing : ℕ → List (List ℕ) → ℕ
closing q [] = 0
closing q (c ∷ []) = cond (is q c) 1 0
closing q (c ∷ d ∷ cs) =
    cond (is q c) 1
    (cond (is 92 c) (cond (is 10 d) 0 (behind (1 + length d) (closing q cs)))
    (behind (length c) (closing q (d ∷ cs))))

-- "same quote at both ends": " (34) or ' (39)
abbrev pub string : List (List ℕ) → ℕ
string [] = 0
string (c ∷ cs) = cond (is 34 c) (behind 1 (closing 34 cs)) (cond (is 39 c) (behind 1 (closing 39 cs)) 0)

-- a backslash with the character c: "Escapes n t r \ " ' are decoded; another keeps its backslash". Those are of one byte
abbrev pub escaped : List ℕ → List ℕ
escaped [] = 92 ∷ []
escaped (b ∷ []) = escape b
escaped (b ∷ d ∷ c) = 92 ∷ b ∷ d ∷ c

-- the bytes that the characters between the quotes stand for; a backslash at the end is kept
abbrev pub decoded : List (List ℕ) → List ℕ
decoded [] = []
decoded (c ∷ []) = c
decoded (c ∷ d ∷ cs) = cond (is 92 c) (escaped d ++ decoded cs) (c ++ decoded (d ∷ cs))

-- What is so of a String from `at` up to `end` of the source s: what stands before it, from it on, between its quotes and behind it is whole
-- characters; by these it ends where it does, and stands for the bytes that it does
pub record ByCharacters (s : List ℕ) (at end : ℕ) : Type 0 where
  pub before : utf8_error_lem (take at s) ≡ None
  pub onward : utf8_error_lem (drop at s) ≡ None
  pub between : utf8_error_lem (unquoted (part s at end)) ≡ None
  pub after : utf8_error_lem (drop end s) ≡ None
  pub end_is : end ≡ at + string (characters (drop at s))
  pub text_is : D.decoded (unquoted (part s at end)) ≡ decoded (characters (unquoted (part s at end)))
