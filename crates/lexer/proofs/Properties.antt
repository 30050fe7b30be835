-- What the laws of the token list say (proofs/Laws.antt), as predicates of plain lists.
-- Assumes nothing.
use mathlib.Core.Path.{◌≡◌}
use mathlib.Core.Bool.{cond}
use mathlib.Core.List.{List, [], ◌∷◌, ◌++◌}
use Prim.Native.Nat.{ℕ, zero, suc, ◌+◌, ◌<◌, ◌≤◌}
use native.Mathlib.Omega.{arith}
use lib.Dec.{eqb}
use lib.Ieee.{Float}
use lib.ListN.{length, get_or, take}
use Rattle.std.specs.Prelude.{Some}
use Rattle.source.specs.Bytes.{part}
use Rattle.numbers.specs.Decimal.{decimal_of}
use Rattle.strings.specs.Decoded.{decoded}
use Rattle.token.specs.Code as Code
use Rattle.tokens.specs.Token.{Token}
use Rattle.literal.specs.Literal.{unquoted}
use Rattle.literal.specs.declared.Literal.{Literal}
use Rattle.literal.specs.declared.Literal.TheVariants as L
use Rattle.lexer.specs.Value.{value_of, text_of}
use Rattle.lexer.specs.Scan.{mark}

-- each token is so
pub data Each (P : Token → Type 0) : List Token → Type 0 where
  none : Each P []
  more : {t : Token} {ts : List Token} → P t → Each P ts → Each P (t ∷ ts)

-- each token is so with each token behind it
pub data Pairs (R : Token → Token → Type 0) : List Token → Type 0 where
  none : Pairs R []
  more : {t : Token} {ts : List Token} → Each (R t) ts → Pairs R ts → Pairs R (t ∷ ts)

-- a token lies within n bytes; all but Dedent and Eof have a byte or more, and a String has its two quotes
pub record Spanned (n : ℕ) (t : Token) : Type 0 where
  pub ordered : t.start ≤ t.end
  pub within : t.end ≤ n
  pub some : (t.code ≡ Code.Dedent → ⊥) → (t.code ≡ Code.Eof → ⊥) → t.start < t.end
  pub quotes : t.code ≡ Code.String → t.start + 2 ≤ t.end

-- the token t stands before the token u. Several Dedents of one line span the same spaces; any other token starts at or behind the end of t
pub record Before (t u : Token) : Type 0 where
  pub starts : t.start ≤ u.start
  pub ends : t.end ≤ u.end
  pub apart : (u.code ≡ Code.Dedent → ⊥) → t.end ≤ u.start

-- Eof once, last, at n
pub record EofLast (n : ℕ) (ts : List Token) : Type 0 where
  pub front : List Token
  pub last : ts ≡ front ++ mark Code.Eof n n ∷ []
  pub once : Each (λ t. t.code ≡ Code.Eof → ⊥) front

-- how many tokens have the code
abbrev pub count : ℕ → List Token → ℕ
count code [] = 0
count code (t ∷ ts) = cond (eqb t.code code) (suc (count code ts)) (count code ts)

-- as many Dedents as Indents, and never more of them up to a place
pub record Balanced (ts : List Token) : Type 0 where
  pub whole : count Code.Dedent ts ≡ count Code.Indent ts
  pub front : (k : ℕ) → count Code.Dedent (take k ts) ≤ count Code.Indent (take k ts)

-- a code of 01
pub record Coded (t : Token) : Type 0 where
  pub least : Code.If ≤ t.code
  pub greatest : t.code ≤ Code.Eof

-- the bytes of a token
abbrev pub bytes_of : List ℕ → Token → List ℕ
bytes_of s t = part s t.start t.end

-- each token has the value of its code, its bytes and the bytes of text before it, and the text is the tokens' one after the other
pub data Valued (s : List ℕ) : ℕ → List Token → List ℕ → Type 0 where
  none : {used : ℕ} → Valued s used [] []
  more : {used : ℕ} {t : Token} {ts : List Token} {bs : List ℕ} → value_of t.code (bytes_of s t) used ≡ Some t.literal
      → Valued s (used + length (text_of t.code (bytes_of s t))) ts bs → Valued s used (t ∷ ts) (text_of t.code (bytes_of s t) ++ bs)

-- Float's code, and bytes of the value x
pub record FloatOf (code : ℕ) (l : List ℕ) (x : Float) : Type 0 where
  pub coded : code ≡ Code.Float
  pub value : decimal_of l ≡ Some x

-- a literal of a token with this code and the bytes l: a String's place and length lie within the text, and what stands there is what l decodes to; a Float's
-- code is Float's, and its value that of l
abbrev pub Held : List ℕ → ℕ → List ℕ → Literal → Type 0
Held text code l (L.Bool b) = Unit {0}
Held text code l (L.Int n) = Unit {0}
Held text code l (L.String at n) = (at + n ≤ length text) × (part text at (at + n) ≡ decoded (unquoted l))
Held text code l (L.Float x) = FloatOf code l x
Held text code l L.None = Unit {0}

-- the same of a token of the source s
abbrev pub InText : List ℕ → List ℕ → Token → Type 0
InText s text t = Held text t.code (bytes_of s t) t.literal

-- where the literal is a Float, code and bytes are as `FloatOf` says, and a token with Float's code has such a literal
pub record FloatCoded (s : List ℕ) (t : Token) : Type 0 where
  pub of : (x : Float) → t.literal ≡ L.Float x → FloatOf t.code (bytes_of s t) x
  pub has : t.code ≡ Code.Float → (x : Float) × (t.literal ≡ L.Float x)

pub each_at : {P : Token → Type 0} {ts : List Token} → Each P ts → (i : ℕ) (d : Token) → i < length ts → P (get_or ts i d)
each_at none i d h = absurd (omega arith)
each_at (more p e) zero d h = p
each_at (more p e) (suc i) d h = each_at e i d (omega arith)

pub pairs_at : {R : Token → Token → Type 0} {ts : List Token} → Pairs R ts → (i j : ℕ) (d : Token) → i < j → j < length ts → R (get_or ts i d) (get_or ts j d)
pairs_at none i j d h k = absurd (omega arith)
pairs_at (more a p) i zero d h k = absurd (omega arith)
pairs_at (more a p) zero (suc j) d h k = each_at a j d (omega arith)
pairs_at (more a p) (suc i) (suc j) d h k = pairs_at p i j d (omega arith) (omega arith)
