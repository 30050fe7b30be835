-- What is said of the Floats of an accepted script: "A Float record carries in r and s the start and end of its token" (02, change 3), and p and q are the
-- value of the bytes that stand there. It follows from the definitions (proofs/Spelling.antt), and is said here for those who read a tree.
-- Assumes nothing.
use Rattle.std.specs.Prelude.{ℕ, ◌≡◌, cond, eqb, get_or, Float, Some}
use mathlib.Core.List.{List, [], ◌∷◌, flat_map}
use Rattle.std.specs.Float.{binary64}
use Rattle.std.specs.Float.Ieee.{to_bits}
use Rattle.source.specs.Bytes.{part}
use Rattle.token.specs.Code as code
use Rattle.tokens.specs.Token.{Token}
use Rattle.numbers.specs.Bits.{halves_of}
use Rattle.numbers.specs.Decimal.{decimal_of}
use Rattle.ast.specs.Kind as kind
use Rattle.ast.specs.Node.{Node, blank}

-- A Float with the fields p, q, r and s: the bytes from r to s have this value ("Its value is one multiplication or one division of two exact numbers", 01, Raw
-- tokens), and p and q are its bits ("p low, q high half of the 64 bits", 01, Tree).
pub record Spelled (source : List ℕ) (p q r s : ℕ) : Type 0 where
  pub value : Float
  pub reads : decimal_of (part source r s) ≡ Some value
  pub low : p ≡ (halves_of (to_bits binary64 value)).low
  pub high : q ≡ (halves_of (to_bits binary64 value)).high

-- a node, where it is a Float
abbrev pub FloatSpelled : List ℕ → Node → Type 0
FloatSpelled source n = n.kind ≡ kind.Float → Spelled source n.p n.q n.r n.s

-- where a Float is spelled: a token from start to end, a node from r to s; what is no Float, nowhere
abbrev pub token_spelling : Token → List (ℕ × ℕ)
token_spelling t = cond (eqb t.code code.Float) ((t.start, t.end) ∷ []) []

abbrev pub node_spelling : Node → List (ℕ × ℕ)
node_spelling n = cond (eqb n.kind kind.Float) ((n.r, n.s) ∷ []) []

-- "in r and s the start and end of its token": the Float nodes, in the order of their numbers, are spelled where the Float tokens are, in their order, so that none
-- is lost, added or exchanged. And the bytes there have each one's value. Of the nodes' own spans, start and end, this says nothing.
pub record Spellings (source : List ℕ) (toks : List Token) (ns : List Node) : Type 0 where
  pub in_order : flat_map node_spelling ns ≡ flat_map token_spelling toks
  pub each : (i : ℕ) → FloatSpelled source (get_or ns i blank)
