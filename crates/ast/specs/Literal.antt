-- Literals as nodes (01, Tree, "18 Bool (p 1 for True, else 0), 19 Int and 21 Float (p low, q high half of the 64 bits), 20 String (p offset,
-- q length in the text), 22 None"; 02, change 3, "A Float record carries in r and s the start and end of its token").
-- Assumes nothing.
use Rattle.std.specs.Prelude.{ℕ, cond}
use Rattle.std.specs.Float.{binary64}
use Rattle.std.specs.Float.Ieee.{to_bits}
use Rattle.numbers.specs.declared.halves.Halves.{Halves}
use Rattle.numbers.specs.Bits.{halves_of, twos_complement}
use Rattle.literal.specs.declared.Literal.{Literal}
use Rattle.literal.specs.declared.Literal.TheVariants as L
use Rattle.ast.specs.declared.Content.{Content}
use Rattle.ast.specs.Kind as kind
use Rattle.ast.specs.Node.{Node, made}

-- r and s are unused: "Unused words are 0" (01, Tree)
abbrev pub leaf : ℕ → ℕ → ℕ → Content
leaf kind p q = record { kind = kind; p = p; q = q; r = 0; s = 0 }

-- "p low, q high half of the 64 bits"
abbrev pub halved : ℕ → ℕ → ℕ → Halves → Content
halved kind r s h = record { kind = kind; p = h.low; q = h.high; r = r; s = s }

-- the kind and the fields of a literal whose token stands from start to end: a Float has "in r and s the start and end of its token"
abbrev pub leaf_of_lem : ℕ → ℕ → Literal → Content
leaf_of_lem start end (L.Bool b) = leaf kind.Bool (cond b 1 0) 0
leaf_of_lem start end (L.Int z) = halved kind.Int 0 0 (halves_of (twos_complement z))
leaf_of_lem start end (L.String at len) = leaf kind.String at len
leaf_of_lem start end (L.Float x) = halved kind.Float start end (halves_of (to_bits binary64 x))
leaf_of_lem start end L.None = leaf kind.None 0 0

-- its node, when it is written: what widens the node's span later leaves r and s (Node.antt, `spanned`)
abbrev pub literal_node_lem : ℕ → ℕ → Literal → Node
literal_node_lem start end l =
    let f = leaf_of_lem start end l in
    made f.kind start end f.p f.q f.r f.s
