-- The loads of a source's tokens: what the leaves of its tree say, found by their tokens.
-- Assumes nothing.
use Prim.Native.Nat.{ℕ, ◌+◌}
use mathlib.Core.Bool.{cond}
use mathlib.Core.List.{List, [], ◌∷◌}
use lib.Dec.{eqb}
use Rattle.source.specs.Bytes.{part}
use Rattle.token.specs.Code as token
use Rattle.literal.specs.declared.Literal.{Literal}
use Rattle.literal.specs.declared.Literal.TheVariants as L
use Rattle.tokens.specs.Token.{Token}
use Rattle.ast.specs.Literal.{leaf_of_lem}
use Rattle.pyhyeon.specs.Symbol.{is_tee}
use Rattle.unparse.specs.Trees.{Load}

module _ (source text : List ℕ) where
  -- what a literal whose token stands from s to e stands for: the words of its value, or a String's bytes; "Floats use their kept spelling"
  abbrev pub worth : ℕ → ℕ → Literal → Load
  worth s e (L.Bool b) = (leaf_of_lem s e (L.Bool b)).p ∷ []
  worth s e (L.Int z) = (leaf_of_lem s e (L.Int z)).p ∷ (leaf_of_lem s e (L.Int z)).q ∷ []
  worth s e (L.String at n) = part text at (at + n)
  worth s e (L.Float x) = (leaf_of_lem s e (L.Float x)).p ∷ (leaf_of_lem s e (L.Float x)).q ∷ part source s e
  worth s e L.None = []

  -- what a token stands for: the bytes of a name other than `t`, or its literal
  unfoldable pub load : Token → Load
  load t = cond (is_tee source t) [] (cond (eqb t.code token.Identifier) (part source t.start t.end) (worth t.start t.end t.literal))
