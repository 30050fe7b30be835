-- For the contract of a private function alone: the text of a literal.
-- Assumes nothing.
use Rattle.std.specs.Prelude.{ℕ}
use Rattle.literal.specs.declared.Literal.{Literal}
use Rattle.literal.specs.declared.Literal.TheVariants as L

-- how many bytes a literal has in the text
abbrev pub text_length : Literal → ℕ
text_length (L.Bool b) = 0
text_length (L.Int z) = 0
text_length (L.String at len) = len
text_length (L.Float x) = 0
text_length L.None = 0
