-- The definition of the printed form, computed for some lines.
-- Assumes nothing.
use mathlib.Core.Path.{◌≡◌, refl}
use mathlib.Core.List.{[], ◌∷◌, ◌++◌}
use Rattle.source.specs.Text.{bytes}
use Rattle.numbers.specs.Digits.{digits}
use Rattle.ast.specs.Kind as kind
use Rattle.ast.specs.Node.{none, made}
use Rattle.printing.specs.Printed.{spaced, node_lines, printed_no}

-- "Int and Float halves print as numbers": the Int -1; behind it an If with no elif and no else
pub halves : node_lines 7 (made kind.Int 0 2 none none 0 0 ∷ made kind.If 0 9 3 5 none none ∷ []) ≡ bytes "7 19 0 2 - 4294967295 4294967295 0 0\n" ++ bytes "8 2 0 9 - 3 5 - -\n"
unfolding digits spaced node_lines
halves = refl

-- and so do r and s of a Float, the places of its token (02, change 3): the 0.1 of `(0.10)`
pub spelling : node_lines 0 (made kind.Float 0 6 2576980378 1069128089 1 5 ∷ []) ≡ bytes "0 21 0 6 - 2576980378 1069128089 1 5\n"
unfolding digits spaced node_lines
spelling = refl

pub refusal : printed_no 14 65536 ≡ bytes "no 14 65536\n"
unfolding digits spaced printed_no
refusal = refl
