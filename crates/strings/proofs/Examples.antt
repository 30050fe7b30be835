-- The definition at a few texts, computed.
-- Assumes nothing.
use mathlib.Core.Path.{◌≡◌, refl}
use mathlib.Core.List.{[], ◌∷◌}
use Rattle.source.specs.Text.{bytes}
use Rattle.strings.specs.Decoded.{decoded}

-- each escape: line feed, tab, carriage return, backslash, the two quotes
all_six : decoded (bytes "a\\nb\\tc\\rd\\\\e\\\"f\\'g") ≡ 97 ∷ 10 ∷ 98 ∷ 9 ∷ 99 ∷ 13 ∷ 100 ∷ 92 ∷ 101 ∷ 34 ∷ 102 ∷ 39 ∷ 103 ∷ []
unfolding decoded
all_six = refl

-- another keeps its backslash
other : decoded (bytes "\\q") ≡ bytes "\\q"
unfolding decoded
other = refl

-- a backslash that is escaped opens nothing
twice : decoded (bytes "\\\\n") ≡ bytes "\\n"
unfolding decoded
twice = refl

-- a lone backslash at the end is kept
last : decoded (bytes "a\\") ≡ bytes "a\\"
unfolding decoded
last = refl
