-- The bytes of a string.
-- Assumes nothing.
use mathlib.Core.Path.{◌≡◌, sym, ap, ◌∙◌}
use mathlib.Core.List.{List, [], ◌∷◌, ◌++◌, append_assoc, append-nil}
use Prim.Native.Nat.{ℕ}
use Rattle.rendered.specs.Spelled.{escaped, escaped_all}

-- one byte more
pub escaped_push : (l : List ℕ) (b : ℕ) → escaped_all (l ++ b ∷ []) ≡ escaped_all l ++ escaped b
unfolding escaped_all
escaped_push [] b = append-nil (escaped b)
escaped_push (x ∷ l) b = ap (λ (r : List ℕ). escaped x ++ r) (escaped_push l b) ∙ sym (append_assoc (escaped x) (escaped_all l) (escaped b))
