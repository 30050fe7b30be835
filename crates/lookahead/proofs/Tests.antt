-- What a test of the code tells of the token's symbol.
-- Assumes nothing.
use mathlib.Core.Path.{◌≡◌, refl, ◌∙◌}
use mathlib.Core.Bool.{Bool, true, false, ◌||◌}
use mathlib.Core.List.{List, [], ◌∷◌, ◌++◌}
use Prim.Native.Nat.{ℕ}
use lib.Dec.{eqb}
use borrow.Author.Tests.{ne_eqb}
use Rattle.grammar.specs.Sets.{mem}

pub or_true : (b : Bool) → (b || true) ≡ true
or_true true = refl
or_true false = refl

-- what the test returned, what its contract says of that, and which symbol it was given
pub learnt : (set : List ℕ) {b r : Bool} {k c : ℕ} → r ≡ b → r ≡ mem k set → k ≡ c → mem c set ≡ b
learnt set p q e = cc

-- what a `match` on the symbol k tells of the token's symbol c: it is the number m; it is not the first of a set
pub coded : (set : List ℕ) (m : ℕ) {k c : ℕ} {b : Bool} → k ≡ c → k ≡ m → mem m set ≡ b → mem c set ≡ b
coded set m e h f = cc

pub not_first : (n : ℕ) (set : List ℕ) {k c : ℕ} → k ≡ c → (k ≡ n → ⊥) → mem c (n ∷ set) ≡ mem c set
not_first n set {c = c} e f = simp (ne_eqb c n (λ h. f (e ∙ h)))

-- a symbol of a set that is not the set's first is of the others
pub without : (n : ℕ) (set : List ℕ) (c : ℕ) {b : Bool} → mem c (n ∷ []) ≡ false → mem c (n ∷ set) ≡ b → mem c set ≡ b
without n set c e f = go (eqb c n) e f
  where
    go : {b : Bool} (x : Bool) → (x || false) ≡ false → (x || mem c set) ≡ b → mem c set ≡ b
    go false e f = f
    go true e f = cc

-- a symbol of two sets together that is not of the second is of the first
pub of_first : (a b : List ℕ) (c : ℕ) → mem c b ≡ false → mem c (a ++ b) ≡ true → mem c a ≡ true
of_first [] b c e f = cc
of_first (y ∷ a) b c e f = go (eqb c y) f (of_first a b c e)
  where
    go : (x : Bool) → (x || mem c (a ++ b)) ≡ true → (mem c (a ++ b) ≡ true → mem c a ≡ true) → (x || mem c a) ≡ true
    go true f g = refl
    go false f g = g f

-- and one that is not of the first is of the second
pub of_second : (a b : List ℕ) (c : ℕ) → mem c a ≡ false → mem c (a ++ b) ≡ true → mem c b ≡ true
of_second [] b c e f = f
of_second (y ∷ a) b c e f = go (eqb c y) e f (of_second a b c)
  where
    go : (x : Bool) → (x || mem c a) ≡ false → (x || mem c (a ++ b)) ≡ true → (mem c a ≡ false → mem c (a ++ b) ≡ true → mem c b ≡ true) → mem c b ≡ true
    go true e f g = cc
    go false e f g = g e f

-- a symbol of the first set, or of the second, is of both together
pub among_first : (a b : List ℕ) (c : ℕ) → mem c a ≡ true → mem c (a ++ b) ≡ true
among_first [] b c e = cc
among_first (y ∷ a) b c e = go (eqb c y) e (among_first a b c)
  where
    go : (x : Bool) → (x || mem c a) ≡ true → (mem c a ≡ true → mem c (a ++ b) ≡ true) → (x || mem c (a ++ b)) ≡ true
    go true e f = refl
    go false e f = f e

pub among_second : (a b : List ℕ) (c : ℕ) → mem c b ≡ true → mem c (a ++ b) ≡ true
among_second [] b c e = e
among_second (y ∷ a) b c e = rw (among_second a b c e) (or_true (eqb c y))

-- a symbol of neither set
pub of_neither : (a b : List ℕ) (c : ℕ) → mem c (a ++ b) ≡ false → (mem c a ≡ false) × (mem c b ≡ false)
of_neither [] b c e = (refl, e)
of_neither (y ∷ a) b c e = go (eqb c y) e (of_neither a b c)
  where
    go : (x : Bool) → (x || mem c (a ++ b)) ≡ false → (mem c (a ++ b) ≡ false → (mem c a ≡ false) × (mem c b ≡ false)) → ((x || mem c a) ≡ false) × (mem c b ≡ false)
    go true e f = cc
    go false e f = f e
