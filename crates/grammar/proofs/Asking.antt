-- Where a part refuses, and what it asks for there. (The walk follows: Course.antt.)
-- Assumes nothing.
use mathlib.Core.Logic.{◌⊎◌}
use mathlib.Core.Bool.{not}
use mathlib.Core.List.{List, [], ◌∷◌, ◌++◌}
use Prim.Native.Nat.{ℕ}
use lib.Dec.{T}
use Rattle.grammar.specs.Grammar.{Part, tok, see, call, ◌⨾◌, ◌∕◌, many, tail}
use Rattle.grammar.specs.Descent.{Plan, null, begins}
use Rattle.grammar.proofs.Sets.{Sees}
use Rattle.grammar.proofs.Reading.{Reads}

-- `Refuses G p w l asked`: the part p takes w, and refuses before l, where it asks for one of these tokens. A rule or an alternative is gone into only where
-- its token stands next (or it needs none), so that it takes one before it refuses (Only.antt, `not_at_once`).
pub data Refuses {Act R : Type 0} (G : Plan Act R) : Part Act R → List ℕ → List ℕ → List ℕ → Type 0 where
  no_tok : {set l : List ℕ} → (Sees set l → ⊥) → Refuses G (tok set) [] l set
  no_see : {set l : List ℕ} → (Sees set l → ⊥) → Refuses G (see set) [] l set
  no_call : {r : R} {l : List ℕ} → (Sees (G.first r) l → ⊥) → Refuses G (call r) [] l (G.first r)
  no_choice : {p q : Part Act R} {l : List ℕ} → (Sees (begins G.first p) l → ⊥) → T (not (null q)) → (Sees (begins G.first q) l → ⊥) →
      Refuses G (p ∕ q) [] l (begins G.first p ++ begins G.first q)
  in_call : {r : R} {w l asked : List ℕ} → Sees (G.first r) (w ++ l) → Refuses G (G.body r) w l asked → Refuses G (call r) w l asked
  in_first : {p q : Part Act R} {w l asked : List ℕ} → Refuses G p w l asked → Refuses G (p ⨾ q) w l asked
  in_second : {p q : Part Act R} {v w l asked : List ℕ} → Reads G p v (w ++ l) → Refuses G q w l asked → Refuses G (p ⨾ q) (v ++ w) l asked
  in_left : {p q : Part Act R} {w l asked : List ℕ} → Sees (begins G.first p) (w ++ l) → Refuses G p w l asked → Refuses G (p ∕ q) w l asked
  in_right : {p q : Part Act R} {w l asked : List ℕ} → (Sees (begins G.first p) (w ++ l) → ⊥) → Sees (begins G.first q) (w ++ l) ⊎ T (null q) → Refuses G q w l asked → Refuses G (p ∕ q) w l asked
  in_many : {p : Part Act R} {w l asked : List ℕ} → Sees (begins G.first p) (w ++ l) → Refuses G p w l asked → Refuses G (many p) w l asked
  on_many : {p : Part Act R} {v w l asked : List ℕ} → Reads G p v (w ++ l) → Refuses G (many p) w l asked → Refuses G (many p) (v ++ w) l asked
  in_tail : {c : ℕ} {p : Part Act R} {w l asked : List ℕ} → Sees (begins G.first p) (w ++ l) → Refuses G p w l asked → Refuses G (tail c p) (c ∷ w) l asked
  on_tail : {c : ℕ} {p : Part Act R} {v w l asked : List ℕ} → Reads G p v (w ++ l) → Refuses G (tail c p) w l asked → Refuses G (tail c p) (c ∷ (v ++ w)) l asked
