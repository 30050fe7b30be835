-- What a part of a rule does to the sorts of the values at hand: a test that antt computes, and
-- that need not be believed. A machine's values are a stack, the last one first.
-- Assumes nothing.
use Rattle.std.specs.Prelude.{◌≡◌}
use mathlib.Core.HLevel.{Discrete}
use Rattle.std.proofs.Math.Option.{Option, none, some}
use mathlib.Core.List.{List, [], ◌∷◌, ◌++◌}
use Rattle.grammar.specs.Grammar.{Part, skip, act, tok, see, call, ◌⨾◌, ◌∕◌, many, tail}

-- the sorts that are taken, and those that are left in their place
pub record Effect (S : Type 0) : Type 0 where
  pub takes : List S
  pub leaves : List S

-- the effect of each action and of each rule; a token has none
pub record Effects (S Act R : Type 0) : Type 0 where
  pub of_act : Act → Effect S
  pub of_rule : R → Effect S

unfoldable pub bind : {A B : Type 0} → Option A → (A → Option B) → Option B
bind none f = none
bind (some a) f = f a

-- o, where the test passes
unfoldable pub where_same : {A B : Type 0} → Dec A → Option B → Option B
where_same (yes e) o = o
where_same (no f) o = none

module _ {S : Type 0} (same : Discrete S) where
  -- what is left of a stack when these are taken off
  unfoldable pub strip : List S → List S → Option (List S)
  unfolding where_same
  strip [] σ = some σ
  strip (i ∷ π) [] = none
  strip (i ∷ π) (j ∷ σ) = where_same (same j i) (strip π σ)

  -- the second, where the first is the same
  unfoldable pub alike : List S → List S → Option (List S)
  unfolding where_same bind
  alike [] [] = some []
  alike [] (j ∷ b) = none
  alike (i ∷ a) [] = none
  alike (i ∷ a) (j ∷ b) = where_same (same i j) (bind (alike a b) (λ c. some (j ∷ c)))

  unfoldable pub effect : Effect S → List S → Option (List S)
  unfolding strip bind
  effect e σ = bind (strip e.takes σ) (λ τ. some (e.leaves ++ τ))

  -- what is repeated comes to where it began
  unfoldable pub again : Option (List S) → List S → Option (List S)
  unfolding bind alike
  again o σ = bind o (λ a. alike a σ)

  -- The sorts after a part, from those before it. None: a value is missing or of another sort, two alternatives do not come to the same,
  -- or what is repeated changes the sorts.
  unfoldable pub flow : {Act R : Type 0} → Effects S Act R → Part Act R → List S → Option (List S)
  unfolding effect bind alike again
  flow F skip σ = some σ
  flow F (act a) σ = effect (F.of_act a) σ
  flow F (tok set) σ = some σ
  flow F (see set) σ = some σ
  flow F (call r) σ = effect (F.of_rule r) σ
  flow F (p ⨾ q) σ = bind (flow F p σ) (λ a. flow F q a)
  flow F (p ∕ q) σ = bind (flow F p σ) (λ a. bind (flow F q σ) (λ b. alike a b))
  flow F (many p) σ = again (flow F p σ) σ
  flow F (tail c p) σ = again (flow F p σ) σ

  -- the test of one rule: its body does what its effect says
  abbrev pub Flows : {Act R : Type 0} → Effects S Act R → (R → Part Act R) → R → Type 0
  Flows F body r = flow F (body r) (F.of_rule r).takes ≡ some (F.of_rule r).leaves
