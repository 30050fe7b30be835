-- `numbers::digits::find` meets its contract: the place of the first of the two bytes, or the length.
use mathlib.Core.Path.{◌≡◌, refl, sym, ◌∙◌}
use mathlib.Core.Bool.{true, false, ◌||◌}
use mathlib.Core.List.{List, [], ◌∷◌}
use Prim.Native.Nat.{ℕ, ◌+◌}
use native.Mathlib.Numerals.{add-one}
use lib.Dec.{eqb}
use borrow.Author.Rules.{rules}
use borrow.Author.Tests.{tests}
use Rattle.std.proofs.lemmas.Iterator.{IsFirst-from_position, index_from_first, YieldsList-from_slice}
use Rattle.numbers.specs.Digits.{place}
use Rattle.numbers.proofs.Joining.{found}
use Rattle.numbers.proofs.digits.find.Goals as goal

hit : (x y b : ℕ) (s : List ℕ) → (eqb b x || eqb b y) ≡ true → place x y (b ∷ s) ≡ 0
unfolding place
hit x y b s e = rw e

miss : (x y b : ℕ) (s : List ℕ) → (eqb b x || eqb b y) ≡ false → place x y (b ∷ s) ≡ place x y s + 1
unfolding place
miss x y b s e = rw (e, add-one)

none : (x y : ℕ) → place x y [] ≡ 0
unfolding place
none x y = refl

pub returns : goal.returns
returns c =
    let a = c.args in
    let first =
    IsFirst-from_position _ _ _ (λ (b : ℕ). (eqb b a.a || eqb b a.b) ≡ true) (λ (b : ℕ). (eqb b a.a || eqb b a.b) ≡ false) c.position.ensures.ran
    (YieldsList-from_slice a.s.now cc) (λ x q k. search (rules, tests)) (λ x q k. search (rules, tests)) in
    found a.a a.b a.s.now _
    (c.unwrap_or.ensures
    ∙ sym (index_from_first (place a.a a.b) (λ (b : ℕ). (eqb b a.a || eqb b a.b) ≡ true) (λ (b : ℕ). (eqb b a.a || eqb b a.b) ≡ false) (none a.a a.b) (hit a.a a.b) (miss a.a a.b) a.s.now _ first))
