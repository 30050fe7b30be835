-- Laws of `tabulate`, by which nodes are read off a tree.
-- Assumes nothing.
use mathlib.Core.Path.{◌≡◌, refl, ap, sym, ◌∙◌}
use mathlib.Core.List.{List, [], ◌∷◌, ◌++◌}
use Prim.Native.Nat.{ℕ, zero, suc, ◌+◌, ◌≤◌, ◌<◌}
use native.Mathlib.Omega.{arith}
use lib.ListN.{length, get_or, set}
use Rattle.ast.specs.Words.{tabulate}

module _ {A : Type 0} where
  pub length_tabulate : (f : ℕ → A) (i k : ℕ) → length (tabulate f i k) ≡ k
  length_tabulate f i zero = refl
  length_tabulate f i (suc k) = ap suc (length_tabulate f (i + 1) k)

  pub get_d_tabulate : (f : ℕ → A) (d : A) (i k j : ℕ) → j < k → get_or (tabulate f i k) j d ≡ f (i + j)
  get_d_tabulate f d i zero j h = absurd (omega arith)
  get_d_tabulate f d i (suc k) zero h = let e : i ≡ i + 0 = omega arith in ap f e
  get_d_tabulate f d i (suc k) (suc j) h = let e : (i + 1) + j ≡ i + suc j = omega arith in get_d_tabulate f d (i + 1) k j (omega arith) ∙ ap f e

  -- one more at the end
  pub tabulate_snoc : (f : ℕ → A) (i k : ℕ) → tabulate f i (k + 1) ≡ tabulate f i k ++ (f (i + k) ∷ [])
  tabulate_snoc f i k = let e : k + 1 ≡ suc k = omega arith in ap (tabulate f i) e ∙ go i k
    where
      go : (i k : ℕ) → tabulate f i (suc k) ≡ tabulate f i k ++ (f (i + k) ∷ [])
      go i zero = let e : i ≡ i + 0 = omega arith in ap (λ (x : ℕ). f x ∷ []) e
      go i (suc k) = let e : (i + 1) + k ≡ i + suc k = omega arith in ap (λ (l : List A). f i ∷ l) (go (i + 1) k ∙ ap (λ (x : ℕ). tabulate f (i + 1) k ++ (f x ∷ [])) e)

  -- two functions that agree there
  pub tabulate_same : (f g : ℕ → A) (i k : ℕ) → ((j : ℕ) → i ≤ j → j < i + k → f j ≡ g j) → tabulate f i k ≡ tabulate g i k
  tabulate_same f g i zero h = refl
  tabulate_same f g i (suc k) h =
      ap (λ (x : A). x ∷ tabulate f (i + 1) k) (h i (omega arith) (omega arith))
      ∙ ap (λ (l : List A). g i ∷ l) (tabulate_same f g (i + 1) k (λ j a b. h j (omega arith) (omega arith)))

  -- two functions that agree but at one place
  pub tabulate_set : (f g : ℕ → A) (x : A) (i k m : ℕ) → m < k → g (i + m) ≡ x → ((j : ℕ) → (j ≡ i + m → ⊥) → f j ≡ g j) → tabulate g i k ≡ set (tabulate f i k) m x
  tabulate_set f g x i zero m l e h = absurd (omega arith)
  tabulate_set f g x i (suc k) zero l e h =
      let e₀ : i ≡ i + 0 = omega arith in
      ap (λ (y : A). y ∷ tabulate g (i + 1) k) (ap g e₀ ∙ e)
      ∙ ap (λ (r : List A). x ∷ r) (sym (tabulate_same f g (i + 1) k (λ j a b. h j (λ z. omega arith))))
  tabulate_set f g x i (suc k) (suc m) l e h =
      let e₀ : (i + 1) + m ≡ i + suc m = omega arith in
      ap (λ (y : A). y ∷ tabulate g (i + 1) k) (sym (h i (λ z. omega arith)))
      ∙ ap (λ (r : List A). f i ∷ r) (tabulate_set f g x (i + 1) k m (omega arith) (ap g e₀ ∙ e) (λ j n. h j (λ z. n (omega arith))))
