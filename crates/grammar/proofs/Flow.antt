-- What the test of the sorts says: where every rule passes it, a part finds values of the sorts that it takes, and leaves those that it says.
-- Assumes nothing.
use mathlib.Core.Path.{◌≡◌, refl, ap, ap₂, sym, ◌∙◌}
use mathlib.Core.HLevel.{Discrete}
use mathlib.Core.Option.{Option, none, some}
use mathlib.Core.Bool.{◌||◌}
use mathlib.Core.List.{List, [], ◌∷◌, ◌++◌, append_assoc}
use Prim.Native.Nat.{ℕ, zero, suc}
use native.Mathlib.Omega.{arith}
use lib.ListN.{length}
use Rattle.grammar.specs.Sets.{mem, sees}
use Rattle.grammar.specs.Grammar.{Part, skip, act, tok, see, call, ◌⨾◌, ◌∕◌, many, tail}
use Rattle.grammar.specs.Trial.{Machine, St, skip_p, take_from, take_p, see_p, act_p, enough}
use Rattle.grammar.specs.Descent.{Plan, Answer, Walk, null, begins, same_d, seq_d, many_d, list_d, walk, rule_d, descend}
use Rattle.grammar.specs.Flow.{Effect, Effects, bind, where_same, strip, alike, effect, again, flow, Flows}
use Rattle.grammar.proofs.Begin.{On, on_fail, on_if}
use Rattle.grammar.proofs.Ends.{Ends, ends_done, ends_no, ends_stuck, ends_map, ends_then, ends_by, ends_or, ends_same, ends_loop, ends_tail, ends_enter}

pub none_is : {A : Type 0} {a : A} → none ≡ some a → ⊥
none_is e = let z : ◌≡◌ {A = ℕ} 0 1 = cc in omega arith

pub some_is : {A : Type 0} {a b : A} → some a ≡ some b → a ≡ b
some_is e = cc

pub bind_some : {A B : Type 0} (o : Option A) (f : A → Option B) {b : B} → bind o f ≡ some b → (a : A) × (o ≡ some a) × (f a ≡ some b)
unfolding bind
bind_some none f e = absurd (none_is e)
bind_some (some a) f e = (a, refl, e)

pub where_some : {A B : Type 0} (d : Dec A) (o : Option B) {b : B} → where_same d o ≡ some b → A × (o ≡ some b)
unfolding where_same
where_some (yes a) o e = (a, e)
where_some (no f) o e = absurd (none_is e)

module _ {S : Type 0} (same : Discrete S) where
  strip_is : (π σ : List S) {τ : List S} → strip same π σ ≡ some τ → σ ≡ π ++ τ
  unfolding strip
  strip_is [] σ e = some_is e
  strip_is (i ∷ π) [] e = absurd (none_is e)
  strip_is (i ∷ π) (j ∷ σ) e = let (p, q) = where_some (same j i) (strip same π σ) e in ap₂ ◌∷◌ p (strip_is π σ q)

  pub alike_is : (a b : List S) {c : List S} → alike same a b ≡ some c → (a ≡ c) × (b ≡ c)
  unfolding alike
  alike_is [] [] e = (some_is e, some_is e)
  alike_is [] (j ∷ b) e = absurd (none_is e)
  alike_is (i ∷ a) [] e = absurd (none_is e)
  alike_is (i ∷ a) (j ∷ b) {c} e =
      let (p, q) = where_some (same i j) (bind (alike same a b) (λ d. some (j ∷ d))) e in
      let (d, r, t) = bind_some (alike same a b) (λ d. some (j ∷ d)) q in
      let (x, y) = alike_is a b r in
      (ap₂ ◌∷◌ p x ∙ some_is t, ap (λ l. j ∷ l) y ∙ some_is t)

  -- the stack before, and the stack after, with what stays under both
  pub effect_is : (e : Effect S) (σ : List S) {σ' : List S} → effect same e σ ≡ some σ' → (τ : List S) × (σ ≡ e.takes ++ τ) × (σ' ≡ e.leaves ++ τ)
  unfolding effect
  effect_is e σ h =
      let (τ, p, q) = bind_some (strip same e.takes σ) (λ τ. some (e.leaves ++ τ)) h in
      (τ, strip_is e.takes σ p, sym (some_is q))

  -- two alternatives come to the same
  both_is : (o o' : Option (List S)) {c : List S} → bind o (λ a. bind o' (λ b. alike same a b)) ≡ some c → (o ≡ some c) × (o' ≡ some c)
  both_is o o' e =
      let (a, p, q) = bind_some o (λ a. bind o' (λ b. alike same a b)) e in
      let (b, r, t) = bind_some o' (λ b. alike same a b) q in
      let (x, y) = alike_is a b t in
      (p ∙ ap some x, r ∙ ap some y)

  -- what is repeated comes to where it began
  again_is : (o : Option (List S)) (σ : List S) {c : List S} → again same o σ ≡ some c → (o ≡ some σ) × (σ ≡ c)
  unfolding again
  again_is o σ e =
      let (a, p, q) = bind_some o (λ a. alike same a σ) e in
      let (x, y) = alike_is a σ q in
      (p ∙ ap some (x ∙ sym y), y)

  module _ {Act R : Type 0} (F : Effects S Act R) (G : Plan Act R) (flows : (r : R) → Flows same F G.body r) {M : Machine Act} (sorts : M.Kept → List S)
      (shifts : (t : ℕ) (k : M.Kept) → sorts (M.shift t k) ≡ sorts k)
      (acts : (a : Act) (τ : List S) (k : M.Kept) → sorts k ≡ (F.of_act a).takes ++ τ → sorts (M.run a k) ≡ (F.of_act a).leaves ++ τ) where
    -- the sorts at the end, where it is come through
    abbrev pub Leaves : List S → Answer M → Type 0
    Leaves σ x = Ends (λ _ s'. sorts s'.kept ≡ σ) (λ _ _. Unit {0}) x

    take_same : (set l : List ℕ) (k : M.Kept) → On (λ s'. sorts s'.kept ≡ sorts k) (take_from {M = M} set l k)
    unfolding take_from
    take_same set [] k = on_fail
    take_same set (t ∷ ts) k = on_if {P = λ s'. sorts s'.kept ≡ sorts k} (mem t set) (record { rest = ts; kept = M.shift t k }) (λ _. shifts t k)

    take_leaves : {σ : List S} (set : List ℕ) (n : ℕ) (s : St M) → sorts s.kept ≡ σ → Leaves σ (same_d set (take_p set s) n s)
    unfolding take_p
    take_leaves set n s h = ends_same set n s (take_same set s.rest s.kept) (λ s' e. e ∙ h) tt

    -- an effect, upon what lies below
    upon : (e : Effect S) (σ σ' : List S) (τ : List S) {l : List S} → effect same e σ ≡ some σ' → l ≡ σ ++ τ → (τ' : List S) × (l ≡ e.takes ++ τ') × (e.leaves ++ τ' ≡ σ' ++ τ)
    upon e σ σ' τ h k =
        let (ρ, p, q) = effect_is e σ h in
        (ρ ++ τ, k ∙ ap (λ (x : List S). x ++ τ) p ∙ append_assoc e.takes ρ τ, sym (append_assoc e.leaves ρ τ) ∙ ap (λ (x : List S). x ++ τ) (sym q))

    leaves_part : {env : R → Walk M} → ((r : R) (τ : List S) (n : ℕ) (s : St M) → sorts s.kept ≡ (F.of_rule r).takes ++ τ → Leaves ((F.of_rule r).leaves ++ τ) (env r n s)) →
        (p : Part Act R) (σ σ' : List S) → flow same F p σ ≡ some σ' → (τ : List S) (n : ℕ) (s : St M) → sorts s.kept ≡ σ ++ τ → Leaves (σ' ++ τ) (walk G.first env p n s)
    unfolding walk flow skip_p act_p see_p same_d seq_d many_d list_d
    leaves_part he skip σ σ' f τ n s h = ends_done (h ∙ ap (λ (x : List S). x ++ τ) (some_is f))
    leaves_part he (act a) σ σ' f τ n s h = let (τ', p, q) = upon (F.of_act a) σ σ' τ f h in ends_done (acts a τ' s.kept p ∙ q)
    leaves_part he (tok set) σ σ' f τ n s h = take_leaves set n s (h ∙ ap (λ (x : List S). x ++ τ) (some_is f))
    leaves_part he (see set) σ σ' f τ n s h =
        ends_same set n s (on_if {P = λ s'. sorts s'.kept ≡ σ' ++ τ} (sees set s.rest) s (λ _. h ∙ ap (λ (x : List S). x ++ τ) (some_is f))) (λ s' e. e) tt
    leaves_part {env} he (call r) σ σ' f τ n s h =
        let (τ', p, q) = upon (F.of_rule r) σ σ' τ f h in
        ends_by (sees (G.first r) s.rest) (env r) _ n s (λ _. ends_map (λ n₁ s₁ e. e ∙ q) (λ n₁ s₁ e. e) (he r τ' n s p)) (ends_no tt)
    leaves_part he (p ⨾ q) σ σ' f τ n s h =
        let (ρ, g, k) = bind_some (flow same F p σ) (λ a. flow same F q a) f in
        ends_then (leaves_part he p σ ρ g τ n s h) (λ n₁ s₁ e. leaves_part he q ρ σ' k τ n₁ s₁ e)
    leaves_part {env} he (p ∕ q) σ σ' f τ n s h =
        let (g, k) = both_is (flow same F p σ) (flow same F q σ) f in
        ends_or _ (sees (begins G.first p) s.rest) (null q || sees (begins G.first q) s.rest) (walk G.first env p) (walk G.first env q) n s (λ _. leaves_part he p σ σ' g τ n s h) (leaves_part he q σ σ' k τ n s h) tt
    leaves_part {env} he (many p) σ σ' f τ n s h =
        let (g, k) = again_is (flow same F p σ) σ f in
        ends_map (λ n₁ s₁ e. e ∙ ap (λ (x : List S). x ++ τ) k) (λ n₁ s₁ e. e)
        (ends_loop (begins G.first p) (walk G.first env p) (λ n₁ s₁ e. leaves_part he p σ σ g τ n₁ s₁ e) (suc (length s.rest)) n s h)
    leaves_part {env} he (tail c p) σ σ' f τ n s h =
        let (g, k) = again_is (flow same F p σ) σ f in
        ends_map (λ n₁ s₁ e. e ∙ ap (λ (x : List S). x ++ τ) k) (λ n₁ s₁ e. e)
        (ends_tail {J = λ _ s'. sorts s'.kept ≡ σ ++ τ} c (begins G.first p) (walk G.first env p)
        (λ n₁ s₁ e. take_leaves (c ∷ []) n₁ s₁ e) (λ n₁ s₁ e. e) (λ n₁ s₁ e. leaves_part he p σ σ g τ n₁ s₁ e) (suc (length s.rest)) n s h)

    leaves_rule : (k room : ℕ) (r : R) (τ : List S) (n : ℕ) (s : St M) → sorts s.kept ≡ (F.of_rule r).takes ++ τ → Leaves ((F.of_rule r).leaves ++ τ) (rule_d G k room r n s)
    unfolding rule_d
    leaves_rule zero room r τ n s h = ends_stuck
    leaves_rule (suc k) room r τ n s h =
        ends_enter _ (G.opens r) room n s tt (λ m. leaves_part (leaves_rule k m) (G.body r) (F.of_rule r).takes (F.of_rule r).leaves (flows r) τ _ s h)

    pub descend_leaves : (room : ℕ) (r : R) (τ : List S) (n : ℕ) (s : St M) → sorts s.kept ≡ (F.of_rule r).takes ++ τ → Leaves ((F.of_rule r).leaves ++ τ) (descend G room r n s)
    unfolding descend
    descend_leaves room r τ n s h = leaves_rule (enough s) room r τ n s h
