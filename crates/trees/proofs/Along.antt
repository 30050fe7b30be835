-- The law: what every token and every action keeps, where it finds the sorts that it takes, holds wherever the trial comes to, if the grammar passes the
-- test of its sorts.
-- Assumes nothing.
use mathlib.Core.Path.{◌≡◌, refl, ap, sym, ◌∙◌, subst}
use mathlib.Core.HLevel.{Discrete}
use mathlib.Core.Bool.{Bool, true, false, ◌&&◌}
use mathlib.Core.Option.{Option, none, some}
use mathlib.Core.List.{List, [], ◌∷◌, ◌++◌, append_assoc}
use Prim.Native.Nat.{ℕ, zero, suc}
use lib.Dec.{T}
use lib.ListN.{length}
use Rattle.grammar.specs.Sets.{mem, sees}
use Rattle.grammar.specs.Grammar.{Part, skip, act, tok, see, call, ◌⨾◌, ◌∕◌, many, tail}
use Rattle.grammar.specs.Trial.{Machine, St, Parser, seq_p, alt_p, loop, many_p, skip_p, take_from, take_p, see_p, act_p, tail_p, eval, rule, enough, parse}
use Rattle.grammar.specs.Flow.{Effect, bind, alike, effect}
use Rattle.grammar.proofs.Begin.{On, on_ok, on_fail, on_out, on_then, on_else, on_stay, on_map, on_if}
use Rattle.trees.proofs.Flow.{Since, still, took, later, anything, after, is_still, steady, entry, State, state, Moves, flow, Flows}
use Rattle.grammar.proofs.Flow.{some_is, bind_some, alike_is, effect_is}
use Rattle.trees.proofs.Decoded.{provided_some}

module _ {S : Type 0} (same : Discrete S) where
  module _ {Act R : Type 0} (F : Moves S Act R) {M : Machine Act} (Good : Since → List S → St M → Type 0)
      (forget : (f : Since) (σ : List S) (s : St M) → Good f σ s → Good anything σ s)
      (shifts : (f : Since) (σ : List S) (set : List ℕ) (t : ℕ) (ts : List ℕ) (k : M.Kept) → T (mem t set) → Good f σ (record { rest = t ∷ ts; kept = k }) →
      Good (after f set) σ (record { rest = ts; kept = M.shift t k }))
      (acts : (a : Act) (f : Since) (σ : List S) → T (F.apt a f σ) → (τ : List S) (s : St M) → Good f ((F.of_act a f σ).takes ++ τ) s →
      Good still ((F.of_act a f σ).leaves ++ τ) (record { rest = s.rest; kept = M.run a s.kept }))
      (joins : (a b c : List S) → F.joins a b ≡ some c → (τ : List S) (s : St M) → (Good anything (a ++ τ) s → Good anything (c ++ τ) s) × (Good anything (b ++ τ) s → Good anything (c ++ τ) s)) where
    take-from : (set l : List ℕ) (f : Since) (σ : List S) (k : M.Kept) → Good f σ (record { rest = l; kept = k }) → On (Good (after f set) σ) (take_from {M = M} set l k)
    unfolding take_from
    take-from set [] f σ k h = on_fail
    take-from set (t ∷ ts) f σ k h = on_if {P = Good (after f set) σ} (mem t set) (record { rest = ts; kept = M.shift t k }) (λ m. shifts f σ set t ts k m h)

    take_good : (set : List ℕ) (f : Since) (σ : List S) (s : St M) → Good f σ s → On (Good (after f set) σ) (take_p set s)
    unfolding take_p
    take_good set f σ s h = take-from set s.rest f σ s.kept h

    loop_good : (f : Since) (σ : List S) (p : Parser M) → ((s : St M) → Good f σ s → On (Good f σ) (p s)) → (n : ℕ) (s : St M) → Good f σ s → On (Good f σ) (loop p n s)
    unfolding loop
    loop_good f σ p hp zero s h = on_out
    loop_good f σ p hp (suc n) s h = on_stay s (hp s h) (λ s' h'. loop_good f σ p hp n s' h') h

    -- an effect, upon what lies below
    upon : (e : Effect S) (σ σ' : List S) (τ : List S) {l : List S} → effect same e σ ≡ some σ' → l ≡ σ ++ τ → (τ' : List S) × (l ≡ e.takes ++ τ') × (e.leaves ++ τ' ≡ σ' ++ τ)
    upon e σ σ' τ h k =
        let (ρ, p, q) = effect_is same e σ h in
        (ρ ++ τ, k ∙ ap (λ (x : List S). x ++ τ) p ∙ append_assoc e.takes ρ τ, sym (append_assoc e.leaves ρ τ) ∙ ap (λ (x : List S). x ++ τ) (sym q))

    -- a state, upon what lies below
    abbrev Comes : State S → List S → St M → Type 0
    Comes x τ s = Good x.since (x.sorts ++ τ) s

    moved : {x y : State S} (τ : List S) (s : St M) → x ≡ y → Comes x τ s → Comes y τ s
    moved τ s e h = subst (λ (z : State S). Comes z τ s) e h

    resorted : (f : Since) {l m : List S} (τ : List S) (s : St M) → l ≡ m → Good f (l ++ τ) s → Good f (m ++ τ) s
    resorted f τ s e h = subst (λ (l : List S). Good f (l ++ τ) s) e h

    -- into a repeated part, and once through it
    enter : (f : Since) (b : Bool) (σ : List S) (s : St M) → Good f σ s → Good (entry (is_still f && b)) σ s
    enter still true σ s h = h
    enter still false σ s h = forget still σ s h
    enter (took set) b σ s h = forget (took set) σ s h
    enter (later set) b σ s h = forget (later set) σ s h

    is_steady : (f : Since) → T (is_still f) → f ≡ still
    is_steady still t = refl
    is_steady (took set) t = absurd t
    is_steady (later set) t = absurd t

    once_more : (b : Bool) (x : State S) (σ : List S) (s : St M) → (T b → T (is_still x.since)) → Good x.since σ s → Good (entry b) σ s
    once_more true x σ s t h = subst (λ (f : Since). Good f σ s) (is_steady x.since (t tt)) h
    once_more false x σ s t h = forget x.since σ s h

    -- where a repeated part is taken from `still`, it comes to `still`
    steadily : (f : Since) (o : Option (State S)) (x : State S) → (T (is_still f && steady o) → o ≡ some x) → T (is_still f && steady o) → T (is_still x.since)
    steadily still none x e t = absurd t
    steadily still (some y) x e t = let q : y ≡ x = some_is (e t) in subst (λ (z : State S). T (is_still z.since)) q t
    steadily (took set) o x e t = absurd t
    steadily (later set) o x e t = absurd t

    entered : (b : Bool) (g : Since → Option (State S)) {x : State S} → g (entry b) ≡ some x → T b → g still ≡ some x
    entered true g e t = e
    entered false g e t = absurd t

    good_part : {env : R → Parser M} → ((r : R) (τ : List S) (s : St M) → Good anything ((F.of_rule r).takes ++ τ) s → On (Good anything ((F.of_rule r).leaves ++ τ)) (env r s)) →
        (p : Part Act R) (f : Since) (σ : List S) (x : State S) → flow same F p f σ ≡ some x → (τ : List S) (s : St M) → Good f (σ ++ τ) s → On (Comes x τ) (eval env p s)
    unfolding eval flow skip_p act_p see_p seq_p alt_p many_p tail_p
    good_part he skip f σ x e τ s h = on_ok (moved τ s (some_is e) h)
    good_part he (act a) f σ x e τ s h =
        let (t, u) = provided_some (F.apt a f σ) (bind (effect same (F.of_act a f σ) σ) (λ σ'. some (state still σ'))) e in
        let (σ', v, w) = bind_some (effect same (F.of_act a f σ) σ) (λ σ'. some (state still σ')) u in
        let (τ', p, q) = upon (F.of_act a f σ) σ σ' τ v refl in
        let s' : St M = record { rest = s.rest; kept = M.run a s.kept } in
        on_ok (moved τ s' (some_is w) (subst (λ (l : List S). Good still l s') q (acts a f σ t τ' s (subst (λ (l : List S). Good f l s) p h))))
    good_part he (tok set) f σ x e τ s h = on_map (λ s' h'. moved τ s' (some_is e) h') (take_good set f (σ ++ τ) s h)
    good_part he (see set) f σ x e τ s h = on_if {P = Comes x τ} (sees set s.rest) s (λ _. moved τ s (some_is e) h)
    good_part {env} he (call r) f σ x e τ s h =
        let (σ', v, w) = bind_some (effect same (F.of_rule r) σ) (λ σ'. some (state anything σ')) e in
        let (τ', p, q) = upon (F.of_rule r) σ σ' τ v refl in
        on_map (λ s' h'. moved τ s' (some_is w) (subst (λ (l : List S). Good anything l s') q h')) (he r τ' s (forget f _ s (subst (λ (l : List S). Good f l s) p h)))
    good_part he (p ⨾ q) f σ x e τ s h =
        let (y, v, w) = bind_some (flow same F p f σ) (λ x. flow same F q x.since x.sorts) e in
        on_then (good_part he p f σ y v τ s h) (λ s₁ h₁. good_part he q y.since y.sorts x w τ s₁ h₁)
    good_part {env} he (p ∕ q) f σ x e τ s h =
        let (y, v, w) = bind_some (flow same F p f σ) _ e in
        let (z, v₁, w₁) = bind_some (flow same F q f σ) _ w in
        let (c, v₂, w₂) = bind_some (F.joins y.sorts z.sorts) _ w₁ in
        on_else (eval env q) s
        (on_map (λ s' h'. moved τ s' (some_is w₂) ((joins y.sorts z.sorts c v₂ τ s').0 (forget y.since _ s' h'))) (good_part he p f σ y v τ s h))
        (on_map (λ s' h'. moved τ s' (some_is w₂) ((joins y.sorts z.sorts c v₂ τ s').1 (forget z.since _ s' h'))) (good_part he q f σ z v₁ τ s h))
    good_part {env} he (many p) f σ x e τ s h =
        let b = is_still f && steady (flow same F p still σ) in
        let (y, v, w) = bind_some (flow same F p (entry b) σ) _ e in
        let (c, v₂, w₂) = bind_some (alike same y.sorts σ) _ w in
        let (i, j) = alike_is same y.sorts σ v₂ in
        let t : T b → T (is_still y.since) = λ t. steadily f (flow same F p still σ) y (entered b (λ g. flow same F p g σ) v) t in
        on_map (λ s' h'. moved τ s' (some_is w₂) (resorted (entry b) τ s' j h'))
        (loop_good (entry b) (σ ++ τ) (eval env p)
        (λ s₁ h₁. on_map (λ s' h'. once_more b y (σ ++ τ) s' t (resorted y.since τ s' (i ∙ sym j) h')) (good_part he p (entry b) σ y v τ s₁ h₁))
        (suc (length s.rest)) s (enter f _ (σ ++ τ) s h))
    good_part {env} he (tail t p) f σ x e τ s h =
        let (y, v, w) = bind_some (flow same F p (later (t ∷ [])) σ) _ e in
        let (c, v₂, w₂) = bind_some (alike same y.sorts σ) _ w in
        let (i, j) = alike_is same y.sorts σ v₂ in
        on_map (λ s' h'. moved τ s' (some_is w₂) (resorted anything τ s' j h'))
        (on_then
        (loop_good anything (σ ++ τ) (seq_p (take_p (t ∷ [])) (eval env p))
        (λ s₁ h₁. on_then (take_good (t ∷ []) anything (σ ++ τ) s₁ h₁)
        (λ s₂ h₂. on_map (λ s' h'. forget y.since _ s' (resorted y.since τ s' (i ∙ sym j) h')) (good_part he p (later (t ∷ [])) σ y v τ s₂ h₂)))
        (suc (length s.rest)) s (forget f _ s h))
        (λ s₁ h₁. on_else skip_p s₁ (on_map (λ s' h'. forget (later (t ∷ [])) _ s' h') (take_good (t ∷ []) anything (σ ++ τ) s₁ h₁)) (on_ok h₁)))

    module _ (body : R → Part Act R) (flows : (r : R) → Flows same F body r) where
      good_rule : (n : ℕ) (r : R) (τ : List S) (s : St M) → Good anything ((F.of_rule r).takes ++ τ) s → On (Good anything ((F.of_rule r).leaves ++ τ)) (rule body n r s)
      unfolding rule
      good_rule zero r τ s h = on_out
      good_rule (suc n) r τ s h =
          let (x, v, w) = bind_some (flow same F (body r) anything (F.of_rule r).takes) (λ x. some x.sorts) (flows r) in
          on_map (λ s' h'. forget x.since _ s' (resorted x.since τ s' (some_is w) h')) (good_part (good_rule n) (body r) anything (F.of_rule r).takes x v τ s h)

      pub good_trial : (r : R) (τ : List S) (s : St M) → Good anything ((F.of_rule r).takes ++ τ) s → On (Good anything ((F.of_rule r).leaves ++ τ)) (parse body r s)
      unfolding parse
      good_trial r τ s h = good_rule (enough s) r τ s h
