-- Refusals 14, 15 and 16 are never too late: the tokens before the refused one begin some list that the trial accepts. With `first_misfit` (Top.antt), by
-- which they are never too early, they stand at the first token that does not fit, and at no other.
-- Assumes nothing.
use mathlib.Core.Path.{◌≡◌, refl, ap, sym, subst, ◌∙◌}
use mathlib.Core.Bool.{Bool, true}
use mathlib.Core.List.{List, [], ◌∷◌, ◌++◌, append_assoc, append_cancel_left}
use Prim.Native.Nat.{ℕ, suc}
use native.Mathlib.Omega.{arith}
use lib.Dec.{T}
use lib.ListN.{length, length-append}
use Rattle.grammar.specs.Grammar.{Part}
use Rattle.grammar.specs.Trial.{Machine, St, fail, parse}
use Rattle.grammar.specs.Descent.{Plan, no, descend}
use Rattle.grammar.specs.Complete.{offers, complete}
use Rattle.grammar.specs.Misfit.{every, Accepts, Misfit}
use Rattle.grammar.proofs.Sets.{Sees, and_i}
use Rattle.grammar.proofs.Enough.{parse_is}
use Rattle.grammar.proofs.Reading.{Reads}
use Rattle.grammar.proofs.Asking.{Refuses}
use Rattle.grammar.proofs.Course.{every_both, offered, Finish, refused_course}
use Rattle.grammar.proofs.Led.{of_led, reads_led}
use Rattle.grammar.proofs.Top.{Language, good, same_parse, first_misfit}

-- a list has one such place at most
pub one_misfit : {A : Type 0} {is_token : A → Bool} (Accepted : List A → Type 0) (w w' : List A) (t t' : A) (v v' : List A) → Misfit is_token Accepted w t → Misfit is_token Accepted w' t' → w ++ (t ∷ v) ≡ w' ++ (t' ∷ v') → w ≡ w'
one_misfit Accepted [] [] t t' v v' f g e = refl
one_misfit {A} Accepted [] (x ∷ w') t t' v v' f g e = let z : x ≡ t = cc in absurd (f.unfit (w' ++ g.rest) (subst (λ (y : A). Accepted (y ∷ (w' ++ g.rest))) z g.fits))
one_misfit {A} Accepted (x ∷ w) [] t t' v v' f g e = let z : x ≡ t' = cc in absurd (g.unfit (w ++ f.rest) (subst (λ (y : A). Accepted (y ∷ (w ++ f.rest))) z f.fits))
one_misfit {A} {is_token} Accepted (x ∷ w) (x' ∷ w') t t' v v' f g e =
    let z : x' ≡ x = cc in
    let h = subst (λ (y : A). Misfit is_token Accepted (y ∷ w') t') z g in
    let i : w ≡ w' = one_misfit (λ l. Accepted (x ∷ l)) w w' t t' v v' (record { rest = f.rest; are = f.are; fits = f.fits; unfit = f.unfit }) (record { rest = h.rest; are = h.are; fits = h.fits; unfit = h.unfit }) (cc) in
    cc

-- two halves of one list begin alike, where as many are left
starts_alike : (a b c d : List ℕ) → a ++ c ≡ b ++ d → length c ≡ length d → a ≡ b
starts_alike [] [] c d e h = refl
starts_alike [] (x ∷ b) c d e h = absurd (omega (arith, ap length e, length-append b d))
starts_alike (x ∷ a) [] c d e h = absurd (omega (arith, ap length e, length-append a c))
starts_alike (x ∷ a) (y ∷ b) c d e h = let f : x ≡ y = cc in let g : a ++ c ≡ b ++ d = cc in let i : a ≡ b = starts_alike a b c d g h in cc

module _ {Act R : Type 0} {plain : R → Part Act R} {G : Plan Act R} {start : R} (L : Language plain G start)
    (is_token : ℕ → Bool) (height : R → ℕ) (tested : (r : R) → T (complete is_token G height r)) (last : T (offers is_token (G.follow start))) {M : Machine Act} where
  -- what is read is accepted, with a token behind it that can stand after the whole
  pub accepted_before : (w : List ℕ) (k : M.Kept) (c : List ℕ) → ((l : List ℕ) → Sees (G.follow start) l → Reads G (G.body start) (w ++ c) l) → (l : List ℕ) → Sees (G.follow start) l → Accepts M plain start k (w ++ (c ++ l))
  accepted_before w k c f l h =
      let (k₁, e) = of_led (rw append_assoc at (reads_led {M = M} G (good L) (G.follow start) (G.rank start) (good L start).decided (good L start).lower (f l h) k)) in
      (record { rest = l; kept = k₁ }, same_parse L start (record { rest = w ++ (c ++ l); kept = k }) ∙ parse_is G (good L) start (record { rest = w ++ (c ++ l); kept = k }) ∙ e)

  -- so is what can be finished
  accepted : (w : List ℕ) (k : M.Kept) (f : Finish is_token (G.follow start) (Reads G (G.body start)) w) → (c : List ℕ) × T (every is_token c) × Accepts M plain start k (w ++ c)
  accepted w k f =
      let (t, m, i) = offered is_token (G.follow start) last in
      (f.rest ++ (t ∷ []), every_both is_token f.rest (t ∷ []) f.are (and_i (is_token t) true i tt), accepted_before w k f.rest f.reads (t ∷ []) (record { holds = m }))

  -- The descent refuses s at s₁, having taken the tokens w: then w, with more that are tokens, is accepted.
  pub not_late : {asked : List ℕ} (room n m : ℕ) (s s₁ : St M) → descend G room start n s ≡ no asked m s₁ → (w c : List ℕ) × (s.rest ≡ w ++ s₁.rest) × T (every is_token c) × Accepts M plain start s.kept (w ++ c)
  not_late room n m s s₁ e =
      let (w, e₁, f, x) = refused_course is_token G (good L) height tested room start n m s s₁ e in
      let (c, i, a) = accepted w s.kept f in
      (w, c, e₁, i, a)

  -- The descent refuses w, t and then v at t, as so many tokens are left.
  module _ {asked : List ℕ} (room n m : ℕ) (w : List ℕ) (t : ℕ) (v : List ℕ) (k : M.Kept) (s₁ : St M) (e : descend G room start n (record { rest = w ++ (t ∷ v); kept = k }) ≡ no asked m s₁) (left : length s₁.rest ≡ suc (length v)) where
    -- the refusal stands at the first token that does not fit
    pub at_misfit : Misfit is_token (Accepts M plain start k) w t
    at_misfit =
        let (w₁, c, e₁, i, a) = not_late room n m (record { rest = w ++ (t ∷ v); kept = k }) s₁ e in
        let z : w₁ ≡ w = starts_alike w₁ w s₁.rest (t ∷ v) (sym e₁) left in
        let h : descend G room start n (record { rest = (w ++ (t ∷ [])) ++ v; kept = k }) ≡ no asked m s₁ = rw append_assoc e in
        record {
          rest = c;
          are = i;
          fits = subst (λ (y : List ℕ). Accepts M plain start k (y ++ c)) z a;
          unfit = λ l (s₂, e₂). let f = first_misfit L {M = M} room n m (w ++ (t ∷ [])) v l k s₁ h (omega arith) in
              let g : parse {M = M} plain start (record { rest = w ++ (t ∷ l); kept = k }) ≡ fail = rw append_assoc at f in
              absurd (let y : ◌≡◌ {A = ℕ} 0 1 = cc in omega arith);
        }

    -- and what the rule asks for there is what was asked for
    pub at_refusal : Refuses G (G.body start) w (t ∷ v) asked
    at_refusal =
        let (w₁, e₁, f, x) = refused_course is_token G (good L) height tested room start n m (record { rest = w ++ (t ∷ v); kept = k }) s₁ e in
        let z : w₁ ≡ w = starts_alike w₁ w s₁.rest (t ∷ v) (sym e₁) left in
        let y : t ∷ v ≡ s₁.rest = append_cancel_left w (t ∷ v) s₁.rest (rw z at e₁) in
        rw (z, ← y) at x
