-- What the descent comes to is a way, within its room. And an induction over ways, rule by rule.
-- Assumes nothing.
use mathlib.Core.Path.{◌≡◌, refl, subst, sym}
use mathlib.Core.Logic.{⊎_elim}
use mathlib.Core.Bool.{Bool, true, false, not}
use mathlib.Core.List.{List, [], ◌∷◌}
use Prim.Native.Nat.{ℕ, zero, suc, ◌+◌}
use lib.Dec.{T, eqb, eqb→eq}
use lib.ListN.{length}
use Rattle.grammar.specs.Sets.{mem, sees}
use Rattle.grammar.specs.Grammar.{Part, skip, act, tok, see, call, ◌⨾◌, ◌∕◌, many, tail}
use Rattle.grammar.specs.Trial.{Machine, St, skip_p, take_from, take_p, see_p, act_p, enough}
use Rattle.grammar.specs.Descent.{Plan, Answer, done, Walk, begins, same_d, seq_d, tail_d, many_d, list_d, walk, enter, rule_d, descend}
use Rattle.grammar.proofs.Sets.{or_e}
use Rattle.grammar.proofs.Begin.{On, on_fail, on_if}
use Rattle.grammar.proofs.Ends.{Ends, ends_done, ends_no, ends_deep, ends_stuck, ends_then, ends_by, ends_or, ends_same, ends_loop, ends_map, at_done}
use Rattle.grammar.proofs.Ways.{Way, w_skip, w_act, w_tok, w_see, w_call, w_open, w_seq, w_left, w_right, w_none, w_more, w_end, w_trail, w_item, many_snoc}

module _ {Act R : Type 0} (G : Plan Act R) {M : Machine Act} where
  -- comes through on a way, if it does
  abbrev Goes : ℕ → Part Act R → St M → Answer M → Type 0
  Goes m p s = Ends (λ _ s'. Way G M m p s.rest s.kept s'.rest s'.kept) (λ _ _. Unit {0})

  took : (m : ℕ) (set l : List ℕ) (k : M.Kept) → On {M = M} (λ s'. Way G M m (tok set) l k s'.rest s'.kept) (take_from set l k)
  unfolding take_from
  took m set [] k = on_fail
  took m set (t ∷ ts) k = on_if (mem t set) (record { rest = ts; kept = M.shift t k }) (λ h. w_tok h)

  -- a separator
  sep : {m c : ℕ} {p : Part Act R} {l l₁ l₂ : List ℕ} {k k₁ k₂ : M.Kept} → Way G M m (tok (c ∷ [])) l k l₁ k₁ → ((k : M.Kept) → k₁ ≡ M.shift c k → Way G M m (tail c p) (c ∷ l₁) k l₂ k₂) → Way G M m (tail c p) l k l₂ k₂
  sep {m} {c} {p} {l₂} {k₂} (w_tok {t} {l} {k} h) f =
      let e : t ≡ c = ⊎_elim (λ x. eqb→eq t c x) (λ x. absurd x) (or_e (eqb t c) false h) in
      subst (λ (t : ℕ). Way G M m (tail c p) (t ∷ l) k l₂ k₂) (sym e) (f k (subst (λ (c : ℕ). M.shift t k ≡ M.shift c k) e refl))

  module _ {m : ℕ} {env : R → Walk M} (he : (r : R) (n : ℕ) (s : St M) → Goes m (call r) s (env r n s)) where
    tail_goes : (c : ℕ) (p : Part Act R) (set : List ℕ) (v : Walk M) → ((n : ℕ) (s : St M) → Goes m p s (v n s)) → (k n : ℕ) (s : St M) → Goes m (tail c p) s (tail_d c set v k n s)
    unfolding tail_d seq_d take_p
    tail_goes c p set v hv zero n s = ends_stuck
    tail_goes c p set v hv (suc k) n s =
        ends_by (sees (c ∷ []) s.rest) _ done n s
        (λ _. ends_then (ends_same (c ∷ []) n s (took m (c ∷ []) s.rest s.kept) (λ s₁ h. h) tt) (λ n₁ s₁ h.
        ends_by (sees set s₁.rest) (seq_d v (tail_d c set v k)) done n₁ s₁
        (λ _. ends_then (hv n₁ s₁) (λ n₂ s₂ u. ends_map (λ n₃ s₃ w. sep h (λ k₁ e. w_item (subst (λ (k : M.Kept). Way G M m p s₁.rest k s₂.rest s₂.kept) e u) w)) (λ _ _ x. x) (tail_goes c p set v hv k n₂ s₂)))
        (ends_done (sep h (λ k₁ e. subst (λ (k : M.Kept). Way G M m (tail c p) (c ∷ s₁.rest) k₁ s₁.rest k) (sym e) w_trail)))))
        (ends_done w_end)

    part_goes : (p : Part Act R) (n : ℕ) (s : St M) → Goes m p s (walk G.first env p n s)
    unfolding walk skip_p act_p take_p see_p same_d seq_d many_d list_d
    part_goes skip n s = ends_done w_skip
    part_goes (act a) n s = ends_done w_act
    part_goes (tok set) n s = ends_same set n s (took m set s.rest s.kept) (λ s₁ h. h) tt
    part_goes (see set) n s = ends_same set n s (on_if {P = λ s'. Way G M m (see set) s.rest s.kept s'.rest s'.kept} (sees set s.rest) s (λ h. w_see h)) (λ s₁ h. h) tt
    part_goes (call r) n s = ends_by (sees (G.first r) s.rest) (env r) _ n s (λ _. he r n s) (ends_no tt)
    part_goes (p ⨾ q) n s = ends_then (part_goes p n s) (λ n₁ s₁ v. ends_map (λ n₂ s₂ w. w_seq v w) (λ _ _ x. x) (part_goes q n₁ s₁))
    part_goes (p ∕ q) n s =
        ends_or _ (sees (begins G.first p) s.rest) _ (walk G.first env p) (walk G.first env q) n s
        (λ _. ends_map (λ n₂ s₂ w. w_left w) (λ _ _ x. x) (part_goes p n s)) (ends_map (λ n₂ s₂ w. w_right w) (λ _ _ x. x) (part_goes q n s)) tt
    part_goes (many p) n s =
        ends_loop {I = λ _ s'. Way G M m (many p) s.rest s.kept s'.rest s'.kept} (begins G.first p) (walk G.first env p)
        (λ n₁ s₁ i. ends_map (λ n₂ s₂ w. many_snoc i w) (λ _ _ x. x) (part_goes p n₁ s₁)) (suc (length s.rest)) n s w_none
    part_goes (tail c p) n s = tail_goes c p (begins G.first p) (walk G.first env p) (λ n₁ s₁. part_goes p n₁ s₁) (suc (length s.rest)) n s

  enter_goes : {P Q : ℕ → St M → Type 0} (go : ℕ → Walk M) (b : Bool) (room n : ℕ) (s : St M) → Q n s → (T (not b) → Ends P Q (go room (n + 1) s)) →
      ((m : ℕ) → room ≡ suc m → T b → Ends P Q (go m (n + 1) s)) → Ends P Q (enter b room go n s)
  unfolding enter
  enter_goes go false room n s q f g = f tt
  enter_goes go true zero n s q f g = ends_deep q
  enter_goes go true (suc room) n s q f g = g room refl tt

  rule_goes : (k room : ℕ) (r : R) (n : ℕ) (s : St M) → Goes room (call r) s (rule_d G k room r n s)
  unfolding rule_d
  rule_goes zero room r n s = ends_stuck
  rule_goes (suc k) room r n s =
      enter_goes (λ m. walk G.first (λ r'. rule_d G k m r') (G.body r)) (G.opens r) room n s tt
      (λ t. ends_map (λ n₁ s₁ w. w_call t w) (λ _ _ x. x) (part_goes {env = λ r'. rule_d G k room r'} (λ r' n₁ s₁. rule_goes k room r' n₁ s₁) (G.body r) (n + 1) s))
      (λ m e t. ends_map (λ n₁ s₁ w. subst (λ (m : ℕ). Way G M m (call r) s.rest s.kept s₁.rest s₁.kept) (sym e) (w_open t w)) (λ _ _ x. x)
      (part_goes {env = λ r'. rule_d G k m r'} (λ r' n₁ s₁. rule_goes k m r' n₁ s₁) (G.body r) (n + 1) s))

  -- what the descent of a rule comes to is a way
  pub way_of : {m n' : ℕ} {r : R} {s s' : St M} (n : ℕ) → descend G m r n s ≡ done n' s' → Way G M m (call r) s.rest s.kept s'.rest s'.kept
  unfolding descend
  way_of {m} {r} {s} n e = at_done (rule_goes (enough s) m r n s) e

-- A way with all that its rules do known by `P`, and no further.
pub data One {Act R : Type 0} (M : Machine Act) (P : R → M.Kept → M.Kept → Type 0) : Part Act R → M.Kept → M.Kept → Type 0 where
  o_skip : {k : M.Kept} → One M P skip k k
  o_act : {k : M.Kept} {a : Act} → One M P (act a) k (M.run a k)
  o_tok : {t : ℕ} {set : List ℕ} {k : M.Kept} → T (mem t set) → One M P (tok set) k (M.shift t k)
  o_see : {set : List ℕ} {k : M.Kept} → One M P (see set) k k
  o_call : {r : R} {k k' : M.Kept} → P r k k' → One M P (call r) k k'
  o_seq : {p q : Part Act R} {k k₁ k₂ : M.Kept} → One M P p k k₁ → One M P q k₁ k₂ → One M P (p ⨾ q) k k₂
  o_left : {p q : Part Act R} {k k' : M.Kept} → One M P p k k' → One M P (p ∕ q) k k'
  o_right : {p q : Part Act R} {k k' : M.Kept} → One M P q k k' → One M P (p ∕ q) k k'
  o_none : {p : Part Act R} {k : M.Kept} → One M P (many p) k k
  o_more : {p : Part Act R} {k k₁ k₂ : M.Kept} → One M P p k k₁ → One M P (many p) k₁ k₂ → One M P (many p) k k₂
  o_end : {c : ℕ} {p : Part Act R} {k : M.Kept} → One M P (tail c p) k k
  o_trail : {c : ℕ} {p : Part Act R} {k : M.Kept} → One M P (tail c p) k (M.shift c k)
  o_item : {c : ℕ} {p : Part Act R} {k k₁ k₂ : M.Kept} → One M P p (M.shift c k) k₁ → One M P (tail c p) k₁ k₂ → One M P (tail c p) k k₂

-- What holds of a rule where it holds of those within it, holds of every way.
pub induct : {Act R : Type 0} {G : Plan Act R} {M : Machine Act} (P : ℕ → R → M.Kept → M.Kept → Type 0) →
    ((m : ℕ) (r : R) (k k' : M.Kept) → T (not (G.opens r)) → One M (P m) (G.body r) k k' → P m r k k') →
    ((m : ℕ) (r : R) (k k' : M.Kept) → T (G.opens r) → One M (P m) (G.body r) k k' → P (suc m) r k k') →
    {m : ℕ} {p : Part Act R} {l l' : List ℕ} {k k' : M.Kept} → Way G M m p l k l' k' → One M (P m) p k k'
induct P f g w_skip = o_skip
induct P f g w_act = o_act
induct P f g (w_tok h) = o_tok h
induct P f g (w_see h) = o_see
induct P f g (w_call {m} {r} {k} {k'} t w) = o_call (f m r k k' t (induct P f g w))
induct P f g (w_open {m} {r} {k} {k'} t w) = o_call (g m r k k' t (induct P f g w))
induct P f g (w_seq v w) = o_seq (induct P f g v) (induct P f g w)
induct P f g (w_left w) = o_left (induct P f g w)
induct P f g (w_right w) = o_right (induct P f g w)
induct P f g w_none = o_none
induct P f g (w_more v w) = o_more (induct P f g v) (induct P f g w)
induct P f g w_end = o_end
induct P f g w_trail = o_trail
induct P f g (w_item v w) = o_item (induct P f g v) (induct P f g w)
