-- The ladder of the levels of expressions: what is read at one level is read at each above it.
-- Assumes nothing.
use mathlib.Core.Path.{◌≡◌, subst, sym}
use mathlib.Core.Bool.{Bool, true, false, not}
use mathlib.Core.List.{List}
use Prim.Native.Nat.{ℕ, zero, suc, ◌≤◌}
use native.Mathlib.Omega.{arith}
use lib.Dec.{T}
use Rattle.grammar.specs.Grammar.{Part, act, tok, call, ◌⨾◌, many}
use Rattle.grammar.specs.Trial.{Machine}
use Rattle.grammar.proofs.Sets.{not_e}
use Rattle.grammar.proofs.Ways.{Way, w_skip, w_act, w_tok, w_call, w_open, w_seq, w_left, w_right, w_none, many_snoc}
use Rattle.pyhyeon.specs.Action.{Action, signs_more}
use Rattle.pyhyeon.specs.Rules.{Rule, plain, sign_set}
use Rattle.pyhyeon.specs.Rules as rule
use Rattle.pyhyeon.specs.Tables.{joined, opens, pyhyeon, t_joined}
use Rattle.unparse.specs.Levels.{Level, T as Lt, X, E, O, A, C, S, P, U, G, F, same_level, pick, at_f, at_g, at_u, at_p, at_s, at_c, at_a, at_o, at_e}
use Rattle.unparse.proofs.Write.{Steps, symbols, perform, dress, enclosed, top, fit, raise}

-- What holds of steps at a level, with room for d: the steps of the ladder.
pub record Rungs (Good : ℕ → Level → Steps → Type 0) : Type 0 where
  pub step_t : {d : ℕ} {e : Steps} → Good d E e → Good (suc d) Lt e
  pub step_x : {d : ℕ} {e : Steps} → Good d E e → Good (suc d) X e
  pub step_e : {d : ℕ} {e : Steps} → Good d O e → Good d E e
  pub step_o : {d : ℕ} {e : Steps} → Good d A e → Good d O e
  pub step_a : {d : ℕ} {e : Steps} → Good d C e → Good d A e
  pub step_c : {d : ℕ} {e : Steps} → Good d S e → Good d C e
  pub step_s : {d : ℕ} {e : Steps} → Good d P e → Good d S e
  pub step_p : {d : ℕ} {e : Steps} → Good d U e → Good d P e
  pub step_u : {d : ℕ} {e : Steps} → Good d G e → Good d U (dress e)
  pub step_g : {d : ℕ} {e : Steps} → Good d F e → Good d G e
  pub step_f : {d : ℕ} {e : Steps} → Good d E e → Good (suc d) F (enclosed e)

-- the levels that an expression may have
abbrev pub proper : Level → Bool
proper Lt = false
proper X = false
proper E = true
proper O = true
proper A = true
proper C = true
proper S = true
proper P = true
proper U = false
proper G = true
proper F = true

module _ {Good : ℕ → Level → Steps → Type 0} (r : Rungs Good) where
  as_E : {d : ℕ} {e : Steps} (own : Level) → T (proper own) → Good d own e → Good d E (top own e)
  as_E Lt t f = absurd t
  as_E X t f = absurd t
  as_E E t f = f
  as_E O t f = r.step_e f
  as_E A t f = r.step_e (r.step_o f)
  as_E C t f = r.step_e (r.step_o (r.step_a f))
  as_E S t f = r.step_e (r.step_o (r.step_a (r.step_c f)))
  as_E P t f = r.step_e (r.step_o (r.step_a (r.step_c (r.step_s f))))
  as_E U t f = absurd t
  as_E G t f = r.step_e (r.step_o (r.step_a (r.step_c (r.step_s (r.step_p (r.step_u f))))))
  as_E F t f = r.step_e (r.step_o (r.step_a (r.step_c (r.step_s (r.step_p (r.step_u (r.step_g f)))))))

  -- as it is, where it meets its own level
  meets : {d d' : ℕ} {e e' : Steps} {own l : Level} (x : Dec (own ≡ l)) → Good d own e → Good d' l e' → Good (pick x d d') l (pick x e e')
  meets {d} {e} (yes h) f g = subst (λ (l : Level). Good d l e) h f
  meets (no h) f g = g

  module _ {d : ℕ} {e : Steps} (own : Level) (t : T (proper own)) (f : Good d own e) where
    fits_f : Good (at_f own d (suc d) suc (λ n. n)) F (at_f own e (enclosed (top own e)) (λ x. x) dress)
    fits_f = meets (same_level own F) f (r.step_f (as_E own t f))

    fits_g : Good (at_g own d (suc d) suc (λ n. n)) G (at_g own e (enclosed (top own e)) (λ x. x) dress)
    fits_g = meets (same_level own G) f (r.step_g fits_f)

    fits_u : Good (at_u own d (suc d) suc (λ n. n)) U (at_u own e (enclosed (top own e)) (λ x. x) dress)
    fits_u = r.step_u fits_g

    fits_p : Good (at_p own d (suc d) suc (λ n. n)) P (at_p own e (enclosed (top own e)) (λ x. x) dress)
    fits_p = meets (same_level own P) f (r.step_p fits_u)

    fits_s : Good (at_s own d (suc d) suc (λ n. n)) S (at_s own e (enclosed (top own e)) (λ x. x) dress)
    fits_s = meets (same_level own S) f (r.step_s fits_p)

    fits_c : Good (at_c own d (suc d) suc (λ n. n)) C (at_c own e (enclosed (top own e)) (λ x. x) dress)
    fits_c = meets (same_level own C) f (r.step_c fits_s)

    fits_a : Good (at_a own d (suc d) suc (λ n. n)) A (at_a own e (enclosed (top own e)) (λ x. x) dress)
    fits_a = meets (same_level own A) f (r.step_a fits_c)

    fits_o : Good (at_o own d (suc d) suc (λ n. n)) O (at_o own e (enclosed (top own e)) (λ x. x) dress)
    fits_o = meets (same_level own O) f (r.step_o fits_a)

    fits_e : Good (at_e own d (suc d) suc (λ n. n)) E (at_e own e (enclosed (top own e)) (λ x. x) dress)
    fits_e = meets (same_level own E) f (r.step_e fits_o)

    pub fitted : (l : Level) → Good (raise own l d) l (fit own l e)
    unfolding fit raise
    fitted Lt = r.step_t fits_e
    fitted X = r.step_x fits_e
    fitted E = fits_e
    fitted O = fits_o
    fitted A = fits_a
    fitted C = fits_c
    fitted S = fits_s
    fitted P = fits_p
    fitted U = fits_u
    fitted G = fits_g
    fitted F = fits_f

-- the signs of a U and its F
abbrev signed : Part Action Rule
signed = many (tok sign_set ⨾ act signs_more) ⨾ call rule.F

-- what an expression of each level is read by
unfoldable pub part : Level → Part Action Rule
unfolding plain
part Lt = t_joined
part X = call rule.E
part E = plain rule.E
part O = call rule.O
part A = call rule.A
part C = call rule.C
part S = call rule.S
part P = call rule.P
part U = call rule.U
part G = signed
part F = call rule.F

-- p reads the steps, with room for d
pub record Fits (M : Machine Action) (d : ℕ) (p : Part Action Rule) (e : Steps) : Type 0 where
  pub at : (m : ℕ) → d ≤ m → (l : List ℕ) (k : M.Kept) → Way pyhyeon M m p (symbols e l) k l (perform M e k)

module _ {M : Machine Action} where
  -- a rule that takes of the room
  pub opening : {d m : ℕ} {r : Rule} {l l' : List ℕ} {k k' : M.Kept} → T (pyhyeon.opens r) → suc d ≤ m → ((n : ℕ) → d ≤ n → Way pyhyeon M n (pyhyeon.body r) l k l' k') → Way pyhyeon M m (call r) l k l' k'
  opening {d} {m = zero} t le f = absurd (omega arith)
  opening {d} {m = suc n} t le f = w_open t (f n (omega arith))

  -- inversions
  regroup : {m : ℕ} {p q r : Part Action Rule} {l l₁ l₂ : List ℕ} {k k₁ k₂ : M.Kept} → Way pyhyeon M m (p ⨾ q) l k l₁ k₁ → Way pyhyeon M m r l₁ k₁ l₂ k₂ → Way pyhyeon M m (p ⨾ q ⨾ r) l k l₂ k₂
  regroup (w_seq v w) u = w_seq v (w_seq w u)

  snoc : {m : ℕ} {p q : Part Action Rule} {l l₁ l₂ : List ℕ} {k k₁ k₂ : M.Kept} → Way pyhyeon M m (p ⨾ many q) l k l₁ k₁ → Way pyhyeon M m q l₁ k₁ l₂ k₂ → Way pyhyeon M m (p ⨾ many q) l k l₂ k₂
  snoc (w_seq v w) u = w_seq v (many_snoc w u)

  by_body : {m : ℕ} {p q : Part Action Rule} {l l' : List ℕ} {k k' : M.Kept} → p ≡ q → Way pyhyeon M m p l k l' k' → Way pyhyeon M m q l k l' k'
  by_body {m} {l} {l'} {k} {k'} e v = subst (λ (b : Part Action Rule). Way pyhyeon M m b l k l' k') e v

  -- a rule that ends in a repetition goes on
  pub goes_on : {m : ℕ} {r : Rule} {p q : Part Action Rule} {l l₁ l₂ : List ℕ} {k k₁ k₂ : M.Kept} → T (not (pyhyeon.opens r)) → pyhyeon.body r ≡ p ⨾ many q →
      Way pyhyeon M m (call r) l k l₁ k₁ → Way pyhyeon M m q l₁ k₁ l₂ k₂ → Way pyhyeon M m (call r) l k l₂ k₂
  goes_on t e (w_call i v) u = w_call i (by_body (sym e) (snoc (by_body e v) u))
  goes_on {r} t e (w_open i v) u = absurd (not_e (pyhyeon.opens r) t i)

  module _ {d : ℕ} {e : Steps} where
    step_t : Fits M d (part E) e → Fits M (suc d) (part Lt) e
    unfolding part plain joined opens
    step_t f = record { at = λ m le l k. w_seq (opening tt le (λ n le'. f.at n le' l k)) (w_right w_skip) }

    step_x : Fits M d (part E) e → Fits M (suc d) (part X) e
    unfolding part plain joined opens
    step_x f = record { at = λ m le l k. opening tt le (λ n le'. f.at n le' l k) }

    step_e : Fits M d (part O) e → Fits M d (part E) e
    unfolding part plain joined
    step_e f = record { at = λ m le l k. w_right (f.at m le l k) }

    step_o : Fits M d (part A) e → Fits M d (part O) e
    unfolding part plain joined opens
    step_o f = record { at = λ m le l k. w_call tt (w_seq (f.at m le l k) w_none) }

    step_a : Fits M d (part C) e → Fits M d (part A) e
    unfolding part plain joined opens
    step_a f = record { at = λ m le l k. w_call tt (w_seq (f.at m le l k) w_none) }

    step_c : Fits M d (part S) e → Fits M d (part C) e
    unfolding part plain joined opens
    step_c f = record { at = λ m le l k. w_call tt (w_seq (f.at m le l k) (w_right w_skip)) }

    step_s : Fits M d (part P) e → Fits M d (part S) e
    unfolding part plain joined opens
    step_s f = record { at = λ m le l k. w_call tt (w_seq (f.at m le l k) w_none) }

    step_p : Fits M d (part U) e → Fits M d (part P) e
    unfolding part plain joined opens
    step_p f = record { at = λ m le l k. w_call tt (w_seq (f.at m le l k) w_none) }

    step_u : Fits M d (part G) e → Fits M d (part U) (dress e)
    unfolding part plain joined opens
    step_u f = record { at = λ m le l k. w_call tt (w_seq w_act (regroup (f.at m le l _) w_act)) }

    step_g : Fits M d (part F) e → Fits M d (part G) e
    unfolding part
    step_g f = record { at = λ m le l k. w_seq w_none (f.at m le l k) }

    -- parentheses make an F of an E
    step_f : Fits M d (part E) e → Fits M (suc d) (part F) (enclosed e)
    unfolding part plain joined opens
    step_f f = record {
      at = λ m le l k. w_call tt (w_seq
          (w_right (w_right (w_right (w_right (w_left (w_seq (w_tok tt) (w_seq w_act (w_left (w_seq (opening tt le (λ n le'. f.at n le' _ _)) (w_left (w_seq (w_tok tt) w_act)))))))))))
          w_none);
    }

  pub by_rules : Rungs (λ d l e. Fits M d (part l) e)
  by_rules = record { step_t = λ f. step_t f; step_x = λ f. step_x f; step_e = λ f. step_e f; step_o = λ f. step_o f; step_a = λ f. step_a f; step_c = λ f. step_c f; step_s = λ f. step_s f; step_p = λ f. step_p f; step_u = λ f. step_u f; step_g = λ f. step_g f; step_f = λ f. step_f f }
