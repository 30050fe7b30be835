-- Fixed texts within a line: keys, marks and brackets, operators, commas and colons.
-- Assumes nothing.
use mathlib.Core.Path.{◌≡◌, refl}
use mathlib.Core.Bool.{true}
use mathlib.Core.List.{List, [], ◌∷◌, ◌++◌}
use Prim.Native.Nat.{ℕ}
use Rattle.token.specs.Code.{Colon, Comma}
use Rattle.rendered.proofs.Lexeme.{is_fixed}
use Rattle.rendered.specs.Spelled.{spelled_fixed}
use Rattle.rendered.proofs.LineSteps.{Starts}
use Rattle.rendered.proofs.Beside.{is_mark, ends_any, mark_parted, mark_apart}
use Rattle.standard.specs.Text.{operator, after, colon, comma, within}
use Rattle.standard.proofs.Signs.{Sign, plain}
use Rattle.standard.proofs.Scanning.{Spelt}
use Rattle.standard.proofs.Spells.{spelt_starts, fixed_spelt}
use Rattle.standard.proofs.Phrases.{Follow, Free, Ends, Apart, starts_more, token_ends, token_free, space_free, space_ends, space_apart, free_ends, apart_join, free_free, free_then, ends_free, ends_then}

-- ---- fixed texts

pub key_ends : (c : ℕ) → is_fixed c ≡ true → Ends (spelled_fixed c) (λ ss. plain c ∷ ss)
key_ends c t = token_ends (fixed_spelt c t)

pub mark_free : (c : ℕ) → is_fixed c ≡ true → is_mark c ≡ true → Free (spelled_fixed c) (λ ss. plain c ∷ ss)
mark_free c t m = token_free (fixed_spelt c t) (mark_parted c m)

pub closes : (c : ℕ) → ends_any c ≡ true → Apart (spelled_fixed c)
closes c t = record { holds = mark_apart c t }

-- with the spaces of an operator; before what follows a space
pub operator_free : (c : ℕ) → is_fixed c ≡ true → Free (operator c) (λ ss. plain c ∷ ss)
operator_free c t = free_free {v = 32 ∷ []} space_free (ends_free (key_ends c t) (space_apart []) space_free)

pub after_ends : (c : ℕ) → is_fixed c ≡ true → {w : List ℕ} {f : Follow} → Ends w f → Ends (after c w) (λ ss. plain c ∷ f ss)
after_ends c t {w} e = ends_then (key_ends c t) (space_apart w) (space_ends e)

pub colon_ends : {w : List ℕ} {f : Follow} → Ends w f → Ends (colon w) (λ ss. plain Colon ∷ f ss)
colon_ends {w} e = free_then (mark_free Colon refl refl) (space_ends e)

pub comma_free : Free comma (λ ss. plain Comma ∷ ss)
comma_free = free_free (mark_free Comma refl refl) space_free

pub comma_apart : (w : List ℕ) → Apart (comma ++ w)
comma_apart w = apart_join w (apart_join (32 ∷ []) (closes Comma refl))

pub within_free : (c e : ℕ) → is_fixed c ≡ true → is_mark c ≡ true → is_fixed e ≡ true → is_mark e ≡ true → ends_any e ≡ true → {w : List ℕ} {f : Follow} → Ends w f →
    Free (within c w e) (λ ss. plain c ∷ f (plain e ∷ ss))
within_free c e t m t' m' a h = free_free (mark_free c t m) (ends_free h (closes e a) (mark_free e t' m'))

-- ---- phrases: within a line, and able to begin one

pub record Phrase (w : List ℕ) (f : Follow) : Type 0 where
  pub starts : Starts w
  pub ends : Ends w f

infixl 20 ◌then◌by◌
pub ◌then◌by◌ : {v w : List ℕ} {f g : Follow} → Phrase v f → Ends w g → Apart w → Phrase (v ++ w) (λ ss. f (g ss))
◌then◌by◌ {v} {w} p e a = record { starts = starts_more v w p.starts; ends = ends_then p.ends a e }

pub leaf : {w : List ℕ} {g : Sign} → Spelt w g → Phrase w (λ ss. g ∷ ss)
leaf {w} {g} s = record { starts = spelt_starts s; ends = token_ends s }

pub fixed_starts : (c : ℕ) → is_fixed c ≡ true → (w : List ℕ) → Starts (spelled_fixed c ++ w)
fixed_starts c t w = starts_more (spelled_fixed c) w (spelt_starts (fixed_spelt c t))

pub keyed : (c : ℕ) → is_fixed c ≡ true → {w : List ℕ} {f : Follow} → Ends w f → Phrase (after c w) (λ ss. plain c ∷ f ss)
keyed c t {w} e = record { starts = fixed_starts c t (32 ∷ w); ends = after_ends c t e }

pub bracketed : (c e : ℕ) → is_fixed c ≡ true → is_mark c ≡ true → is_fixed e ≡ true → is_mark e ≡ true → ends_any e ≡ true → {w : List ℕ} {f : Follow} → Ends w f →
    Phrase (within c w e) (λ ss. plain c ∷ f (plain e ∷ ss))
bracketed c e t m t' m' a {w} h = record { starts = fixed_starts c t (w ++ spelled_fixed e); ends = free_ends (within_free c e t m t' m' a h) }

-- two operands with an operator between
pub between_is : (c : ℕ) → is_fixed c ≡ true → {v w : List ℕ} {f g : Follow} → Phrase v f → Phrase w g → Phrase (v ++ (operator c ++ w)) (λ ss. f (plain c ∷ g ss))
between_is c t {v} {w} p q = p then free_then (operator_free c t) q.ends by apart_join w (space_apart (spelled_fixed c ++ 32 ∷ []))
