-- What a line's spaces say, case by case, and what an answer's marks cost.
-- Assumes nothing.
use mathlib.Core.Path.{◌≡◌, sym, ap, ◌∙◌}
use mathlib.Core.Bool.{Bool, true, false, cond}
use mathlib.Core.List.{List, [], ◌∷◌}
use Prim.Native.Nat.{ℕ, ◌+◌, ◌-◌, ◌/◌, ◌%◌, ◌<◌, ◌≤◌}
use native.Mathlib.Decide.{ℕ_discrete, dec_lt}
use native.Mathlib.Omega.{arith}
use lib.Dec.{eqb}
use lib.ListN.{length, get_or, drop, length-drop}
use borrow.Author.Tests.{eq-eqb, ne_eqb, lt-ltb, le-ltb}
use Rattle.source.proofs.Lists.{run_le}
use Rattle.source.proofs.Ranges.{NotIn}
use Rattle.token.specs.Code.{Indent, Dedent}
use Rattle.spacing.specs.Indentation.{step, is_space, is_blank_line, level_of, spaces_end_lem, indentation_at}
use Rattle.spacing.specs.declared.line.Indentation.{Indentation}
use Rattle.spacing.specs.declared.line.Indentation.TheVariants.{Blank, Level}
use Rattle.std.specs.Prelude.{Result, Ok, Err}
use Rattle.source.specs.Reasons.{refusal_at}
use Rattle.source.specs.declared.refusal.Refusal.{Refusal}

module _ (at end top : ℕ) where
  pub level_same : end - at ≡ top → Ok (Level end Dedent 0 top) ≡ level_of at end top
  unfolding level_of
  level_same e = rw (eq-eqb (end - at) top e)

  module _ (other : end - at ≡ top → ⊥) where
    pub level_deeper : top < end - at → end - at ≡ top + step → Ok (Level end Indent 1 (end - at)) ≡ level_of at end top
    unfolding level_of
    level_deeper h e = rw (ne_eqb (end - at) top other, lt-ltb top (end - at) h, eq-eqb (end - at) (top + step) e)

    pub level_far : top < end - at → (end - at ≡ top + step → ⊥) → Err (refusal_at 7 at) ≡ level_of at end top
    unfolding level_of
    level_far h e = rw (ne_eqb (end - at) top other, lt-ltb top (end - at) h, ne_eqb (end - at) (top + step) e)

    pub level_back : end - at ≤ top → (end - at) % step ≡ 0 → Ok (Level end Dedent ((top - (end - at)) / step) (end - at)) ≡ level_of at end top
    unfolding level_of
    level_back h e = rw (ne_eqb (end - at) top other, le-ltb top (end - at) h, eq-eqb ((end - at) % step) 0 e)

    pub level_between : end - at ≤ top → ((end - at) % step ≡ 0 → ⊥) → Err (refusal_at 8 at) ≡ level_of at end top
    unfolding level_of
    level_between h e = rw (ne_eqb (end - at) top other, le-ltb top (end - at) h, ne_eqb ((end - at) % step) 0 e)

-- What is known of an answer: it ends at or behind `at` and within n bytes; its marks and the levels then open cost no more than the levels open before
-- and the spaces passed
abbrev pub Known : ℕ → ℕ → ℕ → Result Indentation Refusal → Type 0
Known n at top (Ok (Blank end)) = (at ≤ end) × (end ≤ n)
Known n at top (Ok (Level end code marks top')) =
    (at ≤ end) × (end ≤ n) × (top' % step ≡ 0) × (marks + top' / step ≤ top / step + (end - at))
Known n at top (Err r) = Unit {0}

level_known : (n at end top : ℕ) → at ≤ end → end ≤ n → top % step ≡ 0 → Known n at top (level_of at end top)
unfolding level_of
level_known n at end top h k e = by_same (ℕ_discrete (end - at) top)
  where
    by_level : (end - at ≡ top → ⊥) → end - at ≤ top → Dec ((end - at) % step ≡ 0) → Known n at top (level_of at end top)
    by_level o m (yes q) = rw (← level_back at end top o m q) (h, k, q, omega arith)
    by_level o m (no q) = rw (← level_between at end top o m q) tt

    by_step : (end - at ≡ top → ⊥) → top < end - at → Dec (end - at ≡ top + step) → Known n at top (level_of at end top)
    by_step o m (yes q) = rw (← level_deeper at end top o m q) (h, k, omega arith, omega arith)
    by_step o m (no q) = rw (← level_far at end top o m q) tt

    by_more : (end - at ≡ top → ⊥) → Dec (top < end - at) → Known n at top (level_of at end top)
    by_more o (yes m) = by_step o m (ℕ_discrete (end - at) (top + step))
    by_more o (no m) = by_level o (omega arith) (ℕ_discrete ((end - at) % step) 0)

    by_same : Dec (end - at ≡ top) → Known n at top (level_of at end top)
    by_same (yes q) = rw (← level_same at end top q) (h, k, e, omega arith)
    by_same (no q) = by_more q (dec_lt top (end - at))

pub spaces_within : (s : List ℕ) (at : ℕ) → at ≤ length s → (at ≤ spaces_end_lem s at) × (spaces_end_lem s at ≤ length s)
spaces_within s at h = (omega arith, omega (arith, run_le is_space (drop at s), length-drop at s))

pub indentation_known : (s : List ℕ) (at top : ℕ) → at ≤ length s → top % step ≡ 0 → Known (length s) at top (indentation_at s at top)
unfolding indentation_at
indentation_known s at top h e = go (eqb b 9) (is_blank_line b)
  where
    b : ℕ
    b = get_or s (spaces_end_lem s at) 0

    w : (at ≤ spaces_end_lem s at) × (spaces_end_lem s at ≤ length s)
    w = spaces_within s at h

    go : (t u : Bool) → Known (length s) at top (cond t (Err (refusal_at 6 (spaces_end_lem s at))) (cond u (Ok (Blank (spaces_end_lem s at))) (level_of at (spaces_end_lem s at) top)))
    go true u = tt
    go false true = w
    go false false = level_known (length s) at (spaces_end_lem s at) top w.0 w.1 e

-- where the spaces of a line with a token end is `end`, and b the byte there
module _ (s : List ℕ) (at top end : ℕ) (isEnd : end ≡ spaces_end_lem s at) (b : ℕ) (is_b : b ≡ get_or s end 0) where
  byte_is : get_or s (spaces_end_lem s at) 0 ≡ b
  byte_is = ap (λ (i : ℕ). get_or s i 0) (sym isEnd) ∙ sym is_b

  pub measure_level : NotIn (35 ∷ 13 ∷ 10 ∷ 9 ∷ []) b → (r : Result Indentation Refusal) → r ≡ level_of at end top → r ≡ indentation_at s at top
  unfolding indentation_at
  measure_level o r e =
      rw (byte_is, ne_eqb b 9 o.0.0.0.1, ne_eqb b 10 o.0.0.1, ne_eqb b 13 o.0.1, ne_eqb b 35 o.1)
      (e ∙ ap (λ (i : ℕ). level_of at i top) isEnd)
