-- A refusal of the scanner is one of 6 to 11, and stands within the source.
-- Assumes nothing.
use mathlib.Core.Path.{◌≡◌, refl, subst}
use mathlib.Core.Bool.{Bool, true, false, cond, ◌||◌}
use mathlib.Core.List.{List, [], ◌∷◌}
use Prim.Native.Nat.{ℕ, zero, suc, ◌+◌, ◌-◌, ◌%◌, ◌<◌, ◌≤◌}
use native.Mathlib.Decide.{ℕ_discrete, dec_lt}
use native.Mathlib.Omega.{arith}
use lib.Dec.{eqb, ltb}
use lib.ListN.{length, get_or}
use borrow.Author.Tests.{eqb-true, ltb-true}
use Rattle.source.proofs.Ranges.{at_each}
use Rattle.std.specs.Prelude.{Option, Some, None, Result, Ok, Err}
use Rattle.source.specs.Bytes.{part}
use Rattle.token.specs.Code as Code
use Rattle.tokens.specs.Token.{Token, token}
use Rattle.raw_token.specs.Table.{raw_token, token_at_lem}
use Rattle.raw_token.specs.declared.RawToken.{RawToken}
use Rattle.raw_token.proofs.Within.{token_within}
use Rattle.spacing.specs.Gap.{gap_end_lem}
use Rattle.spacing.specs.Indentation.{step, is_blank_line, level_of, spaces_end_lem, indentation_at}
use Rattle.lexer.specs.Value.{value_of, text_of}
use Rattle.lexer.specs.Scan.{Scan, scanned, refused, prepend, lexer, Rest, marks_then, indent_then, closed, value_then, found_then, token_then, scan_from, token_list}
use Rattle.lexer.specs.declared.Lexer.{Lexer}
use Rattle.spacing.specs.declared.line.Indentation.{Indentation}
use Rattle.spacing.specs.declared.line.Indentation.TheVariants.{Blank, Level}
use Rattle.source.specs.Reasons.{number_of, reason_of, refusal_at}
use Rattle.source.specs.declared.refusal.Refusal.{Refusal}
use Rattle.spacing.proofs.Levels.{Known, indentation_known, spaces_within, level_same, level_deeper, level_far, level_back, level_between}
use Rattle.literal.specs.declared.Literal.{Literal}
use Rattle.lexer.proofs.Enough.{Reached, gap_from}

-- a refusal's number and place
pub record Refuses (n number place : ℕ) : Type 0 where
  pub least : 6 ≤ number
  pub greatest : number ≤ 11
  pub within : place ≤ n

abbrev Sound : ℕ → Scan → Type 0
Sound n (scanned ts bs) = Unit {0}
Sound n (refused number place) = Refuses n number place

abbrev Spaces : ℕ → Result Indentation Refusal → Type 0
Spaces n (Ok (Blank end)) = Unit {0}
Spaces n (Ok (Level end code marks top)) = Unit {0}
Spaces n (Err r) = Refuses n (number_of r.reason) r.place

sound_prepend : (n : ℕ) (ts : List Token) (bs : List ℕ) (r : Scan) → Sound n r → Sound n (prepend ts bs r)
sound_prepend n ts bs (scanned us cs) h = tt
sound_prepend n ts bs (refused number place) h = h

level_sound : (n at end top : ℕ) → at ≤ n → Spaces n (level_of at end top)
level_sound n at end top h = by_same (ℕ_discrete (end - at) top)
  where
    by_level : (end - at ≡ top → ⊥) → end - at ≤ top → Dec ((end - at) % step ≡ 0) → Spaces n (level_of at end top)
    by_level o m (yes q) = rw (← level_back at end top o m q) tt
    by_level o m (no q) = rw (← level_between at end top o m q) (record { least = omega arith; greatest = omega arith; within = h })

    by_step : (end - at ≡ top → ⊥) → top < end - at → Dec (end - at ≡ top + step) → Spaces n (level_of at end top)
    by_step o m (yes q) = rw (← level_deeper at end top o m q) tt
    by_step o m (no q) = rw (← level_far at end top o m q) (record { least = omega arith; greatest = omega arith; within = h })

    by_more : (end - at ≡ top → ⊥) → Dec (top < end - at) → Spaces n (level_of at end top)
    by_more o (yes m) = by_step o m (ℕ_discrete (end - at) (top + step))
    by_more o (no m) = by_level o (omega arith) (ℕ_discrete ((end - at) % step) 0)

    by_same : Dec (end - at ≡ top) → Spaces n (level_of at end top)
    by_same (yes q) = rw (← level_same at end top q) tt
    by_same (no q) = by_more q (dec_lt top (end - at))

spaces_sound : (s : List ℕ) (at top : ℕ) → at ≤ length s → Spaces (length s) (indentation_at s at top)
unfolding indentation_at
spaces_sound s at top h = go (eqb (get_or s (spaces_end_lem s at) 0) 9) (is_blank_line (get_or s (spaces_end_lem s at) 0))
  where
    go : (t u : Bool) → Spaces (length s) (cond t (Err (refusal_at 6 (spaces_end_lem s at))) (cond u (Ok (Blank (spaces_end_lem s at))) (level_of at (spaces_end_lem s at) top)))
    go true u = record { least = omega arith; greatest = omega arith; within = (spaces_within s at h).1 }
    go false true = tt
    go false false = level_sound (length s) at (spaces_end_lem s at) top h

-- what follows is sound at every state from `at` on
abbrev Onward : ℕ → ℕ → Rest → Type 0
Onward n at rest = (y : Lexer) → at ≤ y.at → Reached n y → Sound n (rest y)

module _ (s : List ℕ) (x : Lexer) (reached : Reached (length s) x) (rest : Rest) where
  indent_sound : Onward (length s) x.at rest → Sound (length s) (indent_then s rest x)
  unfolding indent_then
  indent_sound h = go x.flag (indentation_at s x.at x.top) (indentation_known s x.at x.top reached.0 reached.1) (spaces_sound s x.at x.top reached.0)
    where
      go : (t : Bool) (i : Result Indentation Refusal) → Known (length s) x.at x.top i → Spaces (length s) i → Sound (length s) (cond t (marks_then rest x i) (rest x))
      go false i k p = h x (omega arith) reached
      go true (Ok (Blank end)) k p = h (lexer end true x.top x.count x.used) k.0 (k.1, reached.1)
      go true (Ok (Level end code n top)) k p = sound_prepend (length s) _ [] (rest (lexer end false top (x.count + n) x.used)) (h (lexer end false top (x.count + n) x.used) k.0 (k.1, k.2))
      go true (Err r) k p = p

  token_sound : Onward (length s) (x.at + 1) rest → Sound (length s) (token_then s rest x)
  unfolding token_then closed
  token_sound h = by_end (ltb start (length s)) (ltb-true start (length s))
    where
      start : ℕ
      start = gap_end_lem s x.at

      by_value : (code end : ℕ) (bs : List ℕ) (v : Option Literal) → start < end → end ≤ length s → Sound (length s) (value_then rest x code start end bs v)
      by_value code end bs (Some v) a b =
          let y = lexer end (eqb code Code.Newline || x.flag) x.top (x.count + 1) (x.used + length bs) in
          sound_prepend (length s) (token code start end v ∷ []) bs (rest y) (h y (omega (arith, gap_from s x.at)) (b, reached.1))
      by_value code end bs None a b = number_sound (eqb code Code.Int)
        where
          number_sound : (t : Bool) → Refuses (length s) (cond t 10 11) start
          number_sound true = record { least = omega arith; greatest = omega arith; within = omega arith }
          number_sound false = record { least = omega arith; greatest = omega arith; within = omega arith }

      by_token : start < length s → (k : Option RawToken) → ((code end : ℕ) → k ≡ Some (raw_token code end) → (start < end) × (end ≤ length s)) → Sound (length s) (found_then s rest x start k)
      by_token l None w = record { least = omega arith; greatest = omega arith; within = omega arith }
      by_token l (Some t) w =
          let b = w t.code t.end refl in
          by_value t.code t.end (text_of t.code (part s start t.end)) (value_of t.code (part s start t.end) x.used) b.0 b.1

      by_end : (t : Bool) → (t ≡ true → start < length s) → Sound (length s) (cond t (found_then s rest x start (token_at_lem s start)) (closed (length s) x))
      by_end false l = tt
      by_end true l = by_token (l refl) (token_at_lem s start) (token_within s start)

scan_sound : (f : ℕ) (s : List ℕ) (x : Lexer) → Reached (length s) x → length s - x.at < f → Sound (length s) (scan_from f s x)
unfolding scan_from
scan_sound zero s x r h = absurd (omega arith)
scan_sound (suc f) s x r h =
    indent_sound s x r (token_then s (scan_from f s))
    (λ y a p. token_sound s y p (scan_from f s) (λ z b q. scan_sound f s z q (omega (arith, q.0))))

-- "6 indentation without tabs? .. 11 Float admitted?": these numbers and no other, "so 12 never occurs from here on" (02, change 1)
pub refusals : (s : List ℕ) (number place : ℕ) → token_list s ≡ refused number place → Refuses (length s) number place
unfolding token_list
refusals s number place e =
    subst (Sound (length s)) e (scan_sound (suc (length s)) s (lexer 0 true 0 0 0) (omega arith, omega arith) (omega arith))

-- each of these numbers has a case of the code's enum
pub has_case : (number : ℕ) → 6 ≤ number → number ≤ 11 → number_of (reason_of number) ≡ number
has_case number h k = eqb-true (number_of (reason_of number)) number (at_each (λ (n : ℕ). eqb (number_of (reason_of n)) n) 6 6 tt number h (omega arith))

pub refused_case : (s : List ℕ) (number place : ℕ) → token_list s ≡ refused number place → number_of (reason_of number) ≡ number
refused_case s number place e = let r = refusals s number place e in has_case number r.least r.greatest
