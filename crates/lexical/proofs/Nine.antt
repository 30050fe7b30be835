-- In a well-formed source the scanner stands between characters wherever a token would start, so 9 stands at the first byte of a character: "Another
-- character over 127 where a token would start gets 9" (02, change 1).
-- Assumes nothing.
use mathlib.Core.Path.{◌≡◌, refl, subst}
use mathlib.Core.Bool.{Bool, true, false, cond, ◌||◌}
use mathlib.Core.List.{List, [], ◌∷◌}
use mathlib.Core.Logic.{◌⊎◌, inl, inr, ⊎_elim}
use Prim.Native.Nat.{ℕ, zero, suc, ◌+◌, ◌-◌, ◌/◌, ◌<◌}
use native.Mathlib.Omega.{arith}
use lib.Dec.{eqb, ltb}
use lib.ListN.{length, get_or, take, drop}
use lib.Seq.{take_all}
use borrow.Author.Tests.{eqb-true, ltb-true}
use Rattle.std.specs.Prelude.{Option, Some, None, Result, Ok, Err}
use Rattle.source.specs.Bytes.{part, run}
use Rattle.source.proofs.Bools.{or_either}
use Rattle.token.specs.Code as Code
use Rattle.tokens.specs.Token.{Token, token}
use Rattle.utf8.specs.Table.{first_ill_formed, utf8_error_lem}
use Rattle.raw_token.specs.Table.{token_at_lem}
use Rattle.raw_token.specs.declared.RawToken.{RawToken}
use Rattle.spacing.specs.Gap.{is_blank, gap, gap_end_lem}
use Rattle.spacing.specs.Indentation.{step, is_space, is_blank_line, is_level, level_of, spaces_end_lem, indentation_at}
use Rattle.spacing.specs.declared.line.Indentation.{Indentation}
use Rattle.spacing.specs.declared.line.Indentation.TheVariants.{Blank, Level}
use Rattle.lexer.specs.Value.{value_of, text_of}
use Rattle.lexer.specs.Scan.{Scan, scanned, refused, prepend, lexer, Rest, marks_then, indent_then, closed, value_then, found_then, token_then, scan_from, token_list}
use Rattle.lexer.specs.declared.Lexer.{Lexer}
use Rattle.lexical.proofs.WellFormed.{both_well, behind_well, low_well}
use Rattle.lexical.proofs.Boundaries.{Between, between_characters}
use Rattle.literal.specs.declared.Literal.{Literal}
use Rattle.lexical.proofs.Ends.{passed, ends_at}
use Rattle.source.specs.Reasons.{number_of, refusal_at}
use Rattle.source.specs.declared.refusal.Refusal.{Refusal}

-- ---- what is skipped is whole characters

nil_well : utf8_error_lem [] ≡ None
unfolding utf8_error_lem first_ill_formed
nil_well = refl

-- spaces
spaces_well : (l : List ℕ) → utf8_error_lem (take (run is_space l) l) ≡ None
spaces_well [] = nil_well
spaces_well (b ∷ l) = go (eqb b 32) (eqb-true b 32) (spaces_well l)
  where
    go : (t : Bool) → (t ≡ true → b ≡ 32) → utf8_error_lem (take (run is_space l) l) ≡ None → utf8_error_lem (take (cond t (suc (run is_space l)) 0) (b ∷ l)) ≡ None
    go true f r = let e = f refl in both_well (b ∷ []) (take (run is_space l) l) (low_well b (omega arith)) r
    go false f r = nil_well

-- a comment ends before a line feed or with the list
comment_stops : (l : List ℕ) → (gap true l ≡ length l) ⊎ ((gap true l < length l) × (get_or l (gap true l) 0 ≡ 10))
comment_stops [] = inl refl
comment_stops (b ∷ l) = go (eqb b 10) (eqb-true b 10) (comment_stops l)
  where
    go : (t : Bool) → (t ≡ true → b ≡ 10) → (gap true l ≡ length l) ⊎ ((gap true l < length l) × (get_or l (gap true l) 0 ≡ 10))
        → (cond t 0 (suc (gap true l)) ≡ suc (length l)) ⊎ ((cond t 0 (suc (gap true l)) < suc (length l)) × (get_or (b ∷ l) (cond t 0 (suc (gap true l))) 0 ≡ 10))
    go true f x = inr (omega arith, f refl)
    go false f (inl e) = inl (omega arith)
    go false f (inr x) = inr (omega (arith, x.0), x.1)

comment_well : (l : List ℕ) → utf8_error_lem l ≡ None → utf8_error_lem (take (gap true l) l) ≡ None
comment_well l w =
    ⊎_elim
    (λ e. rw (take_all (gap true l) l (omega arith)) w)
    (λ x. let e = x.1 in (between_characters l (gap true l) w x.0 (omega arith)).0)
    (comment_stops l)

low_blank : (b : ℕ) → is_blank b ≡ true → b < 128
low_blank b =
    or_either (eqb b 32 || eqb b 9) (eqb b 13)
    (or_either (eqb b 32) (eqb b 9) (λ e. let n = eqb-true b 32 e in omega arith) (λ e. let n = eqb-true b 9 e in omega arith))
    (λ e. let n = eqb-true b 13 e in omega arith)

-- blanks and comments
gap_well : (l : List ℕ) → utf8_error_lem l ≡ None → utf8_error_lem (take (gap false l) l) ≡ None
gap_well [] w = nil_well
gap_well (b ∷ l) w = go (is_blank b) (eqb b 35) (low_blank b) (eqb-true b 35) (gap_well l)
  where
    rest : b < 128 → utf8_error_lem l ≡ None
    rest h = behind_well (b ∷ []) l (low_well b h) w

    go : (t u : Bool) → (t ≡ true → b < 128) → (u ≡ true → b ≡ 35) → (utf8_error_lem l ≡ None → utf8_error_lem (take (gap false l) l) ≡ None)
        → utf8_error_lem (take (cond t (suc (gap false l)) (cond u (suc (gap true l)) 0)) (b ∷ l)) ≡ None
    go true u f g r = let h = f refl in both_well (b ∷ []) (take (gap false l) l) (low_well b h) (r (rest h))
    go false true f g r =
        let e = g refl in
        let h : b < 128 = omega arith in
        both_well (b ∷ []) (take (gap true l) l) (low_well b h) (comment_well l (rest h))
    go false false f g r = nil_well

spaces_at : (s : List ℕ) (at : ℕ) → Between s at → Between s (spaces_end_lem s at)
spaces_at s at b = passed s at (run is_space (drop at s)) b (spaces_well (drop at s))

gap_at : (s : List ℕ) (at : ℕ) → Between s at → Between s (gap_end_lem s at)
unfolding gap_end_lem
gap_at s at b = passed s at (gap false (drop at s)) b (gap_well (drop at s) b.1)

-- ---- along the scan

-- where 9 is answered: within the source, between characters, and no token matches there
abbrev Nine : List ℕ → Scan → Type 0
Nine s (scanned ts bs) = Unit {0}
Nine s (refused number place) = number ≡ 9 → (place < length s) × Between s place × (token_at_lem s place ≡ None)

nine_prepend : (s : List ℕ) (ts : List Token) (bs : List ℕ) (r : Scan) → Nine s r → Nine s (prepend ts bs r)
nine_prepend s ts bs (scanned us cs) h = tt
nine_prepend s ts bs (refused number place) h = h

-- a line's spaces end between characters, and are refused by other numbers
abbrev Spaces : List ℕ → Result Indentation Refusal → Type 0
Spaces s (Ok (Blank end)) = Between s end
Spaces s (Ok (Level end code n top)) = Between s end
Spaces s (Err r) = number_of r.reason ≡ 9 → ⊥

level_at : (s : List ℕ) (at end top : ℕ) → Between s end → Spaces s (level_of at end top)
unfolding level_of
level_at s at end top b = go (eqb (end - at) top) (ltb top (end - at)) (eqb (end - at) (top + step)) (is_level (end - at))
  where
    go : (t u v w : Bool) → Spaces s (cond t (Ok (Level end Code.Dedent 0 top)) (cond u (cond v (Ok (Level end Code.Indent 1 (end - at))) (Err (refusal_at 7 at))) (cond w (Ok (Level end Code.Dedent ((top - (end - at)) / step) (end - at))) (Err (refusal_at 8 at)))))
    go true u v w = b
    go false true true w = b
    go false true false w = λ e. omega arith
    go false false v true = b
    go false false v false = λ e. omega arith

indentation-at : (s : List ℕ) (at top : ℕ) → Between s at → Spaces s (indentation_at s at top)
unfolding indentation_at
indentation-at s at top b = go (eqb (get_or s (spaces_end_lem s at) 0) 9) (is_blank_line (get_or s (spaces_end_lem s at) 0)) (spaces_at s at b)
  where
    go : (t u : Bool) → Between s (spaces_end_lem s at) → Spaces s (cond t (Err (refusal_at 6 (spaces_end_lem s at))) (cond u (Ok (Blank (spaces_end_lem s at))) (level_of at (spaces_end_lem s at) top)))
    go true u h = λ e. omega arith
    go false true h = h
    go false false h = level_at s at (spaces_end_lem s at) top h

-- so it is from every state between characters
abbrev Onward : List ℕ → Rest → Type 0
Onward s rest = (y : Lexer) → Between s y.at → Nine s (rest y)

module _ (s : List ℕ) (w : utf8_error_lem s ≡ None) (rest : Rest) (h : Onward s rest) where
  indent_nine : Onward s (indent_then s rest)
  unfolding indent_then
  indent_nine x b = go x.flag (indentation_at s x.at x.top) (indentation-at s x.at x.top b)
    where
      go : (t : Bool) (i : Result Indentation Refusal) → Spaces s i → Nine s (cond t (marks_then rest x i) (rest x))
      go false i k = h x b
      go true (Ok (Blank end)) k = h (lexer end true x.top x.count x.used) k
      go true (Ok (Level end code n top)) k = nine_prepend s _ [] (rest (lexer end false top (x.count + n) x.used)) (h (lexer end false top (x.count + n) x.used) k)
      go true (Err r) k = λ e. absurd (k e)

  token_nine : Onward s (token_then s rest)
  unfolding token_then closed
  token_nine x b = by_end (ltb start (length s)) (ltb-true start (length s))
    where
      start : ℕ
      start = gap_end_lem s x.at

      by_value : (code end : ℕ) (bs : List ℕ) (v : Option Literal) → Between s end → Nine s (value_then rest x code start end bs v)
      by_value code end bs (Some v) k =
          let y = lexer end (eqb code Code.Newline || x.flag) x.top (x.count + 1) (x.used + length bs) in
          nine_prepend s (token code start end v ∷ []) bs (rest y) (h y k)
      by_value code end bs None k = other (eqb code Code.Int)
        where
          other : (t : Bool) → Nine s (refused (cond t 10 11) start)
          other true = λ e. absurd (omega arith)
          other false = λ e. absurd (omega arith)

      by_token : start < length s → (k : Option RawToken) → token_at_lem s start ≡ k → Nine s (found_then s rest x start k)
      by_token l None f = λ e. (l, gap_at s x.at b, f)
      by_token l (Some t) f =
          by_value t.code t.end (text_of t.code (part s start t.end)) (value_of t.code (part s start t.end) x.used) (ends_at s start t.code t.end w f (gap_at s x.at b))

      by_end : (t : Bool) → (t ≡ true → start < length s) → Nine s (cond t (found_then s rest x start (token_at_lem s start)) (closed (length s) x))
      by_end false l = tt
      by_end true l = by_token (l refl) (token_at_lem s start) refl

scan_nine : (s : List ℕ) → utf8_error_lem s ≡ None → (f : ℕ) → Onward s (scan_from f s)
unfolding scan_from
scan_nine s w zero x b = λ e. absurd (omega arith)
scan_nine s w (suc f) x b = indent_nine s w (token_then s (scan_from f s)) (token_nine s w (scan_from f s) (scan_nine s w f)) x b

-- 9 stands at the first byte of a character of the source, at which no token matches
pub nine : (s : List ℕ) (p : ℕ) → utf8_error_lem s ≡ None → token_list s ≡ refused 9 p → (p < length s) × Between s p × (token_at_lem s p ≡ None)
unfolding token_list
nine s p w e = subst (Nine s) e (scan_nine s w (suc (length s)) (lexer 0 true 0 0 0) (nil_well, w)) refl
