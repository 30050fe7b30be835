-- What each function of the scanner has done, from what its calls have done.
-- Assumes nothing.
use mathlib.Core.Path.{◌≡◌, refl, sym, ap, ◌∙◌, subst}
use mathlib.Core.Bool.{true, false}
use mathlib.Core.List.{List, [], ◌∷◌, append-nil}
use Prim.Native.Nat.{ℕ, ◌+◌, ◌*◌, ◌/◌, ◌≤◌}
use native.Mathlib.Nat.{le_refl}
use native.Mathlib.Omega.{arith}
use lib.ListN.{length, take, replicate, length-replicate}
use lib.Seq.{sets}
use Rattle.token.specs.Code as Code
use Rattle.spacing.specs.Indentation.{step, indentation_at}
use Rattle.lexer.specs.Scan.{scanned, mark, lexer, Rest, indent_then, closed}
use Rattle.lexer.specs.Words.{words}
use Rattle.lexer.specs.Steps.{Paid, Marks, Turns}
use Rattle.lexer.specs.declared.Lexer.{Lexer}
use Rattle.source.specs.declared.refusal.Refusal.{Refusal}
use Rattle.lexer.specs.declared.Turn.TheVariants as T
use Rattle.spacing.specs.declared.line.Indentation.{Indentation}
use Rattle.spacing.specs.declared.line.Indentation.TheVariants.{Blank, Level}
use Rattle.std.specs.Prelude.{Result, Ok, Err}
use Rattle.spacing.proofs.Levels.{Known, indentation_known}
use Rattle.lexer.proofs.Writing.{wrote}

-- ---- a line's spaces

module _ (s : List ℕ) (x : Lexer) (paid : Paid (length s) x) where
  pub flag_clear : x.flag ≡ false → (tokens : List ℕ) → Marks s x (Ok x) tokens tokens
  unfolding indent_then
  flag_clear e tokens = record { is = λ rest text. rw e; within = (paid, le_refl x.at) }

  known : (i : Result Indentation Refusal) → indentation_at s x.at x.top ≡ i → Known (length s) x.at x.top i
  known i e = subst (Known (length s) x.at x.top) e (indentation_known s x.at x.top paid.within paid.even)

  pub level_room : (end code marks top : ℕ) → indentation_at s x.at x.top ≡ Ok (Level end code marks top) → (x.count + marks ≤ length s) × (end ≤ length s)
  level_room end code marks top e =
      let k = known (Ok (Level end code marks top)) e in
      let p = paid.tokens_paid in
      (omega arith, k.1)

  module _ (flag : x.flag ≡ true) where
    pub on_blank : (end : ℕ) → indentation_at s x.at x.top ≡ Ok (Blank end) → (tokens : List ℕ) → Marks s x (Ok (lexer end x.flag x.top x.count x.used)) tokens tokens
    unfolding indent_then
    on_blank end e tokens =
        let k = known (Ok (Blank end)) e in
        record {
          is = λ rest text. rw (flag, e);
          within = (record { within = k.1; even = paid.even; tokens_paid = omega arith; text_paid = omega arith }, k.0);
        }

    pub on_level : (end code marks top : ℕ) → indentation_at s x.at x.top ≡ Ok (Level end code marks top) → (tokens tokens' : List ℕ)
        → tokens' ≡ sets tokens (3 * x.count) (words (replicate marks (mark code x.at end))) → 3 * (x.count + marks) ≤ length tokens
        → Marks s x (Ok (lexer end false top (x.count + marks) x.used)) tokens tokens'
    unfolding indent_then
    on_level end code marks top e tokens tokens' w room =
        let k = known (Ok (Level end code marks top)) e in
        record {
          is = λ rest text. rw (flag, e) (wrote tokens x.count (replicate marks (mark code x.at end)) tokens' (x.count + marks) text [] text x.used x.used w (ap (λ (n : ℕ). x.count + n) (sym (length-replicate marks (mark code x.at end)))) room (sym (append-nil (take x.used text))) (rest (lexer end false top (x.count + marks) x.used)));
          within = (record { within = k.1; even = k.2; tokens_paid = omega arith; text_paid = omega arith }, k.0);
        }

    pub on_no : (r : Refusal) → indentation_at s x.at x.top ≡ Err r → (tokens : List ℕ) → Marks s x (Err r) tokens tokens
    unfolding indent_then
    on_no r e tokens = record { is = λ rest text. rw (flag, e); within = tt }

-- ---- the end

module _ (n : ℕ) (x : Lexer) (paid : Paid n x) where
  pub all_closed : (tokens tokens₁ tokens₂ text : List ℕ) → 3 * (n + 1) ≤ length tokens → length tokens₁ ≡ length tokens
      → tokens₁ ≡ sets tokens (3 * x.count) (words (replicate (x.top / step) (mark Code.Dedent n n)))
      → tokens₂ ≡ sets tokens₁ (3 * (x.count + x.top / step)) (words (mark Code.Eof n n ∷ []))
      → Turns n (λ (rest : Rest). closed n x) x (Ok (T.End (record { count = x.count + x.top / step; text = x.used }))) tokens text tokens₂ text
  unfolding closed
  all_closed tokens tokens₁ tokens₂ text room long w₁ w₂ =
      let closing = x.top / step in
      let p = paid.tokens_paid in
      let q = paid.within in
      record {
        is = λ rest. wrote tokens x.count (replicate closing (mark Code.Dedent n n)) tokens₁ (x.count + closing) text [] text x.used x.used w₁ (ap (λ (m : ℕ). x.count + m) (sym (length-replicate closing (mark Code.Dedent n n)))) (omega arith) (sym (append-nil (take x.used text))) (scanned (mark Code.Eof n n ∷ []) [])
            ∙ wrote tokens₁ (x.count + closing) (mark Code.Eof n n ∷ []) tokens₂ (x.count + closing + 1) text [] text x.used x.used w₂ refl (omega arith) (sym (append-nil (take x.used text))) (scanned [] [])
            ∙ rw (append-nil (take (3 * (x.count + closing + 1)) tokens₂), append-nil (take x.used text));
        within = (omega arith, omega (arith, paid.text_paid));
      }
