-- One more turn than there are bytes left is enough: any more changes nothing. So the turns can be forgotten (`from_is`).
-- Assumes nothing.
use mathlib.Core.Path.{◌≡◌, refl, ap}
use mathlib.Core.Bool.{Bool, true, false, cond, ◌||◌}
use mathlib.Core.List.{List, [], ◌∷◌}
use Prim.Native.Nat.{ℕ, zero, suc, ◌+◌, ◌-◌, ◌%◌, ◌<◌, ◌≤◌}
use native.Mathlib.Omega.{arith}
use lib.Dec.{eqb, ltb}
use lib.ListN.{length, replicate}
use Rattle.std.specs.Prelude.{Option, Some, None, Result, Ok, Err}
use Rattle.source.specs.Bytes.{part}
use Rattle.token.specs.Code as Code
use Rattle.tokens.specs.Token.{token}
use Rattle.raw_token.specs.Table.{raw_token, token_at_lem}
use Rattle.raw_token.specs.declared.RawToken.{RawToken}
use Rattle.raw_token.proofs.Within.{token_within}
use Rattle.spacing.specs.Gap.{gap_end_lem}
use Rattle.spacing.specs.Indentation.{step, indentation_at}
use Rattle.lexer.specs.Value.{value_of, text_of}
use Rattle.lexer.specs.Scan.{prepend, mark, lexer, Rest, marks_then, indent_then, closed, value_then, found_then, token_then, scan_from, token_list}
use Rattle.lexer.specs.declared.Lexer.{Lexer}
use Rattle.spacing.specs.declared.line.Indentation.{Indentation}
use Rattle.spacing.specs.declared.line.Indentation.TheVariants.{Blank, Level}
use Rattle.source.specs.declared.refusal.Refusal.{Refusal}
use Rattle.literal.specs.declared.Literal.{Literal}
use Rattle.spacing.proofs.Levels.{Known, indentation_known}

-- a state that the scan can reach
abbrev pub Reached : ℕ → Lexer → Type 0
Reached n x = (x.at ≤ n) × (x.top % step ≡ 0)

-- two continuations are alike at every state from `at` on
abbrev Alike : ℕ → ℕ → Rest → Rest → Type 0
Alike n at rest rest' = (y : Lexer) → at ≤ y.at → Reached n y → rest y ≡ rest' y

pub gap_from : (s : List ℕ) (i : ℕ) → i ≤ gap_end_lem s i
unfolding gap_end_lem
gap_from s i = omega arith

module _ (s : List ℕ) (x : Lexer) (reached : Reached (length s) x) (rest rest' : Rest) where
  pub indent_alike : Alike (length s) x.at rest rest' → indent_then s rest x ≡ indent_then s rest' x
  unfolding indent_then
  indent_alike h = by_flag x.flag (indentation_at s x.at x.top) (indentation_known s x.at x.top reached.0 reached.1)
    where
      by_flag : (t : Bool) (i : Result Indentation Refusal) → Known (length s) x.at x.top i → cond t (marks_then rest x i) (rest x) ≡ cond t (marks_then rest' x i) (rest' x)
      by_flag false i k = h x (omega arith) reached
      by_flag true (Ok (Blank end)) k = h (lexer end true x.top x.count x.used) k.0 (k.1, reached.1)
      by_flag true (Ok (Level end code n top)) k = ap (prepend (replicate n (mark code x.at end)) []) (h (lexer end false top (x.count + n) x.used) k.0 (k.1, k.2))
      by_flag true (Err r) k = refl

  pub token_alike : Alike (length s) (x.at + 1) rest rest' → token_then s rest x ≡ token_then s rest' x
  unfolding token_then
  token_alike h =
      by_token (ltb start (length s)) (token_at_lem s start) (token_within s start)
    where
      start : ℕ
      start = gap_end_lem s x.at

      by_value : (code end : ℕ) (bs : List ℕ) (v : Option Literal) → start < end → end ≤ length s → value_then rest x code start end bs v ≡ value_then rest' x code start end bs v
      by_value code end bs (Some v) a b =
          ap (prepend (token code start end v ∷ []) bs)
          (h (lexer end (eqb code Code.Newline || x.flag) x.top (x.count + 1) (x.used + length bs)) (omega (arith, gap_from s x.at)) (b, reached.1))
      by_value code end bs None a b = refl

      by_token : (t : Bool) (k : Option RawToken) → ((code end : ℕ) → k ≡ Some (raw_token code end) → (start < end) × (end ≤ length s))
          → cond t (found_then s rest x start k) (closed (length s) x) ≡ cond t (found_then s rest' x start k) (closed (length s) x)
      by_token false k w = refl
      by_token true None w = refl
      by_token true (Some t) w =
          let b = w t.code t.end refl in
          by_value t.code t.end (text_of t.code (part s start t.end)) (value_of t.code (part s start t.end) x.used) b.0 b.1

enough : (f g : ℕ) (s : List ℕ) (x : Lexer) → Reached (length s) x → length s - x.at < f → length s - x.at < g → scan_from f s x ≡ scan_from g s x
unfolding scan_from
enough zero g s x r h k = absurd (omega arith)
enough (suc f) zero s x r h k = absurd (omega arith)
enough (suc f) (suc g) s x r h k =
    indent_alike s x r (token_then s (scan_from f s)) (token_then s (scan_from g s))
    (λ y a p. token_alike s y p (scan_from f s) (scan_from g s) (λ z b q. enough f g s z q (omega (arith, q.0)) (omega (arith, q.0))))

-- the scan from a state on
pub from : List ℕ → Rest
from s x = scan_from (suc (length s - x.at)) s x

pub from_is : (s : List ℕ) (x : Lexer) → Reached (length s) x → from s x ≡ indent_then s (token_then s (from s)) x
unfolding from scan_from
from_is s x r =
    indent_alike s x r (token_then s (scan_from (length s - x.at) s)) (token_then s (from s))
    (λ y a p. token_alike s y p (scan_from (length s - x.at) s) (from s) (λ z b q. enough (length s - x.at) (suc (length s - z.at)) s z q (omega (arith, q.0)) (omega arith)))

pub list_is : (s : List ℕ) → token_list s ≡ from s (lexer 0 true 0 0 0)
unfolding from token_list
list_is s = enough (suc (length s)) (suc (length s - 0)) s (lexer 0 true 0 0 0) (omega arith, omega arith) (omega arith) (omega arith)
