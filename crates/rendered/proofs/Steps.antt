-- The scanner's steps within a line: over a space, over a token with its value, and over the line feed. What follows is given by what it is read as.
-- Assumes nothing.
use mathlib.Core.Path.{◌≡◌, refl, sym, ap, ◌∙◌}
use mathlib.Core.Bool.{true, false, ◌||◌}
use mathlib.Core.List.{List, [], ◌∷◌, ◌++◌}
use Prim.Native.Nat.{ℕ, ◌+◌, ◌*◌, ◌<◌, ◌≤◌}
use native.Mathlib.Omega.{arith}
use lib.Dec.{eqb}
use lib.ListN.{length, drop, length-append}
use borrow.Author.Tests.{ne_eqb}
use Rattle.std.specs.Prelude.{Option, Some, None}
use Rattle.source.specs.Bytes.{part}
use Rattle.source.proofs.Lists.{length_at, part_at, drop_more}
use Rattle.token.specs.Code as Code
use Rattle.tokens.specs.Token.{Token, token}
use Rattle.raw_token.specs.Table.{raw_token, token_at_lem}
use Rattle.raw_token.specs.declared.RawToken.{RawToken}
use Rattle.raw_token.proofs.Laws.{newline_at}
use Rattle.literal.specs.declared.Literal.{Literal}
use Rattle.literal.specs.declared.Literal.TheVariants as L
use Rattle.spacing.specs.Gap.{gap, gap_end_lem}
use Rattle.spacing.specs.Indentation.{step}
use Rattle.lexer.specs.Value.{value_of, text_of}
use Rattle.lexer.specs.Scan.{scanned, prepend, lexer, mark, Rest, indent_then, closed, value_then, found_then, token_then}
use Rattle.lexer.specs.declared.Lexer.{Lexer}
use Rattle.lexer.proofs.Enough.{from, from_is}
use Rattle.lexer.proofs.Finding.{next_found}
use Rattle.rendered.proofs.Lexeme.{Lexeme, parted}
use Rattle.rendered.proofs.Local.{token-at}
use Rattle.rendered.proofs.Stays.{stays}
use Rattle.rendered.proofs.Inked.{Inked, inked}

-- ---- one token

-- a token with its value, where the next one starts at `start`
token_scan : (s : List ℕ) (rest : Rest) (x : Lexer) (start code : ℕ) (w r : List ℕ) (v : Literal) → start ≡ gap_end_lem s x.at → drop start s ≡ w ++ r
    → token_at_lem (w ++ r) 0 ≡ Some (raw_token code (length w)) → 0 < length w → value_of code w x.used ≡ Some v
    → token_then s rest x
    ≡ prepend (token code start (start + length w) v ∷ []) (text_of code w)
    (rest (lexer (start + length w) (eqb code Code.Newline || x.flag) x.top (x.count + 1) (x.used + length (text_of code w))))
token_scan s rest x start code w r v g e f n val =
    next_found s x start g (omega (arith, length_at s start (w ++ r) e, length-append w r)) (Some (raw_token code (start + length w))) (token-at s start code w r e f) rest
    ∙ rw (part_at s start w r e, val)

-- the flag cleared: no spaces are counted
pub plain_from : (s : List ℕ) (at top count used : ℕ) → at ≤ length s → from s (lexer at false (step * top) count used) ≡ token_then s (from s) (lexer at false (step * top) count used)
unfolding indent_then
plain_from s at top count used h = from_is s (lexer at false (step * top) count used) (h, omega arith)

-- ---- a space

space_gap : (s : List ℕ) (at : ℕ) (r : List ℕ) → drop at s ≡ 32 ∷ r → gap_end_lem s at ≡ gap_end_lem s (at + 1)
unfolding gap_end_lem
space_gap s at r e = omega (arith, ap (gap false) e, ap (gap false) (drop_more s at (32 ∷ []) r e))

-- the next token is the same, from a place on where it starts as well
module _ (s : List ℕ) (rest : Rest) (at at' top count used : ℕ) where
  same_value : (code start end : ℕ) (bs : List ℕ) (v : Option Literal) → value_then rest (lexer at false top count used) code start end bs v ≡ value_then rest (lexer at' false top count used) code start end bs v
  same_value code start end bs (Some v) = refl
  same_value code start end bs None = refl

  same_found : (start : ℕ) (t : Option RawToken) → found_then s rest (lexer at false top count used) start t ≡ found_then s rest (lexer at' false top count used) start t
  same_found start (Some t) = same_value t.code start t.end (text_of t.code (part s start t.end)) (value_of t.code (part s start t.end) used)
  same_found start None = refl

  same_start : gap_end_lem s at ≡ gap_end_lem s at' → token_then s rest (lexer at false top count used) ≡ token_then s rest (lexer at' false top count used)
  unfolding token_then closed
  same_start e = rw e (rw (same_found (gap_end_lem s at') (token_at_lem s (gap_end_lem s at'))) refl)

pub space_step : (s : List ℕ) (at top count used : ℕ) (r : List ℕ) → at ≤ length s → drop at s ≡ 32 ∷ r → from s (lexer at false (step * top) count used) ≡ from s (lexer (at + 1) false (step * top) count used)
space_step s at top count used r h e =
    plain_from s at top count used h ∙ same_start s (from s) at (at + 1) (step * top) count used (space_gap s at r e)
    ∙ sym (plain_from s (at + 1) top count used (omega (arith, length_at s at (32 ∷ r) e)))

-- ---- a token

no_gap : (s : List ℕ) (at b : ℕ) (l : List ℕ) → Inked b → drop at s ≡ b ∷ l → at ≡ gap_end_lem s at
unfolding gap_end_lem
no_gap s at b l i e =
    let h = i.low in
    let g : gap false (b ∷ l) ≡ 0 = rw (ne_eqb b 32 (omega arith), ne_eqb b 9 (omega arith), ne_eqb b 13 (omega arith), ne_eqb b 35 i.no_hash) in
    omega (arith, ap (gap false) e ∙ g)

pub token_step : (s : List ℕ) (top code : ℕ) (w r : List ℕ) (v : Literal) (at count used : ℕ) (ts : List Token) (bs : List ℕ)
    → Lexeme code w → (code ≡ Code.Newline → ⊥) → value_of code w used ≡ Some v → parted w r ≡ true
    → at ≤ length s → drop at s ≡ w ++ r
    → from s (lexer (at + length w) false (step * top) (count + 1) (used + length (text_of code w))) ≡ scanned ts bs
    → from s (lexer at false (step * top) count used) ≡ scanned (token code at (at + length w) v ∷ ts) (text_of code w ++ bs)
token_step s top code [] r v at count used ts bs a n val f h e k = absurd (omega (arith, (inked code [] a n).low))
token_step s top code (b ∷ w) r v at count used ts bs a n val f h e k =
    plain_from s at top count used h
    ∙ token_scan s (from s) (lexer at false (step * top) count used) at code (b ∷ w) r v (no_gap s at b (w ++ r) (inked code (b ∷ w) a n) e) e (stays code (b ∷ w) r a f) (omega arith) val
    ∙ rw (ne_eqb code Code.Newline n, k)

-- ---- the line feed

newline_value : (used : ℕ) → value_of Code.Newline (10 ∷ []) used ≡ Some L.None
unfolding value_of
newline_value used = refl

newline_text : text_of Code.Newline (10 ∷ []) ≡ []
unfolding text_of
newline_text = refl

feed_ends : (s : List ℕ) (at : ℕ) (r : List ℕ) → drop at s ≡ 10 ∷ r → at ≡ gap_end_lem s at
unfolding gap_end_lem
feed_ends s at r e = omega (arith, ap (gap false) e)

pub feed_step : (s r : List ℕ) (top at count used : ℕ) (ts : List Token) (bs : List ℕ) → at ≤ length s → drop at s ≡ 10 ∷ r
    → from s (lexer (at + 1) true (step * top) (count + 1) used) ≡ scanned ts bs
    → from s (lexer at false (step * top) count used) ≡ scanned (mark Code.Newline at (at + 1) ∷ ts) bs
feed_step s r top at count used ts bs h e k =
    let u : used + 0 ≡ used = omega arith in
    plain_from s at top count used h
    ∙ token_scan s (from s) (lexer at false (step * top) count used) at Code.Newline (10 ∷ []) r L.None (feed_ends s at r e) e (newline_at (10 ∷ r) 0 refl) (omega arith) (newline_value used)
    ∙ rw (newline_text, u, k)
