-- What the functions that find a token have done, from what their calls have done.
-- Assumes nothing.
use mathlib.Core.Path.{◌≡◌, refl, ap, ◌∙◌}
use mathlib.Core.Bool.{Bool, true, false, cond, ◌||◌}
use mathlib.Core.List.{List, [], ◌∷◌}
use Prim.Native.Nat.{ℕ, ◌+◌, ◌-◌, ◌*◌, ◌<◌, ◌≤◌, zero-le}
use native.Mathlib.Omega.{arith}
use lib.Dec.{eqb}
use lib.ListN.{length, take}
use lib.Seq.{sets}
use borrow.Author.Tests.{lt-ltb, le-ltb}
use Rattle.std.specs.Prelude.{Option, Some, None, Result, Ok, Err}
use Rattle.std.specs.Result.{IsErrAnd}
use Rattle.source.specs.Bytes.{part}
use Rattle.strings.specs.Decoded.{decoded}
use Rattle.strings.proofs.Bounds.{no_longer}
use Rattle.token.specs.Code as Code
use Rattle.tokens.specs.Token.{token}
use Rattle.literal.specs.Literal.{unquoted}
use Rattle.raw_token.specs.Table.{raw_token, token_at_lem}
use Rattle.raw_token.specs.declared.RawToken.{RawToken}
use Rattle.spacing.specs.Gap.{gap_end_lem}
use Rattle.lexer.specs.Value.{value_of, text_of}
use Rattle.lexer.specs.Scan.{Scan, refused, lexer, Rest, closed, value_then, found_then, token_then}
use Rattle.lexer.specs.Steps.{Paid, Exact, so_far, taken_of, Turns}
use Rattle.lexer.specs.declared.Lexer.{Lexer}
use Rattle.source.specs.Reasons.{number_of}
use Rattle.source.specs.declared.refusal.Refusal.{Refusal}
use Rattle.lexer.specs.declared.Turn.{Turn}
use Rattle.lexer.specs.declared.Turn.TheVariants as T
use Rattle.lexer.proofs.Values.{length_part}
use Rattle.literal.specs.declared.Literal.{Literal}
use Rattle.lexer.proofs.Writing.{wrote, take_sets}

unquoted_short : (l : List ℕ) → length (unquoted l) ≤ length l
unquoted_short l = omega (arith, length_part l 1 (length l - 1) (omega arith))

-- a token's text is no longer than the token
pub text_short : (code : ℕ) (l : List ℕ) → length (text_of code l) ≤ length l
unfolding text_of
text_short code l = go (eqb code Code.String)
  where
    go : (t : Bool) → length (cond t (decoded (unquoted l)) []) ≤ length l
    go true = omega (arith, no_longer (unquoted l), unquoted_short l)
    go false = zero-le

-- ---- a token that was found

module _ (s : List ℕ) (x : Lexer) (paid : Paid (length s) x) (start code end : ℕ) (from : x.at ≤ start) (some : start < end) (to : end ≤ length s) where
  pub found_room : (u : ℕ) → Some u ≡ taken_of (value_of code (part s start end) x.used) (x.used + length (text_of code (part s start end))) → u ≤ end
  found_room u e = go (value_of code (part s start end) x.used) e
    where
      go : (v : Option Literal) → Some u ≡ taken_of v (x.used + length (text_of code (part s start end))) → u ≤ end
      go (Some w) q =
          let f : u ≡ x.used + length (text_of code (part s start end)) = cc in
          omega (arith, text_short code (part s start end), length_part s start end to, paid.text_paid)
      go None q = let z : ◌≡◌ {A = ℕ} 0 1 = cc in absurd (omega arith)

  pub found-on : (u : ℕ) (tokens text tokens' text' : List ℕ) → Exact s tokens text
      → Some u ≡ taken_of (value_of code (part s start end) x.used) (x.used + length (text_of code (part s start end)))
      → text' ≡ sets text x.used (text_of code (part s start end)) → tokens' ≡ sets tokens (3 * x.count) (code ∷ start ∷ end ∷ [])
      → Turns (length s) (λ (rest : Rest). found_then s rest x start (Some (raw_token code end))) x (Ok (T.On (lexer end (eqb code Code.Newline || x.flag) x.top (x.count + 1) u))) tokens text tokens' text'
  found-on u tokens text tokens' text' exact e b a =
      record {
        is = λ rest. go rest (value_of code (part s start end) x.used) e;
        within = (record { within = to; even = paid.even; tokens_paid = omega (arith, paid.tokens_paid); text_paid = found_room u e }, omega arith);
      }
    where
      go : (rest : Rest) (v : Option Literal) → Some u ≡ taken_of v (x.used + length (text_of code (part s start end)))
          → so_far tokens text x (value_then rest x code start end (text_of code (part s start end)) v) ≡ so_far tokens' text' (lexer end (eqb code Code.Newline || x.flag) x.top (x.count + 1) u) (rest (lexer end (eqb code Code.Newline || x.flag) x.top (x.count + 1) u))
      go rest (Some w) q =
          let f : u ≡ x.used + length (text_of code (part s start end)) = cc in
          let r : u ≤ end = found_room u e in
          rw (← f) (wrote tokens x.count (token code start end w ∷ []) tokens' (x.count + 1) text (text_of code (part s start end)) text' x.used u a refl (omega (arith, exact.tokens_long, paid.tokens_paid)) (ap (take u) b ∙ take_sets text x.used u (text_of code (part s start end)) f (omega (arith, exact.text_long))) (rest (lexer end (eqb code Code.Newline || x.flag) x.top (x.count + 1) u)))
      go rest None q = let z : ◌≡◌ {A = ℕ} 0 1 = cc in absurd (omega arith)

-- ---- the next token

-- the same of a scan that is the same
pub retold : (n : ℕ) (scan scan' : Rest → Scan) (x : Lexer) (r : Result Turn Refusal) (tokens text tokens' text' : List ℕ) → ((rest : Rest) → scan' rest ≡ scan rest)
    → Turns n scan x r tokens text tokens' text' → Turns n scan' x r tokens text tokens' text'
retold n scan scan' x r tokens text tokens' text' e t =
    record { is = λ rest. ap (so_far tokens text x) (e rest) ∙ t.is rest; within = t.within }

module _ (s : List ℕ) (x : Lexer) (start : ℕ) (is_start_lem : start ≡ gap_end_lem s x.at) where
  pub next_closed : length s ≤ start → (rest : Rest) → token_then s rest x ≡ closed (length s) x
  unfolding token_then
  next_closed h rest = rw (← is_start_lem, le-ltb start (length s) h)

  pub next_found : start < length s → (t : Option RawToken) → token_at_lem s start ≡ t → (rest : Rest) → token_then s rest x ≡ found_then s rest x start t
  unfolding token_then
  next_found h t e rest = rw (← is_start_lem, lt-ltb start (length s) h, e)

-- what a `?` hands on
pub handed_on : {T : Type 0} (e : Refusal) (r : Result T Refusal) → IsErrAnd r (λ y. y ≡ e) → r ≡ Err e
handed_on e (Ok x) k = absurd k
handed_on e (Err y) k = ap Err k

-- a refusal where the scan refuses
pub refuses : (n : ℕ) (scan : Rest → Scan) (x : Lexer) (r : Refusal) (tokens text : List ℕ) → ((rest : Rest) → scan rest ≡ refused (number_of r.reason) r.place) → Turns n scan x (Err r) tokens text tokens text
refuses n scan x r tokens text e = record { is = λ rest. ap (so_far tokens text x) (e rest); within = tt }
