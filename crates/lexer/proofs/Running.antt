-- What the scanner's loop keeps, and what it comes to; and what zeros behind that make of the slices.
-- Assumes nothing.
use mathlib.Core.Path.{◌≡◌, sym, ap, ◌∙◌, subst}
use mathlib.Core.Bool.{true}
use mathlib.Core.List.{List, [], ◌++◌, append-nil}
use Prim.Native.Nat.{ℕ, ◌+◌, ◌-◌, ◌*◌, ◌<◌, ◌≤◌}
use native.Mathlib.Omega.{arith}
use lib.ListN.{length, take, replicate, drop_of_length-le}
use lib.Seq.{length-take-le}
use Rattle.areas.specs.Area.{token_area, filled_with, zeroed}
use Rattle.lexer.specs.Scan.{Scan, scanned, refused, lexer, Rest, indent_then, token_then, token_list}
use Rattle.lexer.specs.Words.{words}
use Rattle.lexer.specs.Steps.{Exact, Paid, filled, none, left, so_far, turned, Turns, Runs, Fills}
use Rattle.lexer.specs.declared.Lexer.{Lexer}
use Rattle.lexer.specs.declared.Turn.{Turn}
use Rattle.lexer.specs.declared.Turn.TheVariants as T
use Rattle.lexer.specs.declared.Scanned.{Scanned}
use Rattle.std.specs.Prelude.{Result, Ok, Err}
use Rattle.source.specs.Reasons.{number_of, refusal_at}
use Rattle.source.specs.declared.refusal.Refusal.{Refusal}
use Rattle.source.proofs.Reasons.{numbered}
use Rattle.lexer.proofs.Enough.{from, from_is, list_is}
use Rattle.lexer.proofs.Writing.{length_words}

-- what is written, and then the scan from the state on, is the whole scan
pub record Going (s tokens text : List ℕ) (x : Lexer) : Type 0 where
  pub paid : Paid (length s) x
  pub whole : left [] [] (token_list s) ≡ so_far tokens text x (from s x)

pub at_first : (s tokens text : List ℕ) → Going s tokens text (lexer 0 true 0 0 0)
at_first s tokens text =
    record {
      paid = record { within = omega arith; even = omega arith; tokens_paid = omega arith; text_paid = omega arith };
      whole = ap (left [] []) (list_is s);
    }

module _ (s : List ℕ) (x : Lexer) (r : Result Turn Refusal) (tokens text tokens' text' : List ℕ) (g : Going s tokens text x) (t : Turns (length s) (λ (rest : Rest). indent_then s (token_then s rest) x) x r tokens text tokens' text') where
  told : (q : Result Turn Refusal) → r ≡ q → left [] [] (token_list s) ≡ turned q tokens' text' (from s)
  told q e =
      g.whole ∙ ap (so_far tokens text x) (from_is s x (g.paid.within, g.paid.even)) ∙ t.is (from s)
      ∙ ap (λ (z : Result Turn Refusal). turned z tokens' text' (from s)) e

  within : (q : Result Turn Refusal) → r ≡ q → Turns (length s) (λ (rest : Rest). indent_then s (token_then s rest) x) x q tokens text tokens' text'
  within q e = subst (λ (z : Result Turn Refusal). Turns (length s) (λ (rest : Rest). indent_then s (token_then s rest) x) x z tokens text tokens' text') e t

  pub goes_on : (y : Lexer) → r ≡ Ok (T.On y) → Going s tokens' text' y
  goes_on y e = record { paid = (within (Ok (T.On y)) e).within.0; whole = told (Ok (T.On y)) e }

  pub further : (y : Lexer) → r ≡ Ok (T.On y) → x.at < y.at
  further y e = (within (Ok (T.On y)) e).within.1

  pub ends : (q : Scanned) → r ≡ Ok (T.End q) → Runs s (Ok q) tokens' text'
  ends q e = record { is = told (Ok (T.End q)) e; within = (within (Ok (T.End q)) e).within }

  pub stops : (f : Refusal) → r ≡ Err f → Runs s (Err f) tokens' text'
  stops f e = record { is = told (Err f) e; within = tt }

-- ---- zeros behind what was filled

zeros_behind : (k size : ℕ) (l : List ℕ) → length l ≡ size → k ≤ size → zeroed k size l ≡ take k l ++ replicate (size - length (take k l)) 0
unfolding filled_with
zeros_behind k size l e h = rw (drop_of_length-le l {i = size} (omega arith), append-nil, length-take-le k l (omega arith))

-- how many words and bytes a run has filled
abbrev pub words_filled : Result Scanned Refusal → ℕ
words_filled (Ok r) = 3 * (r.count + 1)
words_filled (Err f) = 0

abbrev pub bytes_filled : Result Scanned Refusal → ℕ
bytes_filled (Ok r) = r.text
bytes_filled (Err f) = 0

-- a refusal is its number's case and its place
refusal_is : (f : Refusal) (number place : ℕ) → none number place ≡ none (number_of f.reason) f.place → f ≡ refusal_at number place
refusal_is f number place e =
    let n : number ≡ number_of f.reason = cc in
    let p : place ≡ f.place = cc in
    rw (n, p, numbered f.reason)

module _ (s tokens text : List ℕ) (exact : Exact s tokens text) where
  pub fills : (r : Result Scanned Refusal) (tokens' text' : List ℕ) → Runs s r tokens text
      → tokens' ≡ zeroed (words_filled r) (token_area (length s)) tokens → text' ≡ zeroed (bytes_filled r) (length s) text
      → Fills (token_list s) (length s) r tokens' text'
  fills (Ok r) tokens' text' t a b = go (token_list s) t.is
    where
      go : (scan : Scan) → left [] [] scan ≡ filled (take (3 * (r.count + 1)) tokens) (take r.text text) → Fills scan (length s) (Ok r) tokens' text'
      go (refused number place) e = absurd (cc)
      go (scanned ts bs) e =
          let w : words ts ≡ take (3 * (r.count + 1)) tokens = cc in
          let v : bs ≡ take r.text text = cc in
          let n : length (take (3 * (r.count + 1)) tokens) ≡ 3 * (r.count + 1) = length-take-le (3 * (r.count + 1)) tokens (omega (arith, exact.tokens_long, t.within)) in
          let m : length (take r.text text) ≡ r.text = length-take-le r.text text (omega (arith, exact.text_long, t.within)) in
          let c : r.count ≡ length ts - 1 = omega (arith, length_words ts, ap length w, n) in
          let u : r.text ≡ length bs = sym (ap length v ∙ m) in
          record {
            answer = rw (← c, ← u);
            tokens_are = a ∙ zeros_behind (3 * (r.count + 1)) (token_area (length s)) tokens exact.tokens_long (omega (arith, t.within)) ∙ ap (λ (l : List ℕ). l ++ replicate (token_area (length s) - length l) 0) (sym w);
            text_is = b ∙ zeros_behind r.text (length s) text exact.text_long (omega (arith, t.within)) ∙ ap (λ (l : List ℕ). l ++ replicate (length s - length l) 0) (sym v);
          }
  fills (Err f) tokens' text' t a b = go (token_list s) t.is
    where
      go : (scan : Scan) → left [] [] scan ≡ none (number_of f.reason) f.place → Fills scan (length s) (Err f) tokens' text'
      go (scanned ts bs) e = absurd (cc)
      go (refused number place) e =
          record {
            answer = ap Err (refusal_is f number place e);
            tokens_are = a ∙ zeros_behind 0 (token_area (length s)) tokens exact.tokens_long (omega arith);
            text_is = b ∙ zeros_behind 0 (length s) text exact.text_long (omega arith);
          }
