-- The scanner's promise is what the tree reader asks: the words of a token list stand for its tokens, and all that code may ask of words holds of them.
-- Assumes nothing.
use mathlib.Core.Path.{◌≡◌, refl, ap, sym, ◌∙◌}
use mathlib.Core.Bool.{false}
use mathlib.Core.List.{List, [], ◌∷◌, ◌++◌}
use Prim.Native.Nat.{ℕ, zero, suc, ◌+◌, ◌-◌, ◌*◌, ◌≤◌, ◌<◌}
use native.Mathlib.Omega.{arith}
use native.Mathlib.Numerals.{add-one}
use lib.Dec.{eqb}
use lib.ListN.{length, get_or, drop, length-append}
use lib.Seq.{get_or-drop, drop-drop}
use borrow.Author.Tests.{ne_eqb}
use Rattle.std.specs.Prelude.{Some}
use Rattle.token.specs.Code.{Eof}
use Rattle.tokens.specs.Token.{Token, token}
use Rattle.lexer.specs.Value.{value_of, text_of, literal_in}
use Rattle.lexer.specs.Scan.{scanned, mark, token_list}
use Rattle.lexer.specs.Words.{words}
use Rattle.lexer.proofs.Writing.{length_words}
use Rattle.lexer.proofs.Properties.{Each, Each.none, Each.more, Spanned, EofLast, Valued, bytes_of}
use Rattle.lexer.proofs.Laws.{tokens_few, text_few, tokens_spanned, tokens_end, tokens_valued}
use Rattle.ast.specs.Words.{tabulate}
use Rattle.grammar.specs.Limits.{before}
use Rattle.pyhyeon.specs.Symbol.{symbol, symbols}
use Rattle.pyhyeon.specs.Missing.{Fault, fault_number}
use Rattle.pyhyeon.specs.Reading.{Work, Misfit, descent}
use Rattle.pyhyeon.specs.Earliest.{Earliest}
use Rattle.pyhyeon.proofs.Earliest.{earliest}
use Rattle.pyhyeon.proofs.Symbols.{symbol_eof}
use Rattle.lookahead.specs.Tokens.{code_at, start_at, end_at, eof_at, text_before, token_of, tokens_of, Span, Tokens}

-- ---- reading words by number

-- the words from token i on are those of ts
record From (toks : List ℕ) (i : ℕ) (ts : List Token) : Type 0 where
  rest : drop (3 * i) toks ≡ words ts

-- the words of token i are those of t
record Reads (toks : List ℕ) (i : ℕ) (t : Token) : Type 0 where
  code_is : code_at toks i ≡ t.code
  start_is : start_at toks i ≡ t.start
  end_is : end_at toks i ≡ t.end

module _ {toks : List ℕ} {i : ℕ} {t : Token} {ts : List Token} (f : From toks i (t ∷ ts)) where
  reads : Reads toks i t
  reads =
      record {
        code_is = let e : 3 * i + 0 ≡ 3 * i = omega arith in ap (λ (k : ℕ). get_or toks k 0) (sym e) ∙ sym (get_or-drop (3 * i) toks 0 0) ∙ ap (λ (l : List ℕ). get_or l 0 0) f.rest;
        start_is = sym (get_or-drop (3 * i) toks 1 0) ∙ ap (λ (l : List ℕ). get_or l 1 0) f.rest;
        end_is = sym (get_or-drop (3 * i) toks 2 0) ∙ ap (λ (l : List ℕ). get_or l 2 0) f.rest;
      }

  onward : From toks (i + 1) ts
  onward =
      let e : 3 * (i + 1) ≡ 3 * i + 3 = omega arith in
      record { rest = ap (λ (k : ℕ). drop k toks) e ∙ sym (drop-drop 3 (3 * i) toks) ∙ ap (λ (l : List ℕ). drop 3 l) f.rest }

module _ (src : List ℕ) {toks : List ℕ} {i : ℕ} {t : Token} {used : ℕ} (r : Reads toks i t) (e : text_before src toks i ≡ used) where
  -- token i is t, where its literal is the one of its code, its bytes and the text before it
  reads_token : value_of t.code (bytes_of src t) used ≡ Some t.literal → token_of src toks i ≡ t
  reads_token v = rw (r.code_is, r.start_is, r.end_is, e) (ap (λ x. token t.code t.start t.end (literal_in x)) v)

  reads_text : text_before src toks (i + 1) ≡ used + length (text_of t.code (bytes_of src t))
  unfolding text_before
  reads_text = rw add-one (rw (r.code_is, r.start_is, r.end_is, e))

-- ---- along the tokens

module _ {src toks : List ℕ} where
  tokens_along : {used : ℕ} {ts : List Token} {bs : List ℕ} (i : ℕ) → Valued src used ts bs → From toks i ts → text_before src toks i ≡ used → tabulate (token_of src toks) i (length ts) ≡ ts
  tokens_along i Valued.none f e = refl
  tokens_along i (Valued.more {t} {ts} v h) f e =
      ap (λ x. x ∷ tabulate (token_of src toks) (i + 1) (length ts)) (reads_token src (reads f) e v)
      ∙ ap (λ l. t ∷ l) (tokens_along (i + 1) h (onward f) (reads_text src (reads f) e))

  text_along : {used : ℕ} {ts : List Token} {bs : List ℕ} (i k : ℕ) → Valued src used ts bs → From toks i ts → text_before src toks i ≡ used → k ≤ length ts → text_before src toks (i + k) ≤ used + length bs
  text_along {used} {bs} i zero v f e h = let z : i + 0 ≡ i = omega arith in rw (z, e) (omega arith)
  text_along i (suc k) Valued.none f e h = absurd (omega arith)
  text_along {used} i (suc k) (Valued.more {t} {ts} {bs} v w) f e h =
      let z : i + suc k ≡ i + 1 + k = omega arith in
      let x = text_of t.code (bytes_of src t) in
      rw z (omega (arith, text_along {used = used + length x} (i + 1) k w (onward f) (reads_text src (reads f) e) (omega arith), length-append x bs))

  span_along : {ts : List Token} (i k : ℕ) → Each (Spanned (length src)) ts → From toks i ts → k < length ts → Span src toks (i + k)
  span_along i k none f h = absurd (omega arith)
  span_along i zero (more s e) f h =
      let z : i + 0 ≡ i = omega arith in
      let r = reads f in
      rw z (record { order = omega arith; within = omega arith; quotes = λ c. omega (arith, s.quotes (sym r.code_is ∙ c)) })
  span_along i (suc k) (more s e) f h =
      let z : i + suc k ≡ i + 1 + k = omega arith in
      rw z (span_along (i + 1) k e (onward f) (omega arith))

-- the tokens before Eof are no Eof for the rules either
symbol_other : (src : List ℕ) (t : Token) → (t.code ≡ Eof → ⊥) → eqb (symbol src t) Eof ≡ false
symbol_other src t h = ne_eqb (symbol src t) Eof (λ e. h (symbol_eof src t e))

before_last : (src : List ℕ) (n : ℕ) {ts : List Token} → Each (λ t. t.code ≡ Eof → ⊥) ts → before Eof (symbols src (ts ++ mark Eof n n ∷ [])) ≡ length ts
unfolding symbols
before_last src n none = refl
before_last src n (more {t} h e) = rw (symbol_other src t h) (ap suc (before_last src n e))

-- ---- the laws

eof_words : (ts : List Token) → eof_at (words ts) ≡ length ts - 1
unfolding eof_at
eof_words ts = omega (arith, length_words ts)

front_length : {n : ℕ} {ts : List Token} (l : EofLast n ts) → length ts ≡ length l.front + 1
front_length {n} l = omega (arith, ap length l.last, length-append l.front (mark Eof n n ∷ []))

module _ (s : List ℕ) (ts : List Token) (bs : List ℕ) where
  -- the words of a token list stand for its tokens
  pub tokens_same : token_list s ≡ scanned ts bs → tokens_of s (words ts) ≡ ts
  unfolding tokens_of text_before
  tokens_same e =
      let n : eof_at (words ts) + 1 ≡ length ts = omega (arith, eof_words ts, front_length (tokens_end s ts bs e)) in
      rw n (tokens_along 0 (tokens_valued s ts bs e) (record { rest = refl }) refl)

  -- T is the number of tokens without Eof
  pub tokens_counted : token_list s ≡ scanned ts bs → before Eof (symbols s ts) ≡ length ts - 1
  tokens_counted e =
      let l = tokens_end s ts bs e in
      ap (λ us. before Eof (symbols s us)) l.last ∙ before_last s (length s) l.once ∙ omega (arith, front_length l)

  -- Eof is among them, so 14, 15 and 16 stand at the start of the script's earliest token that does not fit, each by what that tells
  pub script_earliest : token_list s ≡ scanned ts bs → (f : Fault) (place : ℕ) (w : Work) → descent s ts ≡ Misfit f place w → Earliest s ts (fault_number f) place
  script_earliest e f place w d = earliest s ts f place w (omega (arith, tokens_counted e, front_length (tokens_end s ts bs e))) d

  -- and what code may ask of words holds of them
  pub promised : length s ≤ 65536 → token_list s ≡ scanned ts bs → Tokens s (words ts)
  unfolding text_before
  promised h e =
      let l = tokens_end s ts bs e in
      let n : length ts ≡ length l.front + 1 = front_length l in
      let w : eof_at (words ts) ≡ length ts - 1 = eof_words ts in
      let whole_list : From (words ts) 0 ts = record { rest = refl } in
      let z : (t : ℕ) → 0 + t ≡ t = λ t. omega arith in
      record {
        whole = omega (arith, length_words ts);
        ends = rw (tokens_same e) (tokens_counted e ∙ omega arith);
        few = omega (arith, tokens_few s ts bs e);
        small = h;
        span = λ t k. rw (z t) at (span_along {src = s} 0 t (tokens_spanned s ts bs e) whole_list (omega arith));
        text = λ t k. omega (arith, text_few s ts bs e, rw (z t) at (text_along 0 t (tokens_valued s ts bs e) whole_list refl (omega arith)));
      }
