-- What holds of every token list: its length, its spans, its Eof, its levels, its codes and its literals. The crates above cite the laws at the
-- end, but for `tokens_ascend`, `tokens_balance` and `tokens_coded`, which are promises to people (docs/SENTENCES.md), and `tokens_held`, of which with
-- `tokens_valued` comes `tokens_floats`; the others are inductions on the derivation of proofs/Promise.antt. What they say stands in proofs/Properties.antt.
-- Assumes nothing.
use mathlib.Core.Path.{◌≡◌, refl, sym, ap, ◌∙◌, subst}
use mathlib.Core.Bool.{Bool, true, false, cond}
use mathlib.Core.List.{List, [], ◌∷◌, ◌++◌, append_assoc}
use mathlib.Core.Logic.{◌⊎◌, inl, inr}
use Prim.Native.Nat.{ℕ, zero, suc, ◌+◌, ◌-◌, ◌≤◌, zero-le}
use native.Mathlib.Nat.{le_refl, le_trans}
use native.Mathlib.Omega.{arith}
use lib.Dec.{eqb, eqb→eq}
use lib.Ieee.{Float}
use lib.ListN.{length, get_or, take, length-append}
use lib.Seq.{take-nil, take_at, drop_at}
use borrow.Author.Tests.{ne_eqb}
use Rattle.std.specs.Prelude.{ℤ, Option, Some, None}
use Rattle.source.specs.Bytes.{part}
use Rattle.strings.specs.Decoded.{decoded}
use Rattle.token.specs.Code as Code
use Rattle.tokens.specs.Token.{Token, token}
use Rattle.numbers.specs.Decimal.{decimal_of}
use Rattle.numbers.specs.Integer.{integer_of}
use Rattle.literal.specs.Literal.{of_integer, of_decimal, lex_integer_lem, lex_float_lem, lex_string_lem, unquoted}
use Rattle.literal.specs.declared.Literal.{Literal}
use Rattle.literal.specs.declared.Literal.TheVariants as L
use Rattle.raw_token.specs.Table.{raw_token, token_at_lem}
use Rattle.raw_token.proofs.Within.{token_within}
use Rattle.raw_token.proofs.Laws.{token_code, string_quotes}
use Rattle.lexer.specs.Value.{value_of, text_of}
use Rattle.lexer.specs.Scan.{scanned, mark, token_list}
use Rattle.lexer.proofs.Values.{length_part, value_float}
use Rattle.lexer.proofs.Finding.{text_short}
use Rattle.lexer.proofs.Properties.{Each, Each.none, Each.more, Pairs, Spanned, Before, EofLast, count, Balanced, Coded, Valued, bytes_of, Held, InText, FloatCoded}
use Rattle.lexer.proofs.Promise.{Tokens, indent, dedent, raw, eof, promise}

-- ---- the laws of a derivation

-- a raw token is no mark
pub raw_code : (s : List ℕ) (start code end : ℕ) → token_at_lem s start ≡ Some (raw_token code end)
    → (1 ≤ code) × (code ≤ Code.Eof) × (code ≡ Code.Indent → ⊥) × (code ≡ Code.Dedent → ⊥) × (code ≡ Code.Eof → ⊥)
raw_code s start code end e = let c = token_code s start code end e in go c.0 c.1
  where
    go : 1 ≤ code → (code ≤ Code.Dot) ⊎ (code ≡ Code.Newline) → (1 ≤ code) × (code ≤ Code.Eof) × (code ≡ Code.Indent → ⊥) × (code ≡ Code.Dedent → ⊥) × (code ≡ Code.Eof → ⊥)
    go h (inl k) = omega arith
    go h (inr k) = omega arith

few : {s : List ℕ} {lo hi depth used : ℕ} {ts : List Token} {bs : List ℕ} → Tokens s lo hi depth used ts bs → hi + length ts ≤ length s + depth + 1
few (indent h k m n t) = omega (arith, few t)
few (dedent h k m n t) = omega (arith, few t)
few {s} (raw {start} {code} {end} h k e f t) = omega (arith, few t, token_within s start code end e)
few (eof h k) = omega arith

few_bytes : {s : List ℕ} {lo hi depth used : ℕ} {ts : List Token} {bs : List ℕ} → Tokens s lo hi depth used ts bs → hi + length bs ≤ length s
few_bytes (indent h k m n t) = omega (arith, few_bytes t)
few_bytes (dedent h k m n t) = omega (arith, few_bytes t)
few_bytes {s} (raw {start} {code} {end} {bs} h k e f t) =
    let w = token_within s start code end e in
    let l = part s start end in
    omega (arith, few_bytes t, w, length-append (text_of code l) bs, text_short code l, length_part s start end w.1)
few_bytes (eof h k) = omega arith

spanned : {s : List ℕ} {lo hi depth used : ℕ} {ts : List Token} {bs : List ℕ} → Tokens s lo hi depth used ts bs → Each (Spanned (length s)) ts
spanned (indent {start} {end} h k m n t) =
    more {t = mark Code.Indent start end} (record { ordered = omega arith; within = n; some = λ a b. omega arith; quotes = λ c. m }) (spanned t)
spanned (dedent {start} {end} h k m n t) =
    more {t = mark Code.Dedent start end} (record { ordered = m; within = n; some = λ a b. absurd (a refl); quotes = λ c. absurd (omega arith) }) (spanned t)
spanned {s} (raw {start} {code} {end} {v} h k e f t) =
    let w = token_within s start code end e in
    more {t = token code start end v}
    (record { ordered = omega arith; within = w.1; some = λ a b. w.0; quotes = λ c. string_quotes s start end (rw c at e) })
    (spanned t)
spanned {s} (eof h k) =
    more {t = mark Code.Eof (length s) (length s)}
    (record { ordered = le_refl (length s); within = le_refl (length s); some = λ a b. absurd (b refl); quotes = λ c. absurd (omega arith) })
    none

-- what stands behind a token that starts at `lo` and ends at `hi`
record Behind (lo hi : ℕ) (u : Token) : Type 0 where
  starts : lo ≤ u.start
  ends : hi ≤ u.end
  apart : (u.code ≡ Code.Dedent → ⊥) → hi ≤ u.start

behind : {s : List ℕ} {lo hi depth used : ℕ} {ts : List Token} {bs : List ℕ} (a b : ℕ) → a ≤ lo → b ≤ hi → Tokens s lo hi depth used ts bs → Each (Behind a b) ts
behind a b p q (indent {start} {end} h k m n t) =
    more {t = mark Code.Indent start end} (record { starts = le_trans p h; ends = omega arith; apart = λ c. le_trans q k }) (behind a b (le_trans p h) (omega arith) t)
behind a b p q (dedent h k m n t) =
    more (record { starts = le_trans p h; ends = le_trans q k; apart = λ c. absurd (c refl) }) (behind a b (le_trans p h) (le_trans q k) t)
behind {s} a b p q (raw {start} {code} {end} {v} h k e f t) =
    let w = token_within s start code end e in
    more {t = token code start end v} (record { starts = le_trans p h; ends = omega arith; apart = λ c. le_trans q k }) (behind a b (le_trans p h) (omega arith) t)
behind a b p q (eof h k) = more (record { starts = le_trans p h; ends = le_trans q k; apart = λ c. le_trans q k }) none

each : {P Q : Token → Type 0} {ts : List Token} → ((t : Token) → P t → Q t) → Each P ts → Each Q ts
each f none = none
each f (more {t} p e) = more (f t p) (each f e)

-- so is each token behind this one
next : {s : List ℕ} {depth used : ℕ} {ts : List Token} {bs : List ℕ} (start end code : ℕ) (v : Literal) → Tokens s start end depth used ts bs → Each (Before (token code start end v)) ts
next start end code v t =
    each (λ u b. record { starts = b.starts; ends = b.ends; apart = b.apart }) (behind start end (le_refl start) (le_refl end) t)

ascending : {s : List ℕ} {lo hi depth used : ℕ} {ts : List Token} {bs : List ℕ} → Tokens s lo hi depth used ts bs → Pairs Before ts
ascending (indent {start} {end} h k m n t) = Pairs.more (next start end Code.Indent L.None t) (ascending t)
ascending (dedent {start} {end} h k m n t) = Pairs.more (next start end Code.Dedent L.None t) (ascending t)
ascending (raw {start} {code} {end} {v} h k e f t) = Pairs.more (next start end code v t) (ascending t)
ascending (eof h k) = Pairs.more none Pairs.none

behind_other : (s : List ℕ) (t : Token) {ts : List Token} → (t.code ≡ Code.Eof → ⊥) → EofLast (length s) ts → EofLast (length s) (t ∷ ts)
behind_other s t h e = record { front = t ∷ e.front; last = ap (λ l. t ∷ l) e.last; once = more h e.once }

eof_last : {s : List ℕ} {lo hi depth used : ℕ} {ts : List Token} {bs : List ℕ} → Tokens s lo hi depth used ts bs → EofLast (length s) ts
eof_last {s} (indent {start} {end} h k m n t) = behind_other s (mark Code.Indent start end) (omega arith) (eof_last t)
eof_last {s} (dedent {start} {end} h k m n t) = behind_other s (mark Code.Dedent start end) (omega arith) (eof_last t)
eof_last {s} (raw {start} {code} {end} {v} h k e f t) = behind_other s (token code start end v) (raw_code s start code end e).4 (eof_last t)
eof_last (eof h k) = record { front = []; last = refl; once = none }

-- as many Dedents as levels are open and are opened
closes : {s : List ℕ} {lo hi depth used : ℕ} {ts : List Token} {bs : List ℕ} → Tokens s lo hi depth used ts bs → count Code.Dedent ts ≡ depth + count Code.Indent ts
closes (indent h k m n t) = omega (arith, closes t)
closes (dedent h k m n t) = omega (arith, closes t)
closes {s} (raw {start} {code} {end} h k e f t) =
    let c = raw_code s start code end e in
    rw (ne_eqb code Code.Indent c.2, ne_eqb code Code.Dedent c.3) (closes t)
closes (eof h k) = refl

never_more : {s : List ℕ} {lo hi depth used : ℕ} {ts : List Token} {bs : List ℕ} → Tokens s lo hi depth used ts bs → (k : ℕ) → count Code.Dedent (take k ts) ≤ depth + count Code.Indent (take k ts)
never_more (indent h k m n t) zero = zero-le
never_more (indent h k m n t) (suc i) = omega (arith, never_more t i)
never_more (dedent h k m n t) zero = zero-le
never_more (dedent h k m n t) (suc i) = omega (arith, never_more t i)
never_more (raw h k e f t) zero = zero-le
never_more {s} (raw {start} {code} {end} h k e f t) (suc i) =
    let c = raw_code s start code end e in
    rw (ne_eqb code Code.Indent c.2, ne_eqb code Code.Dedent c.3) (never_more t i)
never_more (eof h k) zero = zero-le
never_more (eof h k) (suc i) = rw (take-nil {A = Token} i) zero-le

coded : {s : List ℕ} {lo hi depth used : ℕ} {ts : List Token} {bs : List ℕ} → Tokens s lo hi depth used ts bs → Each Coded ts
coded (indent {start} {end} h k m n t) = more {t = mark Code.Indent start end} (record { least = omega arith; greatest = omega arith }) (coded t)
coded (dedent {start} {end} h k m n t) = more {t = mark Code.Dedent start end} (record { least = omega arith; greatest = omega arith }) (coded t)
coded {s} (raw {start} {code} {end} h k e f t) =
    let c = raw_code s start code end e in
    more (record { least = c.0; greatest = c.1 }) (coded t)
coded {s} (eof h k) = more {t = mark Code.Eof (length s) (length s)} (record { least = omega arith; greatest = omega arith }) none

-- a token with no value of its own, and no text
mark_valued : (s : List ℕ) (code start end used : ℕ) {ts : List Token} {bs : List ℕ} → value_of code (part s start end) used ≡ Some L.None → text_of code (part s start end) ≡ []
    → Valued s used ts bs → Valued s used (mark code start end ∷ ts) bs
mark_valued s code start end used {ts} {bs} v e t =
    let n : used ≡ used + length (text_of code (part s start end)) = omega (arith, ap length e) in
    subst (λ (l : List ℕ). Valued s used (mark code start end ∷ ts) (l ++ bs)) e (Valued.more v (subst (λ (k : ℕ). Valued s k ts bs) n t))

valued : {s : List ℕ} {lo hi depth used : ℕ} {ts : List Token} {bs : List ℕ} → Tokens s lo hi depth used ts bs → Valued s used ts bs
unfolding value_of text_of
valued {s} {used} (indent {start} {end} h k m n t) = mark_valued s Code.Indent start end used refl refl (valued t)
valued {s} {used} (dedent {start} {end} h k m n t) = mark_valued s Code.Dedent start end used refl refl (valued t)
valued (raw h k e f t) = Valued.more f (valued t)
valued {s} {used} (eof h k) = mark_valued s Code.Eof (length s) (length s) used refl refl Valued.none

-- a String's text stands behind the text before it, and a Float's value is that of its bytes
held : (before l bs : List ℕ) (used code : ℕ) (v : Literal) → used ≡ length before → value_of code l used ≡ Some v → Held (before ++ (text_of code l ++ bs)) code l v
unfolding value_of text_of lex_integer_lem lex_float_lem lex_string_lem
held before l bs used code v u = go (eqb code Code.Bool) (eqb code Code.Int) (eqb code Code.Float) (eqb code Code.String) (integer_of l) (decimal_of l) refl refl
  where
    d : List ℕ
    d = decoded (unquoted l)

    is : (text : List ℕ) (w : Literal) → Held text code l w → Some w ≡ Some v → Held text code l v
    is text w h e = let f : w ≡ v = cc in subst (Held text code l) f h

    go : (a b c t : Bool) (i : Option ℤ) (x : Option Float) → eqb code Code.Float ≡ c → decimal_of l ≡ x
        → cond a (Some (L.Bool (eqb (get_or l 0 0) 84))) (cond b (of_integer i) (cond c (of_decimal x) (cond t (Some (L.String used (length d))) (Some L.None)))) ≡ Some v
        → Held (before ++ (cond t d [] ++ bs)) code l v
    go true b c t i x f g e = is (before ++ (cond t d [] ++ bs)) (L.Bool (eqb (get_or l 0 0) 84)) tt e
    go false true c t (Some n) x f g e = is (before ++ (cond t d [] ++ bs)) (L.Int n) tt e
    go false true c t None x f g e = let z : ◌≡◌ {A = ℕ} 0 1 = cc in absurd (omega arith)
    go false false true t i (Some n) f g e = is (before ++ (cond t d [] ++ bs)) (L.Float n) (record { coded = eqb→eq code Code.Float (rw f tt); value = g }) e
    go false false true t i None f g e = let z : ◌≡◌ {A = ℕ} 0 1 = cc in absurd (omega arith)
    go false false false false i x f g e = is (before ++ bs) L.None tt e
    go false false false true i x f g e =
        is (before ++ (d ++ bs)) (L.String used (length d))
        (omega (arith, length-append before (d ++ bs), length-append d bs), ap (take (used + length d - used)) (drop_at before (d ++ bs) used (sym u)) ∙ take_at d bs (used + length d - used) (omega arith))
        e

literals_held : {s : List ℕ} {lo hi depth used : ℕ} {ts : List Token} {bs : List ℕ} (before : List ℕ) → used ≡ length before → Tokens s lo hi depth used ts bs → Each (InText s (before ++ bs)) ts
literals_held before u (indent {start} {end} h k m n t) = more {t = mark Code.Indent start end} tt (literals_held before u t)
literals_held before u (dedent {start} {end} h k m n t) = more {t = mark Code.Dedent start end} tt (literals_held before u t)
literals_held {s} {used} before u (raw {start} {code} {end} {v} {ts} {bs} h k e f t) =
    let l = part s start end in
    more {t = token code start end v} (held before l bs used code v u f)
    (subst (λ (text : List ℕ). Each (InText s text) ts) (append_assoc before (text_of code l) bs)
    (literals_held (before ++ text_of code l) (omega (arith, length-append before (text_of code l))) t))
literals_held {s} before u (eof h k) = more {t = mark Code.Eof (length s) (length s)} tt none

-- Float's code has a Float's value
has_float : (code : ℕ) (l : List ℕ) (used : ℕ) (v : Literal) → code ≡ Code.Float → value_of code l used ≡ Some v → (x : Float) × (v ≡ L.Float x)
unfolding lex_float_lem
has_float code l used v e h = go (decimal_of l) (sym (value_float code l used e) ∙ h)
  where
    go : (d : Option Float) → of_decimal d ≡ Some v → (x : Float) × (v ≡ L.Float x)
    go (Some x) k = (x, cc)
    go None k = let z : ◌≡◌ {A = ℕ} 0 1 = cc in absurd (omega arith)

floats_coded : {s : List ℕ} (text : List ℕ) {used : ℕ} {ts : List Token} {bs : List ℕ} → Valued s used ts bs → Each (InText s text) ts → Each (FloatCoded s) ts
floats_coded text Valued.none none = none
floats_coded {s} text (Valued.more {used} {t} v h) (more i is) =
    more
    (record { of = λ x e. subst (Held text t.code (bytes_of s t)) e i; has = λ e. has_float t.code (bytes_of s t) used t.literal e v })
    (floats_coded text h is)

-- ---- the laws of the token list

module _ (s : List ℕ) (ts : List Token) (bs : List ℕ) (e : token_list s ≡ scanned ts bs) where
  tokens : Tokens s 0 0 0 0 ts bs
  tokens = promise s ts bs e

  -- T, the number of tokens without Eof, is at most n
  pub tokens_few : length ts ≤ length s + 1
  tokens_few = omega (arith, few tokens)

  pub text_few : length bs ≤ length s
  text_few = omega (arith, few_bytes tokens)

  pub tokens_spanned : Each (Spanned (length s)) ts
  tokens_spanned = spanned tokens

  pub tokens_ascend : Pairs Before ts
  tokens_ascend = ascending tokens

  pub tokens_end : EofLast (length s) ts
  tokens_end = eof_last tokens

  pub tokens_balance : Balanced ts
  tokens_balance = record { whole = omega (arith, closes tokens); front = λ k. omega (arith, never_more tokens k) }

  pub tokens_coded : Each Coded ts
  tokens_coded = coded tokens

  pub tokens_valued : Valued s 0 ts bs
  tokens_valued = valued tokens

  pub tokens_held : Each (InText s bs) ts
  tokens_held = literals_held [] refl tokens

  pub tokens_floats : Each (FloatCoded s) ts
  tokens_floats = floats_coded bs tokens_valued tokens_held
