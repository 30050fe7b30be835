-- A String of a well-formed source begins and ends between characters, wherever it stands, since it begins with a quote, which is a byte under
-- 128. So it is as document 01 has it by characters.
-- Assumes nothing.
use mathlib.Core.Path.{◌≡◌, refl, sym, ap, ◌∙◌}
use mathlib.Core.Bool.{Bool, true, false, cond, true≢false}
use mathlib.Core.List.{List, [], ◌∷◌, ◌++◌}
use Prim.Native.Nat.{ℕ, suc, ◌+◌, ◌-◌, ◌<◌}
use native.Mathlib.Omega.{arith}
use lib.Dec.{eqb}
use lib.ListN.{length, get_or, take, drop, length-append}
use lib.Seq.{drop-drop, take-append-add, drop-append-add, take-append_seam}
use borrow.Author.Tests.{eqb-true}
use Rattle.std.specs.Prelude.{None, Some}
use Rattle.source.specs.Bytes.{part}
use Rattle.source.proofs.Bools.{and_right, or_either}
use Rattle.source.proofs.Lists.{inside}
use Rattle.token.specs.Code as Code
use Rattle.token.specs.Code.{String}
use Rattle.tokens.specs.Token.{Token, token}
use Rattle.utf8.specs.Table.{utf8_error_lem}
use Rattle.raw_token.specs.Pattern.{behind, is_quote}
use Rattle.raw_token.specs.Parts.{string_at}
use Rattle.raw_token.specs.Table.{raw_token, table, found, token_at_lem}
use Rattle.raw_token.proofs.First as First
use Rattle.raw_token.proofs.Laws.{string_token}
use Rattle.raw_token.proofs.Within.{token_within}
use Rattle.literal.specs.Literal.{unquoted}
use Rattle.lexer.specs.Scan.{scanned, mark, token_list}
use Rattle.lexer.proofs.Properties.{Each, Each.none, Each.more}
use Rattle.lexer.proofs.Promise.{Tokens, indent, dedent, raw, eof, promise}
use Rattle.lexical.specs.Characters.{is_character, are_characters, bytes_of, characters}
use Rattle.lexical.specs.Strings.{is, closing, string, ByCharacters}
use Rattle.lexical.proofs.Characters.{whole, well}
use Rattle.lexical.proofs.WellFormed.{bytes_append, are_left, are_right}
use Rattle.lexical.proofs.Boundaries.{between_characters}
use Rattle.lexical.proofs.Finds.{behind_sum}
use Rattle.lexical.proofs.Strings.{string_of, decoded_of}

-- ---- a string closes behind whole characters

is_one : (b : ℕ) (c : List ℕ) → is b c ≡ true → c ≡ b ∷ []
is_one b [] e = absurd (true≢false (sym e))
is_one b (a ∷ []) e = rw (eqb-true a b e)
is_one b (a ∷ d ∷ c) e = absurd (true≢false (sym e))

-- what stands before the closing quote, and what stands behind it
record Closed (q : ℕ) (cs : List (List ℕ)) (n : ℕ) : Type 0 where
  inner : List (List ℕ)
  rest : List (List ℕ)
  is_all : cs ≡ inner ++ ((q ∷ []) ∷ rest)
  long : n ≡ length (bytes_of inner) + 1

here : (q : ℕ) (c : List ℕ) (cs : List (List ℕ)) → is q c ≡ true → Closed q (c ∷ cs) 1
here q c cs e = record { inner = []; rest = cs; is_all = rw (is_one q c e); long = refl }

-- a character before it
further : (q : ℕ) (c : List ℕ) (cs : List (List ℕ)) (n : ℕ) → Closed q cs n → Closed q (c ∷ cs) (length c + n)
further q c cs n x =
    record { inner = c ∷ x.inner; rest = x.rest; is_all = ap (◌∷◌ c) x.is_all; long = omega (arith, length-append c (bytes_of x.inner), x.long) }

closed : (q : ℕ) (cs : List (List ℕ)) → 0 < closing q cs → Closed q cs (closing q cs)
closed q [] h = absurd (omega arith)
closed q (c ∷ []) h = go (is q c) refl h
  where
    go : (t : Bool) → is q c ≡ t → 0 < cond t 1 0 → Closed q (c ∷ []) (cond t 1 0)
    go true e h = here q c [] e
    go false e h = absurd (omega arith)
closed q (c ∷ d ∷ cs) h = go (is q c) (is 92 c) (is 10 d) refl refl (closed q cs) (closed q (d ∷ cs)) h
  where
    go : (t u v : Bool) → is q c ≡ t → is 92 c ≡ u → (0 < closing q cs → Closed q cs (closing q cs)) → (0 < closing q (d ∷ cs) → Closed q (d ∷ cs) (closing q (d ∷ cs)))
        → 0 < cond t 1 (cond u (cond v 0 (behind (1 + length d) (closing q cs))) (behind (length c) (closing q (d ∷ cs))))
        → Closed q (c ∷ d ∷ cs) (cond t 1 (cond u (cond v 0 (behind (1 + length d) (closing q cs))) (behind (length c) (closing q (d ∷ cs)))))
    go true u v e f x y h = here q c (d ∷ cs) e
    go false true true e f x y h = absurd (omega arith)
    go false true false e f x y h =
        let b = behind_sum (1 + length d) (closing q cs) h in
        let l : length c + (length d + closing q cs) ≡ behind (1 + length d) (closing q cs) = omega (arith, ap length (is_one 92 c f), b.1) in
        rw l at (further q c (d ∷ cs) (length d + closing q cs) (further q d cs (closing q cs) (x b.0)))
    go false false v e f x y h =
        let b = behind_sum (length c) (closing q (d ∷ cs)) h in
        rw b.1 (further q c (d ∷ cs) (closing q (d ∷ cs)) (y b.0))

-- a string: its quote, what is between the quotes, and what follows it
record Quoted (cs : List (List ℕ)) : Type 0 where
  quote : ℕ
  inner : List (List ℕ)
  rest : List (List ℕ)
  is_all : cs ≡ (quote ∷ []) ∷ (inner ++ ((quote ∷ []) ∷ rest))
  long : string cs ≡ length (bytes_of inner) + 2

quoted : (cs : List (List ℕ)) → 0 < string cs → Quoted cs
quoted [] h = absurd (omega arith)
quoted (c ∷ cs) h = go (is 34 c) (is 39 c) refl refl
  where
    by : (q : ℕ) → is q c ≡ true → string (c ∷ cs) ≡ behind 1 (closing q cs) → Quoted (c ∷ cs)
    by q e s =
        let b = behind_sum 1 (closing q cs) (rw s at h) in
        let x = closed q cs b.0 in
        record { quote = q; inner = x.inner; rest = x.rest; is_all = rw (is_one q c e, ← x.is_all); long = omega (arith, s, b.1, x.long) }

    go : (t u : Bool) → is 34 c ≡ t → is 39 c ≡ u → Quoted (c ∷ cs)
    go true u e f = by 34 e (rw e)
    go false true e f = by 39 f (rw (e, f))
    go false false e f = let z : string (c ∷ cs) ≡ 0 = rw (e, f) in absurd (omega arith)

-- ---- a String of a source

-- the string at the front of a list of bytes: what is between its quotes, and what follows it
module _ (quote : ℕ) (m r : List ℕ) where
  abbrev both : List ℕ
  both = quote ∷ (m ++ (quote ∷ r))

  unquoted_is : unquoted (take (length m + 2) both) ≡ m
  unquoted_is =
      let n : length m + 2 ≡ suc (length m + 1) = omega arith in
      let k : suc (length (m ++ (quote ∷ []))) - 1 - 1 ≡ length m = omega (arith, length-append m (quote ∷ [])) in
      rw (n, take-append-add m (quote ∷ r) 1, k) (take-append_seam m (quote ∷ []))

  rest_is : drop (length m + 2) both ≡ r
  rest_is = let n : length m + 2 ≡ suc (length m + 1) = omega arith in rw n (drop-append-add m (quote ∷ r) 1)

low_quote : (b : ℕ) → is_quote b ≡ true → b < 128
low_quote b e =
    or_either (eqb b 34) (eqb b 39) (λ x. let n = eqb-true b 34 x in omega arith) (λ x. let n = eqb-true b 39 x in omega arith) e

-- where a quote stands
module _ (s : List ℕ) (at : ℕ) (w : utf8_error_lem s ≡ None) (h : is_quote (get_or s at 0) ≡ true) where
  within : at < length s
  within = inside s at (λ z. absurd (true≢false (sym h ∙ ap is_quote z)))

  quote_starts : (utf8_error_lem (take at s) ≡ None) × (utf8_error_lem (drop at s) ≡ None)
  quote_starts = between_characters s at w within (low_quote (get_or s at 0) h)

  -- the token is the String by characters, and none where by characters none closes
  pub quote_token : token_at_lem s at ≡ found at (String, string (characters (drop at s)))
  unfolding table string_at
  quote_token =
      or_either (eqb (get_or s at 0) 34) (eqb (get_or s at 0) 39)
      (λ x. First.quoted s at 34 34 within (eqb-true (get_or s at 0) 34 x) refl refl)
      (λ x. First.quoted s at 39 39 within (eqb-true (get_or s at 0) 39 x) refl refl)
      h
      ∙ ap (λ (n : ℕ). found at (String, n)) (string_of (drop at s) quote_starts.1)

module _ (s : List ℕ) (at end : ℕ) (w : utf8_error_lem s ≡ None) (f : token_at_lem s at ≡ Some (raw_token String end)) where
  starts_whole : (utf8_error_lem (take at s) ≡ None) × (utf8_error_lem (drop at s) ≡ None)
  starts_whole = quote_starts s at w (string_token s at end f).1

  same_end : end ≡ at + string (characters (drop at s))
  same_end = (string_token s at end f).0 ∙ ap (λ (n : ℕ). at + n) (string_of (drop at s) starts_whole.1)

  inner_and_rest : Quoted (characters (drop at s))
  inner_and_rest = let e = same_end in let b = (token_within s at String end f).0 in quoted (characters (drop at s)) (omega arith)

  pub by_characters : ByCharacters s at end
  by_characters = go inner_and_rest (whole (drop at s) starts_whole.1) same_end
    where
      go : Quoted (characters (drop at s)) → (are_characters (characters (drop at s)) ≡ true) × (bytes_of (characters (drop at s)) ≡ drop at s)
          → end ≡ at + string (characters (drop at s)) → ByCharacters s at end
      go q x e =
          let m = bytes_of q.inner in
          let r = bytes_of q.rest in
          let k : List (List ℕ) = (q.quote ∷ []) ∷ q.rest in
          let l_is : drop at s ≡ both q.quote m r = sym x.1 ∙ ap bytes_of q.is_all ∙ ap (◌∷◌ q.quote) (bytes_append q.inner k) in
          let span : end - at ≡ length m + 2 = omega (arith, e, q.long) in
          let far : end ≡ at + (length m + 2) = omega (arith, e, q.long) in
          let each : are_characters (q.inner ++ k) ≡ true = and_right (is_character (q.quote ∷ [])) (are_characters (q.inner ++ k)) (ap are_characters (sym q.is_all) ∙ x.0) in
          let inner_is : unquoted (part s at end) ≡ m = rw (span, l_is) (unquoted_is q.quote m r) in
          let rest_here : drop end s ≡ r = rw (far, ← drop-drop (length m + 2) at s, l_is) (rest_is q.quote m r) in
          let inner_well : utf8_error_lem (unquoted (part s at end)) ≡ None = rw inner_is (well q.inner (are_left q.inner k each)) in
          record {
            before = starts_whole.0;
            onward = starts_whole.1;
            between = inner_well;
            after = rw rest_here (well q.rest (and_right (is_character (q.quote ∷ [])) (are_characters q.rest) (are_right q.inner k each)));
            end_is = e;
            text_is = decoded_of (unquoted (part s at end)) inner_well;
          }

-- ---- the Strings of a token list

-- a token that is a String is so by characters
abbrev pub StringByCharacters : List ℕ → Token → Type 0
StringByCharacters s t = t.code ≡ String → ByCharacters s t.start t.end

each_by_characters : {s : List ℕ} {lo hi depth used : ℕ} {ts : List Token} {bs : List ℕ} → utf8_error_lem s ≡ None → Tokens s lo hi depth used ts bs → Each (StringByCharacters s) ts
each_by_characters w (indent {start} {end} h k m n t) = more {t = mark Code.Indent start end} (λ c. absurd (omega arith)) (each_by_characters w t)
each_by_characters w (dedent {start} {end} h k m n t) = more {t = mark Code.Dedent start end} (λ c. absurd (omega arith)) (each_by_characters w t)
each_by_characters {s} w (raw {start} {code} {end} {v} h k e f t) =
    more {t = token code start end v} (λ c. by_characters s start end w (rw c at e)) (each_by_characters w t)
each_by_characters {s} w (eof h k) = more {t = mark Code.Eof (length s) (length s)} (λ c. absurd (omega arith)) none

pub strings_by_characters : (s : List ℕ) (ts : List Token) (bs : List ℕ) → utf8_error_lem s ≡ None → token_list s ≡ scanned ts bs → Each (StringByCharacters s) ts
strings_by_characters s ts bs w e = each_by_characters w (promise s ts bs e)
