-- The names, Floats and Strings of a well-formed source are well-formed: a token lies between places where characters begin, and what a String stands for
-- has whole characters too, since each escape is, and stands for, bytes under 128.
-- Assumes nothing.
use mathlib.Core.Path.{◌≡◌, refl, sym, ap, ◌∙◌, subst}
use mathlib.Core.Bool.{Bool, true, false, cond}
use mathlib.Core.List.{List, [], ◌∷◌, ◌++◌}
use Prim.Native.Nat.{ℕ, ◌+◌, ◌-◌, ◌<◌}
use native.Mathlib.Omega.{arith}
use lib.Dec.{eqb}
use lib.ListN.{length, get_or, take}
use lib.Seq.{take-add}
use borrow.Author.Tests.{eqb-true}
use Rattle.std.specs.Prelude.{Float, ℤ, Option, Some, None}
use Rattle.source.specs.Bytes.{part}
use Rattle.source.proofs.Bools.{and_left, and_right}
use Rattle.utf8.specs.Table.{utf8_error_lem}
use Rattle.token.specs.Code as Code
use Rattle.tokens.specs.Token.{Token, token}
use Rattle.numbers.specs.Decimal.{decimal_of}
use Rattle.numbers.specs.Integer.{integer_of}
use Rattle.strings.specs.Decoded as strings
use Rattle.strings.specs.Decoded.{unescape}
use Rattle.literal.specs.Literal.{of_integer, of_decimal, lex_integer_lem, lex_float_lem, lex_string_lem, unquoted}
use Rattle.literal.specs.declared.Literal.{Literal}
use Rattle.literal.specs.declared.Literal.TheVariants as L
use Rattle.raw_token.specs.Table.{raw_token, token_at_lem}
use Rattle.raw_token.proofs.Within.{token_within}
use Rattle.lexer.specs.Value.{value_of}
use Rattle.lexer.specs.Scan.{scanned, mark, token_list}
use Rattle.lexer.proofs.Properties.{Each, Each.none, Each.more, Valued, bytes_of, Held, InText}
use Rattle.lexer.proofs.Promise.{Tokens, indent, dedent, raw, eof, promise}
use Rattle.lexer.proofs.Laws.{tokens_valued, tokens_held}
use Rattle.lexical.specs.Characters.{is_character, are_characters, characters}
use Rattle.lexical.specs.Strings.{is, escaped, decoded}
use Rattle.lexical.proofs.Characters.{whole}
use Rattle.lexical.proofs.WellFormed.{behind_well, character_well}
use Rattle.lexical.proofs.Boundaries.{token_starts}
use Rattle.lexical.proofs.Ends.{token_ends}
use Rattle.lexical.proofs.Strings.{decoded_of}
use Rattle.lexical.proofs.StringTokens.{StringByCharacters, strings_by_characters}
use Rattle.standard.proofs.WellFormed.{Well, empty_well, ◌then◌, low_then, either_low}

-- ---- what a String stands for

unescape_low : (b : ℕ) → unescape b < 128
unescape_low b =
    either_low (eqb b 110) _ _ (omega arith)
    (either_low (eqb b 116) _ _ (omega arith)
    (either_low (eqb b 114) _ _ (omega arith)
    (either_low (eqb b 92) _ _ (omega arith)
    (either_low (eqb b 34) _ _ (omega arith)
    (either_low (eqb b 39) _ _ (omega arith) (omega arith))))))

-- a backslash with a character
escape_well : (c : List ℕ) → Well c → Well (escaped c)
escape_well [] h = low_then 92 (omega arith) h
escape_well (b ∷ []) h = go (eqb (unescape b) 0)
  where
    go : (t : Bool) → Well (cond t (92 ∷ b ∷ []) (unescape b ∷ []))
    go true = low_then 92 (omega arith) h
    go false = low_then (unescape b) (unescape_low b) empty_well
escape_well (b ∷ d ∷ c) h = low_then 92 (omega arith) h

characters_decoded : (cs : List (List ℕ)) → are_characters cs ≡ true → Well (decoded cs)
characters_decoded [] e = empty_well
characters_decoded (c ∷ []) e = record { holds = character_well c (and_left (is_character c) true e) }
characters_decoded (c ∷ d ∷ cs) e = go (is 92 c) (characters_decoded cs (and_right (is_character d) (are_characters cs) rest)) (characters_decoded (d ∷ cs) rest)
  where
    rest : are_characters (d ∷ cs) ≡ true
    rest = and_right (is_character c) (are_characters (d ∷ cs)) e

    go : (t : Bool) → Well (decoded cs) → Well (decoded (d ∷ cs)) → Well (cond t (escaped d ++ decoded cs) (c ++ decoded (d ∷ cs)))
    go true f g = escape_well d (record { holds = character_well d (and_left (is_character d) (are_characters cs) rest) }) then f
    go false f g = record { holds = character_well c (and_left (is_character c) (are_characters (d ∷ cs)) e) } then g

decoded_well : (l : List ℕ) → Well l → Well (strings.decoded l)
decoded_well l h = rw (decoded_of l h.holds) (characters_decoded (characters l) (whole l h.holds).0)

-- a token with a String's literal is a String
string_coded : (code : ℕ) (l : List ℕ) (used at n : ℕ) → value_of code l used ≡ Some (L.String at n) → code ≡ Code.String
unfolding value_of lex_integer_lem lex_float_lem
string_coded code l used at n = go (eqb code Code.Bool) (eqb code Code.Int) (eqb code Code.Float) (eqb code Code.String) (integer_of l) (decimal_of l) refl
  where
    go : (a b c t : Bool) (i : Option ℤ) (x : Option Float) → eqb code Code.String ≡ t
        → cond a (Some (L.Bool (eqb (get_or l 0 0) 84))) (cond b (of_integer i) (cond c (of_decimal x) (cond t (Some (lex_string_lem l used)) (Some L.None)))) ≡ Some (L.String at n)
        → code ≡ Code.String
    go true b c t i x f e = let z : ◌≡◌ {A = ℕ} 0 1 = cc in absurd (omega arith)
    go false true c t (Some m) x f e = let z : ◌≡◌ {A = ℕ} 0 1 = cc in absurd (omega arith)
    go false true c t None x f e = let z : ◌≡◌ {A = ℕ} 0 1 = cc in absurd (omega arith)
    go false false true t i (Some m) f e = let z : ◌≡◌ {A = ℕ} 0 1 = cc in absurd (omega arith)
    go false false true t i None f e = let z : ◌≡◌ {A = ℕ} 0 1 = cc in absurd (omega arith)
    go false false false true i x f e = eqb-true code Code.String f
    go false false false false i x f e = let z : ◌≡◌ {A = ℕ} 0 1 = cc in absurd (omega arith)

-- ---- the bytes of a token

token_well : (s : List ℕ) (start code end : ℕ) → utf8_error_lem s ≡ None → token_at_lem s start ≡ Some (raw_token code end) → Well (part s start end)
token_well s start code end w e =
    let h = token_within s start code end e in
    let n : end ≡ start + (end - start) = omega arith in
    let both : take start s ++ part s start end ≡ take end s = sym (take-add start (end - start) s) ∙ ap (λ (k : ℕ). take k s) (sym n) in
    record { holds = behind_well (take start s) (part s start end) (token_starts s start code end w e).0 (rw both (token_ends s start code end w e).0) }

-- but for the marks of blocks
abbrev pub WellBytes : List ℕ → Token → Type 0
WellBytes s t = (t.code ≡ Code.Indent → ⊥) → (t.code ≡ Code.Dedent → ⊥) → Well (bytes_of s t)

each_well : {s : List ℕ} {lo hi depth used : ℕ} {ts : List Token} {bs : List ℕ} → utf8_error_lem s ≡ None → Tokens s lo hi depth used ts bs → Each (WellBytes s) ts
each_well w (indent {start} {end} h k m n t) = more {t = mark Code.Indent start end} (λ a b. absurd (a refl)) (each_well w t)
each_well w (dedent {start} {end} h k m n t) = more {t = mark Code.Dedent start end} (λ a b. absurd (b refl)) (each_well w t)
each_well {s} w (raw {start} {code} {end} {v} h k e f t) = more {t = token code start end v} (λ a b. token_well s start code end w e) (each_well w t)
each_well {s} w (eof h k) = more {t = mark Code.Eof (length s) (length s)} (λ a b. nothing) none
  where
    nothing : Well (part s (length s) (length s))
    nothing = let z : length s - length s ≡ 0 = omega arith in rw z empty_well

-- ---- the text of a token

abbrev pub WellString : List ℕ → Token → Type 0
WellString text t = (at n : ℕ) → t.literal ≡ L.String at n → Well (part text at (at + n))

held_well : (text l : List ℕ) (code used : ℕ) (v : Literal) → value_of code l used ≡ Some v → Held text code l v → (code ≡ Code.String → Well (unquoted l)) → (at n : ℕ) → v ≡ L.String at n → Well (part text at (at + n))
held_well text l code used v e h q at n i =
    let g = subst (Held text code l) i h in
    rw g.1 (decoded_well (unquoted l) (q (string_coded code l used at n (e ∙ ap Some i))))

texts_well : {s : List ℕ} (text : List ℕ) {used : ℕ} {ts : List Token} {bs : List ℕ} → Valued s used ts bs → Each (InText s text) ts → Each (StringByCharacters s) ts → Each (WellString text) ts
texts_well text Valued.none none none = none
texts_well {s} text (Valued.more {used} {t} v h) (more i each) (more q qs) =
    more (held_well text (bytes_of s t) t.code used t.literal v i (λ c. record { holds = (q c).between })) (texts_well text h each qs)

-- ---- the laws of the token list

module _ (s : List ℕ) (ts : List Token) (bs : List ℕ) (w : utf8_error_lem s ≡ None) (e : token_list s ≡ scanned ts bs) where
  pub tokens_well : Each (WellBytes s) ts
  tokens_well = each_well w (promise s ts bs e)

  pub strings_well : Each (WellString bs) ts
  strings_well = texts_well bs (tokens_valued s ts bs e) (tokens_held s ts bs e) (strings_by_characters s ts bs w e)
