-- A String by characters and by bytes: the same end, and the same decoded bytes. No byte of a character of more than one is under 128, so none is
-- a quote, a backslash, a line feed or a letter that an escape has.
-- Assumes nothing.
use mathlib.Core.Path.{◌≡◌, refl, sym, ap, ◌∙◌}
use mathlib.Core.Bool.{Bool, true, false, cond, ◌||◌}
use mathlib.Core.List.{List, [], ◌∷◌, ◌++◌, append-nil}
use Prim.Native.Nat.{ℕ, zero, suc, ◌+◌, ◌<◌}
use native.Mathlib.Omega.{arith}
use lib.Dec.{eqb, leb}
use lib.ListN.{length}
use borrow.Author.Tests.{leb-true, eqb-true, ne_eqb}
use Rattle.std.specs.Prelude.{None}
use Rattle.source.proofs.Bools.{and_left, and_right}
use Rattle.utf8.specs.Table.{utf8_error_lem}
use Rattle.raw_token.specs.Pattern as P
use Rattle.raw_token.specs.Pattern.{behind, body}
use Rattle.raw_token.proofs.Steps.{behind_zero, behind_behind}
use Rattle.strings.specs.Decoded as D
use Rattle.strings.specs.Decoded.{escape, decode_from}
use Rattle.lexical.specs.Characters.{is_character, are_characters, bytes_of, characters}
use Rattle.lexical.specs.Strings.{is, closing, string, escaped, decoded}
use Rattle.lexical.proofs.Characters.{high, Form, one, several, form, whole}

-- a byte of 128 or more is none that is under it
module _ (a : ℕ) (c : List ℕ) (h : high (a ∷ c) ≡ true) where
  high_first : (k : ℕ) → k < 128 → eqb a k ≡ false
  high_first k l = let m = leb-true 128 a (and_left (leb 128 a) (high c) h) in ne_eqb a k (λ e. omega arith)

  high_rest : high c ≡ true
  high_rest = and_right (leb 128 a) (high c) h

  kept : escape a ≡ 92 ∷ a ∷ []
  kept =
      rw (high_first 110 (omega arith), high_first 116 (omega arith), high_first 114 (omega arith), high_first 92 (omega arith), high_first 34 (omega arith), high_first 39 (omega arith))

-- ---- the end

module _ (q : ℕ) (low : q < 128) (l : List ℕ) where
  -- bytes of 128 and more are passed
  passed : (c : List ℕ) → high c ≡ true → body q false (c ++ l) ≡ behind (length c) (body q false l)
  passed [] h = sym (behind_zero (body q false l))
  passed (a ∷ c) h =
      rw (high_first a c h q low, high_first a c h 92 (omega arith), passed c (high_rest a c h), behind_behind 1 (length c) (body q false l))
      (ap (λ (n : ℕ). behind n (body q false l)) (omega arith))

  -- a character behind a backslash
  escaped_passed : (d : List ℕ) → Form d → body q true (d ++ l) ≡ cond (is 10 d) 0 (behind (length d) (body q false l))
  escaped_passed d (one b) = refl
  escaped_passed d (several a b c h) =
      rw (high_first a (b ∷ c) h 10 (omega arith), passed (b ∷ c) (high_rest a (b ∷ c) h), behind_behind 1 (suc (length c)) (body q false l))
      (ap (λ (n : ℕ). behind n (body q false l)) (omega arith))

pub closing_is : (q : ℕ) → q < 128 → (cs : List (List ℕ)) → are_characters cs ≡ true → closing q cs ≡ body q false (bytes_of cs)
unfolding behind
closing_is q low [] e = refl
closing_is q low (c ∷ []) e = go c (form c (and_left (is_character c) true e))
  where
    last : (t : Bool) → cond t 1 0 ≡ cond t 1 zero
    last true = refl
    last false = refl

    go : (c : List ℕ) → Form c → cond (is q c) 1 0 ≡ body q false (c ++ [])
    go c (one b) = last (eqb b q)
    go c (several a b d h) = sym (passed q low [] (a ∷ b ∷ d) h)
closing_is q low (c ∷ d ∷ cs) e =
    go c (form c (and_left (is_character c) (are_characters (d ∷ cs)) e)) (closing_is q low cs (and_right (is_character d) (are_characters cs) rest))
    (closing_is q low (d ∷ cs) rest)
  where
    rest : are_characters (d ∷ cs) ≡ true
    rest = and_right (is_character c) (are_characters (d ∷ cs)) e

    l : List ℕ
    l = bytes_of cs

    behind_cond : (t : Bool) (m n : ℕ) → behind 1 (cond t 0 (behind m n)) ≡ cond t 0 (behind (1 + m) n)
    behind_cond true m n = refl
    behind_cond false m n = behind_behind 1 m n

    opened : closing q cs ≡ body q false l → (t : Bool) → closing q (d ∷ cs) ≡ body q false (d ++ l)
        → cond t (cond (is 10 d) 0 (behind (1 + length d) (closing q cs))) (behind 1 (closing q (d ∷ cs))) ≡ behind 1 (body q t (d ++ l))
    opened x true y =
        rw (x, escaped_passed q low l d (form d (and_left (is_character d) (are_characters cs) rest)))
        (sym (behind_cond (is 10 d) (length d) (body q false l)))
    opened x false y = rw y

    go : (c : List ℕ) → Form c → closing q cs ≡ body q false l → closing q (d ∷ cs) ≡ body q false (d ++ l) → closing q (c ∷ d ∷ cs) ≡ body q false (c ++ (d ++ l))
    go c (one b) x y = ap (cond (eqb b q) 1) (opened x (eqb b 92) y)
    go c (several a b k h) x y = rw y (sym (passed q low (d ++ l) (a ∷ b ∷ k) h))

-- a string is as long by characters as by bytes
pub string_is : (cs : List (List ℕ)) → are_characters cs ≡ true → string cs ≡ P.string (bytes_of cs)
string_is [] e = refl
string_is (c ∷ cs) e = go c (form c (and_left (is_character c) (are_characters cs) e))
  where
    closes : (q : ℕ) → q < 128 → (b : ℕ) → eqb b q ≡ true → behind 1 (closing q cs) ≡ behind 1 (body b false (bytes_of cs))
    closes q low b x = rw (eqb-true b q x) (ap (behind 1) (closing_is q low cs (and_right (is_character c) (are_characters cs) e)))

    quoted : (t u : Bool) (b : ℕ) → eqb b 34 ≡ t → eqb b 39 ≡ u
        → cond t (behind 1 (closing 34 cs)) (cond u (behind 1 (closing 39 cs)) 0) ≡ cond (t || u) (behind 1 (body b false (bytes_of cs))) 0
    quoted true u b x y = closes 34 (omega arith) b x
    quoted false true b x y = closes 39 (omega arith) b y
    quoted false false b x y = refl

    go : (c : List ℕ) → Form c → string (c ∷ cs) ≡ P.string (c ++ bytes_of cs)
    go c (one b) = quoted (eqb b 34) (eqb b 39) b refl refl
    go c (several a b d h) =
        rw (high_first a (b ∷ d) h 34 (omega arith), high_first a (b ∷ d) h 39 (omega arith))

-- ---- the decoded bytes

passed_decoded : (c l : List ℕ) → high c ≡ true → decode_from false (c ++ l) ≡ c ++ decode_from false l
passed_decoded [] l h = refl
passed_decoded (a ∷ c) l h = rw (high_first a c h 92 (omega arith)) (ap (◌∷◌ a) (passed_decoded c l (high_rest a c h)))

-- a character behind a backslash
escaped_decoded : (d l : List ℕ) → Form d → decode_from true (d ++ l) ≡ escaped d ++ decode_from false l
escaped_decoded d l (one b) = refl
escaped_decoded d l (several a b c h) =
    rw (kept a (b ∷ c) h) (ap (λ (x : List ℕ). 92 ∷ a ∷ x) (passed_decoded (b ∷ c) l (high_rest a (b ∷ c) h)))

decoded_from : (cs : List (List ℕ)) → are_characters cs ≡ true → decoded cs ≡ decode_from false (bytes_of cs)
decoded_from [] e = refl
decoded_from (c ∷ []) e = go c (form c (and_left (is_character c) true e))
  where
    last : (t : Bool) (b : ℕ) → eqb b 92 ≡ t → b ∷ [] ≡ cond t (92 ∷ []) (b ∷ [])
    last true b x = rw (eqb-true b 92 x)
    last false b x = refl

    go : (c : List ℕ) → Form c → c ≡ decode_from false (c ++ [])
    go c (one b) = last (eqb b 92) b refl
    go c (several a b d h) = sym (append-nil (a ∷ b ∷ d)) ∙ sym (passed_decoded (a ∷ b ∷ d) [] h)
decoded_from (c ∷ d ∷ cs) e =
    go c (form c (and_left (is_character c) (are_characters (d ∷ cs)) e)) (decoded_from cs (and_right (is_character d) (are_characters cs) rest))
    (decoded_from (d ∷ cs) rest)
  where
    rest : are_characters (d ∷ cs) ≡ true
    rest = and_right (is_character c) (are_characters (d ∷ cs)) e

    l : List ℕ
    l = bytes_of cs

    either : (t : Bool) (b : ℕ) → decoded cs ≡ decode_from false l → decoded (d ∷ cs) ≡ decode_from false (d ++ l)
        → cond t (escaped d ++ decoded cs) (b ∷ decoded (d ∷ cs)) ≡ cond t (decode_from true (d ++ l)) (b ∷ decode_from false (d ++ l))
    either true b x y = rw x (sym (escaped_decoded d l (form d (and_left (is_character d) (are_characters cs) rest))))
    either false b x y = ap (◌∷◌ b) y

    go : (c : List ℕ) → Form c → decoded cs ≡ decode_from false l → decoded (d ∷ cs) ≡ decode_from false (d ++ l) → decoded (c ∷ d ∷ cs) ≡ decode_from false (c ++ (d ++ l))
    go c (one b) x y = either (eqb b 92) b x y
    go c (several a b k h) x y = rw y (sym (passed_decoded (a ∷ b ∷ k) (d ++ l) h))

-- what characters stand for is the same by characters and by bytes
pub decoded_is : (cs : List (List ℕ)) → are_characters cs ≡ true → decoded cs ≡ D.decoded (bytes_of cs)
unfolding D.decoded
decoded_is cs e = decoded_from cs e

-- the same of a well-formed list of bytes and its characters
module _ (l : List ℕ) (w : utf8_error_lem l ≡ None) where
  pub string_of : P.string l ≡ string (characters l)
  string_of = let x = whole l w in ap P.string (sym x.1) ∙ sym (string_is (characters l) x.0)

  pub decoded_of : D.decoded l ≡ decoded (characters l)
  decoded_of = let x = whole l w in ap D.decoded (sym x.1) ∙ sym (decoded_is (characters l) x.0)
