-- The token at a place, by the first byte there: of the table's patterns only those that can start with the byte count.
-- Assumes nothing.
use mathlib.Core.Path.{◌≡◌, refl, sym, ap, ◌∙◌}
use mathlib.Core.Bool.{Bool, true, false, cond, not, ◌&&◌, ◌||◌}
use mathlib.Core.List.{List, [], ◌∷◌, ◌++◌}
use Prim.Native.Nat.{ℕ, zero, suc, ◌+◌, ◌<◌, ◌≤◌, zero-le, suc-le-suc}
use native.Mathlib.Omega.{arith}
use native.Mathlib.Decide.{ℕ_discrete}
use mathlib.Core.Logic.{◌⊎◌, inl, inr}
use lib.Dec.{eqb, leb}
use lib.ListN.{length, get_or, drop}
use borrow.Author.Tests.{not-true, eq-eqb, ne_eqb, lt-ltb, le-ltb, leb-true, leb-false}
use Rattle.source.specs.Bytes.{digit, run}
use Rattle.token.specs.Code.{Int, String, Identifier, Float}
use Rattle.source.proofs.Bools.{and_left, and_right, or_left, or_right, or_rest, same}
use Rattle.source.proofs.Lists.{at_cons, past}
use Rattle.source.proofs.Ranges.{at_each}
use Rattle.raw_token.specs.Pattern as P
use Rattle.raw_token.specs.Pattern.{begins_name_lem, is_sign_lem, is_quote, is_prefix}
use Rattle.raw_token.specs.Table.{Pattern, literal, name, int, float, string, len, Entry, table, longer, longest, found, token_at_lem}
use Rattle.raw_token.specs.Parts.{keywords, ascii_begins, signed_at, number_at, string_at, pair_at, only_at, word_at, name_at}
use Rattle.raw_token.proofs.Names.{low_character, ascii-begins, name_nil, name_some, name_run}
use Rattle.raw_token.proofs.Words.{literals, keywords_words, best_word}
use Rattle.raw_token.proofs.Steps.{behind_none, run_some, maybe_miss, float_none, float_some}
use Rattle.std.specs.Prelude.{Some, None}
use Rattle.raw_token.specs.Table.{raw_token}

-- whether a match of the pattern can start with the byte
abbrev pub starts : Pattern → ℕ → Bool
starts (literal []) b = false
starts (literal (a ∷ w)) b = eqb b a
starts name b = ascii_begins b || leb 128 b
starts int b = is_sign_lem b || digit b
starts float b = digit b
starts string b = is_quote b

-- such a match has no length where it cannot
pub miss : (p : Pattern) (b : ℕ) (l : List ℕ) → starts p b ≡ false → len p (b ∷ l) ≡ 0
unfolding P.literal P.name P.int P.float
miss (literal []) b l h = refl
miss (literal (a ∷ w)) b l h = rw h
miss name b l h =
    let k = leb-false 128 b (or_right (ascii_begins b) (leb 128 b) h) in
    rw (low_character begins_name_lem b l k, ascii-begins b k, or_left (ascii_begins b) (leb 128 b) h)
miss int b l h = rw (or_left (is_sign_lem b) (digit b) h, or_right (is_sign_lem b) (digit b) h) (behind_none 0 0 refl)
miss float b l h = rw h
miss string b l h = rw h

-- the entries that can start with the byte k
abbrev pub keep : List Entry → ℕ → List Entry
keep [] k = []
keep (e ∷ es) k = cond (starts e.1 k) (e ∷ keep es k) (keep es k)

-- b and k start the same entries
abbrev pub alike : List Entry → ℕ → ℕ → Bool
alike [] b k = true
alike (e ∷ es) b k = same (starts e.1 k) (starts e.1 b) && alike es b k

longer_none : (best : ℕ × ℕ) (c : ℕ) → longer best c 0 ≡ best
longer_none best c = rw (le-ltb best.1 0 zero-le)

-- only those entries count
pub narrow : (es : List Entry) (best : ℕ × ℕ) (b k : ℕ) (l : List ℕ) → alike es b k ≡ true → longest best es (b ∷ l) ≡ longest best (keep es k) (b ∷ l)
narrow [] best b k l h = refl
narrow (e ∷ es) best b k l h =
    go (starts e.1 k) (starts e.1 b) (miss e.1 b l) h (λ o. narrow es o b k l)
  where
    go : (t u : Bool) → (u ≡ false → len e.1 (b ∷ l) ≡ 0) → (same t u && alike es b k) ≡ true → ((o : ℕ × ℕ) → alike es b k ≡ true → longest o es (b ∷ l) ≡ longest o (keep es k) (b ∷ l)) → longest best (e ∷ es) (b ∷ l) ≡ longest best (cond t (e ∷ keep es k) (keep es k)) (b ∷ l)
    go true u m a r = r (longer best e.0 (len e.1 (b ∷ l))) (and_right u (alike es b k) a)
    go false u m a r =
        rw (m (not-true u (and_left (not u) (alike es b k) a)), longer_none best e.0) (r best (and_right (not u) (alike es b k) a))

-- of one entry
only_one : (at code n : ℕ) → found at (longer (0, 0) code n) ≡ found at (code, n)
only_one at code zero = refl
only_one at code (suc n) = rw (lt-ltb 0 (suc n) (omega arith))

-- the token at a place whose byte starts the same entries as k
module _ (s : List ℕ) (at b k : ℕ) (within : at < length s) (is_b : get_or s at 0 ≡ b) (a : alike table b k ≡ true) where
  cut : drop at s ≡ b ∷ drop (at + 1) s
  cut = at_cons s at within ∙ ap (λ (x : ℕ). x ∷ drop (at + 1) s) is_b

  pub by_byte : (es : List Entry) → keep table k ≡ es → token_at_lem s at ≡ found at (longest (0, 0) es (drop at s))
  unfolding token_at_lem
  by_byte es e =
      ap (λ (l : List ℕ). found at (longest (0, 0) table l)) cut
      ∙ ap (found at) (narrow table (0, 0) b k (drop (at + 1) s) a)
      ∙ ap (λ (x : List Entry). found at (longest (0, 0) x (b ∷ drop (at + 1) s))) e
      ∙ ap (λ (l : List ℕ). found at (longest (0, 0) es l)) (sym cut)

  alone_len : P.literal (b ∷ []) (drop at s) ≡ 1
  unfolding P.literal
  alone_len = rw (cut, eq-eqb b b refl)

  -- one byte that starts nothing else
  pub single : (code : ℕ) → keep table k ≡ (code, literal (b ∷ [])) ∷ [] → token_at_lem s at ≡ Some (raw_token code (at + 1))
  single code e = by_byte _ e ∙ ap (λ (n : ℕ). found at (longer (0, 0) code n)) alone_len

  two_len : (second : ℕ) → P.literal (b ∷ second ∷ []) (drop at s) ≡ cond (is_prefix (second ∷ []) (drop (at + 1) s)) 2 0
  unfolding P.literal
  two_len second = rw (cut, eq-eqb b b refl)

  -- one byte, or two: `first` says that the longer operator stands first in the table
  pub double : (first : Bool) (second two alone : ℕ) → keep table k ≡ cond first ((two, literal (b ∷ second ∷ [])) ∷ (alone, literal (b ∷ [])) ∷ []) ((alone, literal (b ∷ [])) ∷ (two, literal (b ∷ second ∷ [])) ∷ []) → token_at_lem s at ≡ pair_at s at second two alone
  unfolding pair_at
  double true second two alone e = by_byte _ e ∙ go (is_prefix (second ∷ []) (drop (at + 1) s)) _ _ alone_len (two_len second)
    where
      go : (t : Bool) (m n : ℕ) → m ≡ 1 → n ≡ cond t 2 0 → found at (longer (longer (0, 0) two n) alone m) ≡ cond t (Some (raw_token two (at + 2))) (Some (raw_token alone (at + 1)))
      go true m n e₁ e₂ = rw (e₁, e₂)
      go false m n e₁ e₂ = rw (e₁, e₂)
  double false second two alone e = by_byte _ e ∙ go (is_prefix (second ∷ []) (drop (at + 1) s)) _ _ alone_len (two_len second)
    where
      go : (t : Bool) (m n : ℕ) → m ≡ 1 → n ≡ cond t 2 0 → found at (longer (longer (0, 0) alone m) two n) ≡ cond t (Some (raw_token two (at + 2))) (Some (raw_token alone (at + 1)))
      go true m n e₁ e₂ = rw (e₁, e₂)
      go false m n e₁ e₂ = rw (e₁, e₂)

  -- two bytes, or nothing
  pub only : (second two : ℕ) → keep table k ≡ (two, literal (b ∷ second ∷ [])) ∷ [] → token_at_lem s at ≡ only_at s at second two
  unfolding only_at
  only second two e =
      by_byte _ e
      ∙ ap (λ (n : ℕ). found at (longer (0, 0) two n)) (two_len second)
      ∙ go (is_prefix (second ∷ []) (drop (at + 1) s))
    where
      go : (t : Bool) → found at (longer (0, 0) two (cond t 2 0)) ≡ cond t (Some (raw_token two (at + 2))) None
      go true = refl
      go false = refl

  -- a sign
  pub signed : (op : ℕ) → keep table k ≡ (Int, int) ∷ (op, literal (b ∷ [])) ∷ [] → token_at_lem s at ≡ signed_at s at op
  unfolding signed_at
  signed op e =
      by_byte _ e
      ∙ ap (λ (n : ℕ). found at (longer (longer (0, 0) Int (P.int (drop at s))) op n)) alone_len
      ∙ go (P.int (drop at s))
    where
      go : (n : ℕ) → found at (longer (longer (0, 0) Int n) op 1) ≡ cond (eqb n 0) (Some (raw_token op (at + 1))) (Some (raw_token Int (at + n)))
      go zero = refl
      go (suc n) = rw (lt-ltb 0 (suc n) (omega arith), le-ltb (suc n) 1 (omega arith), ne_eqb (suc n) 0 (omega arith))

  -- a quote
  pub quoted : keep table k ≡ (String, string) ∷ [] → token_at_lem s at ≡ string_at s at
  unfolding string_at
  quoted e = by_byte _ e ∙ only_one at String (P.string (drop at s))

  -- what starts no token
  pub none : keep table k ≡ [] → token_at_lem s at ≡ None
  none e = by_byte _ e

number_best : (at n f : ℕ) → (n ≡ 0 → ⊥) → (f ≡ 0) ⊎ (n < f) → found at (longer (longer (0, 0) Int n) Float f) ≡ cond (eqb f 0) (Some (raw_token Int (at + n))) (Some (raw_token Float (at + f)))
number_best at n f hn (inl z) = rw (z, lt-ltb 0 n (omega arith), le-ltb n 0 zero-le, ne_eqb n 0 hn)
number_best at n f hn (inr h) = rw (lt-ltb 0 n (omega arith), lt-ltb n f h, ne_eqb f 0 (omega arith))

-- a float is longer than its digits
float_longer : (s : List ℕ) (at : ℕ) → (run digit (drop at s) ≡ 0 → ⊥) → (P.float (drop at s) ≡ 0) ⊎ (run digit (drop at s) < P.float (drop at s))
float_longer s at h = go (ℕ_discrete (P.fraction (drop (at + run digit (drop at s)) s)) 0)
  where
    go : Dec (P.fraction (drop (at + run digit (drop at s)) s) ≡ 0) → (P.float (drop at s) ≡ 0) ⊎ (run digit (drop at s) < P.float (drop at s))
    go (yes z) = inl (float_none s at _ _ refl refl z)
    go (no z) = inr (let e = float_some s at _ _ refl refl h z in omega arith)

-- the single bytes that the code's `match` names, the last first
abbrev pub keys : List ℕ
keys = 10 ∷ 46 ∷ 59 ∷ 44 ∷ 58 ∷ 125 ∷ 123 ∷ 93 ∷ 91 ∷ 41 ∷ 40 ∷ 37 ∷ 42 ∷ 33 ∷ 62 ∷ 60 ∷ 61 ∷ 47 ∷ 45 ∷ 43 ∷ 39 ∷ 34 ∷ 95 ∷ []

-- what is no keyword
unfoldable others : List Entry
others = drop 19 table

-- The table is shut but in such small lemmas: where it is open, antt writes all of it out wherever `longest` stands
keep_digit : keep table 48 ≡ (Int, int) ∷ (Float, float) ∷ []
unfolding table
keep_digit = refl

keep_name : keep others 95 ≡ (Identifier, name) ∷ []
unfolding others table
keep_name = refl

keep_non_ascii : keep table 128 ≡ (Identifier, name) ∷ []
unfolding table
keep_non_ascii = refl

keep_none : keep table 0 ≡ []
unfolding table
keep_none = refl

table_is : table ≡ literals keywords ++ others
unfolding table keywords others
table_is = refl

-- a digit
module _ (s : List ℕ) (at : ℕ) (within : at < length s) (h : digit (get_or s at 0) ≡ true) where
  low : 48 ≤ get_or s at 0
  low = leb-true 48 _ (and_left (leb 48 (get_or s at 0)) (leb (get_or s at 0) 57) h)

  high : get_or s at 0 ≤ 57
  high = leb-true _ 57 (and_right (leb 48 (get_or s at 0)) (leb (get_or s at 0) 57) h)

  digit_alike : alike table (get_or s at 0) 48 ≡ true
  unfolding table
  digit_alike = at_each (λ (x : ℕ). alike table x 48) 48 10 tt _ low (suc-le-suc high)

  no_sign : is_sign_lem (get_or s at 0) ≡ false
  no_sign = let l = low in rw (ne_eqb (get_or s at 0) 43 (omega arith), ne_eqb (get_or s at 0) 45 (omega arith))

  pub number : token_at_lem s at ≡ number_at s at
  unfolding number_at P.int
  number =
      let some = run_some digit s at within h in
      by_byte s at _ 48 within refl digit_alike ((Int, int) ∷ (Float, float) ∷ []) keep_digit
      ∙ ap (λ (n : ℕ). found at (longer (longer (0, 0) Int n) Float (P.float (drop at s)))) (maybe_miss is_sign_lem (run digit) s at no_sign)
      ∙ number_best at _ _ some (float_longer s at some)

longest_append : (es fs : List Entry) (best : ℕ × ℕ) (l : List ℕ) → longest best (es ++ fs) l ≡ longest (longest best es l) fs l
longest_append [] fs best l = refl
longest_append (e ∷ es) fs best l = longest_append es fs (longer best e.0 (len e.1 l)) l

-- an ASCII letter or an underscore: besides a keyword it starts a name and nothing else
letter_alike : (b : ℕ) → b < 256 → ascii_begins b ≡ true → alike others b 95 ≡ true
unfolding others table
letter_alike b h t =
    or_rest (not (ascii_begins b)) (alike others b 95) (at_each (λ (x : ℕ). not (ascii_begins x) || alike others x 95) 0 256 tt b zero-le h) (ap not t)

module _ (s : List ℕ) (at : ℕ) (within : at < length s) (byte : get_or s at 0 < 256) (h : ascii_begins (get_or s at 0) ≡ true) where
  cut_word : drop at s ≡ get_or s at 0 ∷ drop (at + 1) s
  cut_word = at_cons s at within

  only_name : (best : ℕ × ℕ) → longest best others (drop at s) ≡ longer best Identifier (P.name (drop at s))
  only_name best =
      ap (longest best others) cut_word
      ∙ narrow others best (get_or s at 0) 95 (drop (at + 1) s) (letter_alike _ byte h)
      ∙ ap (λ (es : List Entry). longest best es (get_or s at 0 ∷ drop (at + 1) s)) keep_name
      ∙ ap (λ (l : List ℕ). longer best Identifier (P.name l)) (sym cut_word)

  some_name : (n : ℕ) → P.name (drop at s) ≡ n → n ≡ 0 → ⊥
  some_name n e z = omega (arith, name_some s at within h)

  pub word : token_at_lem s at ≡ word_at s at
  unfolding token_at_lem word_at
  word =
      ap (found at)
      (ap (λ (es : List Entry). longest (0, 0) es (drop at s)) table_is
      ∙ longest_append (literals keywords) others (0, 0) (drop at s)
      ∙ only_name (longest (0, 0) (literals keywords) (drop at s))
      ∙ best_word keywords (drop at s) (P.name (drop at s)) 0 0 keywords_words (name_run s at within h) zero-le)
      ∙ rw (ne_eqb 0 (P.name (drop at s)) (λ e. some_name _ refl (sym e)), ne_eqb (P.name (drop at s)) 0 (some_name _ refl))

-- a byte over 127: it starts a name or nothing
module _ (s : List ℕ) (at : ℕ) (within : at < length s) (high : 128 ≤ get_or s at 0) (byte : get_or s at 0 < 256) where
  non_ascii_alike : alike table (get_or s at 0) 128 ≡ true
  unfolding table
  non_ascii_alike = at_each (λ (x : ℕ). alike table x 128) 128 128 tt _ high byte

  pub non_ascii : token_at_lem s at ≡ name_at s at
  unfolding name_at
  non_ascii = by_byte s at _ 128 within refl non_ascii_alike ((Identifier, name) ∷ []) keep_non_ascii ∙ only_one at Identifier (P.name (drop at s))

-- what starts no token
pub nothing : (s : List ℕ) (at : ℕ) → at < length s → alike table (get_or s at 0) 0 ≡ true → token_at_lem s at ≡ None
nothing s at h a = none s at _ 0 h refl a keep_none

-- at the end of the list no pattern matches
len_nil : (p : Pattern) → len p [] ≡ 0
unfolding P.literal P.name P.int P.float
len_nil (literal []) = refl
len_nil (literal (a ∷ w)) = refl
len_nil name = name_nil
len_nil int = behind_none 0 0 refl
len_nil float = refl
len_nil string = refl

longest_nil : (es : List Entry) (best : ℕ × ℕ) → longest best es [] ≡ best
longest_nil [] best = refl
longest_nil (e ∷ es) best = rw (len_nil e.1, longer_none best e.0) (longest_nil es best)

pub past_end : (s : List ℕ) (at : ℕ) → length s ≤ at → token_at_lem s at ≡ None
unfolding token_at_lem
past_end s at h = ap (λ (l : List ℕ). found at (longest (0, 0) table l)) (past s at h) ∙ ap (found at) (longest_nil table (0, 0))
