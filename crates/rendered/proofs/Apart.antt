-- What stands behind a lexeme that begins with no quote: bytes that are `apart` may be any.
-- Assumes nothing.
use mathlib.Core.Path.{◌≡◌, refl, sym, ap, ◌∙◌}
use mathlib.Core.Bool.{Bool, true, false, cond, ◌&&◌, true≢false}
use mathlib.Core.List.{List, [], ◌∷◌, ◌++◌}
use Prim.Native.Nat.{ℕ, ◌<◌, suc-le-suc, zero-le}
use native.Mathlib.Omega.{arith}
use lib.Dec.{eqb, leb}
use lib.ListN.{get_or}
use borrow.Author.Tests.{ne_eqb, eqb-true, leb-false}
use Rattle.source.specs.Bytes.{run, digit}
use Rattle.source.proofs.Bools.{and_left, and_right, or_left, or_right}
use Rattle.source.proofs.Lists.{run_le}
use Rattle.raw_token.specs.Pattern as P
use Rattle.raw_token.specs.Pattern.{begins_name_lem, continues_name, is_sign_lem, is_dot, is_e, is_quote, one, character, many, seq, is_prefix}
use Rattle.raw_token.specs.Table.{Pattern, literal, int, string, name, float, len, Entry, table, longer, longest, found, token_at_lem}
use Rattle.raw_token.specs.Parts.{ascii_begins, ascii_continues_lem}
use Rattle.raw_token.proofs.Steps.{behind_none}
use Rattle.raw_token.proofs.Names.{low_character, character_le, ascii-begins, ascii-continues}
use Rattle.raw_token.proofs.Words.{all_in}
use Rattle.raw_token.proofs.Within.{seq_le, fraction_le}
use Rattle.raw_token.proofs.Laws.{all}
use Rattle.rendered.proofs.Lexeme.{inner, apart}
use Rattle.rendered.proofs.Stops.{Stops, run_stops, seq_one_stops, maybe_one_stops, seq_stops, and_maybe_stops}
use Rattle.rendered.proofs.Names.{character_stops, many_stops}

-- the test `apart`, as facts
record Apart (r : List ℕ) : Type 0 where
  inner_none : one inner r ≡ 0
  int_none : P.int r ≡ 0
  fraction_none : P.fraction r ≡ 0

apart_facts : (r : List ℕ) → apart r ≡ true → Apart r
unfolding apart
apart_facts r e =
    let f = and_right (eqb (one inner r) 0) (eqb (P.int r) 0 && eqb (P.fraction r) 0) e in
    record {
      inner_none = eqb-true (one inner r) 0 (and_left (eqb (one inner r) 0) (eqb (P.int r) 0 && eqb (P.fraction r) 0) e);
      int_none = eqb-true (P.int r) 0 (and_left (eqb (P.int r) 0) (eqb (P.fraction r) 0) f);
      fraction_none = eqb-true (P.fraction r) 0 (and_right (eqb (P.int r) 0) (eqb (P.fraction r) 0) f);
    }

-- ---- classes within `inner`

abbrev Within : (ℕ → Bool) → Type 0
Within c = (b : ℕ) → inner b ≡ false → c b ≡ false

inner_low : (b : ℕ) → inner b ≡ false → b < 128
inner_low b e = leb-false 128 b (or_right (ascii_continues_lem b) (leb 128 b) (or_left _ _ (or_left _ _ e)))

within_ascii : Within ascii_continues_lem
within_ascii b e = or_left _ _ (or_left _ _ (or_left _ _ e))

within_continues : Within continues_name
within_continues b e = ascii-continues b (inner_low b e) ∙ within_ascii b e

within_begins : Within begins_name_lem
within_begins b e = ascii-begins b (inner_low b e) ∙ or_left (ascii_begins b) (digit b) (within_ascii b e)

pub within_digit : Within digit
within_digit b e = or_right (ascii_begins b) (digit b) (within_ascii b e)

within_one : (k : ℕ) → inner k ≡ true → Within (λ (b : ℕ). eqb b k)
within_one k t b e = ne_eqb b k (λ q. true≢false (sym t ∙ ap inner (sym q) ∙ e))

within_e : Within is_e
within_e b e = rw (within_one 101 refl b e, within_one 69 refl b e)

no_inner : (b : ℕ) (r : List ℕ) → one inner (b ∷ r) ≡ 0 → inner b ≡ false
no_inner b r z = go (inner b) z
  where
    go : (t : Bool) → ◌≡◌ {A = ℕ} (cond t 1 0) 0 → t ≡ false
    go true e = absurd (omega arith)
    go false e = refl

first_low : (r : List ℕ) → one inner r ≡ 0 → get_or r 0 0 < 128
first_low [] z = suc-le-suc zero-le
first_low (b ∷ r) z = inner_low b (no_inner b r z)

module _ (c : ℕ → Bool) (within : Within c) where
  run_none : (r : List ℕ) → one inner r ≡ 0 → run c r ≡ 0
  run_none [] z = refl
  run_none (b ∷ r) z = rw (within b (no_inner b r z))

  seq_none : (q : List ℕ → ℕ) (r : List ℕ) → one inner r ≡ 0 → seq (one c) q r ≡ 0
  seq_none q [] z = refl
  seq_none q (b ∷ r) z = rw (within b (no_inner b r z))

  character_none : (r : List ℕ) → one inner r ≡ 0 → character c r ≡ 0
  character_none [] z = let h = character_le c [] in omega arith
  character_none (b ∷ r) z =
      let e = no_inner b r z in
      low_character c b r (inner_low b e) ∙ rw (within b e)

-- ---- the patterns

module _ (r : List ℕ) (a : Apart r) where
  digits_stop : Stops r (run digit)
  digits_stop = run_stops digit r (run_none digit within_digit r a.inner_none)

  name_stops : Stops r P.name
  unfolding P.name
  name_stops =
      let z = a.inner_none in
      let low = first_low r z in
      and_maybe_stops (character begins_name_lem) (many continues_name) r (character_le begins_name_lem)
      (character_stops begins_name_lem r low (character_none begins_name_lem within_begins r z))
      (many_stops continues_name r low (character_none continues_name within_continues r z))

  int_stops : Stops r P.int
  unfolding P.int
  int_stops = maybe_one_stops is_sign_lem (run digit) r digits_stop (a.int_none ∙ sym (behind_none 0 0 refl))

  fraction_stops : Stops r P.fraction
  unfolding P.fraction
  fraction_stops = seq_one_stops is_dot (run digit) r digits_stop a.fraction_none

  exponent_stops : Stops r P.exponent
  unfolding P.exponent
  exponent_stops = seq_one_stops is_e P.int r int_stops (seq_none is_e within_e P.int r a.inner_none)

  float_stops : Stops r P.float
  unfolding P.float
  float_stops =
      and_maybe_stops (seq (run digit) P.fraction) P.exponent r (seq_le (run digit) P.fraction (run_le digit) fraction_le)
      (seq_stops (run digit) P.fraction r (run_le digit) digits_stop fraction_stops) exponent_stops

-- a fixed text, of which the bytes behind the first are of the class `inner`
prefix_none : (a : ℕ) (w r : List ℕ) → inner a ≡ true → one inner r ≡ 0 → is_prefix (a ∷ w) r ≡ false
prefix_none a w [] t z = refl
prefix_none a w (b ∷ r) t z = rw (within_one a t b (no_inner b r z))

prefix_stops : (w l r : List ℕ) → all_in inner w ≡ true → one inner r ≡ 0 → is_prefix w (l ++ r) ≡ is_prefix w l
prefix_stops [] l r t z = refl
prefix_stops (a ∷ w) [] r t z = prefix_none a w r (and_left (inner a) (all_in inner w) t) z
prefix_stops (a ∷ w) (b ∷ l) r t z = rw (prefix_stops w l r (and_right (inner a) (all_in inner w) t) z)

-- ---- the table

inside : ℕ → Pattern → Bool
inside c (literal []) = true
inside c (literal (a ∷ w)) = all_in inner w
inside c int = true
inside c string = true
inside c name = true
inside c float = true

all_inside : all inside table ≡ true
unfolding inside table
all_inside = refl

len_stops : (c : ℕ) (p : Pattern) (b : ℕ) (l r : List ℕ) → inside c p ≡ true → is_quote b ≡ false → Apart r → len p (b ∷ (l ++ r)) ≡ len p (b ∷ l)
unfolding inside P.literal
len_stops c (literal []) b l r t q a = refl
len_stops c (literal (k ∷ w)) b l r t q a = rw (prefix_stops w l r t a.inner_none)
len_stops c int b l r t q a = int_stops r a (b ∷ l)
len_stops c string b l r t q a = rw q
len_stops c name b l r t q a = name_stops r a (b ∷ l)
len_stops c float b l r t q a = float_stops r a (b ∷ l)

longest_stops : (es : List Entry) (best : ℕ × ℕ) (b : ℕ) (l r : List ℕ) → all inside es ≡ true → is_quote b ≡ false → Apart r → longest best es (b ∷ (l ++ r)) ≡ longest best es (b ∷ l)
longest_stops [] best b l r t q a = refl
longest_stops (e ∷ es) best b l r t q a =
    rw (len_stops e.0 e.1 b l r (and_left (inside e.0 e.1) (all inside es) t) q a)
    (longest_stops es (longer best e.0 (len e.1 (b ∷ l))) b l r (and_right (inside e.0 e.1) (all inside es) t) q a)

pub apart_stays : (b : ℕ) (l r : List ℕ) → is_quote b ≡ false → apart r ≡ true → token_at_lem (b ∷ (l ++ r)) 0 ≡ token_at_lem (b ∷ l) 0
unfolding token_at_lem
apart_stays b l r q a = ap (found 0) (longest_stops table (0, 0) b l r all_inside q (apart_facts r a))
