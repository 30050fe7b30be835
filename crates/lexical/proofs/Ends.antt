-- Where tokens end in a well-formed source: between characters. A name is whole characters from its start on; any other token ends with a byte under
-- 128, which is a character by itself.
-- Assumes nothing.
use mathlib.Core.Path.{◌≡◌, refl, sym, ap, ◌∙◌}
use mathlib.Core.Bool.{Bool, true, false, ◌&&◌, true≢false}
use mathlib.Core.List.{List, [], ◌∷◌, ◌++◌, append_assoc, append-nil}
use Prim.Native.Nat.{ℕ, ◌+◌, ◌<◌}
use native.Mathlib.Omega.{arith}
use lib.Dec.{leb, ltb}
use lib.ListN.{length, take, drop, length-append, take-append-drop}
use lib.Seq.{take-append_seam, drop-append_seam, get_or-append_seam, drop-drop, take-add}
use borrow.Author.Tests.{eqb-true, leb-true, ltb-true}
use Rattle.std.specs.Prelude.{None}
use Rattle.source.proofs.Bools.{and_left, and_right}
use Rattle.utf8.specs.Table.{utf8_error_lem}
use Rattle.std.specs.Prelude as Prelude
use Rattle.raw_token.specs.Pattern.{continues_name}
use Rattle.raw_token.specs.Table.{raw_token, Pattern, literal, int, string, name, float, len, table, token_at_lem}
use Rattle.raw_token.proofs.Laws.{all, matched}
use Rattle.raw_token.proofs.Within.{token_within}
use Rattle.lexical.specs.Matches.{byte, Character, character, ◌then◌, joined, left, right, absent, present, Some, last, more, Digits, Int, Fraction, Float, Name, Quoted, Matches}
use Rattle.lexical.proofs.WellFormed.{both_well, behind_well, character_well, low_well}
use Rattle.lexical.proofs.Boundaries.{Between, between_characters, token_starts}
use Rattle.lexical.proofs.Patterns.{filled, finds}

-- ---- a place between characters

-- behind a well-formed list that stands there
pub passed : (s : List ℕ) (at n : ℕ) → Between s at → utf8_error_lem (take n (drop at s)) ≡ None → Between s (at + n)
passed s at n b w =
    let e : take n (drop at s) ++ drop (at + n) s ≡ drop at s = rw (← drop-drop n at s) (take-append-drop n (drop at s)) in
    (rw (take-add at n s) (both_well (take at s) (take n (drop at s)) b.0 w), behind_well (take n (drop at s)) (drop (at + n) s) w (rw e b.1))

-- behind a byte under 128
behind_low : (a : List ℕ) (b : ℕ) (r : List ℕ) → b < 128 → utf8_error_lem (a ++ b ∷ r) ≡ None → (utf8_error_lem (a ++ b ∷ []) ≡ None) × (utf8_error_lem r ≡ None)
behind_low a b r h w =
    let x = between_characters (a ++ b ∷ r) (length a) w (omega (arith, length-append a (b ∷ r))) (rw (get_or-append_seam a b r 0) h) in
    let f : utf8_error_lem a ≡ None = rw (take-append_seam a (b ∷ r)) at x.0 in
    let g : utf8_error_lem (b ∷ r) ≡ None = rw (drop-append_seam a (b ∷ r)) at x.1 in
    (both_well a (b ∷ []) f (low_well b h), behind_well (b ∷ []) r (low_well b h) g)

-- ---- the words of the patterns

-- a word with a last byte under 128
record Low (w : List ℕ) : Type 0 where
  front : List ℕ
  final : ℕ
  is_all : w ≡ front ++ final ∷ []
  low : final < 128

low_byte : (b : ℕ) → b < 128 → Low (b ∷ [])
low_byte b h = record { front = []; final = b; is_all = refl; low = h }

low_behind : (u : List ℕ) {v : List ℕ} → Low v → Low (u ++ v)
low_behind u x =
    record { front = u ++ x.front; final = x.final; is_all = ap (◌++◌ u) x.is_all ∙ sym (append_assoc u x.front (x.final ∷ [])); low = x.low }

digits_low : {w : List ℕ} → Digits w → Low w
digits_low (last (byte b h)) = let k = leb-true b 57 (and_right (leb 48 b) (leb b 57) h) in low_byte b (omega arith)
digits_low (more {u = u} d r) = low_behind u (digits_low r)

int_low : {w : List ℕ} → Int w → Low w
int_low (joined {u = u} s d) = low_behind u (digits_low d)

fraction_low : {w : List ℕ} → (Digits then Fraction) w → Low w
fraction_low (joined {u = u} d (joined {u = p} s f)) = low_behind u (low_behind p (digits_low f))

float_low : {w : List ℕ} → Float w → Low w
float_low (joined {u = u} n absent) = rw (append-nil u) (fraction_low n)
float_low (joined {u = u} n (present (joined {u = e} x i))) = low_behind u (low_behind e (int_low i))

quoted_low : (q : ℕ) → q < 128 → {w : List ℕ} → Quoted q w → Low w
quoted_low q h (joined {u = u} m (byte b e)) = let k = eqb-true b q e in low_behind u (low_byte b (omega arith))

-- a text's last byte is under 128
abbrev low_text : List ℕ → Bool
low_text [] = false
low_text (b ∷ []) = ltb b 128
low_text (a ∷ b ∷ t) = low_text (b ∷ t)

text_low : (t : List ℕ) → low_text t ≡ true → Low t
text_low [] e = absurd (true≢false (sym e))
text_low (b ∷ []) e = low_byte b (ltb-true b 128 e)
text_low (a ∷ b ∷ t) e = low_behind (a ∷ []) (text_low (b ∷ t) e)

-- a name is whole characters
some_well : (c : ℕ → Bool) {w : List ℕ} → Some (Character c) w → utf8_error_lem w ≡ None
some_well c (last {w = w} (character i h)) = character_well w i
some_well c (more {u = u} {v = v} (character i h) r) = both_well u v (character_well u i) (some_well c r)

name_well : {w : List ℕ} → Name w → utf8_error_lem w ≡ None
name_well (joined {u = u} (character i h) absent) = rw (append-nil u) (character_well u i)
name_well (joined {u = u} {v = v} (character i h) (present r)) = both_well u v (character_well u i) (some_well continues_name r)

-- so a word has a last byte under 128, or is well-formed
data Ends (w : List ℕ) : Type 0 where
  by_low : Low w → Ends w
  by_characters : utf8_error_lem w ≡ None → Ends w

-- what is asked of each entry of the table: it has a byte, and a text's last is under 128
abbrev closed : Pattern → Bool
closed (literal t) = low_text t
closed int = true
closed string = true
closed name = true
closed float = true

abbrev asked : ℕ → Pattern → Bool
asked c p = filled p && closed p

all_asked : all asked table ≡ true
unfolding table
all_asked = refl

ends : (p : Pattern) → closed p ≡ true → {w : List ℕ} → Matches p w → Ends w
ends (literal t) h e = rw e (by_low (text_low t h))
ends int h w = by_low (int_low w)
ends string h (left w) = by_low (quoted_low 34 (omega arith) w)
ends string h (right w) = by_low (quoted_low 39 (omega arith) w)
ends name h w = by_characters (name_well w)
ends float h w = by_low (float_low w)

-- ---- the tokens

module _ (s : List ℕ) (at code end : ℕ) (w : utf8_error_lem s ≡ None) (f : token_at_lem s at ≡ Prelude.Some (raw_token code end)) where
  -- a token that starts between characters ends between them
  pub ends_at : Between s at → Between s end
  ends_at b =
      let m = matched asked all_asked s at code end f in
      let n = len m.pattern (drop at s) in
      let e = m.ends in
      let t = token_within s at code end f in
      let word = (finds m.pattern (and_left (filled m.pattern) (closed m.pattern) m.holds)).word (drop at s) (omega arith) in
      rw e (go n (ends m.pattern (and_right (filled m.pattern) (closed m.pattern) m.holds) word))
    where
      go : (n : ℕ) → Ends (take n (drop at s)) → Between s (at + n)
      go n (by_characters v) = passed s at n b v
      go n (by_low x) =
          let e : take (at + n) s ≡ (take at s ++ x.front) ++ x.final ∷ [] = take-add at n s ∙ ap (◌++◌ (take at s)) x.is_all ∙ sym (append_assoc (take at s) x.front (x.final ∷ [])) in
          let d : ((take at s ++ x.front) ++ x.final ∷ drop (at + n) s) ≡ s = sym (append_assoc (take at s ++ x.front) (x.final ∷ []) (drop (at + n) s)) ∙ ap (λ (l : List ℕ). l ++ drop (at + n) s) (sym e) ∙ take-append-drop (at + n) s in
          rw e (behind_low (take at s ++ x.front) x.final (drop (at + n) s) x.low (rw d w))

-- any token that the table finds in a well-formed source ends between characters
pub token_ends : (s : List ℕ) (at code end : ℕ) → utf8_error_lem s ≡ None → token_at_lem s at ≡ Prelude.Some (raw_token code end) → Between s end
token_ends s at code end w f = ends_at s at code end w f (token_starts s at code end w f)
