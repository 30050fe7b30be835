-- Where characters begin in a well-formed source: at each byte that is not 10xxxxxx, so wherever a token that the table finds starts.
-- Assumes nothing.
use mathlib.Core.Path.{◌≡◌, refl, sym, ap, ◌∙◌}
use mathlib.Core.Bool.{true, false, true≢false}
use mathlib.Core.List.{List, [], ◌∷◌, ◌++◌}
use Prim.Native.Nat.{ℕ, zero, suc, ◌+◌, ◌-◌, ◌<◌, ◌≤◌}
use native.Mathlib.Decide.{dec_lt}
use native.Mathlib.Omega.{arith}
use lib.ListN.{length, get_or, take, drop, length-append}
use lib.Seq.{take_at, drop_at}
use borrow.Author.Tests.{lt-leb}
use Rattle.std.specs.Prelude.{None, Some}
use Rattle.source.proofs.Bools.{and_left, and_right}
use Rattle.source.proofs.Lists.{at_cons}
use Rattle.utf8.specs.Table.{sequence_length, utf8_error_lem}
use Rattle.raw_token.specs.Table.{raw_token, token_at_lem}
use Rattle.raw_token.specs.Pattern as P
use Rattle.raw_token.specs.Parts.{name_at}
use Rattle.raw_token.proofs.Names.{name_begins}
use Rattle.raw_token.proofs.First.{non_ascii}
use Rattle.raw_token.proofs.Within.{token_within, found_best}
use Rattle.lexical.specs.Characters.{is_character, are_characters, bytes_of, characters}
use Rattle.lexical.proofs.WellFormed.{bytes_append, are_left, are_right, byte_below}
use Rattle.lexical.proofs.Characters.{not_empty, whole, well, trailing, all_trailing, behind_first, sequence_first}

-- ---- a byte that is none of those behind the first of a character begins one

-- the characters, parted at a place of their bytes
record Parted (cs : List (List ℕ)) (at : ℕ) : Type 0 where
  before : List (List ℕ)
  after : List (List ℕ)
  is_both : cs ≡ before ++ after
  place : length (bytes_of before) ≡ at

skip : (m l : List ℕ) (at : ℕ) → all_trailing m ≡ true → at < length (m ++ l) → trailing (get_or (m ++ l) at 0) ≡ false → (length m ≤ at) × ((at - length m < length l) × (trailing (get_or l (at - length m) 0) ≡ false))
skip [] l at h w b = (omega arith, rw (at_zero at) (w, b))
  where
    at_zero : (n : ℕ) → n - 0 ≡ n
    at_zero n = omega arith
skip (a ∷ m) l zero h w b = absurd (true≢false (sym (and_left (trailing a) (all_trailing m) h) ∙ b))
skip (a ∷ m) l (suc at) h w b =
    let x = skip m l at (and_right (trailing a) (all_trailing m) h) (omega arith) b in
    let e : suc at - suc (length m) ≡ at - length m = omega arith in
    (omega arith, rw e x.1)

parted : (cs : List (List ℕ)) (at : ℕ) → are_characters cs ≡ true → at < length (bytes_of cs) → trailing (get_or (bytes_of cs) at 0) ≡ false → Parted cs at
parted [] at e w b = absurd (omega arith)
parted ([] ∷ cs) at e w b = absurd (not_empty (and_left (is_character []) (are_characters cs) e))
parted ((a ∷ m) ∷ cs) zero e w b = record { before = []; after = (a ∷ m) ∷ cs; is_both = refl; place = refl }
parted ((a ∷ m) ∷ cs) (suc at) e w b =
    let x = skip m (bytes_of cs) at (behind_first a m (and_left (is_character (a ∷ m)) (are_characters cs) e)) (omega arith) b in
    let p = parted cs (at - length m) (and_right (is_character (a ∷ m)) (are_characters cs) e) x.1.0 x.1.1 in
    record { before = (a ∷ m) ∷ p.before; after = p.after; is_both = ap (◌∷◌ (a ∷ m)) p.is_both; place = omega (arith, length-append m (bytes_of p.before), p.place, x.0) }

-- a place between characters
abbrev pub Between : List ℕ → ℕ → Type 0
Between s at = (utf8_error_lem (take at s) ≡ None) × (utf8_error_lem (drop at s) ≡ None)

boundary : (s : List ℕ) (at : ℕ) → utf8_error_lem s ≡ None → at < length s → trailing (get_or s at 0) ≡ false → Between s at
boundary s at w h b =
    let x = whole s w in
    let p = parted (characters s) at x.0 (rw x.1 h) (rw x.1 b) in
    let both : bytes_of p.before ++ bytes_of p.after ≡ s = sym (bytes_append p.before p.after) ∙ ap bytes_of (sym p.is_both) ∙ x.1 in
    let each : are_characters (p.before ++ p.after) ≡ true = ap are_characters (sym p.is_both) ∙ x.0 in (
      rw (← both, take_at (bytes_of p.before) (bytes_of p.after) at p.place) (well p.before (are_left p.before p.after each)),
      rw (← both, drop_at (bytes_of p.before) (bytes_of p.after) at p.place) (well p.after (are_right p.before p.after each)),
    )

-- such is that of a byte under 128
pub between_characters : (s : List ℕ) (at : ℕ) → utf8_error_lem s ≡ None → at < length s → get_or s at 0 < 128 → Between s at
between_characters s at w h b = boundary s at w h (rw (lt-leb 128 (get_or s at 0) b))

-- and one where a sequence begins
sequence_starts : (s : List ℕ) (at : ℕ) → utf8_error_lem s ≡ None → at < length s → 0 < sequence_length (drop at s) → Between s at
sequence_starts s at w h k = boundary s at w h (sequence_first (get_or s at 0) (drop (at + 1) s) (rw (at_cons s at h) at k))

name_some : (s : List ℕ) (at code end : ℕ) → name_at s at ≡ Some (raw_token code end) → 0 < P.name (drop at s)
unfolding name_at
name_some s at code end e = (found_best at _ code end e).some

-- any token that the table finds starts between characters
pub token_starts : (s : List ℕ) (at code end : ℕ) → utf8_error_lem s ≡ None → token_at_lem s at ≡ Some (raw_token code end) → Between s at
token_starts s at code end w f = go (dec_lt (get_or s at 0) 128) (omega (arith, token_within s at code end f))
  where
    go : Dec (get_or s at 0 < 128) → at < length s → Between s at
    go (yes h) k = between_characters s at w k h
    go (no h) k = sequence_starts s at w k (name_begins (drop at s) (name_some s at code end (sym (non_ascii s at k (omega arith) (byte_below s at w)) ∙ f))).0
