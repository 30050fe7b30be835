-- Well-formed lists: their characters one behind the other, what follows one in another, and that their bytes are under 256.
-- Assumes nothing.
use mathlib.Core.Path.{◌≡◌, refl, sym, ap, ◌∙◌}
use mathlib.Core.Bool.{Bool, true, ◌&&◌, true≢false}
use mathlib.Core.List.{List, [], ◌∷◌, ◌++◌, append_assoc, append-nil}
use Prim.Native.Nat.{ℕ, zero, suc, ◌<◌}
use native.Mathlib.Omega.{arith}
use lib.Dec.{eqb, leb, ltb}
use lib.ListN.{length, get_or, drop}
use lib.Seq.{take-append_seam, drop-append_seam}
use borrow.Author.Tests.{eqb-true, leb-true, ltb-true, lt-ltb}
use Rattle.std.specs.Prelude.{None}
use Rattle.source.specs.Bytes.{between}
use Rattle.source.proofs.Bools.{and_left, and_right, and_assoc, or_either}
use Rattle.utf8.specs.Table.{Row, rows, fits, utf8_error_lem}
use Rattle.utf8.proofs.Rows.{low_sequence}
use Rattle.lexical.specs.Characters.{is_of, is_character, are_characters, bytes_of, cut, characters}
use Rattle.lexical.proofs.Characters.{at_front, front_is_character, not_empty, whole, well}

-- ---- characters one behind the other

pub bytes_append : (a b : List (List ℕ)) → bytes_of (a ++ b) ≡ bytes_of a ++ bytes_of b
bytes_append [] b = refl
bytes_append (c ∷ a) b = rw (bytes_append a b) (sym (append_assoc c (bytes_of a) (bytes_of b)))

are_append : (a b : List (List ℕ)) → are_characters (a ++ b) ≡ (are_characters a && are_characters b)
are_append [] b = refl
are_append (c ∷ a) b = rw (are_append a b) (sym (and_assoc (is_character c) (are_characters a) (are_characters b)))

pub are_left : (a b : List (List ℕ)) → are_characters (a ++ b) ≡ true → are_characters a ≡ true
are_left a b e = and_left (are_characters a) (are_characters b) (sym (are_append a b) ∙ e)

pub are_right : (a b : List (List ℕ)) → are_characters (a ++ b) ≡ true → are_characters b ≡ true
are_right a b e = and_right (are_characters a) (are_characters b) (sym (are_append a b) ∙ e)

-- ---- well-formed lists one behind the other

pub both_well : (a b : List ℕ) → utf8_error_lem a ≡ None → utf8_error_lem b ≡ None → utf8_error_lem (a ++ b) ≡ None
both_well a b w v =
    let x = whole a w in
    let y = whole b v in
    let e : bytes_of (characters a ++ characters b) ≡ a ++ b = rw (bytes_append (characters a) (characters b), x.1, y.1) in
    rw (← e) (well (characters a ++ characters b) (are_append (characters a) (characters b) ∙ rw (x.0, y.0)))

-- what follows a character in a well-formed list is well-formed
behind_character : (c r : List ℕ) → is_character c ≡ true → utf8_error_lem (c ++ r) ≡ None → utf8_error_lem r ≡ None
unfolding characters cut
behind_character [] r i w = absurd (not_empty i)
behind_character (b ∷ c) r i w = go (length (c ++ r)) (rw (at_front (b ∷ c) r i, take-append_seam c r, drop-append_seam c r) at (whole (b ∷ (c ++ r)) w))
  where
    go : (n : ℕ) → (are_characters ((b ∷ c) ∷ cut n r) ≡ true) × (bytes_of ((b ∷ c) ∷ cut n r) ≡ (b ∷ c) ++ r) → utf8_error_lem r ≡ None
    go n x =
        let e : bytes_of (cut n r) ≡ r = sym (drop-append_seam (b ∷ c) (bytes_of (cut n r))) ∙ ap (drop (length (b ∷ c))) x.1 ∙ drop-append_seam (b ∷ c) r in
        rw e at (well (cut n r) (and_right (is_character (b ∷ c)) (are_characters (cut n r)) x.0))

behind_characters : (cs : List (List ℕ)) (r : List ℕ) → are_characters cs ≡ true → utf8_error_lem (bytes_of cs ++ r) ≡ None → utf8_error_lem r ≡ None
behind_characters [] r e w = w
behind_characters (c ∷ cs) r e w =
    behind_characters cs r (and_right (is_character c) (are_characters cs) e)
    (behind_character c (bytes_of cs ++ r) (and_left (is_character c) (are_characters cs) e) (rw (append_assoc c (bytes_of cs) r) at w))

-- and what follows a well-formed list in one
pub behind_well : (a r : List ℕ) → utf8_error_lem a ≡ None → utf8_error_lem (a ++ r) ≡ None → utf8_error_lem r ≡ None
behind_well a r w v = let x = whole a w in behind_characters (characters a) r x.0 (rw x.1 v)

-- one character, and a byte under 128
pub character_well : (c : List ℕ) → is_character c ≡ true → utf8_error_lem c ≡ None
character_well c i = rw (append-nil c) at (well (c ∷ []) (rw i))

pub low_well : (b : ℕ) → b < 128 → utf8_error_lem (b ∷ []) ≡ None
low_well b h =
    character_well (b ∷ []) (rw (low_sequence b [] h) at (front_is_character (b ∷ []) (rw (low_sequence b [] h) (omega arith))))

-- ---- its bytes are under 256

-- each of them is
abbrev bytes : List ℕ → Bool
bytes [] = true
bytes (b ∷ l) = ltb b 256 && bytes l

bytes_both : (a b : List ℕ) → bytes a ≡ true → bytes b ≡ true → bytes (a ++ b) ≡ true
bytes_both [] b e f = f
bytes_both (x ∷ a) b e f = rw (and_left (ltb x 256) (bytes a) e) (bytes_both a b (and_right (ltb x 256) (bytes a) e) f)

bytes-at : (l : List ℕ) (i : ℕ) → bytes l ≡ true → get_or l i 0 < 256
bytes-at [] i e = omega arith
bytes-at (b ∷ l) zero e = ltb-true b 256 (and_left (ltb b 256) (bytes l) e)
bytes-at (b ∷ l) (suc i) e = bytes-at l i (and_right (ltb b 256) (bytes l) e)

-- each range of a row ends under 256
abbrev byte_row : Row → Bool
byte_row [] = true
byte_row (r ∷ rs) = ltb r.1 256 && byte_row rs

abbrev byte_rows : List Row → Bool
byte_rows [] = true
byte_rows (row ∷ rs) = byte_row row && byte_rows rs

rows_bytes : byte_rows rows ≡ true
unfolding rows
rows_bytes = refl

fits_bytes : (row : Row) (c : List ℕ) → byte_row row ≡ true → fits row c ≡ true → length row ≡ length c → bytes c ≡ true
fits_bytes row [] t f n = refl
fits_bytes [] (b ∷ c) t f n = absurd (omega arith)
fits_bytes (r ∷ rs) (b ∷ c) t f n =
    let h = ltb-true r.1 256 (and_left (ltb r.1 256) (byte_row rs) t) in
    let k = leb-true b r.1 (and_right (leb r.0 b) (leb b r.1) (and_left (between r.0 r.1 b) (fits rs c) f)) in
    rw (lt-ltb b 256 (omega arith)) (fits_bytes rs c (and_right (ltb r.1 256) (byte_row rs) t) (and_right (between r.0 r.1 b) (fits rs c) f) (omega arith))

of_bytes : (rs : List Row) (c : List ℕ) → byte_rows rs ≡ true → is_of rs c ≡ true → bytes c ≡ true
of_bytes [] c t e = absurd (true≢false (sym e))
of_bytes (row ∷ rs) c t e =
    or_either (fits row c && eqb (length row) (length c)) (is_of rs c)
    (λ x. fits_bytes row c (and_left (byte_row row) (byte_rows rs) t) (and_left (fits row c) _ x) (eqb-true (length row) (length c) (and_right (fits row c) _ x)))
    (λ x. of_bytes rs c (and_right (byte_row row) (byte_rows rs) t) x)
    e

characters_bytes : (cs : List (List ℕ)) → are_characters cs ≡ true → bytes (bytes_of cs) ≡ true
characters_bytes [] e = refl
characters_bytes (c ∷ cs) e =
    bytes_both c (bytes_of cs) (of_bytes rows c rows_bytes (and_left (is_character c) (are_characters cs) e)) (characters_bytes cs (and_right (is_character c) (are_characters cs) e))

-- a byte of a well-formed list is under 256
pub byte_below : (l : List ℕ) (i : ℕ) → utf8_error_lem l ≡ None → get_or l i 0 < 256
byte_below l i w = let x = whole l w in bytes-at l i (rw x.1 at (characters_bytes (characters l) x.0))
