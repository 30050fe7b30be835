-- The characters of a name: their length, as `raw_token` takes it, is that of the longest word of such characters at the front.
-- Assumes nothing.
use mathlib.Core.Path.{◌≡◌, refl, ap, ◌∙◌}
use mathlib.Core.Bool.{Bool, true, false, cond}
use mathlib.Core.List.{List, [], ◌∷◌, ◌++◌, append_assoc}
use Prim.Native.Nat.{ℕ, zero, suc, ◌+◌, ◌<◌, ◌≤◌, zero-le, suc-le-suc}
use native.Mathlib.Nat.{le_refl, zero-add, add-zero}
use native.Mathlib.Omega.{arith}
use lib.Dec.{leb}
use lib.ListN.{length, take, drop, length-append}
use lib.Seq.{take-add, take-append_seam, drop-append_seam}
use borrow.Author.Tests.{leb-false}
use Rattle.source.proofs.Bools.{or_left, or_right}
use Rattle.utf8.specs.Table.{sequence_length}
use Rattle.utf8.specs.Character.{first_code}
use Rattle.raw_token.specs.Pattern as P
use Rattle.raw_token.specs.Pattern.{begins_name_lem, continues_name, many}
use Rattle.raw_token.specs.Parts.{ascii_begins}
use Rattle.raw_token.specs.Table.{name}
use Rattle.raw_token.proofs.First.{starts}
use Rattle.raw_token.proofs.Names.{low_character, ascii-begins, many_step}
use Rattle.lexical.specs.Characters.{is_character}
use Rattle.lexical.specs.Matches.{Character, character, Some, last, more, Name}
use Rattle.lexical.proofs.Characters.{at_front, front_is_character, not_empty}
use Rattle.lexical.proofs.Finds.{Start, Finds, Cut, and_maybe_finds}

-- ---- one character

-- its length, wherever it stands at the front
character_at : (c : ℕ → Bool) (w rest : List ℕ) → Character c w → P.character c (w ++ rest) ≡ length w
unfolding first_code
character_at c w rest (character i h) = rw (at_front w rest i, take-append_seam w rest, h)

some : (w : List ℕ) → is_character w ≡ true → 0 < length w
some [] i = absurd (not_empty i)
some (b ∷ w) i = suc-le-suc zero-le

character_some : (c : ℕ → Bool) (w : List ℕ) → Character c w → 0 < length w
character_some c w (character i h) = some w i

character_word : (c : ℕ → Bool) (l : List ℕ) → 0 < P.character c l → Character c (take (P.character c l) l)
unfolding first_code
character_word c l h = go (c (first_code l)) refl h
  where
    go : (t : Bool) → c (first_code l) ≡ t → 0 < cond t (sequence_length l) 0 → Character c (take (cond t (sequence_length l) 0) l)
    go true e k = character (front_is_character l k) e
    go false e k = absurd (omega arith)

-- ---- one or more

-- any byte
abbrev any : ℕ → Bool
any b = true

some_start : (w : List ℕ) → 0 < length w → Start any w
some_start [] h = absurd (omega arith)
some_start (b ∷ w) h = record { first = b; others = w; is = refl; holds = refl }

start_any : (c : ℕ → Bool) (w : List ℕ) → Some (Character c) w → Start any w
start_any c w (last r) = some_start w (character_some c w r)
start_any c w (more {u = u} {v = v} r q) = some_start (u ++ v) (omega (arith, character_some c u r, length-append u v))

many_word : (c : ℕ → Bool) (n : ℕ) (l : List ℕ) → 0 < P.at_most n c l → Some (Character c) (take (P.at_most n c l) l)
many_word c zero l h = absurd (omega arith)
many_word c (suc n) l h = go (P.character c l) (character_word c l) (λ (k : ℕ). many_word c n (drop k l)) h
  where
    rest : (k m : ℕ) → (0 < k → Character c (take k l)) → (0 < m → Some (Character c) (take m (drop k l))) → 0 < k + m → Some (Character c) (take (k + m) l)
    rest zero m f g h = rw zero-add (g (omega arith))
    rest (suc k) zero f g h = rw add-zero (last (f (omega arith)))
    rest (suc k) (suc m) f g h = rw take-add (more (f (omega arith)) (g (omega arith)))

    go : (k : ℕ) → (0 < k → Character c (take k l)) → ((k : ℕ) → 0 < P.at_most n c (drop k l) → Some (Character c) (take (P.at_most n c (drop k l)) (drop k l))) → 0 < k + P.at_most n c (drop k l) → Some (Character c) (take (k + P.at_most n c (drop k l)) l)
    go k f g h = rest k (P.at_most n c (drop k l)) f (g k) h

-- a character at the front, and those behind it
many_front : (c : ℕ → Bool) (w rest : List ℕ) → Character c w → many c (w ++ rest) ≡ length w + many c rest
many_front c w rest r =
    many_step c (w ++ rest) (length w) (character_at c w rest r) (character_some c w r)
    ∙ ap (λ (l : List ℕ). length w + many c l) (drop-append_seam w rest)

many_most : (c : ℕ → Bool) (w rest : List ℕ) → Some (Character c) w → length w ≤ many c (w ++ rest)
many_most c w rest (last r) = rw (many_front c w rest r) (omega arith)
many_most c w rest (more {u = u} {v = v} r q) =
    let m = many_most c v rest q in
    rw (append_assoc, many_front c u (v ++ rest) r) (omega (arith, length-append u v))

many_finds : (c : ℕ → Bool) → Finds (many c) (Some (Character c)) any
many_finds c = record { start = start_any c; word = λ l h. many_word c (length l) l h; most = many_most c }

-- ---- a name

begins_start : (w : List ℕ) → Character begins_name_lem w → Start (starts name) w
begins_start [] r = let z = character_some begins_name_lem [] r in absurd (omega arith)
begins_start (b ∷ w) r = go (starts name b) refl
  where
    low : starts name b ≡ false → P.character begins_name_lem (b ∷ (w ++ [])) ≡ 0
    low e =
        let k = leb-false 128 b (or_right (ascii_begins b) (leb 128 b) e) in
        rw (low_character begins_name_lem b (w ++ []) k, ascii-begins b k, or_left (ascii_begins b) (leb 128 b) e)

    go : (t : Bool) → starts name b ≡ t → Start (starts name) (b ∷ w)
    go true e = record { first = b; others = w; is = refl; holds = e }
    go false e = absurd (omega (arith, low e, character_at begins_name_lem (b ∷ w) [] r))

begins_finds : Finds (P.character begins_name_lem) (Character begins_name_lem) (starts name)
begins_finds = record { start = begins_start; word = character_word begins_name_lem; most = λ w rest r. rw (character_at begins_name_lem w rest r) (le_refl _) }

begins_cut : Cut (P.character begins_name_lem) (Character begins_name_lem) any
begins_cut u b rest r k = character_at begins_name_lem u (b ∷ rest) r

pub name_finds : Finds P.name Name (starts name)
unfolding P.name
name_finds = and_maybe_finds begins_finds (many_finds continues_name) begins_cut
