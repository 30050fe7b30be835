-- The characters of a name: what the character at the front of a list decides, and what a byte below 128 is.
-- Assumes nothing.
use mathlib.Core.Path.{◌≡◌, refl, sym, ap, ◌∙◌}
use mathlib.Core.Bool.{Bool, true, false, cond, ◌||◌, true≢false}
use mathlib.Core.List.{List, [], ◌∷◌}
use mathlib.Core.Logic.{⊎_elim}
use Prim.Native.Nat.{ℕ, zero, suc, ◌+◌, ◌<◌, ◌≤◌, zero-le}
use native.Mathlib.Nat.{zero-add}
use native.Mathlib.Omega.{arith}
use lib.Dec.{eqb, leb}
use lib.ListN.{length, get_or, drop, length-drop}
use lib.Seq.{drop-drop, get_or-drop}
use borrow.Author.Tests.{eqb-true, ne_eqb, leb-true}
use Rattle.source.specs.Bytes.{between, digit, letter, run}
use Rattle.source.proofs.Bools.{and_left, and_right, or_either}
use Rattle.source.proofs.Lists.{at_cons, past, place}
use Rattle.utf8.specs.Table.{sequence_length}
use Rattle.utf8.specs.Character.{first_code}
use Rattle.utf8.proofs.Rows.{sequence_within, low_sequence}
use Rattle.utf8.proofs.Codes.{low_code}
use Rattle.xid.proofs.Ascii.{ascii_start, ascii_continue}
use Rattle.raw_token.specs.Pattern.{begins_name_lem, continues_name, character, at_most, many, name}
use Rattle.token.specs.Code.{Identifier}
use Rattle.std.specs.Prelude.{Some, None}
use Rattle.raw_token.specs.Table.{raw_token}
use Rattle.raw_token.specs.Parts.{ascii_begins, ascii_continues_lem, name_at}

-- ---- one character

-- a byte below 128 is a character
pub low_character : (p : ℕ → Bool) (b : ℕ) (l : List ℕ) → b < 128 → character p (b ∷ l) ≡ cond (p b) 1 0
low_character p b l h = rw (low_sequence b l h, low_code b l h)

taken_le : (t : Bool) (n m : ℕ) → n ≤ m → cond t n 0 ≤ m
taken_le true n m h = h
taken_le false n m h = zero-le

pub character_le : (p : ℕ → Bool) (l : List ℕ) → character p l ≤ length l
character_le p l = taken_le (p (first_code l)) _ _ (omega (arith, sequence_within l 0 (sequence_length l) refl))

pub name_nil : name [] ≡ 0
unfolding name
name_nil = let e : character begins_name_lem [] ≡ 0 = omega (arith, character_le begins_name_lem []) in rw e

-- ---- several

pub stop : (n : ℕ) (p : ℕ → Bool) (l : List ℕ) → character p l ≡ 0 → at_most n p l ≡ 0
stop zero p l e = refl
stop (suc n) p l e = rw e (zero-add _ ∙ stop n p l e)

at_most_le : (n : ℕ) (p : ℕ → Bool) (l : List ℕ) → at_most n p l ≤ length l
at_most_le zero p l = zero-le
at_most_le (suc n) p l =
    let c = character p l in
    omega (arith, character_le p l, at_most_le n p (drop c l), length-drop c l)

pub many_le : (p : ℕ → Bool) (l : List ℕ) → many p l ≤ length l
many_le p l = at_most_le (length l) p l

-- as many as there are bytes are enough
enough : (n m : ℕ) (p : ℕ → Bool) (l : List ℕ) → length l ≤ n → length l ≤ m → at_most n p l ≡ at_most m p l
enough zero zero p l h k = refl
enough zero (suc m) p l h k = sym (stop (suc m) p l (omega (arith, character_le p l)))
enough (suc n) zero p l h k = stop (suc n) p l (omega (arith, character_le p l))
enough (suc n) (suc m) p l h k = go (character p l) refl (λ (c : ℕ) (x : 0 < c). enough n m p (drop c l) (omega (arith, length-drop c l)) (omega (arith, length-drop c l)))
  where
    go : (c : ℕ) → character p l ≡ c → ((c : ℕ) → 0 < c → at_most n p (drop c l) ≡ at_most m p (drop c l)) → at_most (suc n) p l ≡ at_most (suc m) p l
    go zero e r = stop (suc n) p l e ∙ sym (stop (suc m) p l e)
    go (suc c) e r = rw e (ap (λ (x : ℕ). suc c + x) (r (suc c) (omega arith)))

-- a character of the class, and those behind it
pub many_step : (p : ℕ → Bool) (l : List ℕ) (c : ℕ) → character p l ≡ c → 0 < c → many p l ≡ c + many p (drop c l)
many_step p [] c e h = let z = character_le p [] in absurd (omega arith)
many_step p (b ∷ l) c e h =
    rw e (ap (λ (x : ℕ). c + x) (enough (length l) (length (drop c (b ∷ l))) p (drop c (b ∷ l)) (omega (arith, length-drop c (b ∷ l))) (omega arith)))

module _ (p : ℕ → Bool) (s : List ℕ) (i n : ℕ) (is_n : n ≡ character p (drop i s)) where
  -- at a place: they go on behind a character of the class
  pub many_more : (n ≡ 0 → ⊥) → i + many p (drop i s) ≡ (i + n) + many p (drop (i + n) s)
  many_more h = rw (many_step p (drop i s) n (sym is_n) (omega arith), drop-drop) (omega arith)

  -- and end before another
  pub many_stop : n ≡ 0 → i + many p (drop i s) ≡ i
  many_stop z = rw (stop (length (drop i s)) p (drop i s) (sym is_n ∙ z)) (omega arith)

pub no_character : (p : ℕ → Bool) (s : List ℕ) (i : ℕ) → sequence_length (drop i s) ≡ 0 → character p (drop i s) ≡ 0
no_character p s i h = omega (arith, taken_le (p (first_code (drop i s))) (sequence_length (drop i s)) 0 (omega arith))

pub at_end : (p : ℕ → Bool) (s : List ℕ) (i : ℕ) → length s ≤ i → character p (drop i s) ≡ 0
at_end p s i h = let z = character_le p (drop i s) in omega (arith, length-drop i s)

pub many_end : (p : ℕ → Bool) (s : List ℕ) (i : ℕ) → length s ≤ i → i + many p (drop i s) ≡ i
many_end p s i h = rw (past s i h) (omega arith)

-- ---- ASCII

pub ascii-begins : (b : ℕ) → b < 128 → begins_name_lem b ≡ ascii_begins b
ascii-begins b h = ap (λ (t : Bool). t || eqb b 95) (ascii_start b h)

pub ascii-continues : (b : ℕ) → b < 128 → continues_name b ≡ ascii_continues_lem b
ascii-continues b h = ascii_continue b h

low_range : (lo hi b : ℕ) → 1 ≤ lo → hi < 128 → between lo hi b ≡ true → (1 ≤ b) × (b < 128)
low_range lo hi b h k e =
    let l = leb-true lo b (and_left (leb lo b) (leb b hi) e) in
    let m = leb-true b hi (and_right (leb lo b) (leb b hi) e) in
    (omega arith, omega arith)

pub ascii_low : (b : ℕ) → ascii_continues_lem b ≡ true → (1 ≤ b) × (b < 128)
ascii_low b =
    or_either (ascii_begins b) (digit b)
    (or_either (letter b) (eqb b 95)
    (or_either (between 97 122 b) (between 65 90 b) (low_range 97 122 b (omega arith) (omega arith)) (low_range 65 90 b (omega arith) (omega arith)))
    (λ e. let h = eqb-true b 95 e in (omega arith, omega arith)))
    (low_range 48 57 b (omega arith) (omega arith))

-- what begins a name continues one
ascii_both : (b : ℕ) → ascii_begins b ≡ true → ascii_continues_lem b ≡ true
ascii_both b h = rw h

-- an ASCII character that continues a name is one character of it
one_more : (b : ℕ) (l : List ℕ) → ascii_continues_lem b ≡ true → many continues_name (b ∷ l) ≡ 1 + many continues_name l
one_more b l h =
    let k = (ascii_low b h).1 in
    many_step continues_name (b ∷ l) 1 (low_character continues_name b l k ∙ rw (ascii-continues b k, h)) (omega arith)

-- at a place with a byte below 128
module _ (s : List ℕ) (i : ℕ) (low : get_or s i 0 < 128) where
  pub low_continues : i < length s → character continues_name (drop i s) ≡ cond (ascii_continues_lem (get_or s i 0)) 1 0
  low_continues h = rw (at_cons s i h, low_character continues_name (get_or s i 0) (drop (i + 1) s) low, ascii-continues (get_or s i 0) low)

  pub low_end : ascii_continues_lem (get_or s i 0) ≡ false → i + many continues_name (drop i s) ≡ i
  low_end n = ⊎_elim (λ h. many_stop continues_name s i 0 (sym (low_continues h ∙ rw n)) refl) (many_end continues_name s i) (place s i)

-- behind a run stands no character of its class
pub run_next : (s : List ℕ) (at end : ℕ) → end ≡ at + run ascii_continues_lem (drop at s) → ascii_continues_lem (get_or s end 0) ≡ false
run_next s at end e = rw (e, ← get_or-drop) (go (drop at s))
  where
    go : (l : List ℕ) → ascii_continues_lem (get_or l (run ascii_continues_lem l) 0) ≡ false
    go [] = refl
    go (b ∷ l) = behind (ascii_continues_lem b) refl (go l)
      where
        behind : (t : Bool) → ascii_continues_lem b ≡ t → ascii_continues_lem (get_or l (run ascii_continues_lem l) 0) ≡ false → ascii_continues_lem (get_or (b ∷ l) (cond t (suc (run ascii_continues_lem l)) 0) 0) ≡ false
        behind true n r = r
        behind false n r = n

-- the characters of a name: first the ASCII ones, and then the others
run_many : (l : List ℕ) → many continues_name l ≡ run ascii_continues_lem l + many continues_name (drop (run ascii_continues_lem l) l)
run_many [] = refl
run_many (b ∷ l) = go (ascii_continues_lem b) refl (run_many l)
  where
    go : (t : Bool) → ascii_continues_lem b ≡ t → many continues_name l ≡ run ascii_continues_lem l + many continues_name (drop (run ascii_continues_lem l) l) → many continues_name (b ∷ l) ≡ cond t (suc (run ascii_continues_lem l)) 0 + many continues_name (drop (cond t (suc (run ascii_continues_lem l)) 0) (b ∷ l))
    go true e r = one_more b l e ∙ omega arith
    go false e r = sym (zero-add _)

-- a name that an ASCII character begins
module _ (s : List ℕ) (at : ℕ) (within : at < length s) (h : ascii_begins (get_or s at 0) ≡ true) where
  first : character begins_name_lem (get_or s at 0 ∷ drop (at + 1) s) ≡ 1
  first =
      let k = (ascii_low (get_or s at 0) (ascii_both (get_or s at 0) h)).1 in
      low_character begins_name_lem (get_or s at 0) (drop (at + 1) s) k ∙ rw (ascii-begins (get_or s at 0) k, h)

  name_many : name (drop at s) ≡ many continues_name (drop at s)
  unfolding name
  name_many = rw (at_cons s at within, first) (sym (one_more (get_or s at 0) (drop (at + 1) s) (ascii_both (get_or s at 0) h)))

  pub name_run : run ascii_continues_lem (drop at s) ≤ name (drop at s)
  name_run = omega (arith, name_many, run_many (drop at s))

  pub name_some : 0 < name (drop at s)
  name_some = rw (name_many, at_cons s at within, one_more (get_or s at 0) (drop (at + 1) s) (ascii_both (get_or s at 0) h)) (omega arith)

  pub name_parts : (end : ℕ) → end ≡ at + run ascii_continues_lem (drop at s) → at + name (drop at s) ≡ end + many continues_name (drop end s)
  name_parts end e =
      let d : drop (run ascii_continues_lem (drop at s)) (drop at s) ≡ drop end s = drop-drop _ at s ∙ ap (λ (k : ℕ). drop k s) (sym e) in
      let m = run_many (drop at s) ∙ ap (λ (l : List ℕ). run ascii_continues_lem (drop at s) + many continues_name l) d in
      omega (arith, name_many)

-- where no sequence begins, there is no character of a name
none_code : (l : List ℕ) → sequence_length l ≡ 0 → first_code l ≡ 0
unfolding first_code
none_code l e = rw e

none_begins : begins_name_lem 0 ≡ false
none_begins = ascii-begins 0 (omega arith)

-- a name begins with a sequence whose character begins one
pub name_begins : (l : List ℕ) → 0 < name l → (0 < sequence_length l) × (begins_name_lem (first_code l) ≡ true)
unfolding name
name_begins l h = go (begins_name_lem (first_code l)) (sequence_length l) h
  where
    go : (t : Bool) (n : ℕ) → 0 < cond (eqb (cond t n 0) 0) 0 (cond t n 0 + many continues_name (drop (cond t n 0) l)) → (0 < n) × (t ≡ true)
    go true zero k = absurd (omega arith)
    go true (suc n) k = (omega arith, refl)
    go false n k = absurd (omega arith)

-- a name or nothing, by the first character
module _ (s : List ℕ) (at : ℕ) where
  pub name_found : (len end : ℕ) → begins_name_lem (first_code (drop at s)) ≡ true → len ≡ sequence_length (drop at s) → end ≡ at + len + many continues_name (drop (at + len) s) → Some (raw_token Identifier end) ≡ name_at s at
  unfolding name name_at
  name_found len end b isLen isEnd =
      let e : character begins_name_lem (drop at s) ≡ len = rw b (sym isLen) in
      rw (e, ne_eqb len 0 some, drop-drop, ne_eqb (len + many continues_name (drop (at + len) s)) 0 (λ z. some (omega arith))) (ap (λ (k : ℕ). Some (raw_token Identifier k)) (isEnd ∙ omega arith))
    where
      some : len ≡ 0 → ⊥
      some z = true≢false (sym b ∙ ap begins_name_lem (none_code (drop at s) (sym isLen ∙ z)) ∙ none_begins)

  pub name_missed : begins_name_lem (first_code (drop at s)) ≡ false → None ≡ name_at s at
  unfolding name name_at
  name_missed b = rw b

  pub name_none : sequence_length (drop at s) ≡ 0 → None ≡ name_at s at
  name_none e = name_missed (ap begins_name_lem (none_code (drop at s) e) ∙ none_begins)
