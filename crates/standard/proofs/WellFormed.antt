-- What a writer spells is well-formed UTF-8: fixed texts, names, literals. Question 5 of 01 asks it of every text that is read.
-- Assumes nothing.
use mathlib.Core.Path.{◌≡◌, refl, ap}
use mathlib.Core.Bool.{Bool, true, false, cond, ◌&&◌}
use mathlib.Core.List.{List, [], ◌∷◌, ◌++◌}
use Prim.Native.Nat.{ℕ, zero, suc, ◌+◌, ◌/◌, ◌%◌, ◌<◌, ◌≤◌}
use native.Mathlib.Omega.{arith}
use lib.Dec.{eqb, leb, ltb}
use lib.IntN.{ℤ, pos, negsuc}
use lib.ListN.{get_or, drop, replicate}
use borrow.Author.Tests.{leb-true, ltb-true, ne_eqb}
use Rattle.source.specs.Text.{bytes}
use Rattle.source.proofs.Bools.{and_left, and_right}
use Rattle.utf8.specs.Table.{first_ill_formed, utf8_error_lem}
use Rattle.std.specs.Prelude.{None}
use Rattle.token.specs.Code as Code
use Rattle.raw_token.specs.Table.{Pattern, Entry, table}
use Rattle.raw_token.specs.Parts.{text_of}
use Rattle.raw_token.proofs.Laws.{all}
use Rattle.numbers.specs.Digits.{digits}
use Rattle.numbers.specs.Bits.{int_of}
use Rattle.lexical.specs.Characters.{is_character, are_characters, bytes_of, characters}
use Rattle.lexical.proofs.Characters.{high, Form, one, several, form, whole}
use Rattle.lexical.proofs.WellFormed.{both_well, character_well, low_well}
use Rattle.unparse.specs.Trees.{Literal, Word, Load}
use Rattle.rendered.specs.Spelled.{first_text, spelled_fixed, spelled_bool, spelled_int, letter, escaped, escaped_all, spelled_string}
use Rattle.standard.specs.Text.{word_text, literal_text}

-- as question 5 asks it
pub record Well (l : List ℕ) : Type 0 where
  pub holds : utf8_error_lem l ≡ None

-- ---- bytes under 128

pub empty_well : Well []
unfolding utf8_error_lem first_ill_formed
empty_well = record { holds = refl }

infixr 20 ◌then◌
pub ◌then◌ : {v w : List ℕ} → Well v → Well w → Well (v ++ w)
◌then◌ {v} {w} a b = record { holds = both_well v w a.holds b.holds }

low : (b : ℕ) → b < 128 → Well (b ∷ [])
low b h = record { holds = low_well b h }

pub low_then : (b : ℕ) → b < 128 → {l : List ℕ} → Well l → Well (b ∷ l)
low_then b h w = low b h then w

-- each byte is
abbrev pub ascii : List ℕ → Bool
ascii [] = true
ascii (b ∷ l) = ltb b 128 && ascii l

pub ascii_well : (l : List ℕ) → ascii l ≡ true → Well l
ascii_well [] e = empty_well
ascii_well (b ∷ l) e = low_then b (ltb-true b 128 (and_left (ltb b 128) (ascii l) e)) (ascii_well l (and_right (ltb b 128) (ascii l) e))

pub spaces_well : (n : ℕ) → Well (replicate n 32)
spaces_well zero = empty_well
spaces_well (suc n) = low_then 32 (omega arith) (spaces_well n)

-- ---- fixed texts, truth values and Ints

abbrev plain_text : ℕ → Pattern → Bool
plain_text c p = ascii (text_of p)

all_plain : all plain_text table ≡ true
unfolding table
all_plain = refl

first_well : (es : List Entry) (c : ℕ) → all plain_text es ≡ true → Well (first_text es c)
first_well [] c e = empty_well
first_well (x ∷ es) c e = go (eqb x.0 c) (ascii_well (text_of x.1) (and_left (plain_text x.0 x.1) (all plain_text es) e)) (first_well es c (and_right (plain_text x.0 x.1) (all plain_text es) e))
  where
    go : (t : Bool) → Well (text_of x.1) → Well (first_text es c) → Well (cond t (text_of x.1) (first_text es c))
    go true h r = h
    go false h r = r

pub fixed_well : (c : ℕ) → Well (spelled_fixed c)
unfolding spelled_fixed
fixed_well c = first_well table c all_plain

pub bool_well : (b : Bool) → Well (spelled_bool b)
bool_well true = ascii_well (bytes "True") refl
bool_well false = ascii_well (bytes "False") refl

pub tee_well : Well (bytes "t")
tee_well = ascii_well (bytes "t") refl

digits_well : (most n : ℕ) → Well (digits most n)
unfolding digits
digits_well zero n = empty_well
digits_well (suc most) n = go (ltb n 10) (ltb-true n 10) (digits_well most (n / 10))
  where
    go : (t : Bool) → (t ≡ true → n < 10) → Well (digits most (n / 10)) → Well (cond t ((48 + n) ∷ []) (digits most (n / 10) ++ ((48 + n % 10) ∷ [])))
    go true h r = let k = h refl in low (48 + n) (omega arith)
    go false h r = r then low (48 + n % 10) (omega arith)

pub int_well : (z : ℤ) → Well (spelled_int z)
int_well (pos n) = digits_well 19 n
int_well (negsuc n) = low_then 45 (omega arith) (digits_well 19 (suc n))

-- ---- Strings: what an escape stands for is a byte under 128, and so are its own bytes

pub either_low : (t : Bool) (m n : ℕ) → m < 128 → n < 128 → cond t m n < 128
either_low true m n h k = h
either_low false m n h k = k

letter_low : (b : ℕ) → letter b < 128
unfolding letter
letter_low b =
    either_low (eqb b 92) _ _ (omega arith)
    (either_low (eqb b 34) _ _ (omega arith)
    (either_low (eqb b 10) _ _ (omega arith)
    (either_low (eqb b 9) _ _ (omega arith)
    (either_low (eqb b 13) _ _ (omega arith) (omega arith)))))

high_letter : (b : ℕ) → 128 ≤ b → letter b ≡ 0
unfolding letter
high_letter b h =
    rw (ne_eqb b 92 (λ e. omega arith), ne_eqb b 34 (λ e. omega arith), ne_eqb b 10 (λ e. omega arith), ne_eqb b 9 (λ e. omega arith), ne_eqb b 13 (λ e. omega arith))

escaped_well : (b : ℕ) → Well (b ∷ []) → Well (escaped b)
escaped_well b w = go (eqb (letter b) 0)
  where
    go : (t : Bool) → Well (cond t (b ∷ []) (92 ∷ letter b ∷ []))
    go true = w
    go false = low_then 92 (omega arith) (low (letter b) (letter_low b))

-- bytes of 128 and more stand for themselves
high_kept : (c l : List ℕ) → high c ≡ true → escaped_all (c ++ l) ≡ c ++ escaped_all l
unfolding escaped_all
high_kept [] l h = refl
high_kept (b ∷ c) l h =
    rw (high_letter b (leb-true 128 b (and_left (leb 128 b) (high c) h))) (ap (◌∷◌ b) (high_kept c l (and_right (leb 128 b) (high c) h)))

characters_well : (cs : List (List ℕ)) → are_characters cs ≡ true → Well (escaped_all (bytes_of cs))
unfolding escaped_all
characters_well [] e = empty_well
characters_well (c ∷ cs) e =
    let i = and_left (is_character c) (are_characters cs) e in
    go c (form c i) (record { holds = character_well c i }) (characters_well cs (and_right (is_character c) (are_characters cs) e))
  where
    go : (c : List ℕ) → Form c → Well c → Well (escaped_all (bytes_of cs)) → Well (escaped_all (c ++ bytes_of cs))
    go c (one b) w r = escaped_well b w then r
    go c (several a b d h) w r = rw (high_kept (a ∷ b ∷ d) (bytes_of cs) h) (w then r)

pub escaped_all_well : (l : List ℕ) → Well l → Well (escaped_all l)
unfolding escaped_all
escaped_all_well l w = let x = whole l w.holds in rw x.1 at (characters_well (characters l) x.0)

pub string_well : (l : List ℕ) → Well l → Well (spelled_string l)
string_well l w = low_then 34 (omega arith) (escaped_all_well l w then low 34 (omega arith))

-- ---- names and literals

pub word_well : (w : Word) (l : Load) → Well l → Well (word_text w l)
word_well Word.tee l h = tee_well
word_well Word.identifier l h = h

-- of a String its bytes, of a Float its spelling, of another nothing
abbrev pub Asked : Literal → Load → Type 0
Asked Literal.int l = Unit {0}
Asked Literal.bool l = Unit {0}
Asked Literal.string l = Well l
Asked Literal.float l = Well (drop 2 l)
Asked Literal.none l = Unit {0}

pub literal_well : (c : Literal) (l : Load) → Asked c l → Well (literal_text c l)
literal_well Literal.int l h = int_well (int_of (get_or l 0 0) (get_or l 1 0))
literal_well Literal.bool l h = bool_well (eqb (get_or l 0 0) 1)
literal_well Literal.string l h = string_well l h
literal_well Literal.float l h = h
literal_well Literal.none l h = fixed_well Code.None
