-- An Int in its digits is a lexeme, its value is the number, and no bytes with that value are fewer.
-- Assumes nothing.
use mathlib.Core.Path.{◌≡◌, refl, sym, ap, ◌∙◌}
use mathlib.Core.Bool.{Bool, true, false, cond}
use mathlib.Core.List.{List, [], ◌∷◌, ◌++◌}
use Prim.Native.Nat.{ℕ, zero, suc, ◌+◌, ◌/◌, ◌%◌, ◌^◌, ◌<◌, ◌≤◌, zero-le, suc-le-suc}
use native.Mathlib.Decide.{ℕ_discrete}
use native.Mathlib.Omega.{arith}
use lib.Dec.{leb, ltb}
use lib.IntN.{ℤ, pos, negsuc, neg_ℤ}
use lib.ListN.{length, get_or, drop}
use lib.Seq.{drop-length}
use borrow.Author.Tests.{le-leb, ne_eqb, ltb-true, leb-true}
use Rattle.std.specs.Prelude.{Some, None}
use Rattle.source.specs.Bytes.{run, digit}
use Rattle.source.proofs.Bools.{and_left, and_right}
use Rattle.token.specs.Code as Code
use Rattle.numbers.specs.Digits.{number, is_minus, digits}
use Rattle.numbers.specs.Integer.{in_i64, in_range, signed, integer_of}
use Rattle.numbers.proofs.Joining.{step_other}
use Rattle.numbers.proofs.Written.{digits_value, digits_shortest}
use Rattle.raw_token.specs.Pattern as P
use Rattle.raw_token.specs.Table.{raw_token, literal, int, table}
use Rattle.raw_token.specs.Parts.{number_at, signed_at}
use Rattle.raw_token.proofs.Steps.{behind_some, float_none}
use Rattle.raw_token.proofs.Words.{all_in}
use Rattle.raw_token.proofs.First as F
use Rattle.literal.specs.Literal.{of_integer, lex_integer_lem}
use Rattle.literal.specs.declared.Literal.{Literal}
use Rattle.literal.specs.declared.Literal.TheVariants as L
use Rattle.rendered.proofs.Lexeme.{Lexeme}
use Rattle.rendered.specs.Spelled.{spelled_int}

-- ---- digits

all_append : (p : ℕ → Bool) (l r : List ℕ) → all_in p l ≡ true → all_in p r ≡ true → all_in p (l ++ r) ≡ true
all_append p [] r a b = b
all_append p (x ∷ l) r a b = rw (and_left (p x) (all_in p l) a) (all_append p l r (and_right (p x) (all_in p l) a) b)

all_run : (p : ℕ → Bool) (l : List ℕ) → all_in p l ≡ true → run p l ≡ length l
all_run p [] a = refl
all_run p (b ∷ l) a = rw (and_left (p b) (all_in p l) a) (ap suc (all_run p l (and_right (p b) (all_in p l) a)))

is_digit : (n : ℕ) → n < 10 → all_in digit ((48 + n) ∷ []) ≡ true
is_digit n h = rw (le-leb 48 (48 + n) (omega arith), le-leb (48 + n) 57 (omega arith))

digits_all : (most n : ℕ) → all_in digit (digits most n) ≡ true
unfolding digits
digits_all zero n = refl
digits_all (suc most) n = by_test (ltb n 10) (ltb-true n 10) (digits_all most (n / 10))
  where
    by_test : (t : Bool) → (t ≡ true → n < 10) → all_in digit (digits most (n / 10)) ≡ true → all_in digit (cond t ((48 + n) ∷ []) (digits most (n / 10) ++ ((48 + n % 10) ∷ []))) ≡ true
    by_test true f r = is_digit n (f refl)
    by_test false f r = all_append digit (digits most (n / 10)) ((48 + n % 10) ∷ []) r (is_digit (n % 10) (omega arith))

-- digits of which there is one
data Digits (l : List ℕ) : Type 0 where
  some : (b : ℕ) (r : List ℕ) → l ≡ b ∷ r → digit b ≡ true → all_in digit l ≡ true → Digits l

digits_some : (most n : ℕ) → Digits (digits (suc most) n)
unfolding digits
digits_some most n = go (digits (suc most) n) refl (digits_all (suc most) n)
  where
    none : (t : Bool) (l : List ℕ) → cond t ((48 + n) ∷ []) (l ++ ((48 + n % 10) ∷ [])) ≡ [] → ⊥
    none true l e = let z : ◌≡◌ {A = ℕ} 0 1 = cc in omega arith
    none false [] e = let z : ◌≡◌ {A = ℕ} 0 1 = cc in omega arith
    none false (b ∷ l) e = let z : ◌≡◌ {A = ℕ} 0 1 = cc in omega arith

    go : (l : List ℕ) → digits (suc most) n ≡ l → all_in digit l ≡ true → Digits l
    go [] e a = absurd (none (ltb n 10) (digits most (n / 10)) e)
    go (b ∷ r) e a = some b r refl (and_left (digit b) (all_in digit r) a) a

-- ---- the lexeme

no_fraction : P.fraction [] ≡ 0
unfolding P.fraction
no_fraction = refl

digits_lexeme : (l : List ℕ) → Digits l → Lexeme Code.Int l
unfolding number_at
digits_lexeme l (some b r e d a) =
    let h : get_or l 0 0 ≡ b = ap (λ (x : List ℕ). get_or x 0 0) e in
    let n : run digit l ≡ length l = all_run digit l a in
    let k : length l ≡ suc (length r) = ap length e in
    let i : 0 + length l ≡ length l = omega arith in
    let z : P.fraction (drop (0 + length l) l) ≡ 0 = ap (λ (j : ℕ). P.fraction (drop j l)) i ∙ ap P.fraction (drop-length l) ∙ no_fraction in
    F.number l 0 (omega arith) (ap digit h ∙ d)
    ∙ rw (float_none l 0 (length l) 0 (sym n) (sym z) refl, n) (ap (λ (k : ℕ). Some (raw_token Code.Int k)) (omega arith))

keep_minus : F.keep table 45 ≡ (Code.Int, int) ∷ (Code.Minus, literal (45 ∷ [])) ∷ []
unfolding table
keep_minus = refl

alike_minus : F.alike table 45 45 ≡ true
unfolding table
alike_minus = refl

signed_int : (l : List ℕ) → run digit l ≡ length l → 0 < length l → P.int (45 ∷ l) ≡ suc (length l)
unfolding P.int
signed_int l n h = behind_some 1 (run digit l) (omega arith) ∙ omega arith

signed_lexeme : (l : List ℕ) → Digits l → Lexeme Code.Int (45 ∷ l)
unfolding signed_at
signed_lexeme l (some b r e d a) =
    let n : P.int (45 ∷ l) ≡ suc (length l) = signed_int l (all_run digit l a) (omega (arith, ap length e)) in
    F.signed (45 ∷ l) 0 45 45 (suc-le-suc zero-le) refl alike_minus Code.Minus keep_minus
    ∙ rw (n, ne_eqb (suc (length l)) 0 (omega arith)) (ap (λ (k : ℕ). Some (raw_token Code.Int k)) (omega arith))

pub int_lexeme : (z : ℤ) → Lexeme Code.Int (spelled_int z)
int_lexeme (pos n) = digits_lexeme _ (digits_some _ n)
int_lexeme (negsuc n) = signed_lexeme _ (digits_some _ (suc n))

-- ---- the value

no_minus : (l : List ℕ) → Digits l → is_minus l ≡ false
no_minus l (some b r e d a) =
    let h : get_or l 0 0 ≡ b = ap (λ (x : List ℕ). get_or x 0 0) e in
    let k = leb-true 48 b (and_left (leb 48 b) (leb b 57) d) in
    ne_eqb (get_or l 0 0) 45 (omega arith)

minus_number : (l : List ℕ) → number 0 (45 ∷ l) ≡ number 0 l
unfolding number
minus_number l = ap (λ (k : ℕ). number k l) (step_other 0 45 refl)

pub int-value : (z : ℤ) → in_i64 z ≡ true → lex_integer_lem (spelled_int z) ≡ Some (L.Int z)
unfolding lex_integer_lem integer_of in_range
int-value (pos n) h =
    let k = ltb-true n (2 ^ 63) h in
    rw (no_minus (digits 19 n) (digits_some 18 n), digits_value 19 n (omega arith), h)
int-value (negsuc n) h =
    let k = ltb-true n (2 ^ 63) h in
    let e : number 0 (spelled_int (negsuc n)) ≡ suc n = minus_number _ ∙ digits_value 19 (suc n) (omega arith) in
    rw (e, h)

-- ---- an Int that was read

-- the number of an Int's bytes
abbrev pub read_int : List ℕ → ℤ
read_int w = signed (is_minus w) (number 0 w)

-- is its literal, and can be written
pub int_read : (w : List ℕ) (v : Literal) → lex_integer_lem w ≡ Some v → (v ≡ L.Int (read_int w)) × (in_i64 (read_int w) ≡ true)
unfolding lex_integer_lem integer_of in_range
int_read w v = go (in_i64 (read_int w))
  where
    go : (t : Bool) → of_integer (cond t (Some (read_int w)) None) ≡ Some v → (v ≡ L.Int (read_int w)) × (t ≡ true)
    go true e = (cc, refl)
    go false e = let k : ◌≡◌ {A = ℕ} 0 1 = cc in absurd (omega arith)

some_digit : (l : List ℕ) (n : ℕ) → number 0 l ≡ suc n → 0 < length l
unfolding number
some_digit [] n e = absurd (omega arith)
some_digit (b ∷ l) n e = suc-le-suc zero-le

zero_short : (l : List ℕ) → 0 < length l → length (digits 19 0) ≤ length l
unfolding digits
zero_short l h = h

read_short : (w : List ℕ) → 0 < length w → length (spelled_int (read_int w)) ≤ length w
read_short [] h = absurd (omega arith)
read_short (b ∷ l) h = go (ℕ_discrete b 45)
  where
    minus : (n : ℕ) → number 0 l ≡ n → length (spelled_int (neg_ℤ (pos n))) ≤ suc (length l)
    minus zero e = zero_short (b ∷ l) h
    minus (suc n) e =
        suc-le-suc (rw e at (digits_shortest 19 l (some_digit l n e)))

    go : Dec (b ≡ 45) → length (spelled_int (read_int (b ∷ l))) ≤ suc (length l)
    go (yes e) = rw (e, minus_number l) (minus (number 0 l) refl)
    go (no d) = rw (ne_eqb b 45 d) (digits_shortest 19 (b ∷ l) h)

-- no bytes with its value are fewer than it is written with
pub int_shortest : (w : List ℕ) (z : ℤ) → 0 < length w → lex_integer_lem w ≡ Some (L.Int z) → length (spelled_int z) ≤ length w
int_shortest w z h e =
    let r = (int_read w (L.Int z) e).0 in
    let q : z ≡ read_int w = cc in
    rw q (read_short w h)
