-- The length of each pattern of `raw_token` is that of its longest word at the front, as specs/Matches.antt reads the pattern's sentence of 01.
-- Assumes nothing.
use mathlib.Core.Path.{◌≡◌, refl, sym, ◌∙◌}
use mathlib.Core.Bool.{Bool, true, false, cond, ◌||◌, true≢false}
use mathlib.Core.List.{List, [], ◌∷◌, ◌++◌}
use Prim.Native.Nat.{ℕ, suc, ◌<◌, ◌≤◌, zero-le, suc-le-suc}
use native.Mathlib.Nat.{le_refl}
use native.Mathlib.Omega.{arith}
use lib.Dec.{eqb}
use lib.ListN.{length, take}
use borrow.Author.Tests.{eqb-true, eq-eqb}
use Rattle.source.specs.Bytes.{digit}
use Rattle.source.proofs.Bools.{and_left, and_right, or_either}
use Rattle.raw_token.specs.Pattern as P
use Rattle.raw_token.specs.Pattern.{is_sign_lem, is_dot, is_e, is_prefix}
use Rattle.raw_token.specs.Table.{Pattern, literal, int, string, name, float, len}
use Rattle.raw_token.proofs.First.{starts}
use Rattle.raw_token.proofs.Within.{len_le}
use Rattle.lexical.specs.Longest.{Front}
use Rattle.lexical.specs.Matches.{Int, Fraction, Exponent, Float, Matches}
use Rattle.lexical.proofs.Finds.{Apart, Finds, one_cut, one_finds, run_cut, run_finds, seq_cut, seq_finds, and_maybe_finds, maybe_finds}
use Rattle.lexical.proofs.Names.{name_finds}
use Rattle.lexical.proofs.Quoted.{string_finds}

-- no digit is a sign, a dot, e or E

apart_one : (k : ℕ) → digit k ≡ false → (b : ℕ) → eqb b k ≡ true → digit b ≡ false
apart_one k d b h = rw (eqb-true b k h) d

sign_digit : Apart is_sign_lem digit
sign_digit b h = or_either (eqb b 43) (eqb b 45) (apart_one 43 refl b) (apart_one 45 refl b) h

e_digit : Apart is_e digit
e_digit b h = or_either (eqb b 101) (eqb b 69) (apart_one 101 refl b) (apart_one 69 refl b) h

digit_sign : Apart digit is_sign_lem
digit_sign b h = go (is_sign_lem b) refl
  where
    go : (t : Bool) → is_sign_lem b ≡ t → t ≡ false
    go true e = absurd (true≢false (sym h ∙ sign_digit b e))
    go false e = refl

-- numbers

int_finds : Finds P.int Int (λ (b : ℕ). is_sign_lem b || digit b)
unfolding P.int
int_finds = maybe_finds (one_finds is_sign_lem) (run_finds digit) (one_cut is_sign_lem digit) (λ b rest h. rw (digit_sign b h))

fraction_finds : Finds P.fraction Fraction is_dot
unfolding P.fraction
fraction_finds = seq_finds (one_finds is_dot) (run_finds digit) (one_cut is_dot digit)

exponent_finds : Finds P.exponent Exponent is_e
unfolding P.exponent
exponent_finds = seq_finds (one_finds is_e) int_finds (one_cut is_e (λ (b : ℕ). is_sign_lem b || digit b))

float_finds : Finds P.float Float digit
unfolding P.float P.fraction
float_finds =
    let before = run_cut digit is_dot (apart_one 46 refl) in
    let within = seq_cut (one_finds is_dot) (run_finds digit) (one_cut is_dot digit) is_e (run_cut digit is_e e_digit) in
    and_maybe_finds (seq_finds (run_finds digit) fraction_finds before) exponent_finds
    (seq_cut (run_finds digit) fraction_finds before is_e within)

-- texts

prefix_word : (t l : List ℕ) → is_prefix t l ≡ true → take (length t) l ≡ t
prefix_word [] l h = refl
prefix_word (a ∷ t) [] h = absurd (true≢false (sym h))
prefix_word (a ∷ t) (b ∷ l) h =
    let e = eqb-true b a (and_left (eqb b a) (is_prefix t l) h) in
    let r = prefix_word t l (and_right (eqb b a) (is_prefix t l) h) in
    cc

prefix_self : (t rest : List ℕ) → is_prefix t (t ++ rest) ≡ true
prefix_self [] rest = refl
prefix_self (a ∷ t) rest = rw (eq-eqb a a refl) (prefix_self t rest)

literal_finds : (a : ℕ) (t : List ℕ) → Finds (P.literal (a ∷ t)) (Matches (literal (a ∷ t))) (λ (b : ℕ). eqb b a)
unfolding P.literal
literal_finds a t =
    record {
      start = λ w e. record { first = a; others = t; is = e; holds = eq-eqb a a refl };
      word = λ l h. go l (is_prefix (a ∷ t) l) (prefix_word (a ∷ t) l) h;
      most = λ w rest e. rw (e, prefix_self (a ∷ t) rest) (le_refl _);
    }
  where
    go : (l : List ℕ) (u : Bool) → (u ≡ true → take (suc (length t)) l ≡ a ∷ t) → 0 < cond u (suc (length t)) 0 → take (cond u (suc (length t)) 0) l ≡ a ∷ t
    go l true f h = f refl
    go l false f h = absurd (omega arith)

-- a pattern that is not the text with no byte, which the table does not have
abbrev pub filled : Pattern → Bool
filled (literal []) = false
filled (literal (a ∷ t)) = true
filled int = true
filled string = true
filled name = true
filled float = true

pub finds : (p : Pattern) → filled p ≡ true → Finds (len p) (Matches p) (starts p)
finds (literal []) h = absurd (true≢false (sym h))
finds (literal (a ∷ t)) h = literal_finds a t
finds int h = int_finds
finds string h = string_finds
finds name h = name_finds
finds float h = float_finds

-- what a pattern's length says: it is the length of a word, no word at the front is longer, and where it is 0 there is none
pub record Length (p : Pattern) (l : List ℕ) : Type 0 where
  pub word : 0 < len p l → Matches p (take (len p l) l)
  pub within : len p l ≤ length l
  pub longest : (w : List ℕ) → Front p l w → length w ≤ len p l
  pub none : len p l ≡ 0 → (w : List ℕ) → Front p l w → ⊥

pub length_is : (p : Pattern) → filled p ≡ true → (l : List ℕ) → Length p l
length_is p h l = record { word = F.word l; within = len_le p l; longest = most; none = λ z w f. let m = most w f in absurd (omega (arith, some w f)) }
  where
    F : Finds (len p) (Matches p) (starts p)
    F = finds p h

    most : (w : List ℕ) → Front p l w → length w ≤ len p l
    most w f = rw f.is (F.most w f.rest f.word)

    some : (w : List ℕ) → Front p l w → 0 < length w
    some w f = let s = F.start w f.word in rw s.is (suc-le-suc zero-le)
