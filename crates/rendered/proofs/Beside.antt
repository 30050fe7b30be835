-- Pieces side by side: what may stand behind any lexeme, for a writer to have `fits`.
-- Assumes nothing.
use mathlib.Core.Path.{◌≡◌, refl, sym, ap, ◌∙◌}
use mathlib.Core.Bool.{Bool, true, false, not, ◌&&◌, ◌||◌, true≢false, or-true}
use mathlib.Core.List.{List, [], ◌∷◌, ◌++◌}
use Prim.Native.Nat.{ℕ, ◌+◌, ◌-◌, ◌<◌}
use native.Mathlib.Omega.{arith}
use lib.Dec.{eqb, leb}
use lib.ListN.{length, get_or, drop}
use lib.Seq.{get_or-take, get_or-drop}
use borrow.Author.Tests.{eqb-true, leb-true, le-leb, lt-leb, not-true}
use Rattle.std.specs.Prelude.{Some}
use Rattle.source.specs.Bytes.{between, digit, letter, part}
use Rattle.source.proofs.Bools.{and_left, and_right, and_false, or_either, or_left, or_right}
use Rattle.source.proofs.Ranges.{at_each}
use Rattle.token.specs.Code as Code
use Rattle.raw_token.specs.Pattern as P
use Rattle.raw_token.specs.Pattern.{is_sign_lem, is_dot, is_quote, behind}
use Rattle.raw_token.specs.Parts.{ascii_begins}
use Rattle.raw_token.specs.Table.{raw_token, name, table, token_at_lem}
use Rattle.raw_token.proofs.First.{starts}
use Rattle.raw_token.proofs.Laws.{name_first}
use Rattle.raw_token.proofs.Within.{token_within}
use Rattle.rendered.proofs.Lexeme.{inner, apart, sealed, parted}
use Rattle.rendered.specs.Spelled.{spelled_fixed}
use Rattle.rendered.proofs.Apart.{within_digit}

pub parted_apart : (w r : List ℕ) → apart r ≡ true → parted w r ≡ true
parted_apart w r e = rw e (or-true (sealed (get_or w 0 0) || is_quote (get_or w 0 0)))

-- a byte that goes on in no token, as a space, a line feed, a bracket, a comma, a colon: of such a byte the test computes
pub apart_byte : (b : ℕ) (r : List ℕ) → (inner b || (is_sign_lem b || is_dot b)) ≡ false → apart (b ∷ r) ≡ true
unfolding apart P.int P.fraction behind
apart_byte b r e =
    let i = or_left (inner b) (is_sign_lem b || is_dot b) e in
    let k = or_right (inner b) (is_sign_lem b || is_dot b) e in
    rw (i, or_left (is_sign_lem b) (is_dot b) k, or_right (is_sign_lem b) (is_dot b) k, within_digit b i)

-- ---- brackets, comma, colon, semicolon, dot

abbrev pub is_mark : ℕ → Bool
is_mark code = between Code.LParen Code.Dot code

-- all but the dot
abbrev pub ends_any : ℕ → Bool
ends_any code = between Code.LParen Code.Semicolon code

-- one byte that is a token whatever follows
one_byte : ℕ → Bool
one_byte code = eqb (length (spelled_fixed code)) 1 && sealed (get_or (spelled_fixed code) 0 0)

-- and, but for the dot, may follow any lexeme
ends_all : ℕ → Bool
ends_all code = let b = get_or (spelled_fixed code) 0 0 in not (inner b || (is_sign_lem b || is_dot b))

single : (w : List ℕ) → length w ≡ 1 → w ≡ get_or w 0 0 ∷ []
single [] e = absurd (omega arith)
single (b ∷ []) e = refl
single (b ∷ c ∷ w) e = absurd (omega arith)

mark_one : (code : ℕ) → is_mark code ≡ true → one_byte code ≡ true
unfolding one_byte spelled_fixed table
mark_one code e =
    let h = leb-true Code.LParen code (and_left (leb Code.LParen code) (leb code Code.Dot) e) in
    let k = leb-true code Code.Dot (and_right (leb Code.LParen code) (leb code Code.Dot) e) in
    at_each one_byte 36 10 tt code h (omega arith)

pub mark_parted : (code : ℕ) → is_mark code ≡ true → (r : List ℕ) → parted (spelled_fixed code) r ≡ true
unfolding one_byte
mark_parted code e r = rw (and_right (eqb (length (spelled_fixed code)) 1) (sealed (get_or (spelled_fixed code) 0 0)) (mark_one code e))

mark_ends : (code : ℕ) → ends_any code ≡ true → (is_mark code ≡ true) × (ends_all code ≡ true)
unfolding ends_all spelled_fixed table
mark_ends code e =
    let h = leb-true Code.LParen code (and_left (leb Code.LParen code) (leb code Code.Semicolon) e) in
    let k = leb-true code Code.Semicolon (and_right (leb Code.LParen code) (leb code Code.Semicolon) e) in
    (rw (le-leb Code.LParen code h, le-leb code Code.Dot (omega arith)) refl, at_each ends_all 36 9 tt code h (omega arith))

pub mark_apart : (code : ℕ) → ends_any code ≡ true → (r : List ℕ) → apart (spelled_fixed code ++ r) ≡ true
unfolding one_byte ends_all
mark_apart code f r =
    let w = spelled_fixed code in
    let b = get_or w 0 0 in
    let e = single w (eqb-true (length w) 1 (and_left (eqb (length w) 1) (sealed b) (mark_one code (mark_ends code f).0))) in
    ap (λ (l : List ℕ). apart (l ++ r)) e ∙ apart_byte b r (not-true (inner b || (is_sign_lem b || is_dot b)) (mark_ends code f).1)

-- a dot before a name
dot_is : spelled_fixed Code.Dot ≡ 46 ∷ []
unfolding spelled_fixed table
dot_is = refl

apart_dot : (b : ℕ) (r : List ℕ) → digit b ≡ false → apart (46 ∷ b ∷ r) ≡ true
unfolding apart P.int P.fraction behind
apart_dot b r e = rw e

-- a byte that can begin a name is no digit
name_low : (b : ℕ) → starts name b ≡ true → 57 < b
name_low b =
    or_either (ascii_begins b) (leb 128 b)
    (or_either (letter b) (eqb b 95)
    (or_either (between 97 122 b) (between 65 90 b)
    (λ e. omega (arith, leb-true 97 b (and_left (leb 97 b) (leb b 122) e)))
    (λ e. omega (arith, leb-true 65 b (and_left (leb 65 b) (leb b 90) e))))
    (λ e. omega (arith, eqb-true b 95 e)))
    (λ e. omega (arith, leb-true 128 b e))

no_digit : (b : ℕ) → starts name b ≡ true → digit b ≡ false
no_digit b e = rw (lt-leb b 57 (name_low b e)) (and_false (leb 48 b))

pub dot_apart : (w r : List ℕ) → starts name (get_or w 0 0) ≡ true → apart (spelled_fixed Code.Dot ++ (w ++ r)) ≡ true
dot_apart [] r e = absurd (true≢false (sym e))
dot_apart (b ∷ w) r e = ap (λ (l : List ℕ). apart (l ++ (b ∷ (w ++ r)))) dot_is ∙ apart_dot b (w ++ r) (no_digit b e)

-- as a name that was read begins
pub name_starts : (s : List ℕ) (start end : ℕ) → token_at_lem s start ≡ Some (raw_token Code.Identifier end) → starts name (get_or (part s start end) 0 0) ≡ true
name_starts s start end e =
    let w = token_within s start Code.Identifier end e in
    let z : start + 0 ≡ start = omega arith in
    let f : get_or (part s start end) 0 0 ≡ get_or s start 0 = get_or-take (end - start) (drop start s) 0 0 (omega arith) ∙ get_or-drop start s 0 0 ∙ ap (λ (i : ℕ). get_or s i 0) z in
    ap (starts name) f ∙ name_first s start end e
