-- The definition's one operation gives the f64 that is nearest to the exact number, m * 10 ^ k or m / 10 ^ k (`times_nearest`,
-- `over_nearest`), since its two operands are exact: `nearest` says so of a token's text. So a value is no NaN (`no_nan`).
-- Assumes nothing.
use mathlib.Core.Path.{◌≡◌, refl, sym, ap, ◌∙◌, subst}
use mathlib.Core.Bool.{Bool, true, false, not, cond, ◌&&◌, true≢false}
use Prim.Native.Nat.{ℕ, zero, suc, ◌+◌, ◌*◌, ◌^◌, ◌≤◌, ◌<◌, suc-le-suc}
use native.Mathlib.Nat.{le_of_suc-le-suc, not-suc-le-zero, lt_irrefl, add-zero, zero-add, suc-add, add-suc, mul-one, zero-mul, mul_assoc, mul_comm, mul_left_comm, mul-pos, pow-suc, mul-mul-mul_comm, zero-lt-suc}
use borrow.Author.Tests.{ne_eqb}
use lib.Dec.{T, leb, leb→le, ltb, eqb, eqb→eq}
use lib.Ieee.{Float, nan, inf, fin, Format, binary64, up, down, prec, emax, low, is_nan, odd, units, round, of_int, mul, div}
use lib.Ieee.Fits.{down_pos, and_l, and_r, round_is}
use lib.Ieee.Exact.{HasValue}
use lib.Ieee.Back.{round_whole}
use lib.Ieee.Scale.{round_same}
use Rattle.std.specs.Prelude.{Option, Some, None}
use Rattle.numbers.specs.declared.decimal.Scale.{Scale}
use Rattle.numbers.specs.declared.decimal.Scale.TheVariants.{Times, Over}
use mathlib.Core.List.{List}
use Rattle.numbers.specs.Decimal.{whole, value_of, joined_digits, power_of_ten, decimal_of}

-- ---- a test at 0 to n - 1, computed once, as a rule

abbrev all : (ℕ → Bool) → ℕ → ℕ → Bool
all f zero i = true
all f (suc n) i = f i && all f n (suc i)

each : (f : ℕ → Bool) (n i k : ℕ) → T (all f n i) → k < n → T (f (i + k))
each f zero i k t h = absurd (not-suc-le-zero h)
each f (suc n) i zero t h = subst (λ (j : ℕ). T (f j)) (sym (add-zero i)) (and_l (f i) (all f n (suc i)) t)
each f (suc n) i (suc k) t h =
    subst (λ (j : ℕ). T (f j)) (suc-add i k ∙ sym (add-suc i k))
    (each f n (suc i) k (and_r (f i) (all f n (suc i)) t) (le_of_suc-le-suc h))

-- ---- the operands are exact

whole_value : (m : ℕ) → m ≤ 9007199254740992 → HasValue (whole m) false m 1
unfolding of_int
whole_value m h = round_whole binary64 false m h

-- the float is the whole number n
is : Float → ℕ → Bool
is nan n = false
is (inf s) n = false
is (fin s m e) n = not s && eqb (m * up e * 1) (n * down e)

is_value : (x : Float) (n : ℕ) → T (is x n) → HasValue x false n 1
unfolding is
is_value nan n t = t
is_value (inf s) n t = t
is_value (fin true m e) n t = absurd t
is_value (fin false m e) n t = (refl, eqb→eq (m * up e * 1) (n * down e) t)

ten_is : ℕ → Bool
ten_is k = is (whole (10 ^ k)) (10 ^ k)

ten_test : (k : ℕ) → k ≤ 22 → T (ten_is (0 + k))
unfolding ten_is is of_int
ten_test k h = each ten_is 23 0 k tt (suc-le-suc h)

ten_value : (k : ℕ) → k ≤ 22 → HasValue (whole (10 ^ k)) false (10 ^ k) 1
unfolding ten_is
ten_value k h = is_value (whole (10 ^ k)) (10 ^ k) (subst (λ (j : ℕ). T (ten_is j)) (zero-add k) (ten_test k h))

-- ---- one operation on exact numbers is one rounding of the exact result

mul_round : (f : Format) (x y : Float) (a b : ℕ) → HasValue x false a 1 → HasValue y false b 1 → mul f x y ≡ round f false (a * b) 1
unfolding mul
mul_round f nan y a b h k = absurd h
mul_round f (inf s) y a b h k = absurd h
mul_round f (fin true m e) y a b h k = absurd (true≢false h.0)
mul_round f (fin false m e) nan a b h k = absurd k
mul_round f (fin false m e) (inf t) a b h k = absurd k
mul_round f (fin false m e) (fin true n d) a b h k = absurd (true≢false k.0)
mul_round f (fin false m e) (fin false n d) a b h k =
    let p : m * up e ≡ a * down e = sym (mul-one (m * up e)) ∙ h.1 in
    let q : n * up d ≡ b * down d = sym (mul-one (n * up d)) ∙ k.1 in
    round_same f false (m * up e * (n * up d)) (down e * down d) (a * b) 1 (mul-pos (down_pos e) (down_pos d)) (zero-lt-suc 0)
    (mul-one (m * up e * (n * up d)) ∙ ap (λ (z : ℕ). z * (n * up d)) p ∙ ap (λ (z : ℕ). a * down e * z) q ∙ mul-mul-mul_comm a (down e) b (down d))

around : (a e d b : ℕ) → a * e * d * b ≡ a * (b * d * e)
around a e d b = simp (mul_assoc, mul_comm, mul_left_comm)

div_round : (f : Format) (x y : Float) (a b : ℕ) → 0 < b → HasValue x false a 1 → HasValue y false b 1 → div f x y ≡ round f false a b
unfolding div
div_round f nan y a b B h k = absurd h
div_round f (inf s) y a b B h k = absurd h
div_round f (fin true m e) y a b B h k = absurd (true≢false h.0)
div_round f (fin false m e) nan a b B h k = absurd k
div_round f (fin false m e) (inf t) a b B h k = absurd k
div_round f (fin false m e) (fin true n d) a b B h k = absurd (true≢false k.0)
div_round f (fin false m e) (fin false n d) a b B h k =
    let p : m * up e ≡ a * down e = sym (mul-one (m * up e)) ∙ h.1 in
    let q : n * up d ≡ b * down d = sym (mul-one (n * up d)) ∙ k.1 in
    let Q : 0 < n * up d = subst (λ (z : ℕ). 0 < z) (sym q) (mul-pos B (down_pos d)) in
    let ne : n ≡ 0 → ⊥ = λ z. lt_irrefl 0 (subst (λ (v : ℕ). 0 < v) (ap (λ (w : ℕ). w * up d) z ∙ zero-mul (up d)) Q) in
    rw (ne_eqb n 0 ne)
    (round_same f false (m * up e * down d) (n * up d * down e) a b (mul-pos Q (down_pos e)) B
    (ap (λ (z : ℕ). z * down d * b) p ∙ around a (down e) (down d) b ∙ ap (λ (z : ℕ). a * (z * down e)) (sym q)))

-- ---- a rounded number is no NaN

odd_no_nan : (d : ℕ) (s : Bool) (q k l : ℕ) → T (not (is_nan (odd d s q k l)))
unfolding odd is_nan
odd_no_nan d s zero k l = tt
odd_no_nan d s (suc q) k l = tt

cond_no_nan : (b : Bool) (x y : Float) → T (not (is_nan x)) → T (not (is_nan y)) → T (not (is_nan (cond b x y)))
cond_no_nan true x y p q = p
cond_no_nan false x y p q = q

inf_no_nan : (s : Bool) → T (not (is_nan (inf s)))
unfolding is_nan
inf_no_nan s = tt

units_no_nan : (f : Format) (s : Bool) (q k : ℕ) → T (not (is_nan (units f s q k)))
unfolding units
units_no_nan f s q k =
    cond_no_nan (ltb (q * 2 ^ k) (2 ^ (low f + suc (emax f)))) (odd (suc (prec f)) s q k (low f)) (inf s)
    (odd_no_nan (suc (prec f)) s q k (low f)) (inf_no_nan s)

round_no_nan : (f : Format) (s : Bool) (a b : ℕ) → T (not (is_nan (round f s a b)))
round_no_nan f s a b = rw (round_is f s a b) (units_no_nan f s _ _)

-- ---- the definition

ten_pos : (k : ℕ) → 0 < 10 ^ k
ten_pos zero = zero-lt-suc 0
ten_pos (suc k) = rw (pow-suc 10 k) (mul-pos (ten_pos k) (zero-lt-suc 9))

module _ (m k : ℕ) (h : m ≤ 9007199254740992) (l : k ≤ 22) where
  pub times_nearest : mul binary64 (whole m) (whole (10 ^ k)) ≡ round binary64 false (m * 10 ^ k) 1
  times_nearest = mul_round binary64 (whole m) (whole (10 ^ k)) m (10 ^ k) (whole_value m h) (ten_value k l)

  pub over_nearest : div binary64 (whole m) (whole (10 ^ k)) ≡ round binary64 false m (10 ^ k)
  over_nearest = div_round binary64 (whole m) (whole (10 ^ k)) m (10 ^ k) (ten_pos k) (whole_value m h) (ten_value k l)

-- m * 10 ^ p as a quotient of two whole numbers
abbrev pub numerator : ℕ → Scale → ℕ
numerator m (Times k) = m * 10 ^ k
numerator m (Over k) = m

abbrev pub denominator : Scale → ℕ
denominator (Times k) = 1
denominator (Over k) = 10 ^ k

-- what holds of each value that d has
abbrev pub OfValue : (Float → Type 0) → Option Float → Type 0
OfValue P (Some x) = P x
OfValue P None = Unit {0}

admitted : (P : Float → Type 0) (m k : ℕ) (x : Float) → (m ≤ 9007199254740992 → k ≤ 22 → P x) → OfValue P (cond (leb m (2 ^ 53) && leb k 22) (Some x) None)
admitted P m k x f = go (leb m (2 ^ 53)) (leb k 22) (λ t. leb→le m 9007199254740992 t) (λ t. leb→le k 22 t)
  where
    go : (a b : Bool) → (T a → m ≤ 9007199254740992) → (T b → k ≤ 22) → OfValue P (cond (a && b) (Some x) None)
    go true true p q = f (p tt) (q tt)
    go true false p q = tt
    go false b p q = tt

-- a value is the exact m * 10 ^ p, rounded once
pub value_nearest : (m : ℕ) (p : Scale) → OfValue (λ x. x ≡ round binary64 false (numerator m p) (denominator p)) (value_of m p)
value_nearest m (Times k) = admitted _ m k _ (times_nearest m k)
value_nearest m (Over k) = admitted _ m k _ (over_nearest m k)

pub nearest : (s : List ℕ) (x : Float) → decimal_of s ≡ Some x → x ≡ round binary64 false (numerator (joined_digits s) (power_of_ten s)) (denominator (power_of_ten s))
unfolding decimal_of
nearest s x e =
    subst (OfValue (λ y. y ≡ round binary64 false (numerator (joined_digits s) (power_of_ten s)) (denominator (power_of_ten s)))) e
    (value_nearest (joined_digits s) (power_of_ten s))

-- so it has bits of its own
pub no_nan : (s : List ℕ) (x : Float) → decimal_of s ≡ Some x → T (not (is_nan x))
no_nan s x e =
    subst (λ (y : Float). T (not (is_nan y))) (sym (nearest s x e))
    (round_no_nan binary64 false (numerator (joined_digits s) (power_of_ten s)) (denominator (power_of_ten s)))
