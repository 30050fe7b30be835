-- A token has a byte or more, and ends within the list.
-- Assumes nothing.
use mathlib.Core.Path.{◌≡◌, refl, sym, ap}
use mathlib.Core.Bool.{Bool, true, false, cond, true≢false}
use mathlib.Core.List.{List, [], ◌∷◌}
use Prim.Native.Nat.{ℕ, zero, suc, ◌+◌, ◌<◌, ◌≤◌, zero-le, suc-le-suc}
use native.Mathlib.Omega.{arith}
use lib.Dec.{eqb, ltb}
use borrow.Author.Tests.{ne_eqb}
use lib.ListN.{length, drop, length-drop}
use Rattle.source.specs.Bytes.{digit, run}
use Rattle.source.proofs.Bools.{and_right}
use Rattle.source.proofs.Lists.{run_le}
use Rattle.raw_token.specs.Pattern as P
use Rattle.raw_token.specs.Pattern.{begins_name_lem, continues_name, behind, one, character, many, seq, maybe, and_maybe, is_sign_lem, is_dot, is_e, is_quote, is_prefix, body}
use Rattle.raw_token.specs.Table.{Pattern, literal, name, int, float, string, len, Entry, table, longer, longest, found, token_at_lem}
use Rattle.raw_token.proofs.Steps.{behind_le}
use Rattle.raw_token.proofs.Names.{character_le, many_le}
use Rattle.std.specs.Prelude.{Some, None}
use Rattle.raw_token.specs.Table.{raw_token}
use Rattle.raw_token.specs.declared.RawToken.{RawToken}

-- a match is no longer than the list
abbrev pub Bounded : (List ℕ → ℕ) → Type 0
Bounded p = (l : List ℕ) → p l ≤ length l

cond_le : (t : Bool) (n m : ℕ) → n ≤ m → cond t 0 n ≤ m
cond_le true n m h = zero-le
cond_le false n m h = h

pub one_le : (p : ℕ → Bool) → Bounded (one p)
one_le p [] = zero-le
one_le p (b ∷ l) = go (p b)
  where
    go : (t : Bool) → cond t 1 0 ≤ suc (length l)
    go true = suc-le-suc zero-le
    go false = zero-le

module _ (p q : List ℕ → ℕ) (hp : Bounded p) (hq : Bounded q) where
  both_le : (l : List ℕ) → p l + q (drop (p l) l) ≤ length l
  both_le l = omega (arith, hp l, hq (drop (p l) l), length-drop (p l) l)

  maybe_le : Bounded (maybe p q)
  maybe_le l = omega (arith, behind_le (p l) (q (drop (p l) l)), both_le l)

  pub seq_le : Bounded (seq p q)
  seq_le l = cond_le (eqb (p l) 0) _ _ (maybe_le l)

  and_maybe_le : Bounded (and_maybe p q)
  and_maybe_le l = cond_le (eqb (p l) 0) _ _ (both_le l)

prefix_le : (w l : List ℕ) → is_prefix w l ≡ true → length w ≤ length l
prefix_le [] l h = zero-le
prefix_le (a ∷ w) [] h = absurd (true≢false (sym h))
prefix_le (a ∷ w) (b ∷ l) h = suc-le-suc (prefix_le w l (and_right (eqb b a) (is_prefix w l) h))

literal_le : (w : List ℕ) → Bounded (P.literal w)
unfolding P.literal
literal_le w l = go (is_prefix w l) (prefix_le w l)
  where
    go : (t : Bool) → (t ≡ true → length w ≤ length l) → cond t (length w) 0 ≤ length l
    go true h = h refl
    go false h = zero-le

name_le : Bounded P.name
unfolding P.name
name_le = and_maybe_le (character begins_name_lem) (many continues_name) (character_le begins_name_lem) (many_le continues_name)

int_le : Bounded P.int
unfolding P.int
int_le = maybe_le (one is_sign_lem) (run digit) (one_le is_sign_lem) (run_le digit)

pub fraction_le : Bounded P.fraction
unfolding P.fraction
fraction_le = seq_le (one is_dot) (run digit) (one_le is_dot) (run_le digit)

float_le : Bounded P.float
unfolding P.float P.exponent
float_le =
    and_maybe_le (seq (run digit) P.fraction) P.exponent
    (seq_le (run digit) P.fraction (run_le digit) fraction_le)
    (seq_le (one is_e) P.int (one_le is_e) int_le)

body_le : (q : ℕ) (t : Bool) → Bounded (body q t)
body_le q t [] = zero-le
body_le q true (b ∷ l) = cond_le (eqb b 10) _ _ (omega (arith, behind_le 1 (body q false l), body_le q false l))
body_le q false (b ∷ l) = go (eqb b q) (body_le q (eqb b 92) l)
  where
    go : (t : Bool) → body q (eqb b 92) l ≤ length l → cond t 1 (behind 1 (body q (eqb b 92) l)) ≤ suc (length l)
    go true h = suc-le-suc zero-le
    go false h = omega (arith, behind_le 1 (body q (eqb b 92) l))

string_le : Bounded P.string
string_le [] = zero-le
string_le (q ∷ l) = go (is_quote q)
  where
    go : (t : Bool) → cond t (behind 1 (body q false l)) 0 ≤ suc (length l)
    go true = omega (arith, behind_le 1 (body q false l), body_le q false l)
    go false = zero-le

pub len_le : (p : Pattern) → Bounded (len p)
len_le (literal w) = literal_le w
len_le name = name_le
len_le int = int_le
len_le float = float_le
len_le string = string_le

longest_le : (es : List Entry) (best : ℕ × ℕ) (l : List ℕ) → best.1 ≤ length l → (longest best es l).1 ≤ length l
longest_le [] best l h = h
longest_le (e ∷ es) best l h = longest_le es (longer best e.0 (len e.1 l)) l (go (ltb best.1 (len e.1 l)) (len_le e.1 l))
  where
    go : (t : Bool) → len e.1 l ≤ length l → (cond {A = ℕ × ℕ} t (e.0, len e.1 l) best).1 ≤ length l
    go true k = k
    go false k = h

-- a token is its code and its end
pub same_token : (c d m n : ℕ) → Some (raw_token c m) ≡ Some (raw_token d n) → (c ≡ d) × (m ≡ n)
same_token c d m n e =
    let r : raw_token c m ≡ raw_token d n = cc in
    (ap (λ (t : RawToken). t.code) r, ap (λ (t : RawToken). t.end) r)

-- what a found token says of the best match
pub record Best (at : ℕ) (best : ℕ × ℕ) (code end : ℕ) : Type 0 where
  pub some : 0 < best.1
  pub code_is : best.0 ≡ code
  pub end_is : at + best.1 ≡ end

pub found_best : (at : ℕ) (best : ℕ × ℕ) (code end : ℕ) → found at best ≡ Some (raw_token code end) → Best at best code end
found_best at best code end e = go best.1 e refl
  where
    go : (m : ℕ) → cond (eqb m 0) None (Some (raw_token best.0 (at + m))) ≡ Some (raw_token code end) → best.1 ≡ m → Best at best code end
    go zero q h = let z : ◌≡◌ {A = ℕ} 0 1 = cc in absurd (omega arith)
    go (suc m) q h =
        let r = same_token best.0 code (at + suc m) end (rw (ne_eqb (suc m) 0 (omega arith)) at q) in
        record { some = omega arith; code_is = r.0; end_is = omega (arith, r.1) }

-- a token has a byte or more, and ends within the source
pub token_within : (s : List ℕ) (at code end : ℕ) → token_at_lem s at ≡ Some (raw_token code end) → (at < end) × (end ≤ length s)
unfolding token_at_lem
token_within s at code end e =
    let b = found_best at (longest (0, 0) table (drop at s)) code end e in
    let l = longest_le table (0, 0) (drop at s) zero-le in
    (omega arith, omega (arith, length-drop at s))
