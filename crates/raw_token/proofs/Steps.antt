-- The patterns at a place of a list: what the byte there decides.
-- Assumes nothing.
use mathlib.Core.Path.{◌≡◌, refl, sym, ap, ◌∙◌}
use mathlib.Core.Bool.{Bool, true, false, cond, true≢false}
use mathlib.Core.Logic.{⊎_elim}
use mathlib.Core.List.{List, [], ◌∷◌}
use Prim.Native.Nat.{ℕ, zero, suc, ◌+◌, ◌-◌, ◌<◌, ◌≤◌, zero-le}
use native.Mathlib.Nat.{le_refl, zero-add, add_assoc}
use native.Mathlib.Omega.{arith}
use lib.ListN.{length, get_or, drop}
use lib.Dec.{eqb}
use lib.Seq.{drop-drop}
use borrow.Author.Tests.{eq-eqb, ne_eqb}
use Rattle.source.specs.Bytes.{run, digit}
use Rattle.std.specs.Prelude.{Option, Some, None, unwrap_or}
use Rattle.source.proofs.Lists.{at_cons, past, inside, place}
use Rattle.raw_token.specs.Pattern.{behind, one, seq, maybe, is_prefix, fraction, exponent, float, is_quote, body, string}
use Rattle.utf8.specs.Table.{some_length}
use Rattle.raw_token.specs.Parts.{Matches}

pub behind_none : (k n : ℕ) → n ≡ 0 → behind k n ≡ 0
unfolding behind
behind_none k n e = rw e

pub behind_some : (k n : ℕ) → (n ≡ 0 → ⊥) → behind k n ≡ k + n
unfolding behind
behind_some k zero h = absurd (h refl)
behind_some k (suc n) h = refl

pub behind_zero : (n : ℕ) → behind 0 n ≡ n
unfolding behind
behind_zero zero = refl
behind_zero (suc n) = zero-add (suc n)

pub behind_behind : (j k n : ℕ) → behind j (behind k n) ≡ behind (j + k) n
unfolding behind
behind_behind j k zero = refl
behind_behind j k (suc n) = behind_some j (k + suc n) (omega arith) ∙ omega arith

pub behind_le : (k n : ℕ) → behind k n ≤ k + n
unfolding behind
behind_le k zero = zero-le
behind_le k (suc n) = le_refl _

-- a byte of a class that does not hold 0 stands within the list
pub hit_inside : (p : ℕ → Bool) (s : List ℕ) (i : ℕ) → p 0 ≡ false → p (get_or s i 0) ≡ true → i < length s
hit_inside p s i z h = inside s i (λ e. true≢false (sym h ∙ ap p e ∙ z))

module _ (p : ℕ → Bool) (q : List ℕ → ℕ) (s : List ℕ) (i : ℕ) where
  pub seq_hit : p 0 ≡ false → p (get_or s i 0) ≡ true → seq (one p) q (drop i s) ≡ behind 1 (q (drop (i + 1) s))
  seq_hit z h = rw (at_cons s i (hit_inside p s i z h), h)

  pub seq_miss : p (get_or s i 0) ≡ false → seq (one p) q (drop i s) ≡ 0
  seq_miss h = ⊎_elim (λ l. rw (at_cons s i l, h)) (λ g. rw (past s i g)) (place s i)

  pub maybe_hit : p 0 ≡ false → p (get_or s i 0) ≡ true → maybe (one p) q (drop i s) ≡ behind 1 (q (drop (i + 1) s))
  maybe_hit z h = rw (at_cons s i (hit_inside p s i z h), h)

  pub maybe_miss : p (get_or s i 0) ≡ false → maybe (one p) q (drop i s) ≡ q (drop i s)
  maybe_miss h =
      ⊎_elim (λ l. rw (at_cons s i l, h) (behind_zero _)) (λ g. rw (past s i g) (behind_zero _)) (place s i)

-- ---- a length or nothing

length_some : (n m : ℕ) → Some n ≡ some_length m → (n ≡ m) × (m ≡ 0 → ⊥)
length_some n zero e = absurd (cc)
length_some n (suc m) e = (cc, λ z. omega arith)

length_none : (m : ℕ) → None ≡ some_length m → m ≡ 0
length_none zero e = refl
length_none (suc m) e = absurd (cc)

some_is : (n m : ℕ) → n ≡ m → (n ≡ 0 → ⊥) → Some n ≡ some_length m
some_is n zero e h = absurd (h e)
some_is n (suc m) e h = ap Some e

module _ (f : List ℕ → ℕ) (s : List ℕ) (i : ℕ) where
  pub matches_is : (n : ℕ) → Matches f s i (Some n) → (n ≡ f (drop i s)) × (f (drop i s) ≡ 0 → ⊥)
  matches_is n m = length_some n (f (drop i s)) m.is

  pub misses_is : Matches f s i None → f (drop i s) ≡ 0
  misses_is m = length_none (f (drop i s)) m.is

  pub matches_or : (r : Option ℕ) → Matches f s i r → unwrap_or r 0 ≡ f (drop i s)
  matches_or None m = sym (misses_is m)
  matches_or (Some n) m = (matches_is n m).0

  pub matches : (n : ℕ) → n ≡ f (drop i s) → (n ≡ 0 → ⊥) → n ≤ length s - i → Matches f s i (Some n)
  matches n e h w = record { is = some_is n (f (drop i s)) e h; within = w }

  pub misses : f (drop i s) ≡ 0 → Matches f s i None
  misses e = record { is = rw e; within = zero-le }

  -- where its first byte is there and q follows
  pub one_more : (q : List ℕ → ℕ) (n : ℕ) → i < length s → f (drop i s) ≡ behind 1 (q (drop (i + 1) s)) → Matches q s (i + 1) (Some n) → Matches f s i (Some (1 + n))
  one_more q n h e m =
      let k = length_some n (q (drop (i + 1) s)) m.is in
      matches (1 + n) (rw k.0 (sym (e ∙ behind_some 1 (q (drop (i + 1) s)) k.1))) (λ z. omega arith) (omega (arith, m.within))

  pub none_more : (q : List ℕ → ℕ) → f (drop i s) ≡ behind 1 (q (drop (i + 1) s)) → Matches q s (i + 1) None → Matches f s i None
  none_more q e m = misses (e ∙ behind_none 1 (q (drop (i + 1) s)) (length_none (q (drop (i + 1) s)) m.is))

-- a run is not empty where its class has the byte there
pub run_some : (p : ℕ → Bool) (s : List ℕ) (i : ℕ) → i < length s → p (get_or s i 0) ≡ true → run p (drop i s) ≡ 0 → ⊥
run_some p s i h t e = let z : suc (run p (drop (i + 1) s)) ≡ 0 = sym (rw (at_cons s i h, t)) ∙ e in omega arith

both_none : (t : Bool) (m : ℕ) → cond (eqb (cond t 0 0) 0) 0 m ≡ 0
both_none true m = refl
both_none false m = refl

-- a float, from the length of its digits and of its fraction
module _ (s : List ℕ) (at n f : ℕ) (is_n : n ≡ run digit (drop at s)) (isF : f ≡ fraction (drop (at + n) s)) where
  tail : fraction (drop (run digit (drop at s)) (drop at s)) ≡ f
  tail = rw (drop-drop, ← is_n, ← isF)

  pub float_none : f ≡ 0 → float (drop at s) ≡ 0
  unfolding float
  float_none z = rw (tail, z, behind_none (run digit (drop at s)) 0 refl) (both_none (eqb (run digit (drop at s)) 0) _)

  pub float_some : (n ≡ 0 → ⊥) → (f ≡ 0 → ⊥) → float (drop at s) ≡ n + f + exponent (drop (at + n + f) s)
  unfolding float
  float_some hn hf = rw (tail, ← is_n, ne_eqb n 0 hn, behind_some n f hf, ne_eqb (n + f) 0 (omega arith), drop-drop, ← add_assoc at n f)

  pub float_end : (e : ℕ) → (n ≡ 0 → ⊥) → (f ≡ 0 → ⊥) → e ≡ exponent (drop (at + n + f) s) → (float (drop at s) ≡ 0 → ⊥) × (at + n + f + e ≡ at + float (drop at s))
  float_end e hn hf is_e = let z = float_some hn hf in ((λ k. hf (omega arith)), omega arith)

-- one byte of an operator
pub prefix_hit : (k : ℕ) (s : List ℕ) (i : ℕ) → 0 < k → get_or s i 0 ≡ k → is_prefix (k ∷ []) (drop i s) ≡ true
prefix_hit k s i h e = rw (at_cons s i (inside s i (omega arith)), eq-eqb (get_or s i 0) k e)

pub prefix_miss : (k : ℕ) (s : List ℕ) (i : ℕ) → (get_or s i 0 ≡ k → ⊥) → is_prefix (k ∷ []) (drop i s) ≡ false
prefix_miss k s i h = ⊎_elim (λ l. rw (at_cons s i l, ne_eqb (get_or s i 0) k h)) (λ g. rw (past s i g)) (place s i)

-- a string's body, at a place
module _ (q : ℕ) (s : List ℕ) (i : ℕ) where
  pub body_end : (escaped : Bool) → length s ≤ i → body q escaped (drop i s) ≡ 0
  body_end escaped h = rw (past s i h)

  module _ (within : i < length s) where
    pub body_quote : get_or s i 0 ≡ q → body q false (drop i s) ≡ 1
    body_quote e = rw (at_cons s i within, eq-eqb (get_or s i 0) q e)

    pub body_next : (get_or s i 0 ≡ q → ⊥) → body q false (drop i s) ≡ behind 1 (body q (eqb (get_or s i 0) 92) (drop (i + 1) s))
    body_next h = rw (at_cons s i within, ne_eqb (get_or s i 0) q h)

    pub escaped_feed : get_or s i 0 ≡ 10 → body q true (drop i s) ≡ 0
    escaped_feed e = rw (at_cons s i within, eq-eqb (get_or s i 0) 10 e)

    pub escaped_next : (get_or s i 0 ≡ 10 → ⊥) → body q true (drop i s) ≡ behind 1 (body q false (drop (i + 1) s))
    escaped_next h = rw (at_cons s i within, ne_eqb (get_or s i 0) 10 h)

-- what has been passed grows by one
pub grow : (x i at y z : ℕ) → at ≤ i → x ≡ behind (i - at) y → y ≡ behind 1 z → x ≡ behind (i + 1 - at) z
grow x i at y z h e g = e ∙ ap (behind (i - at)) g ∙ behind_behind (i - at) 1 z ∙ ap (λ (m : ℕ). behind m z) (omega arith)

-- the closing quote
pub close : (x i at y : ℕ) → at ≤ i → x ≡ behind (i - at) y → y ≡ 1 → i + 1 - at ≡ x
close x i at y h e g = let z = e ∙ ap (behind (i - at)) g ∙ behind_some (i - at) 1 (omega arith) in omega arith

pub string_open : (s : List ℕ) (at : ℕ) → at < length s → is_quote (get_or s at 0) ≡ true → string (drop at s) ≡ behind (at + 1 - at) (body (get_or s at 0) false (drop (at + 1) s))
string_open s at h t = rw (at_cons s at h, t) (ap (λ (m : ℕ). behind m (body (get_or s at 0) false (drop (at + 1) s))) (omega arith))
