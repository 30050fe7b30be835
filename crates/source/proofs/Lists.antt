-- Laws of lists and runs that the scanners' proofs cite.
-- Assumes nothing.
use mathlib.Core.Path.{◌≡◌, refl, sym, ap, ◌∙◌}
use mathlib.Core.Bool.{Bool, true, false, cond}
use mathlib.Core.List.{List, [], ◌∷◌, ◌++◌}
use Prim.Native.Nat.{ℕ, zero, suc, ◌+◌, ◌-◌, ◌<◌, ◌≤◌, zero-le, suc-le-suc}
use mathlib.Core.Logic.{◌⊎◌, inl, inr}
use native.Mathlib.Decide.{dec_lt}
use native.Mathlib.Numerals.{add-one}
use native.Mathlib.Omega.{arith}
use lib.ListN.{length, get_or, take, drop, length-drop, drop_of_length-le}
use lib.Seq.{drop-cons, drop-drop, drop-append_seam, take_at, take-nil, get_or-drop}
use Rattle.std.specs.List.{prefix_len}
use Rattle.source.specs.Bytes.{run, part, Len}

-- the list at a place within it: the byte there, and the list at the next place
pub at_cons : (s : List ℕ) (i : ℕ) → i < length s → drop i s ≡ get_or s i 0 ∷ drop (i + 1) s
at_cons s i h = rw add-one (drop-cons s i 0 h)

-- the list past its end
pub past : (s : List ℕ) (i : ℕ) → length s ≤ i → drop i s ≡ []
past s i h = drop_of_length-le s {i = i} h

pub run_le : (p : ℕ → Bool) (l : List ℕ) → run p l ≤ length l
run_le p [] = zero-le
run_le p (b ∷ l) = go (p b) (run_le p l)
  where
    go : (t : Bool) → run p l ≤ length l → cond t (suc (run p l)) 0 ≤ suc (length l)
    go true h = suc-le-suc h
    go false h = zero-le

-- the library counts the same
pub run_prefix : (p : ℕ → Bool) (l : List ℕ) → prefix_len p l ≡ run p l
run_prefix p [] = refl
run_prefix p (b ∷ l) = rw (run_prefix p l) (go (p b))
  where
    go : (t : Bool) → cond t (1 + run p l) 0 ≡ cond t (suc (run p l)) 0
    go true = omega arith
    go false = refl

-- a byte of the class: the run goes on behind it
pub run_more : (p : ℕ → Bool) (s : List ℕ) (i : ℕ) → i < length s → p (get_or s i 0) ≡ true → i + run p (drop i s) ≡ (i + 1) + run p (drop (i + 1) s)
run_more p s i h t = rw (at_cons s i h, t) (omega arith)

-- another byte: the run ends here
pub run_stop : (p : ℕ → Bool) (s : List ℕ) (i : ℕ) → i < length s → p (get_or s i 0) ≡ false → i + run p (drop i s) ≡ i
run_stop p s i h t = rw (at_cons s i h, t) (omega arith)

-- the end of the list: so does the run
pub run_end : (p : ℕ → Bool) (s : List ℕ) (i : ℕ) → length s ≤ i → i + run p (drop i s) ≡ i
run_end p s i h = rw (past s i h) (omega arith)

-- the run's length from its end i
pub run_len : (p : ℕ → Bool) (s : List ℕ) (at i : ℕ) → at + run p (drop at s) ≡ i → Len (run p) s at (i - at)
run_len p s at i e = record { is = omega arith; within = omega (arith, run_le p (drop at s), length-drop at s) }

-- a byte that is not 0 stands within the list
pub inside : (s : List ℕ) (i : ℕ) → (get_or s i 0 ≡ 0 → ⊥) → i < length s
inside [] i h = absurd (h refl)
inside (b ∷ s) zero h = suc-le-suc zero-le
inside (b ∷ s) (suc i) h = suc-le-suc (inside s i h)

-- the place i is within the list, or the list ends there
pub place : (s : List ℕ) (i : ℕ) → (i < length s) ⊎ (length s ≤ i)
place s i = go (dec_lt i (length s))
  where
    go : Dec (i < length s) → (i < length s) ⊎ (length s ≤ i)
    go (yes h) = inl h
    go (no h) = inr (omega arith)

-- a part within the list: its first byte, and the part behind it
pub part_cons : (s : List ℕ) (at end : ℕ) → at < end → end ≤ length s → part s at end ≡ get_or s at 0 ∷ part s (at + 1) end
part_cons s at end h k =
    let e : end - at ≡ suc (end - (at + 1)) = omega arith in
    rw (e, at_cons s at (omega arith))

-- a list cut short, and then its front taken off
pub drop_take : (k n : ℕ) (l : List ℕ) → drop k (take n l) ≡ take (n - k) (drop k l)
drop_take zero n l = let e : n - 0 ≡ n = omega arith in rw e
drop_take (suc k) zero l = let e : 0 - suc k ≡ 0 = omega arith in rw e
drop_take (suc k) (suc n) [] = sym (take-nil (suc n - suc k))
drop_take (suc k) (suc n) (b ∷ l) = let e : suc n - suc k ≡ n - k = omega arith in rw e (drop_take k n l)

-- ---- what stands at a place of a list

module _ (s : List ℕ) (at : ℕ) where
  -- it ends within the list
  pub length_at : (l : List ℕ) → drop at s ≡ l → length s - at ≡ length l
  length_at l e = sym (length-drop at s) ∙ ap length e

  pub byte_at : (b : ℕ) (l : List ℕ) → drop at s ≡ b ∷ l → get_or s at 0 ≡ b
  byte_at b l e =
      let z : at + 0 ≡ at = omega arith in
      ap (λ (i : ℕ). get_or s i 0) (sym z) ∙ sym (get_or-drop at s 0 0) ∙ ap (λ (x : List ℕ). get_or x 0 0) e

  pub part_at : (w r : List ℕ) → drop at s ≡ w ++ r → part s at (at + length w) ≡ w
  part_at w r e =
      let n : at + length w - at ≡ length w = omega arith in
      rw n (ap (take (length w)) e ∙ take_at w r (length w) refl)

  -- and what stands behind it
  pub drop_more : (w r : List ℕ) → drop at s ≡ w ++ r → drop (at + length w) s ≡ r
  drop_more w r e = sym (drop-drop (length w) at s) ∙ ap (drop (length w)) e ∙ drop-append_seam w r
