-- What stands between tokens, one byte at a time.
-- Assumes nothing.
use mathlib.Core.Path.{◌≡◌, refl, sym, ap, ◌∙◌}
use mathlib.Core.Bool.{Bool, true, false, cond, not}
use mathlib.Core.List.{List, [], ◌∷◌}
use Prim.Native.Nat.{ℕ, suc, ◌+◌, ◌<◌, ◌≤◌, ◌-◌}
use native.Mathlib.Decide.{dec_lt}
use native.Mathlib.Omega.{arith}
use lib.Dec.{eqb, ltb}
use lib.ListN.{length, get_or, take, drop, length-drop}
use lib.Seq.{take-length, drop-drop, get_or-drop}
use borrow.Author.Tests.{ne_eqb, lt-ltb, le-ltb}
use Rattle.std.specs.Prelude.{Option, Some, None, unwrap_or}
use Rattle.std.specs.List.{position_or_len}
use Rattle.source.specs.Bytes.{run}
use Rattle.source.proofs.Lists.{at_cons, past, run_le}
use Rattle.spacing.specs.Gap.{is_blank, gap}

-- from a place up to the end of a list
pub rest_is : (s : List ℕ) (at : ℕ) → take (length s - at) (drop at s) ≡ drop at s
rest_is s at = rw (← length-drop at s) (take-length (drop at s))

-- A search from a place on for the first byte that passes the test t ends where the run of the class p ends, whose bytes do not pass it
module _ (t p : ℕ → Bool) (class : (b : ℕ) → p b ≡ not (t b)) where
  run_is : (l : List ℕ) → position_or_len t l ≡ run p l
  run_is [] = refl
  run_is (b ∷ l) = rw (class b) (go (t b) (run_is l))
    where
      go : (u : Bool) → position_or_len t l ≡ run p l → cond (not u) (1 + position_or_len t l) 0 ≡ cond (not u) (suc (run p l)) 0
      go true e = refl
      go false e = omega arith

  pub run_found : (s : List ℕ) (at n : ℕ) (r : Option ℕ) → at ≤ length s → n ≡ unwrap_or r (length (take (length s - at) (drop at s)))
      → r ≡ cond (ltb (position_or_len t (drop at s)) (length (drop at s))) (Some (position_or_len t (drop at s))) None
      → (at + n ≡ at + run p (drop at s)) × (at + n ≤ length s)
  run_found s at n r h u e =
      let k : n ≡ run p (drop at s) = u ∙ ap (λ (l : List ℕ). unwrap_or r (length l)) (rest_is s at) ∙ go (dec_lt (position_or_len t (drop at s)) (length (drop at s))) in
      (omega arith, omega (arith, run_le p (drop at s), length-drop at s))
    where
      go : Dec (position_or_len t (drop at s) < length (drop at s)) → unwrap_or r (length (drop at s)) ≡ run p (drop at s)
      go (yes k) = rw (e, lt-ltb _ _ k) (run_is (drop at s))
      go (no k) = rw (e, le-ltb (position_or_len t (drop at s)) (length (drop at s)) (omega arith)) (omega (arith, run_is (drop at s), run_le p (drop at s)))

-- the same of the first byte outside a class
abbrev pub other_than : (ℕ → Bool) → ℕ → Bool
other_than p b = not (p b)

pub twice : (p : ℕ → Bool) (b : ℕ) → p b ≡ not (not (p b))
twice p b = go (p b)
  where
    go : (t : Bool) → t ≡ not (not t)
    go true = refl
    go false = refl

abbrev pub is_feed : ℕ → Bool
is_feed b = eqb b 10

abbrev pub no_feed : ℕ → Bool
no_feed b = not (eqb b 10)

-- a comment goes on up to the line feed
pub comment_is : (l : List ℕ) → gap true l ≡ run no_feed l
comment_is [] = refl
comment_is (b ∷ l) = go (eqb b 10) (comment_is l)
  where
    go : (t : Bool) → gap true l ≡ run no_feed l → cond t 0 (suc (gap true l)) ≡ cond (not t) (suc (run no_feed l)) 0
    go true e = refl
    go false e = ap suc e

module _ (s : List ℕ) (i : ℕ) (within : i < length s) where
  pub gap_blank : is_blank (get_or s i 0) ≡ true → i + gap false (drop i s) ≡ i + 1 + gap false (drop (i + 1) s)
  gap_blank e = rw (at_cons s i within, e) (omega arith)

  pub gap_comment : get_or s i 0 ≡ 35 → i + gap false (drop i s) ≡ i + 1 + gap true (drop (i + 1) s)
  gap_comment e = rw (at_cons s i within, e) (omega arith)

  pub gap_other : is_blank (get_or s i 0) ≡ false → (get_or s i 0 ≡ 35 → ⊥) → i + gap false (drop i s) ≡ i
  gap_other b e = rw (at_cons s i within, b, ne_eqb (get_or s i 0) 35 e) (omega arith)

-- the blanks are passed one by one
blanks_passed : (l : List ℕ) → gap false l ≡ run is_blank l + gap false (drop (run is_blank l) l)
blanks_passed [] = refl
blanks_passed (b ∷ l) = go (is_blank b) refl (blanks_passed l)
  where
    go : (t : Bool) → is_blank b ≡ t → gap false l ≡ run is_blank l + gap false (drop (run is_blank l) l)
        → gap false (b ∷ l) ≡ run is_blank (b ∷ l) + gap false (drop (run is_blank (b ∷ l)) (b ∷ l))
    go true e h = rw e (omega (arith, h))
    go false e h = rw (e, e) (omega arith)

-- and what stands behind them is none
first_other : (l : List ℕ) → is_blank (get_or (drop (run is_blank l) l) 0 0) ≡ false
first_other [] = refl
first_other (b ∷ l) = go (is_blank b) refl (first_other l)
  where
    go : (t : Bool) → is_blank b ≡ t → is_blank (get_or (drop (run is_blank l) l) 0 0) ≡ false
        → is_blank (get_or (drop (run is_blank (b ∷ l)) (b ∷ l)) 0 0) ≡ false
    go true e h = rw e h
    go false e h = rw e e

module _ (s : List ℕ) (at end : ℕ) (found : end ≡ at + run is_blank (drop at s)) where
  behind : drop end s ≡ drop (run is_blank (drop at s)) (drop at s)
  behind = ap (λ (k : ℕ). drop k s) found ∙ sym (drop-drop (run is_blank (drop at s)) at s)

  pub gap_from : at + gap false (drop at s) ≡ end + gap false (drop end s)
  gap_from = rw behind (omega (arith, blanks_passed (drop at s), found))

  pub other : is_blank (get_or s end 0) ≡ false
  other =
      let z : end + 0 ≡ end = omega arith in
      ap (λ (i : ℕ). is_blank (get_or s i 0)) (sym z) ∙ ap is_blank (sym (get_or-drop end s 0 0) ∙ ap (λ (l : List ℕ). get_or l 0 0) behind) ∙ first_other (drop at s)

pub gap_past : (s : List ℕ) (i : ℕ) → length s ≤ i → i + gap false (drop i s) ≡ i
gap_past s i h = rw (past s i h) (omega arith)
