-- Laws of lines.
-- Assumes nothing.
use Rattle.std.proofs.Common.{◌≡◌, ℕ, suc, ◌+◌, ◌-◌, ◌<◌, ◌≤◌, true, false, List, [], ◌∷◌, take, drop, length, cond, eqb, ltb, Option, Some, None, refl, sym, ap, min, arith, length-drop}
use Rattle.std.proofs.lemmas.Grind.{common_steps}
use Rattle.std.specs.List.{position_or_len}
use Rattle.source.specs.Bytes.{run}
use Rattle.cases.specs.Lines.{in_line, line_end_lem, onto_line, lines_of}

-- how far a line runs, in the library's words
pub run_position : (l : List ℕ) → run in_line l ≡ position_or_len (λ b. eqb b 10) l
run_position [] = refl
run_position (b ∷ l) = let e = run_position l in grind (arith, common_steps, e)

-- what `position` gives
abbrev pub first_in : List ℕ → Option ℕ
first_in l = cond (ltb (position_or_len (λ b. eqb b 10) l) (length l)) (Some (position_or_len (λ b. eqb b 10) l)) None

pub run_bound : (l : List ℕ) → run in_line l ≤ length l
run_bound [] = omega arith
run_bound (b ∷ l) = let e = run_bound l in grind (arith, common_steps, e)

some_first : (l : List ℕ) (n : ℕ) → Some n ≡ first_in l → (n ≡ run in_line l) × (n ≤ length l)
some_first l n p = let e = run_position l in let b = run_bound l in (grind (arith, common_steps, e, p), grind (arith, common_steps, e, b, p))

none_first : (l : List ℕ) → None ≡ first_in l → run in_line l ≡ length l
none_first l p = let e = run_position l in let b = run_bound l in grind (arith, common_steps, e, b, p)

-- where `position` found a line feed behind `at`, and where it found none
module _ (s : List ℕ) (at : ℕ) (h : at ≤ length s) where
  behind : take (length s - at) (drop at s) ≡ drop at s
  behind = grind (arith, common_steps, h)

  pub found : (n : ℕ) → Some n ≡ first_in (take (length s - at) (drop at s)) → (at + n ≡ line_end_lem s at) × (at ≤ at + n) × (at + n ≤ length s)
  found n p =
      let q : (n ≡ run in_line (drop at s)) × (n ≤ length (drop at s)) = some_first (drop at s) n (rw (sym behind) p) in
      (ap (λ k. at + k) q.0, omega arith, omega (arith, q.1, length-drop at s))

  pub not_found : None ≡ first_in (take (length s - at) (drop at s)) → (length s ≡ line_end_lem s at) × (at ≤ length s) × (length s ≤ length s)
  not_found p =
      let q : run in_line (drop at s) ≡ length (drop at s) = none_first (drop at s) (rw (sym behind) p) in
      (omega (arith, q, length-drop at s), h, omega arith)

-- a byte in front of lines
in_front : (b : ℕ) (x : List ℕ) → lines_of x ≡ take (run in_line x) x ∷ lines_of (drop (run in_line x + 1) x) → onto_line b (lines_of x) ≡ (b ∷ take (run in_line x) x) ∷ lines_of (drop (suc (run in_line x) + 1) (b ∷ x))
in_front b x e = let k : suc (run in_line x) + 1 ≡ suc (run in_line x + 1) = omega arith in rw (e, k) refl

-- the first line, and what is behind its line feed
pub first_line : (l : List ℕ) → 0 < length l → lines_of l ≡ take (run in_line l) l ∷ lines_of (drop (run in_line l + 1) l)
unfolding lines_of
first_line [] h = absurd (omega (arith, h))
first_line (b ∷ []) h = grind (arith, common_steps)
first_line (b ∷ d ∷ l) h =
    let e = in_front b (d ∷ l) (first_line (d ∷ l) (omega arith)) in
    elim (in_line b) as (λ v. cond v (onto_line b (lines_of (d ∷ l))) ([] ∷ lines_of (d ∷ l))
    ≡ take (cond v (suc (run in_line (d ∷ l))) 0) (b ∷ d ∷ l) ∷ lines_of (drop (cond v (suc (run in_line (d ∷ l))) 0 + 1) (b ∷ d ∷ l)))
    [ true ↦ e | false ↦ refl ]

pub no_lines : (l : List ℕ) → length l ≡ 0 → lines_of l ≡ []
unfolding lines_of
no_lines [] h = refl
no_lines (b ∷ l) h = absurd (omega (arith, h))

-- the same by the place of the line feed, or the end, and the place behind it
pub cut : (l : List ℕ) (n m : ℕ) → 0 < length l → n ≡ line_end_lem l 0 → m ≡ min (length l) (n + 1) → lines_of l ≡ take n l ∷ lines_of (take (length l - m) (drop m l))
cut l n m h e d =
    let k : n ≡ run in_line l = omega (arith, e) in
    let j : drop (run in_line l + 1) l ≡ take (length l - m) (drop m l) = grind (arith, common_steps, run_bound l, k, d) in
    rw (k, sym j) (first_line l h)

-- so a line less is left
pub fewer : (l : List ℕ) (n m : ℕ) → 0 < length l → n ≡ line_end_lem l 0 → m ≡ min (length l) (n + 1) → length (lines_of (take (length l - m) (drop m l))) < length (lines_of l)
fewer l n m h e d = rw (cut l n m h e d) (omega arith)
