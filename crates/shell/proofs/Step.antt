-- What one read comes to, case by case.
-- Assumes nothing.
use mathlib.Core.Path.{◌≡◌, refl, ◌∙◌}
use mathlib.Core.Bool.{true, cond}
use mathlib.Core.List.{List, [], ◌∷◌, ◌++◌}
use Prim.Native.Nat.{ℕ, ◌+◌, ◌-◌, ◌≤◌, ◌<◌}
use native.Mathlib.Omega.{arith}
use borrow.Author.Tests.{lt-ltb, le-ltb}
use lib.Dec.{ltb}
use lib.ListN.{length, take, length-append}
use lib.Seq.{length-take-le}
use Rattle.shell.specs.declared.Stage.{Stage}
use Rattle.shell.specs.declared.Stage.TheVariants.{Open, Whole, Longer, Failed}
use Rattle.shell.specs.declared.Reading.{Reading}
use Rattle.shell.specs.Input.{failure, bytes, front, whole, longer, failed, heard, is_open_lem, input_of, input}

-- what a state that stays open stands for, with other bytes
pub still_open : (s : Stage) (l l' : List ℕ) → is_open_lem (input_of s l) ≡ true → input_of s l' ≡ front l'
still_open Open l l' e = refl
still_open Whole l l' e = cc
still_open Longer l l' e = cc
still_open Failed l l' e = cc

-- One read more at a state that is open.
module _ (r : Reading) (opened : is_open_lem (input r) ≡ true) where
  abbrev so_far : List ℕ
  so_far = take r.len r.script

  kept : input r ≡ front so_far
  kept = still_open r.stage so_far so_far opened

  pub is_failed : heard (input r) failure ≡ failed
  unfolding heard
  is_failed = rw kept

  pub is_whole : (chunk : List ℕ) → heard (input r) (bytes (take 0 chunk)) ≡ whole so_far
  unfolding heard
  is_whole chunk = rw kept

  grown : (xs : List ℕ) → 0 < length xs → heard (input r) (bytes xs) ≡ cond (ltb 1023 (length (so_far ++ xs))) longer (front (so_far ++ xs))
  unfolding heard
  grown [] h = absurd (omega arith)
  grown (x ∷ xs) h = rw kept

  module _ (k : ℕ) (chunk : List ℕ) (some : 0 < k) (there : k ≤ length chunk) where
    has : 0 < length (take k chunk)
    has = omega (arith, length-take-le k chunk there)

    long : length (so_far ++ take k chunk) ≡ r.len + k
    long = omega (arith, length-append so_far (take k chunk), length-take-le k chunk there, length-take-le r.len r.script (omega (arith, r.room, r.within)))

    pub is_longer : 1023 - r.len < k → heard (input r) (bytes (take k chunk)) ≡ longer
    is_longer h = grown (take k chunk) has ∙ rw (lt-ltb 1023 (length (so_far ++ take k chunk)) (omega (arith, long)))

    pub is_more : k ≤ 1023 - r.len → heard (input r) (bytes (take k chunk)) ≡ front (so_far ++ take k chunk)
    is_more h = grown (take k chunk) has ∙ rw (le-ltb 1023 (length (so_far ++ take k chunk)) (omega (arith, long)))
