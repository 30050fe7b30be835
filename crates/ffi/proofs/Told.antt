-- The two ways of a call of the check alone: no room for the answer, and what was found with its rounds.
-- Assumes nothing.
use mathlib.Core.Path.{◌≡◌, refl, sym, ap, ◌∙◌}
use mathlib.Core.Bool.{true, false}
use mathlib.Core.List.{List, [], ◌∷◌}
use Prim.Native.Nat.{ℕ, ◌≤◌, ◌<◌}
use native.Mathlib.Omega.{arith}
use borrow.Author.Tests.{lt-ltb, le-ltb}
use lib.ListN.{length, set, drop}
use Rattle.std.specs.Prelude.{Option}
use Rattle.utf8.specs.Table.{utf8_error_lem, rounds}
use Rattle.ffi.specs.Called.{few}
use Rattle.ffi.specs.Checks.{number, place, Checks}

pub no_words : (src answer : List ℕ) → length answer < 2 → Checks src 4294967295 answer answer
no_words src answer h =
    let e : few 2 answer ≡ true = lt-ltb _ _ h in
    record { returned = rw e refl; answer_is = rw e refl }

-- the second word is stored first
stores : (l : List ℕ) (a b : ℕ) → 2 ≤ length l → set (set l 1 b) 0 a ≡ a ∷ b ∷ drop 2 l
stores [] a b h = absurd (omega arith)
stores (x ∷ []) a b h = absurd (omega arith)
stores (x ∷ y ∷ l) a b h = refl

-- what was found, as this case of it
pub told : (src answer : List ℕ) (k : ℕ) {u : Option ℕ} (v : Option ℕ) → 2 ≤ length answer → u ≡ utf8_error_lem src → u ≡ v → k ≡ rounds src
    → Checks src (number v) answer (set (set answer 1 k) 0 (place v))
told src answer k v h is as-case counted =
    let f : few 2 answer ≡ false = le-ltb _ _ h in
    let e : v ≡ utf8_error_lem src = sym as-case ∙ is in
    record {
      returned = rw f (ap number e);
      answer_is = rw f (stores answer (place v) k h ∙ ap (λ (x : Option ℕ). place x ∷ k ∷ drop 2 answer) e ∙ ap (λ (n : ℕ). place (utf8_error_lem src) ∷ n ∷ drop 2 answer) counted);
    }
