-- The writer's answer as words: the length behind the reader's six.
-- Assumes nothing.
use mathlib.Core.Path.{◌≡◌, refl, sym, ap, subst, ◌∙◌}
use mathlib.Core.List.{List, [], ◌∷◌, ◌++◌}
use Prim.Native.Nat.{ℕ, zero, suc, ◌≤◌, ◌<◌}
use native.Mathlib.Omega.{arith}
use lib.ListN.{length, set, drop}
use Rattle.reader.specs.Answer as reader
use Rattle.writer.specs.Answer.{numbers_of, read_of, instead}
use Rattle.writer.specs.declared.Answer.{Answer}
use Rattle.ffi.specs.Called.{words, Small}
use Rattle.ffi.specs.Wrote.{seven}

-- what stands from a word on that was stored
stored : (k : ℕ) (l : List ℕ) (v : ℕ) → k < length l → drop k (set l k v) ≡ v ∷ drop (suc k) l
stored k [] v h = absurd (omega arith)
stored zero (x ∷ l) v h = refl
stored (suc k) (x ∷ l) v h = stored k l v (omega arith)

-- six words, of which the first two are stored anew
pub renumbered : (number : ℕ) (a : reader.Numbers) {answer : List ℕ} (answer₀ : List ℕ) → answer ≡ words a ++ drop 6 answer₀
    → set (set answer 0 number) 1 0 ≡ words (instead number a) ++ drop 6 answer₀
renumbered number a answer₀ e = ap (λ (l : List ℕ). set (set l 0 number) 1 0) e

-- what is asked of the words of an answer, in a case of it
pub small_as : {r q : Answer} → r ≡ q → Small (reader.numbers_of (read_of r)) → Small (reader.numbers_of (read_of q))
small_as e s = subst (λ (x : Answer). Small (reader.numbers_of (read_of x))) e s

pub short_as : {r q : Answer} → r ≡ q → (numbers_of r).length ≤ 65536 → (numbers_of q).length ≤ 65536
short_as e s = subst (λ (x : Answer). (numbers_of x).length ≤ 65536) e s

-- the words of an answer that is told, in a case of it: the length was stored first
pub words_told : {r q : Answer} {n : ℕ} {answer : List ℕ} (answer₀ : List ℕ) → 7 ≤ length answer₀ → r ≡ q
    → (n ≡ (numbers_of q).six.number) × (answer ≡ words (numbers_of q).six ++ drop 6 (set answer₀ 6 (numbers_of q).length))
    → (n ≡ (numbers_of r).six.number) × (answer ≡ seven (numbers_of r) ++ drop 7 answer₀)
words_told {q = q} {n = n} {answer = answer} answer₀ h e w =
    subst (λ (x : Answer). (n ≡ (numbers_of x).six.number) × (answer ≡ seven (numbers_of x) ++ drop 7 answer₀)) (sym e)
    (w.0, w.1 ∙ ap (λ (l : List ℕ). words (numbers_of q).six ++ l) (stored 6 answer₀ (numbers_of q).length (omega arith)))
