-- The two ways of a call of the writer: no room for the answer, and the writer's outcome.
-- Assumes nothing.
use mathlib.Core.Path.{◌≡◌, refl, sym, ◌∙◌}
use mathlib.Core.Bool.{true, false, true≢false}
use mathlib.Core.List.{List, ◌++◌}
use Prim.Native.Nat.{ℕ, ◌≤◌, ◌<◌}
use borrow.Author.Tests.{lt-ltb, le-ltb}
use lib.ListN.{length, drop}
use Rattle.writer.specs.Answer.{numbers_of}
use Rattle.writer.specs.Writes.{Writes}
use Rattle.writer.specs.declared.Answer.{Answer}
use Rattle.ffi.specs.Called.{few}
use Rattle.ffi.specs.Wrote.{seven, Wrote}

pub unserved : (src tokens text tree out answer : List ℕ) → length answer < 7 → Wrote src 4294967295 tokens text tree out answer tokens text tree out answer
unserved src tokens text tree out answer h =
    let e : few 7 answer ≡ true = lt-ltb _ _ h in
    record {
      silent = λ _. record { returned = refl; tokens_are = refl; text_is = refl; tree_is = refl; out_is = refl; answer_is = refl };
      tells = λ f. absurd (true≢false (sym e ∙ f));
    }

pub served : (src tokens₀ text₀ tree₀ out₀ answer₀ tokens text tree out answer : List ℕ) (r : Answer) (n : ℕ) → 7 ≤ length answer₀ →
    Writes src r tokens₀ text₀ tree₀ out₀ tokens text tree out → (n ≡ (numbers_of r).six.number) × (answer ≡ seven (numbers_of r) ++ drop 7 answer₀) →
    Wrote src n tokens₀ text₀ tree₀ out₀ answer₀ tokens text tree out answer
served src tokens₀ text₀ tree₀ out₀ answer₀ tokens text tree out answer r n h w t =
    let f : few 7 answer₀ ≡ false = le-ltb _ _ h in
    record {
      silent = λ e. absurd (true≢false (sym e ∙ f));
      tells = λ _. record { told = r; writes = w; returned = t.0; answer_is = t.1 };
    }
