-- An answer's words, and the two ways of a call: no room for the answer, and the reader's outcome.
-- Assumes nothing.
use mathlib.Core.Path.{◌≡◌, refl, ap, ◌∙◌}
use mathlib.Core.Bool.{true, false}
use mathlib.Core.List.{List, ◌++◌}
use Prim.Native.Nat.{ℕ, ◌≤◌, ◌<◌}
use borrow.Author.Tests.{lt-ltb, le-ltb}
use lib.ListN.{length, drop}
use Rattle.reader.specs.Answer.{Answer, Numbers, numbers_of}
use Rattle.reader.specs.Reads.{Reads}
use Rattle.ffi.specs.Called.{words, few, Called}

pub no_room : (src tokens text tree answer : List ℕ) → length answer < 6 → Called src 4294967295 tokens text tree answer tokens text tree answer
no_room src tokens text tree answer h =
    let e : few 6 answer ≡ true = lt-ltb _ _ h in
    record { returned = rw e refl; answer_is = rw e refl; tokens_are = rw e refl; text_is = rw e refl; tree_is = rw e refl }

pub answered : (src tokens₀ text₀ tree₀ answer₀ tokens text tree answer : List ℕ) (r : Answer) (n : ℕ) → 6 ≤ length answer₀ → Reads src r tokens₀ text₀ tree₀ tokens text tree
    → n ≡ (numbers_of r).number → answer ≡ words (numbers_of r) ++ drop 6 answer₀ → Called src n tokens₀ text₀ tree₀ answer₀ tokens text tree answer
answered src tokens₀ text₀ tree₀ answer₀ tokens text tree answer r n h a e w =
    let f : few 6 answer₀ ≡ false = le-ltb _ _ h in
    record {
      returned = rw f (e ∙ ap (λ (x : Numbers). x.number) a.numbers);
      answer_is = rw f (w ∙ ap (λ (x : Numbers). words x ++ drop 6 answer₀) a.numbers);
      tokens_are = rw f a.tokens_are;
      text_is = rw f a.text_is;
      tree_is = rw f a.tree_is;
    }
