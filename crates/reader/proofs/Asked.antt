-- The questions in their order: what each no comes to, and what the areas' part of the work does.
-- Assumes nothing.
use mathlib.Core.Path.{◌≡◌, refl, sym, ap, ◌∙◌}
use mathlib.Core.List.{List, ◌++◌}
use Prim.Native.Nat.{ℕ, ◌≤◌, ◌<◌}
use borrow.Author.Tests.{lt-ltb, le-ltb}
use lib.ListN.{length, take, drop}
use lib.Seq.{length-take-le}
use Rattle.std.specs.Prelude.{Option, Some, None}
use Rattle.areas.specs.Area.{area, token_area}
use Rattle.utf8.specs.Table.{utf8_error_lem}
use Rattle.lexer.specs.Scan.{token_list}
use Rattle.reader.specs.Outcome.{Area, kept, holds, Outcome, tree_area, after, untouched, of_scan, of_utf8, outcome}
use Rattle.reader.specs.Reads.{Reads}
use Rattle.reader.specs.Steps.{Exact, padded, Became, Fills}
use Rattle.reader.specs.Answer.{Answer, no}
use Rattle.reader.proofs.Derived.{promised}

-- the areas that are lent are all that the work has
pub areas : (src tokens text tree : List ℕ) → length src ≤ 65536 → token_area (length src) ≤ length tokens → length src ≤ length text → tree_area (length src) ≤ length tree
    → Exact src (take (token_area (length src)) tokens) (take (length src) text) (take (tree_area (length src)) tree)
areas src tokens text tree h p q s =
    record { small = h; tokens_long = length-take-le (token_area (length src)) tokens p; text_long = length-take-le (length src) text q; tree_long = length-take-le (tree_area (length src)) tree s }

-- an area that has come back, with what lies beyond it
whole : (a : Area) (size : ℕ) (now before : List ℕ) → Became a size now → now ++ drop size before ≡ after a size before
unfolding padded area
whole kept size now before e = absurd e
whole (holds filled) size now before e = ap (λ (l : List ℕ). l ++ drop size before) e

module _ (src tokens text tree : List ℕ) (r : Answer) where
  untouched_reads : (number place : ℕ) → r ≡ no number place → outcome src (length tokens) (length text) (length tree) ≡ untouched number place → Reads src r tokens text tree tokens text tree
  untouched_reads number place e o = promised src tokens text tree o e refl refl refl

  pub no1 : 65536 < length src → r ≡ no 1 0 → Reads src r tokens text tree tokens text tree
  unfolding outcome
  no1 h e = untouched_reads 1 0 e (simp (lt-ltb _ _ h))

  module _ (h1 : length src ≤ 65536) where
    pub no2 : length tokens < token_area (length src) → r ≡ no 2 0 → Reads src r tokens text tree tokens text tree
    unfolding outcome
    no2 h e = untouched_reads 2 0 e (simp (le-ltb _ _ h1, lt-ltb _ _ h))

    module _ (h2 : token_area (length src) ≤ length tokens) where
      pub no3 : length text < length src → r ≡ no 3 0 → Reads src r tokens text tree tokens text tree
      unfolding outcome
      no3 h e = untouched_reads 3 0 e (simp (le-ltb _ _ h1, le-ltb _ _ h2, lt-ltb _ _ h))

      module _ (h3 : length src ≤ length text) where
        pub no4 : length tree < tree_area (length src) → r ≡ no 4 0 → Reads src r tokens text tree tokens text tree
        unfolding outcome
        no4 h e = untouched_reads 4 0 e (simp (le-ltb _ _ h1, le-ltb _ _ h2, le-ltb _ _ h3, lt-ltb _ _ h))

        module _ (h4 : tree_area (length src) ≤ length tree) {u : Option ℕ} (is : u ≡ utf8_error_lem src) where
          yes : outcome src (length tokens) (length text) (length tree) ≡ of_utf8 src (utf8_error_lem src)
          unfolding outcome
          yes = simp (le-ltb _ _ h1, le-ltb _ _ h2, le-ltb _ _ h3, le-ltb _ _ h4)

          pub no5 : {place : ℕ} → u ≡ Some place → r ≡ no 5 place → Reads src r tokens text tree tokens text tree
          no5 {place} v e = untouched_reads 5 place e (yes ∙ ap (of_utf8 src) (sym is ∙ v))

          -- the areas have come back: what lies beyond each is as it was
          pub worked : u ≡ None → (tokens' text' tree' : List ℕ) → Fills (of_scan src (token_list src)) (length src) r tokens' text' tree'
              → Reads src r tokens text tree (tokens' ++ drop (token_area (length src)) tokens) (text' ++ drop (length src) text) (tree' ++ drop (tree_area (length src)) tree)
          worked v tokens' text' tree' f =
              let o : Outcome = of_scan src (token_list src) in
              promised src tokens text tree (yes ∙ ap (of_utf8 src) (sym is ∙ v)) f.answer
              (whole o.tokens (token_area (length src)) tokens' tokens f.tokens_are) (whole o.text (length src) text' text f.text_is) (whole o.tree (tree_area (length src)) tree' tree f.tree_is)
