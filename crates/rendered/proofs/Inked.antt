-- The first byte of a lexeme that is no line feed: no gap begins with it, and no line ends there.
-- Assumes nothing.
use mathlib.Core.Path.{◌≡◌, sym, ◌∙◌}
use mathlib.Core.Bool.{Bool, true, not, ◌||◌, true≢false}
use mathlib.Core.List.{List}
use Prim.Native.Nat.{ℕ, ◌<◌, ◌≤◌, zero-le}
use native.Mathlib.Decide.{dec_lt}
use native.Mathlib.Omega.{arith}
use lib.Dec.{eqb, leb}
use lib.ListN.{length, get_or}
use borrow.Author.Tests.{ne_eqb, leb-true, not-true}
use Rattle.source.specs.Bytes.{between}
use Rattle.source.proofs.Bools.{and_left, and_right, or_either, or_rest}
use Rattle.source.proofs.Ranges.{at_each}
use Rattle.token.specs.Code as Code
use Rattle.raw_token.specs.Table.{Pattern, table}
use Rattle.raw_token.proofs.First.{starts}
use Rattle.raw_token.proofs.Laws.{all, matched}
use Rattle.rendered.proofs.Lexeme.{Lexeme}

-- over a space and its like, and no #
pub record Inked (b : ℕ) : Type 0 where
  pub low : 33 ≤ b
  pub no_hash : b ≡ 35 → ⊥

-- nothing but a line feed's entry can start with b
blank : ℕ → ℕ → Pattern → Bool
blank b c p = eqb c Code.Newline || not (starts p b)

-- of the bytes up to # only ! and " start another
all_blank : (b : ℕ) → b < 36 → (between 33 34 b || all (blank b) table) ≡ true
unfolding blank table
all_blank b h = at_each (λ (x : ℕ). between 33 34 x || all (blank x) table) 0 36 tt b zero-le h

pub inked : (code : ℕ) (w : List ℕ) → Lexeme code w → (code ≡ Code.Newline → ⊥) → Inked (get_or w 0 0)
unfolding blank
inked code w e n = go (dec_lt b 36)
  where
    b : ℕ
    b = get_or w 0 0

    no_blank : all (blank b) table ≡ true → ⊥
    no_blank a =
        let m = matched (blank b) a w 0 code (length w) e in
        let t = not (starts m.pattern b) in
        true≢false (sym m.first ∙ not-true (starts m.pattern b) (or_rest (eqb code Code.Newline) t m.holds (ne_eqb code Code.Newline n)))

    within : between 33 34 b ≡ true → Inked b
    within t =
        let l = leb-true 33 b (and_left (leb 33 b) (leb b 34) t) in
        let h = leb-true b 34 (and_right (leb 33 b) (leb b 34) t) in
        record { low = l; no_hash = λ q. omega arith }

    go : Dec (b < 36) → Inked b
    go (yes h) = or_either (between 33 34 b) (all (blank b) table) within (λ a. absurd (no_blank a)) (all_blank b h)
    go (no h) = record { low = omega arith; no_hash = λ q. omega arith }
