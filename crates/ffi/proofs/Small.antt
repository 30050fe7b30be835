-- Every number of an outcome's answer fits a word: the place lies within the source, and the counts are within the limits.
-- Assumes nothing.
use mathlib.Core.Path.{◌≡◌, refl, sym, subst}
use mathlib.Core.Bool.{Bool, true, false, cond}
use mathlib.Core.List.{List, [], ◌∷◌}
use mathlib.Core.Logic.{◌⊎◌, inl, inr}
use Prim.Native.Nat.{ℕ, zero, suc, ◌+◌, ◌-◌, ◌≤◌}
use native.Mathlib.Omega.{arith}
use lib.Dec.{ltb}
use lib.ListN.{length, get_or, drop, length-drop}
use borrow.Author.Tests.{ltb-false}
use Rattle.std.specs.Prelude.{Ok, Err, Option, Some, None}
use Rattle.areas.specs.Area.{token_area}
use Rattle.utf8.specs.Table.{sequence_length, step, first_ill_formed, utf8_error_lem}
use Rattle.grammar.specs.Descent as Descent
use Rattle.grammar.specs.Descent.{descend}
use Rattle.tokens.specs.Token.{Token}
use Rattle.literal.specs.declared.Literal.TheVariants as L
use Rattle.lexer.specs.Scan.{Scan, scanned, refused, token_list}
use Rattle.lexer.proofs.Properties.{Each, Each.more, Spanned}
use Rattle.lexer.proofs.Laws.{tokens_spanned}
use Rattle.lexer.proofs.Refusals.{refusals}
use Rattle.pyhyeon.specs.Action.{machine}
use Rattle.pyhyeon.specs.Rules.{Program}
use Rattle.pyhyeon.specs.Tables.{depth, pyhyeon}
use Rattle.pyhyeon.specs.Reading.{Descended, Accepted, TooDeep, Misfit, place_of, start, descended, descent}
use Rattle.reader.specs.Answer.{Answer, no, numbers_of, written}
use Rattle.reader.specs.Outcome.{untouched, of_descent, of_scan, of_utf8, tree_area, outcome}
use Rattle.reader.specs.Reads.{Reads}
use Rattle.ffi.specs.Called.{Small}

-- ---- the place

-- an ill-formed sequence begins at a byte
abbrev Ill : ℕ → Option ℕ → Type 0
Ill n None = Unit {0}
Ill n (Some place) = place ≤ n

ill_within : (fuel i n : ℕ) (l : List ℕ) → length l ≡ n - i → Ill n (first_ill_formed fuel i l)
unfolding first_ill_formed
ill_within zero i n l e = tt
ill_within (suc fuel) i n [] e = tt
ill_within (suc fuel) i n (b ∷ l) e = go (sequence_length (b ∷ l)) (λ k. ill_within fuel (i + k) n (drop k (b ∷ l)) (omega (arith, length-drop k (b ∷ l))))
  where
    go : (k : ℕ) → ((m : ℕ) → Ill n (first_ill_formed fuel (i + m) (drop m (b ∷ l)))) → Ill n (step (b ∷ l) k i (first_ill_formed fuel (i + k) (drop k (b ∷ l))))
    go zero r = omega arith
    go (suc k) r = r (suc k)

ill : (src : List ℕ) → Ill (length src) (utf8_error_lem src)
unfolding utf8_error_lem
ill src = ill_within (length src) 0 (length src) src (omega arith)

-- so does every token start, and what stands for a token past the last
starts_within : (n i : ℕ) (ts : List Token) → Each (Spanned n) ts → (get_or ts i (record { code = 0; start = 0; end = 0; literal = L.None })).start ≤ n
starts_within n i [] e = omega arith
starts_within n zero (t ∷ ts) (more p e) = omega (arith, p.ordered, p.within)
starts_within n (suc i) (t ∷ ts) (more p e) = starts_within n i ts e

place_within : (src : List ℕ) (ts : List Token) (bs : List ℕ) → token_list src ≡ scanned ts bs → place_of (descent src ts) ≤ length src
unfolding descent
place_within src ts bs is = go (descend pyhyeon depth Program 0 (start src ts))
  where
    go : (x : Descent.Answer (machine src ts)) → place_of (descended src ts x) ≤ length src
    go (Descent.done n s) = omega arith
    go (Descent.no asked n s) = starts_within (length src) s.kept.at ts (tokens_spanned src ts bs is)
    go (Descent.deep n s) = starts_within (length src) s.kept.at ts (tokens_spanned src ts bs is)
    go Descent.stuck = omega arith

-- the source is short, or nothing of it is counted
record Placed (src : List ℕ) (r : Answer) : Type 0 where
  short : (length src ≤ 65536) ⊎ ((numbers_of r).tokens ≡ 0) × ((numbers_of r).text ≡ 0)
  place : (numbers_of r).place ≤ 65536

by_descent : (n : ℕ) (ts : List Token) (bs : List ℕ) (d : Descended) → place_of d ≤ n → (numbers_of (of_descent n ts bs d).answer).place ≤ n
by_descent n ts bs (Accepted w) h = h
by_descent n ts bs (TooDeep place w) h = h
by_descent n ts bs (Misfit f place w) h = h

by_scan : (src : List ℕ) → (numbers_of (of_scan src (token_list src)).answer).place ≤ length src
by_scan src = go (token_list src) refl
  where
    go : (x : Scan) → token_list src ≡ x → (numbers_of (of_scan src x).answer).place ≤ length src
    go (refused number place) e = (refusals src number place e).within
    go (scanned ts bs) e = by_descent (length src) ts bs (descent src ts) (place_within src ts bs e)

by_utf8 : (src : List ℕ) (u : Option ℕ) → Ill (length src) u → (numbers_of (of_utf8 src u).answer).place ≤ length src
by_utf8 src (Some place) h = h
by_utf8 src None h = by_scan src

placed : (src : List ℕ) (tokens text tree : ℕ) → Placed src (outcome src tokens text tree).answer
unfolding outcome
placed src tokens text tree =
    go (ltb 65536 (length src)) (ltb-false 65536 (length src)) (ltb tokens (token_area (length src))) (ltb text (length src)) (ltb tree (tree_area (length src)))
  where
    none : (number : ℕ) → Placed src (no number 0)
    none number = record { short = inr (refl, refl); place = omega arith }

    go : (a : Bool) → (a ≡ false → length src ≤ 65536) → (b c d : Bool) → Placed src (cond a (untouched 1 0) (cond b (untouched 2 0) (cond c (untouched 3 0) (cond d (untouched 4 0) (of_utf8 src (utf8_error_lem src)))))).answer
    go true h b c d = none 1
    go false h true c d = none 2
    go false h false true d = none 3
    go false h false false true = none 4
    go false h false false false = record { short = inl (h refl); place = omega (arith, h refl, by_utf8 src (utf8_error_lem src) (ill src)) }

-- ---- the counts

shown_few : (r : Answer) → (numbers_of r).nodes ≤ written r
shown_few (Ok t) = omega arith
shown_few (Err s) = omega arith

pub small : (src tokens₀ text₀ tree₀ tokens text tree : List ℕ) (r : Answer) → Reads src r tokens₀ text₀ tree₀ tokens text tree → Small (numbers_of r)
small src tokens₀ text₀ tree₀ tokens text tree r h = by p.short
  where
    p : Placed src r
    p = subst (Placed src) (sym h.answer) (placed src (length tokens₀) (length text₀) (length tree₀))

    from : (numbers_of r).tokens ≤ 65536 → (numbers_of r).text ≤ 65536 → Small (numbers_of r)
    from t x =
        record {
          place = p.place;
          tokens = t;
          nodes = omega (arith, t, shown_few r, h.few_nodes);
          text = x;
          openings = omega (arith, t, h.few_openings);
        }

    by : (length src ≤ 65536) ⊎ ((numbers_of r).tokens ≡ 0) × ((numbers_of r).text ≡ 0) → Small (numbers_of r)
    by (inl s) = from (omega (arith, s, h.few_tokens)) (omega (arith, s, h.few_bytes))
    by (inr z) = from (omega (arith, z.0)) (omega (arith, z.1))
