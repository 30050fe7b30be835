-- A name before a byte under 128 that continues none: what follows does not lengthen it.
-- Assumes nothing.
use mathlib.Core.Path.{◌≡◌, refl, sym, ap, ◌∙◌}
use mathlib.Core.Bool.{Bool, true}
use mathlib.Core.List.{List, [], ◌∷◌, ◌++◌}
use Prim.Native.Nat.{ℕ, zero, suc, ◌+◌, ◌<◌, ◌≤◌, suc-le-suc, zero-le}
use native.Mathlib.Omega.{arith}
use lib.Dec.{leb}
use lib.ListN.{length, get_or, take, drop, length-append, length-drop, take-append-drop}
use lib.Seq.{take-append-le, drop-append-le, length-take-le}
use borrow.Author.Tests.{leb-true}
use Rattle.source.proofs.Bools.{and_left, and_right}
use Rattle.utf8.specs.Table.{sequence_length}
use Rattle.utf8.specs.Character.{first_code}
use Rattle.utf8.proofs.Rows.{sequence_within}
use Rattle.raw_token.specs.Pattern.{character, many}
use Rattle.raw_token.proofs.Names.{character_le, stop, many_step}
use Rattle.lexical.specs.Characters.{is_character}
use Rattle.lexical.proofs.Characters.{front_is_character, at_front, trailing, all_trailing, behind_first}
use Rattle.rendered.proofs.Stops.{Stops}

-- ---- one sequence

sequence_le : (l : List ℕ) → sequence_length l ≤ length l
sequence_le l = omega (arith, sequence_within l 0 (sequence_length l) refl)

-- a character at the front is the sequence there
front : (l : List ℕ) (n : ℕ) → n ≤ length l → is_character (take n l) ≡ true → sequence_length l ≡ n
front l n h i = ap sequence_length (sym (take-append-drop n l)) ∙ at_front (take n l) (drop n l) i ∙ length-take-le n l h

-- the bytes behind the first of a character are over 127, so none of them is the first of r
trailing_end : (k : ℕ) (l r : List ℕ) → get_or r 0 0 < 128 → all_trailing (take k (l ++ r)) ≡ true → k ≤ length (l ++ r) → k ≤ length l
trailing_end zero l r a t h = zero-le
trailing_end (suc k) [] [] a t h = absurd (omega arith)
trailing_end (suc k) [] (b ∷ r) a t h =
    let c = leb-true 128 b (and_left (leb 128 b) (leb b 191) (and_left (trailing b) (all_trailing (take k r)) t)) in
    absurd (omega arith)
trailing_end (suc k) (b ∷ l) r a t h = suc-le-suc (trailing_end k l r a (and_right (trailing b) (all_trailing (take k (l ++ r))) t) (omega arith))

sequence_stops : (b : ℕ) (l r : List ℕ) → get_or r 0 0 < 128 → sequence_length (b ∷ (l ++ r)) ≡ sequence_length (b ∷ l)
sequence_stops b l r a = go (sequence_length (b ∷ (l ++ r))) refl (sequence_length (b ∷ l)) refl
  where
    all : List ℕ
    all = b ∷ (l ++ r)

    go : (n : ℕ) → sequence_length all ≡ n → (m : ℕ) → sequence_length (b ∷ l) ≡ m → n ≡ m
    go n e (suc m) f =
        let i : is_character (take (suc m) (b ∷ l)) ≡ true = rw f at (front_is_character (b ∷ l) (rw f (suc-le-suc zero-le))) in
        let k = sequence_le (b ∷ l) in
        sym e ∙ front all (suc m) (omega (arith, length-append l r)) (ap is_character (take-append-le (suc m) (b ∷ l) r (omega arith)) ∙ i)
    go zero e zero f = refl
    go (suc n) e zero f =
        let i : is_character (b ∷ take n (l ++ r)) ≡ true = rw e at (front_is_character all (rw e (suc-le-suc zero-le))) in
        let k = sequence_le all in
        let h = trailing_end n l r a (behind_first b (take n (l ++ r)) i) (omega arith) in
        sym (front (b ∷ l) (suc n) (omega arith) (ap (λ (x : List ℕ). is_character (b ∷ x)) (sym (take-append-le n l r h)) ∙ i)) ∙ f

-- ---- the characters of a class

module _ (p : ℕ → Bool) (r : List ℕ) (low : get_or r 0 0 < 128) (other : character p r ≡ 0) where
  pub character_stops : Stops r (character p)
  unfolding first_code
  character_stops [] = let z = character_le p [] in other ∙ omega arith
  character_stops (b ∷ l) = rw (sequence_stops b l r low, take-append-le (sequence_length (b ∷ l)) (b ∷ l) r (sequence_le (b ∷ l)))

  many_by : (n : ℕ) (l : List ℕ) → length l ≤ n → many p (l ++ r) ≡ many p l
  many_by zero [] h = stop (length r) p r other
  many_by zero (b ∷ l) h = absurd (omega arith)
  many_by (suc n) l h = go (character p l) refl (character_le p l) (λ c. many_by n (drop c l))
    where
      go : (c : ℕ) → character p l ≡ c → c ≤ length l → ((c : ℕ) → length (drop c l) ≤ n → many p (drop c l ++ r) ≡ many p (drop c l)) → many p (l ++ r) ≡ many p l
      go zero e b rec = stop (length (l ++ r)) p (l ++ r) (character_stops l ∙ e) ∙ sym (stop (length l) p l e)
      go (suc c) e b rec =
          many_step p (l ++ r) (suc c) (character_stops l ∙ e) (suc-le-suc zero-le)
          ∙ ap (λ (x : List ℕ). suc c + many p x) (drop-append-le (suc c) l r b)
          ∙ ap (λ (k : ℕ). suc c + k) (rec (suc c) (omega (arith, length-drop (suc c) l)))
          ∙ sym (many_step p l (suc c) e (suc-le-suc zero-le))

  pub many_stops : Stops r (many p)
  many_stops l = many_by (length l) l (omega arith)
