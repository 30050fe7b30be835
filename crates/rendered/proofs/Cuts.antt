-- A token alone: where what stands behind a token is cut off, the token stays, since each pattern's length is that of its longest word.
-- Assumes nothing.
use mathlib.Core.Path.{◌≡◌, refl, sym, ap, subst, ◌∙◌}
use mathlib.Core.Bool.{Bool, true, false, cond}
use mathlib.Core.List.{List, [], ◌∷◌}
use Prim.Native.Nat.{ℕ, zero, suc, ◌-◌, ◌<◌, ◌≤◌, zero-le, suc-le-suc}
use native.Mathlib.Nat.{le_refl, le_trans}
use native.Mathlib.Omega.{arith}
use lib.Dec.{ltb}
use lib.ListN.{length, take, drop, length-drop, length-take, take-append-drop}
use lib.Seq.{take-take, length-take-le}
use borrow.Author.Tests.{ne_eqb, ltb-true, ltb-false}
use Rattle.std.specs.Prelude.{Some}
use Rattle.source.specs.Bytes.{part}
use Rattle.source.proofs.Bools.{and_left, and_right}
use Rattle.raw_token.specs.Table.{raw_token, Pattern, len, Entry, table, longer, longest, found, token_at_lem}
use Rattle.raw_token.proofs.Laws.{all}
use Rattle.raw_token.proofs.Within.{found_best, token_within}
use Rattle.lexical.specs.Matches.{Matches}
use Rattle.lexical.proofs.Patterns.{filled, length_is}
use Rattle.lexical.proofs.Longest.{all_filled}
use Rattle.rendered.proofs.Lexeme.{Lexeme}

-- ---- one pattern

module _ (p : Pattern) (f : filled p ≡ true) where
  -- a word at the front is no longer than the match
  at_least : (l : List ℕ) (n : ℕ) → n ≤ length l → Matches p (take n l) → n ≤ len p l
  at_least l n h w =
      omega (arith, (length_is p f l).longest (take n l) (record { word = w; rest = drop n l; is = sym (take-append-drop n l) }), length-take-le n l h)

  -- so where two lists agree as far as the match of one goes, the other's is no shorter
  agrees : (l m : List ℕ) (n : ℕ) → len p l ≡ n → n ≤ length m → take n l ≡ take n m → n ≤ len p m
  agrees l m zero e h t = zero-le
  agrees l m (suc n) e h t =
      at_least m (suc n) h (subst (Matches p) t (rw e at ((length_is p f l).word (rw e (suc-le-suc zero-le)))))

  -- a match stays where the list is cut behind it, and none arises
  len_cuts : (l : List ℕ) (j : ℕ) → len p l ≤ j → len p (take j l) ≡ len p l
  len_cuts l j h =
      let n = len p l in
      let m = len p (take j l) in
      let a = (length_is p f l).within in
      let b = (length_is p f (take j l)).within in
      let c = length-take j l in
      let low : n ≤ m = agrees l (take j l) n refl (omega arith) (sym (take-take n j l h)) in
      let high : m ≤ n = agrees (take j l) l m refl (omega arith) (take-take m j l (omega arith)) in
      omega arith

-- ---- the table

-- the best only grows, and is at least as long as each match
longer_le : (best : ℕ × ℕ) (c n : ℕ) → (best.1 ≤ (longer best c n).1) × (n ≤ (longer best c n).1)
longer_le best c n = go (ltb best.1 n) (ltb-true best.1 n) (ltb-false best.1 n)
  where
    go : (t : Bool) → (t ≡ true → best.1 < n) → (t ≡ false → n ≤ best.1) → (best.1 ≤ (cond {A = ℕ × ℕ} t (c, n) best).1) × (n ≤ (cond {A = ℕ × ℕ} t (c, n) best).1)
    go true f g = let h = f refl in (omega arith, le_refl n)
    go false f g = (le_refl best.1, g refl)

longest_from : (es : List Entry) (best : ℕ × ℕ) (l : List ℕ) → best.1 ≤ (longest best es l).1
longest_from [] best l = le_refl best.1
longest_from (e ∷ es) best l =
    le_trans (longer_le best e.0 (len e.1 l)).0 (longest_from es (longer best e.0 (len e.1 l)) l)

longest_cuts : (es : List Entry) → all (λ c p. filled p) es ≡ true → (best : ℕ × ℕ) (l : List ℕ) (j : ℕ) → (longest best es l).1 ≤ j → longest best es (take j l) ≡ longest best es l
longest_cuts [] f best l j h = refl
longest_cuts (e ∷ es) f best l j h =
    let next = longer best e.0 (len e.1 l) in
    let k = le_trans (le_trans (longer_le best e.0 (len e.1 l)).1 (longest_from es next l)) h in
    rw (len_cuts e.1 (and_left (filled e.1) (all (λ c p. filled p) es) f) l j k) (longest_cuts es (and_right (filled e.1) (all (λ c p. filled p) es) f) next l j h)

-- a token's bytes alone are that token
pub alone : (s : List ℕ) (at code end : ℕ) → token_at_lem s at ≡ Some (raw_token code end) → Lexeme code (part s at end)
unfolding token_at_lem
alone s at code end e =
    let best = longest (0, 0) table (drop at s) in
    let b = found_best at best code end e in
    let w = token_within s at code end e in
    let n : best.1 ≡ end - at = omega (arith, b.end_is) in
    ap (found 0) (longest_cuts table all_filled (0, 0) (drop at s) (end - at) (omega arith))
    ∙ rw (n, ne_eqb (end - at) 0 (omega arith), b.code_is, length-take-le (end - at) (drop at s) (omega (arith, length-drop at s))) (ap (λ (k : ℕ). Some (raw_token code k)) (omega arith))
