-- A string's length is that of its one word at the front: its closing quote is the first that no backslash stands before.
-- Assumes nothing.
use mathlib.Core.Path.{◌≡◌, refl, ap, ◌∙◌}
use mathlib.Core.Bool.{Bool, true, false, cond, not, ◌||◌}
use mathlib.Core.List.{List, [], ◌∷◌, ◌++◌, append_assoc}
use Prim.Native.Nat.{ℕ, suc, ◌+◌, ◌<◌, ◌≤◌}
use native.Mathlib.Omega.{arith}
use lib.Dec.{eqb}
use lib.ListN.{length, take, length-append}
use borrow.Author.Tests.{not-true, eqb-true, eq-eqb}
use Rattle.source.proofs.Bools.{or_left, or_right, or_either}
use Rattle.raw_token.specs.Pattern as P
use Rattle.raw_token.specs.Pattern.{is_quote, behind, body}
use Rattle.raw_token.proofs.Steps.{behind_some}
use Rattle.lexical.specs.Matches.{Words, Byte, byte, ◌then◌, joined, left, right, absent, present, Some, last, more, Many, is, Piece, Quoted, String}
use Rattle.lexical.proofs.Finds.{Start, Finds, behind_sum}

-- what follows the opening quote, and what follows a backslash: the words whose lengths `body` has
abbrev Closed : ℕ → Words
Closed q = Many (Piece q) then Byte (is q)

abbrev Escaped : ℕ → Words
Escaped q = Byte (λ (b : ℕ). not (is 10 b)) then Closed q

abbrev Ends : ℕ → Bool → Words
Ends q true = Escaped q
Ends q false = Closed q

closed_more : (q : ℕ) {u w : List ℕ} → Piece q u → Closed q w → Closed q (u ++ w)
closed_more q p (joined absent c) = joined (present (last p)) c
closed_more q {u = u} p (joined {v = v} (present {w = m} r) c) = rw (← append_assoc u m v) (joined (present (more p r)) c)

escape : (q b : ℕ) {w : List ℕ} → is 92 b ≡ true → Escaped q w → Closed q (b ∷ w)
escape q b h (joined (byte x k) c) = closed_more q (right (joined (byte b h) (byte x k))) c

-- a length is that of a word

behind_one : (n : ℕ) → 0 < behind 1 n → (0 < n) × (behind 1 n ≡ suc n)
behind_one n h = let s = behind_sum 1 n h in (s.0, omega arith)

ends : (q : ℕ) (t : Bool) (l : List ℕ) → 0 < body q t l → Ends q t (take (body q t l) l)
ends q true [] h = absurd (omega arith)
ends q false [] h = absurd (omega arith)
ends q true (b ∷ l) h = go (eqb b 10) refl (ends q false l) h
  where
    go : (t : Bool) → eqb b 10 ≡ t → (0 < body q false l → Closed q (take (body q false l) l)) → 0 < cond t 0 (behind 1 (body q false l)) → Escaped q (take (cond t 0 (behind 1 (body q false l))) (b ∷ l))
    go true e r k = absurd (omega arith)
    go false e r k = let s = behind_one (body q false l) k in rw s.1 (joined (byte b (ap not e)) (r s.0))
ends q false (b ∷ l) h = go (eqb b q) refl (λ t. ends q t l) h
  where
    on : (t : Bool) → eqb b q ≡ false → eqb b 92 ≡ t → (0 < body q t l → Ends q t (take (body q t l) l)) → 0 < behind 1 (body q t l) → Closed q (take (behind 1 (body q t l)) (b ∷ l))
    on true o e r k = let s = behind_one (body q true l) k in rw s.1 (escape q b e (r s.0))
    on false o e r k =
        let s = behind_one (body q false l) k in
        rw s.1 (closed_more q (left (byte b (rw (o, e)))) (r s.0))

    go : (t : Bool) → eqb b q ≡ t → ((u : Bool) → 0 < body q u l → Ends q u (take (body q u l) l)) → 0 < cond t 1 (behind 1 (body q (eqb b 92) l)) → Closed q (take (cond t 1 (behind 1 (body q (eqb b 92) l))) (b ∷ l))
    go true e r k = joined absent (byte b e)
    go false e r k = on (eqb b 92) e refl (r (eqb b 92)) k

-- a word has the length; the quote is no backslash

module _ (q : ℕ) (other : eqb 92 q ≡ false) where
  piece : (w rest : List ℕ) → Piece q w → 0 < body q false rest → body q false (w ++ rest) ≡ length w + body q false rest
  piece w rest (left (byte b h)) k =
      let n = not-true (is q b || is 92 b) h in
      rw (or_left (is q b) (is 92 b) n, or_right (is q b) (is 92 b) n) (behind_some 1 (body q false rest) (omega arith))
  piece w rest (right (joined (byte a h) (byte b k))) m =
      let e : behind 1 (body q false rest) ≡ suc (body q false rest) = behind_some 1 (body q false rest) (omega arith) ∙ omega arith in
      rw (eqb-true a 92 h, other, not-true (is 10 b) k, e, behind_some 1 (suc (body q false rest)) (omega arith)) (omega arith)

  pieces : (w rest : List ℕ) → Some (Piece q) w → 0 < body q false rest → body q false (w ++ rest) ≡ length w + body q false rest
  pieces w rest (last p) k = piece w rest p k
  pieces w rest (more {u = u} {v = v} p r) k =
      let e = pieces v rest r k in
      rw append_assoc (piece u (v ++ rest) p (omega arith) ∙ omega (arith, length-append u v))

  closed : (w rest : List ℕ) → Closed q w → body q false (w ++ rest) ≡ length w
  closed w rest (joined absent (byte x h)) = rw h
  closed w rest (joined (present {w = m} r) (byte x h)) =
      let e : body q false (x ∷ rest) ≡ 1 = rw h in
      rw append_assoc (pieces m (x ∷ rest) r (omega arith) ∙ omega (arith, length-append m (x ∷ [])))

  closed_some : (w : List ℕ) → Closed q w → 0 < length w
  closed_some w (joined {u = u} m (byte b h)) = omega (arith, length-append u (b ∷ []))

  -- between two quotes q

  module _ (quote : is_quote q ≡ true) where
    opened : {w : List ℕ} → Closed q w → Quoted q (q ∷ w)
    opened (joined m c) = joined (joined (byte q (eq-eqb q q refl)) m) c

    quoted_word : (l : List ℕ) → 0 < behind 1 (body q false l) → Quoted q (take (behind 1 (body q false l)) (q ∷ l))
    quoted_word l h = let s = behind_one (body q false l) h in rw s.1 (opened (ends q false l s.0))

    quoted_start : (w : List ℕ) → Quoted q w → Start is_quote w
    quoted_start w (joined (joined (byte x h) m) c) = record { first = x; others = _; is = refl; holds = rw (eqb-true x q h) quote }

    quoted_most : (w rest : List ℕ) → Quoted q w → length w ≤ P.string (w ++ rest)
    quoted_most w rest (joined {v = v} (joined {v = m} (byte x h) r) c) =
        let e = closed (m ++ v) rest (joined r c) in
        let k = closed_some (m ++ v) (joined r c) in
        rw (eqb-true x q h, quote, behind_some 1 (body q false ((m ++ v) ++ rest)) (omega arith)) (omega arith)

string_start : (w : List ℕ) → String w → Start is_quote w
string_start w (left s) = quoted_start 34 refl refl w s
string_start w (right s) = quoted_start 39 refl refl w s

string_most : (w rest : List ℕ) → String w → length w ≤ P.string (w ++ rest)
string_most w rest (left s) = quoted_most 34 refl refl w rest s
string_most w rest (right s) = quoted_most 39 refl refl w rest s

string_word : (l : List ℕ) → 0 < P.string l → String (take (P.string l) l)
string_word [] h = absurd (omega arith)
string_word (q ∷ l) h = go (is_quote q) refl h
  where
    go : (t : Bool) → is_quote q ≡ t → 0 < cond t (behind 1 (body q false l)) 0 → String (take (cond t (behind 1 (body q false l)) 0) (q ∷ l))
    go true e k =
        or_either (eqb q 34) (eqb q 39)
        (λ f. rw (eqb-true q 34 f) (left (quoted_word 34 refl refl l (rw (eqb-true q 34 f) at k))))
        (λ f. rw (eqb-true q 39 f) (right (quoted_word 39 refl refl l (rw (eqb-true q 39 f) at k))))
        e
    go false e k = absurd (omega arith)

pub string_finds : Finds P.string String is_quote
string_finds = record { start = string_start; word = string_word; most = string_most }
