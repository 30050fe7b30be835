-- A length as `raw_token` takes it is that of the longest word at the front, for the ways in which patterns are put together. Where one part
-- follows another, what makes the first part's longest word the only one to go on from is that no byte that starts the second could go on with
-- the first.
-- Assumes nothing.
use mathlib.Core.Path.{◌≡◌, refl, ap, ◌∙◌}
use mathlib.Core.Bool.{Bool, true, false, cond, ◌||◌}
use mathlib.Core.List.{List, [], ◌∷◌, ◌++◌, append_assoc, append-nil}
use Prim.Native.Nat.{ℕ, zero, suc, ◌+◌, ◌<◌, ◌≤◌, zero-le, suc-le-suc}
use native.Mathlib.Omega.{arith}
use lib.Dec.{eqb}
use lib.ListN.{length, take, drop, length-append}
use lib.Seq.{take-add, drop-append_seam}
use borrow.Author.Tests.{ne_eqb}
use Rattle.source.specs.Bytes.{run}
use Rattle.raw_token.specs.Pattern.{behind, one, seq, maybe, and_maybe}
use Rattle.raw_token.proofs.Steps.{behind_zero, behind_some}
use Rattle.lexical.specs.Matches.{Words, Byte, byte, ◌then◌, joined, Optional, absent, present, Some, last, more}

-- a word that starts with a byte of the class
pub record Start (c : ℕ → Bool) (w : List ℕ) : Type 0 where
  pub first : ℕ
  pub others : List ℕ
  pub is : w ≡ first ∷ others
  pub holds : c first ≡ true

-- the words of p start with a byte of c, and f is the length of the longest of them at the front of a list, 0 where there is none
pub record Finds (f : List ℕ → ℕ) (p : Words) (c : ℕ → Bool) : Type 0 where
  pub start : (w : List ℕ) → p w → Start c w
  pub word : (l : List ℕ) → 0 < f l → p (take (f l) l)
  pub most : (w rest : List ℕ) → p w → length w ≤ f (w ++ rest)

-- before a byte of c no word of p but the longest ends
abbrev pub Cut : (List ℕ → ℕ) → Words → (ℕ → Bool) → Type 0
Cut f p c = (u : List ℕ) (b : ℕ) (rest : List ℕ) → p u → c b ≡ true → f (u ++ (b ∷ rest)) ≡ length u

-- no byte of c is one of d
abbrev pub Apart : (ℕ → Bool) → (ℕ → Bool) → Type 0
Apart c d = (b : ℕ) → c b ≡ true → d b ≡ false

-- one byte

one_start : (c : ℕ → Bool) (w : List ℕ) → Byte c w → Start c w
one_start c w (byte b h) = record { first = b; others = []; is = refl; holds = h }

one_word : (c : ℕ → Bool) (l : List ℕ) → 0 < one c l → Byte c (take (one c l) l)
one_word c [] h = absurd (omega arith)
one_word c (b ∷ l) h = go (c b) refl h
  where
    go : (t : Bool) → c b ≡ t → 0 < cond t 1 0 → Byte c (take (cond t 1 0) (b ∷ l))
    go true e k = byte b e
    go false e k = absurd (omega arith)

pub one_cut : (c d : ℕ → Bool) → Cut (one c) (Byte c) d
one_cut c d u a rest (byte b h) k = rw h

one_most : (c : ℕ → Bool) (w rest : List ℕ) → Byte c w → length w ≤ one c (w ++ rest)
one_most c w rest (byte b h) = rw h (suc-le-suc zero-le)

pub one_finds : (c : ℕ → Bool) → Finds (one c) (Byte c) c
one_finds c = record { start = one_start c; word = one_word c; most = one_most c }

-- one byte or more

run_start : (c : ℕ → Bool) (w : List ℕ) → Some (Byte c) w → Start c w
run_start c w (last (byte b h)) = record { first = b; others = []; is = refl; holds = h }
run_start c w (more (byte b h) r) = record { first = b; others = _; is = refl; holds = h }

run_word : (c : ℕ → Bool) (l : List ℕ) → 0 < run c l → Some (Byte c) (take (run c l) l)
run_word c [] h = absurd (omega arith)
run_word c (b ∷ l) h = go (c b) refl (run_word c l) h
  where
    on : (n : ℕ) → c b ≡ true → (0 < n → Some (Byte c) (take n l)) → Some (Byte c) (b ∷ take n l)
    on zero e r = last (byte b e)
    on (suc n) e r = more (byte b e) (r (suc-le-suc zero-le))

    go : (t : Bool) → c b ≡ t → (0 < run c l → Some (Byte c) (take (run c l) l)) → 0 < cond t (suc (run c l)) 0 → Some (Byte c) (take (cond t (suc (run c l)) 0) (b ∷ l))
    go true e r k = on (run c l) e r
    go false e r k = absurd (omega arith)

run_most : (c : ℕ → Bool) (w rest : List ℕ) → Some (Byte c) w → length w ≤ run c (w ++ rest)
run_most c w rest (last (byte b h)) = rw h (suc-le-suc zero-le)
run_most c w rest (more {v = v} (byte b h) r) = rw h (suc-le-suc (run_most c v rest r))

pub run_cut : (c d : ℕ → Bool) → Apart d c → Cut (run c) (Some (Byte c)) d
run_cut c d n u a rest (last (byte b h)) k = rw (h, n a k)
run_cut c d n u a rest (more {v = v} (byte b h) r) k = rw h (ap suc (run_cut c d n v a rest r k))

pub run_finds : (c : ℕ → Bool) → Finds (run c) (Some (Byte c)) c
run_finds c = record { start = run_start c; word = run_word c; most = run_most c }

-- one part behind another

-- r is the sum of two lengths, neither of which is 0
record Sum (r m n : ℕ) : Type 0 where
  some : 0 < m
  then_some : 0 < n
  is : r ≡ m + n

seq_sum : (m n : ℕ) → 0 < cond (eqb m 0) 0 (behind m n) → Sum (cond (eqb m 0) 0 (behind m n)) m n
unfolding behind
seq_sum zero n h = absurd (omega arith)
seq_sum (suc m) zero h = let k : 0 < 0 = rw (ne_eqb (suc m) 0 (omega arith)) at h in absurd (omega arith)
seq_sum (suc m) (suc n) h = record { some = omega arith; then_some = omega arith; is = rw (ne_eqb (suc m) 0 (omega arith)) }

seq_both : (m n : ℕ) → 0 < m → 0 < n → cond (eqb m 0) 0 (behind m n) ≡ m + n
seq_both m n h k = rw (ne_eqb m 0 (omega arith)) (behind_some m n (omega arith))

and_maybe_sum : (m n : ℕ) → 0 < cond (eqb m 0) 0 (m + n) → (0 < m) × (cond (eqb m 0) 0 (m + n) ≡ m + n)
and_maybe_sum zero n h = absurd (omega arith)
and_maybe_sum (suc m) n h = (omega arith, rw (ne_eqb (suc m) 0 (omega arith)))

pub behind_sum : (m n : ℕ) → 0 < behind m n → (0 < n) × (behind m n ≡ m + n)
unfolding behind
behind_sum m zero h = absurd (omega arith)
behind_sum m (suc n) h = (omega arith, refl)

or_second : (a : Bool) {b : Bool} → b ≡ true → (a || b) ≡ true
or_second true e = refl
or_second false e = e

-- a word of each, one behind the other
both : {p q : Words} (r m n : ℕ) (l : List ℕ) → r ≡ m + n → p (take m l) → q (take n (drop m l)) → (p then q) (take r l)
both r m n l e a b = rw (e, take-add) (joined a b)

perhaps : {q : Words} (n : ℕ) (l : List ℕ) → (0 < n → q (take n l)) → Optional q (take n l)
perhaps zero l h = absent
perhaps (suc n) l h = present (h (suc-le-suc zero-le))

module _ {f g : List ℕ → ℕ} {p q : Words} {c d : ℕ → Bool} (F : Finds f p c) (G : Finds g q d) (cut : Cut f p d) where
  -- where a word of each stands at the front, f finds the first, and g goes on behind it
  record Met (u v rest : List ℕ) : Type 0 where
    first : f ((u ++ v) ++ rest) ≡ length u
    second : g (drop (f ((u ++ v) ++ rest)) ((u ++ v) ++ rest)) ≡ g (v ++ rest)
    most : length v ≤ g (v ++ rest)
    some : 0 < length u
    then_some : 0 < length v

  met : (u v rest : List ℕ) → p u → q v → Met u v rest
  met u v rest a b =
      let s = F.start u a in
      let t = G.start v b in
      let e : f ((u ++ v) ++ rest) ≡ length u = rw (append_assoc, t.is) (cut u t.first (t.others ++ rest) a t.holds) in
      record {
        first = e;
        second = rw (e, append_assoc, drop-append_seam);
        most = G.most v rest b;
        some = rw s.is (suc-le-suc zero-le);
        then_some = rw t.is (suc-le-suc zero-le);
      }

  then_start : {r : Words} (w : List ℕ) → (p then r) w → Start c w
  then_start w (joined {u = u} {v = v} a b) =
      let s = F.start u a in
      record { first = s.first; others = s.others ++ v; is = ap (λ (x : List ℕ). x ++ v) s.is; holds = s.holds }

  -- p and then q

  seq_word : (l : List ℕ) → 0 < seq f g l → (p then q) (take (seq f g l) l)
  seq_word l h =
      let s = seq_sum (f l) (g (drop (f l) l)) h in
      both _ (f l) _ l s.is (F.word l s.some) (G.word (drop (f l) l) s.then_some)

  seq_most : (w rest : List ℕ) → (p then q) w → length w ≤ seq f g (w ++ rest)
  seq_most w rest (joined {u = u} {v = v} a b) =
      let m = met u v rest a b in
      let n = g (drop (f ((u ++ v) ++ rest)) ((u ++ v) ++ rest)) in
      rw (seq_both (f ((u ++ v) ++ rest)) n (omega arith) (omega arith)) (omega (arith, length-append u v))

  pub seq_finds : Finds (seq f g) (p then q) c
  seq_finds = record { start = then_start; word = seq_word; most = seq_most }

  -- p and then perhaps q

  and_maybe_word : (l : List ℕ) → 0 < and_maybe f g l → (p then Optional q) (take (and_maybe f g l) l)
  and_maybe_word l h =
      let s = and_maybe_sum (f l) (g (drop (f l) l)) h in
      both _ (f l) _ l s.1 (F.word l s.0) (perhaps _ _ (G.word (drop (f l) l)))

  and_maybe_most : (w rest : List ℕ) → (p then Optional q) w → length w ≤ and_maybe f g (w ++ rest)
  and_maybe_most w rest (joined {u = u} a absent) =
      let s = F.start u a in
      let k : 0 < length u = rw s.is (suc-le-suc zero-le) in
      let m = F.most u rest a in
      rw (append-nil, ne_eqb (f (u ++ rest)) 0 (omega arith)) (omega arith)
  and_maybe_most w rest (joined {u = u} {v = v} a (present b)) =
      let m = met u v rest a b in
      rw (ne_eqb (f ((u ++ v) ++ rest)) 0 (omega arith)) (omega (arith, length-append u v))

  pub and_maybe_finds : Finds (and_maybe f g) (p then Optional q) c
  and_maybe_finds = record { start = then_start; word = and_maybe_word; most = and_maybe_most }

  -- perhaps p and then q: where q starts, p has no word

  module _ (clean : (b : ℕ) (rest : List ℕ) → d b ≡ true → f (b ∷ rest) ≡ 0) where
    maybe_start : (w : List ℕ) → (Optional p then q) w → Start (λ (b : ℕ). c b || d b) w
    maybe_start w (joined {v = v} absent b) =
        let t = G.start v b in
        record { first = t.first; others = t.others; is = t.is; holds = or_second (c t.first) t.holds }
    maybe_start w (joined {u = u} {v = v} (present a) b) =
        let s = F.start u a in
        record { first = s.first; others = s.others ++ v; is = ap (λ (x : List ℕ). x ++ v) s.is; holds = rw s.holds }

    maybe_word : (l : List ℕ) → 0 < maybe f g l → (Optional p then q) (take (maybe f g l) l)
    maybe_word l h =
        let s = behind_sum (f l) (g (drop (f l) l)) h in
        both _ (f l) _ l s.1 (perhaps _ _ (F.word l)) (G.word (drop (f l) l) s.0)

    maybe_most : (w rest : List ℕ) → (Optional p then q) w → length w ≤ maybe f g (w ++ rest)
    maybe_most w rest (joined {v = v} absent b) =
        let t = G.start v b in
        let e : f (v ++ rest) ≡ 0 = rw t.is (clean t.first (t.others ++ rest) t.holds) in
        rw (e, behind_zero) (G.most v rest b)
    maybe_most w rest (joined {u = u} {v = v} (present a) b) =
        let m = met u v rest a b in
        let n = g (drop (f ((u ++ v) ++ rest)) ((u ++ v) ++ rest)) in
        rw (behind_some (f ((u ++ v) ++ rest)) n (omega arith)) (omega (arith, length-append u v))

    pub maybe_finds : Finds (maybe f g) (Optional p then q) (λ (b : ℕ). c b || d b)
    maybe_finds = record { start = maybe_start; word = maybe_word; most = maybe_most }

  -- before a byte at which q is cut, so is p with q behind it
  pub seq_cut : (e : ℕ → Bool) → Cut g q e → Cut (seq f g) (p then q) e
  seq_cut e cut' w x rest (joined {u = u} {v = v} a b) k =
      let m = met u v (x ∷ rest) a b in
      let n = g (drop (f ((u ++ v) ++ (x ∷ rest))) ((u ++ v) ++ (x ∷ rest))) in
      seq_both (f ((u ++ v) ++ (x ∷ rest))) n (omega arith) (omega arith) ∙ omega (arith, cut' v x rest b k, length-append u v)
