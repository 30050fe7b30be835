-- "The longest match wins; at equal length a keyword beats a name": the token of `raw_token` is the one that wins by the words at its place,
-- and no other does.
-- Assumes nothing.
use mathlib.Core.Path.{◌≡◌, refl, sym, ap, subst, ◌∙◌}
use mathlib.Core.Bool.{Bool, true, false, cond}
use mathlib.Core.List.Memᴰ
use mathlib.Core.List.{List, [], ◌∷◌, ◌++◌, Memᴰ}
use mathlib.Core.Logic.{⊎_elim}
use Prim.Native.Nat.{ℕ, ◌+◌, ◌-◌, ◌<◌, ◌≤◌}
use native.Mathlib.Omega.{arith}
use lib.Dec.{ltb}
use lib.ListN.{length, drop, length-drop, take-append-drop}
use lib.Seq.{length-take-le}
use borrow.Author.Tests.{ne_eqb, ltb-true, ltb-false}
use Rattle.std.specs.Prelude.{Option, Some, None}
use Rattle.source.specs.Bytes.{part}
use Rattle.source.proofs.Bools.{and_left, and_right}
use Rattle.raw_token.specs.Table.{raw_token, Pattern, Entry, len, table, longer, longest, found, token_at_lem}
use Rattle.raw_token.specs.declared.RawToken.{RawToken}
use Rattle.raw_token.proofs.Laws.{all}
use Rattle.lexical.specs.Longest.{Front, Longest, Wins}
use Rattle.lexical.proofs.Patterns.{filled, length_is}

-- of the entries es the one with the code and the length of `best` has the longest match, and those before it have shorter ones
pub record Leads (es : List Entry) (l : List ℕ) (best : ℕ × ℕ) : Type 0 where
  pub pattern : Pattern
  pub before : List Entry
  pub after : List Entry
  pub entry : es ≡ before ++ (best.0, pattern) ∷ after
  pub is : best.1 ≡ len pattern l
  pub longest : (e : Entry) → Memᴰ e es → len e.1 l ≤ best.1
  pub first : (e : Entry) → Memᴰ e before → len e.1 l < best.1

-- what comes of the best match so far behind the entries es: it stays where none of them has a longer one
data After (es : List Entry) (l : List ℕ) (best : ℕ × ℕ) : ℕ × ℕ → Type 0 where
  stays : ((e : Entry) → Memᴰ e es → len e.1 l ≤ best.1) → After es l best best
  beaten : {new : ℕ × ℕ} → best.1 < new.1 → Leads es l new → After es l best new

-- a property of the first and of the others
each : {P : Entry → Type 0} {x : Entry} {es : List Entry} → P x → ((e : Entry) → Memᴰ e es → P e) → (e : Entry) → Memᴰ e (x ∷ es) → P e
each {P} h r e m = ⊎_elim (λ q. rw q h) (r e) (Memᴰ.cases_cons m)

-- one more entry in front, with a shorter match
in_front : (x : Entry) (es : List Entry) (l : List ℕ) (best : ℕ × ℕ) → len x.1 l < best.1 → Leads es l best → Leads (x ∷ es) l best
in_front x es l best h b =
    record {
      pattern = b.pattern;
      before = x ∷ b.before;
      after = b.after;
      entry = ap (λ (y : List Entry). x ∷ y) b.entry;
      is = b.is;
      longest = each {P = λ e. len e.1 l ≤ best.1} (omega arith) b.longest;
      first = each {P = λ e. len e.1 l < best.1} h b.first;
    }

after : (es : List Entry) (best : ℕ × ℕ) (l : List ℕ) → After es l best (longest best es l)
after [] best l = stays (λ e m. absurd (Memᴰ.not-nil m))
after (x ∷ es) best l = go (ltb best.1 (len x.1 l)) refl (after es (longer best x.0 (len x.1 l)) l)
  where
    go : (t : Bool) → ltb best.1 (len x.1 l) ≡ t → {r : ℕ × ℕ} → After es l (cond t (x.0, len x.1 l) best) r → After (x ∷ es) l best r
    go true h (stays a) =
        let k = ltb-true best.1 (len x.1 l) h in
        beaten k (record { pattern = x.1; before = []; after = es; entry = refl; is = refl; longest = each {P = λ e. len e.1 l ≤ len x.1 l} (omega arith) a; first = λ e m. absurd (Memᴰ.not-nil m) })
    go true h (beaten {new = r} k b) = let j = ltb-true best.1 (len x.1 l) h in beaten {new = r} (omega arith) (in_front x es l r k b)
    go false h (stays a) = stays (each {P = λ e. len e.1 l ≤ best.1} (omega (arith, ltb-false best.1 (len x.1 l) h)) a)
    go false h (beaten {new = r} k b) = beaten k (in_front x es l r (omega (arith, ltb-false best.1 (len x.1 l) h)) b)

-- the token at a place, by the lengths of its entries' matches
abbrev pub ByLength : List ℕ → ℕ → Option RawToken → Type 0
ByLength s at (Some t) = (n : ℕ) × (0 < n) × (t.end ≡ at + n) × Leads table (drop at s) (t.code, n)
ByLength s at None = (e : Entry) → Memᴰ e table → len e.1 (drop at s) ≡ 0

pub by_length : (s : List ℕ) (at : ℕ) → ByLength s at (token_at_lem s at)
unfolding token_at_lem
by_length s at = go (after table (0, 0) (drop at s))
  where
    go : {best : ℕ × ℕ} → After table (drop at s) (0, 0) best → ByLength s at (found at best)
    go (stays a) = λ e m. omega (arith, a e m)
    go (beaten {new = r} k b) = rw (ne_eqb r.1 0 (omega arith)) (r.1, k, refl, b)

-- what a test says of all entries it says of each
pub holds : (t : ℕ → Pattern → Bool) (es : List Entry) → all t es ≡ true → (e : Entry) → Memᴰ e es → t e.0 e.1 ≡ true
holds t [] h e m = absurd (Memᴰ.not-nil m)
holds t (x ∷ es) h e m =
    ⊎_elim (λ q. rw q (and_left (t x.0 x.1) (all t es) h)) (holds t es (and_right (t x.0 x.1) (all t es) h) e) (Memᴰ.cases_cons m)

pub all_filled : all (λ c p. filled p) table ≡ true
unfolding table
all_filled = refl

table_filled : (e : Entry) → Memᴰ e table → filled e.1 ≡ true
table_filled = holds (λ c p. filled p) table all_filled

-- a list that an entry divides has it, and what stands before it
stands : {x : Entry} (es before after : List Entry) → es ≡ before ++ x ∷ after → Memᴰ x es
stands {x} es before after e = subst (Memᴰ x) (sym e) (Memᴰ.append_right before (Memᴰ.head refl))

stands_before : {x : Entry} (es before others : List Entry) → es ≡ before ++ others → Memᴰ x before → Memᴰ x es
stands_before {x} es before others e m = subst (Memᴰ x) (sym e) (Memᴰ.append_left others m)

wins : (s : List ℕ) (at : ℕ) (t : Option RawToken) → ByLength s at t → Wins s at t
wins s at None z = λ e m w f. (length_is e.1 (table_filled e m) (drop at s)).none (z e m) w f
wins s at (Some t) (n, k, q, b) =
    let own = length_is b.pattern (table_filled (t.code, b.pattern) (stands table b.before b.after b.entry)) (drop at s) in
    let i = b.is in
    let d : t.end - at ≡ len b.pattern (drop at s) = omega arith in
    record {
      some = omega arith;
      within = omega (arith, own.within, length-drop at s);
      pattern = b.pattern;
      before = b.before;
      after = b.after;
      entry = b.entry;
      word = rw d (own.word (omega arith));
      longest = λ e m w f. omega (arith, b.longest e m, (length_is e.1 (table_filled e m) (drop at s)).longest w f);
      first = λ e m w f. omega (arith, b.first e m, (length_is e.1 (table_filled e (stands_before table b.before _ b.entry m)) (drop at s)).longest w f);
    }

-- "The longest match wins; at equal length a keyword beats a name"
pub longest_match : (s : List ℕ) (at : ℕ) → Wins s at (token_at_lem s at)
longest_match s at = wins s at (token_at_lem s at) (by_length s at)

-- and no other token wins

-- of two entries that divide a list, neither of which stands before the other
same_entry : (b c v w : List Entry) {x y : Entry} → b ++ x ∷ v ≡ c ++ y ∷ w → (Memᴰ x c → ⊥) → (Memᴰ y b → ⊥) → x ≡ y
same_entry [] [] v w e h k = cc
same_entry [] (z ∷ c) v w e h k = absurd (h (Memᴰ.head (cc)))
same_entry (z ∷ b) [] v w e h k = absurd (k (Memᴰ.head (cc)))
same_entry (z ∷ b) (a ∷ c) v w {x} {y} e h k =
    let t : b ++ x ∷ v ≡ c ++ y ∷ w = cc in
    same_entry b c v w t (λ m. h (Memᴰ.tail m)) (λ m. k (Memᴰ.tail m))

module _ (s : List ℕ) (at code end : ℕ) (a : Longest s at code end) where
  -- the entry of a winner, and its word there
  in_table : Memᴰ (code, a.pattern) table
  in_table = stands table a.before a.after a.entry

  pub own : Front a.pattern (drop at s) (part s at end)
  own = record { word = a.word; rest = _; is = sym (take-append-drop (end - at) (drop at s)) }

  pub own_length : length (part s at end) ≡ end - at
  own_length = let h = a.within in length-take-le (end - at) (drop at s) (omega (arith, length-drop at s))

  module _ (code' end' : ℕ) (b : Longest s at code' end') where
    no_longer : end - at ≤ end' - at
    no_longer = omega (arith, own_length, b.longest (code, a.pattern) in_table (part s at end) own)

    not_before : end' - at ≤ end - at → Memᴰ (code, a.pattern) b.before → ⊥
    not_before h m = omega (arith, own_length, b.first (code, a.pattern) m (part s at end) own)

one_winner : (s : List ℕ) (at : ℕ) (t u : Option RawToken) → Wins s at t → Wins s at u → t ≡ u
one_winner s at None None a b = refl
one_winner s at (Some t) None a b = absurd (b (t.code, a.pattern) (in_table s at t.code t.end a) _ (own s at t.code t.end a))
one_winner s at None (Some t) a b = absurd (a (t.code, b.pattern) (in_table s at t.code t.end b) _ (own s at t.code t.end b))
one_winner s at (Some t) (Some u) a b =
    let h = no_longer s at t.code t.end a u.code u.end b in
    let k = no_longer s at u.code u.end b t.code t.end a in
    let x = same_entry a.before b.before a.after b.after (sym a.entry ∙ b.entry) (not_before s at t.code t.end a u.code u.end b k) (not_before s at u.code u.end b t.code t.end a h) in
    let i = a.some in
    let j = b.some in
    let q : t.code ≡ u.code = ap (λ (y : Entry). y.0) x in
    let r : t.end ≡ u.end = omega arith in
    ap (λ (c : ℕ). Some (raw_token c t.end)) q ∙ ap (λ (e : ℕ). Some (raw_token u.code e)) r

-- so `Wins` holds of the token found and of nothing else
pub no_other : (s : List ℕ) (at : ℕ) (t : Option RawToken) → Wins s at t → t ≡ token_at_lem s at
no_other s at t a = one_winner s at t (token_at_lem s at) a (longest_match s at)
