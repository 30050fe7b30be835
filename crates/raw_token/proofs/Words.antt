-- A word's number, and the code that it stands for: the code of a name or a keyword goes by one `match` on the number of its bytes.
-- Assumes nothing.
use mathlib.Core.Path.{◌≡◌, refl, sym, ap, ◌∙◌}
use mathlib.Core.Bool.{Bool, true, false, cond, ◌&&◌, true≢false}
use mathlib.Core.List.{List, [], ◌∷◌, ◌++◌}
use mathlib.Core.Logic.{◌⊎◌, inl, inr}
use Prim.Native.Nat.{ℕ, zero, suc, ◌+◌, ◌-◌, ◌*◌, ◌%◌, ◌^◌, ◌<◌, ◌≤◌, zero-le, suc-le-suc}
use native.Mathlib.Nat.{le_of_suc-le-suc, mod-eq_of_lt}
use native.Mathlib.Decide.{dec_lt, ℕ_discrete}
use native.Mathlib.Omega.{arith}
use lib.Dec.{eqb, leb}
use lib.Seq.{get_or-drop, take-suc, length-take-le}
use lib.ListN.{length, get_or, take, drop, replicate, length-drop}
use borrow.Author.Tests.{eq-eqb, eqb-true, ne_eqb, leb-true, le-leb, lt-ltb, le-ltb}
use Rattle.source.specs.Bytes.{run}
use Rattle.token.specs.Code.{Identifier}
use Rattle.source.proofs.Bools.{and_left, and_right, and_true, and_false, and_assoc}
use Rattle.source.proofs.Lists.{run_le}
use Rattle.raw_token.specs.Pattern.{continues_name, is_prefix, literal, many, name}
use Rattle.raw_token.specs.Table.{Entry, longer, longest, table}
use Rattle.raw_token.specs.Table as T
use Rattle.raw_token.specs.Parts.{keywords, pack, code_of, word_code, ascii_begins, ascii_continues_lem, word_at}
use Rattle.std.specs.Prelude.{Some}
use Rattle.raw_token.specs.Table.{raw_token}
use Rattle.raw_token.proofs.Names.{ascii_low, name_parts}

abbrev pub all_in : (ℕ → Bool) → List ℕ → Bool
all_in p [] = true
all_in p (b ∷ l) = p b && all_in p l

low : (b : ℕ) → ascii_continues_lem b ≡ true → 1 ≤ b
low b g = (ascii_low b g).0

high : (b : ℕ) → ascii_continues_lem b ≡ true → b < 256
high b g = let h = (ascii_low b g).1 in omega arith

top : (a b x y : ℕ) → a < 256 → b < 256 → x * 256 + b ≡ y * 256 + a → Dec (x < y) → Dec (y < x) → x ≡ y
top a b x y ha hb q (yes h) k = absurd (omega arith)
top a b x y ha hb q (no h) (yes k) = absurd (omega arith)
top a b x y ha hb q (no h) (no k) = omega arith

-- two numbers to the base 256 are equal where all but their lowest digits are and these are
digits_eq : (a b x y : ℕ) → a < 256 → b < 256 → eqb (x * 256 + b) (y * 256 + a) ≡ (eqb x y && eqb b a)
digits_eq a b x y ha hb = go (ℕ_discrete x y) (ℕ_discrete b a)
  where
    go : Dec (x ≡ y) → Dec (b ≡ a) → eqb (x * 256 + b) (y * 256 + a) ≡ (eqb x y && eqb b a)
    go (yes e) (yes f) = rw (eq-eqb x y e, eq-eqb b a f, eq-eqb (x * 256 + b) (y * 256 + a) (omega arith))
    go (yes e) (no f) = rw (eq-eqb x y e, ne_eqb b a f, ne_eqb (x * 256 + b) (y * 256 + a) (λ q. f (omega arith)))
    go (no e) k = rw (ne_eqb x y e, ne_eqb (x * 256 + b) (y * 256 + a) (λ q. e (top a b x y ha hb q (dec_lt x y) (dec_lt y x))))

-- a greater number stays greater, however many digits follow it, where no more follow the other
pack_less : (w v : List ℕ) (x y : ℕ) → length w ≤ length v → all_in ascii_continues_lem w ≡ true → x < y → pack x w < pack y v
pack_less [] [] x y h g k = k
pack_less [] (b ∷ v) x y h g k = pack_less [] v x (y * 256 + b) zero-le refl (omega arith)
pack_less (a ∷ w) [] x y h g k = absurd (omega arith)
pack_less (a ∷ w) (b ∷ v) x y h g k =
    let a₁ = high a (and_left _ _ g) in
    pack_less w v (x * 256 + a) (y * 256 + b) (le_of_suc-le-suc h) (and_right (ascii_continues_lem a) (all_in ascii_continues_lem w) g) (omega arith)

-- so of two words the longer has the greater number
pack_longer : (w v : List ℕ) → length w < length v → all_in ascii_continues_lem w ≡ true → all_in ascii_continues_lem v ≡ true → pack 0 w < pack 0 v
pack_longer w [] h g k = absurd (omega arith)
pack_longer w (b ∷ v) h g k =
    let b₁ = low b (and_left _ _ k) in
    pack_less w v 0 (0 * 256 + b) (le_of_suc-le-suc h) g (omega arith)

-- and two words as long have equal numbers exactly where they are equal
pack_same : (w l : List ℕ) (n x y : ℕ) → length w ≡ n → n ≤ length l → all_in ascii_continues_lem w ≡ true → all_in ascii_continues_lem (take n l) ≡ true → eqb (pack x (take n l)) (pack y w) ≡ (eqb x y && is_prefix w l)
pack_same [] l zero x y e h gw gl = sym (and_true (eqb x y))
pack_same [] l (suc n) x y e h gw gl = absurd (omega arith)
pack_same (a ∷ w) l zero x y e h gw gl = absurd (omega arith)
pack_same (a ∷ w) [] (suc n) x y e h gw gl = absurd (omega arith)
pack_same (a ∷ w) (b ∷ l) (suc n) x y e h gw gl =
    pack_same w l n (x * 256 + b) (y * 256 + a) (omega arith) (le_of_suc-le-suc h) (and_right (ascii_continues_lem a) (all_in ascii_continues_lem w) gw) (and_right (ascii_continues_lem b) (all_in ascii_continues_lem (take n l)) gl)
    ∙ rw (digits_eq a b x y (high a (and_left _ _ gw)) (high b (and_left _ _ gl)))
    (and_assoc (eqb x y) (eqb b a) (is_prefix w l))

-- w is the whole of the first n bytes exactly where the numbers are equal
pub pack_eq : (w l : List ℕ) (n : ℕ) → n ≤ length l → all_in ascii_continues_lem w ≡ true → all_in ascii_continues_lem (take n l) ≡ true → (is_prefix w l && eqb (length w) n) ≡ eqb (pack 0 (take n l)) (pack 0 w)
pack_eq w l n h gw gl = go (ℕ_discrete (length w) n) (dec_lt (length w) n) (length-take-le n l h)
  where
    go : Dec (length w ≡ n) → Dec (length w < n) → length (take n l) ≡ n → (is_prefix w l && eqb (length w) n) ≡ eqb (pack 0 (take n l)) (pack 0 w)
    go (yes e) d k = rw (eq-eqb (length w) n e, and_true (is_prefix w l)) (sym (pack_same w l n 0 0 e h gw gl))
    go (no e) (yes d) k =
        rw (ne_eqb (length w) n e, and_false (is_prefix w l))
        (sym (ne_eqb (pack 0 (take n l)) (pack 0 w) (λ q. let m = pack_longer w (take n l) (omega arith) gw gl in omega arith)))
    go (no e) (no d) k =
        rw (ne_eqb (length w) n e, and_false (is_prefix w l))
        (sym (ne_eqb (pack 0 (take n l)) (pack 0 w) (λ q. let m = pack_longer (take n l) w (omega arith) gl gw in omega arith)))

-- every word of the list is of ASCII letters, digits and underscores, and of at most 8
abbrev pub all_words : List (ℕ × List ℕ) → Bool
all_words [] = true
all_words (e ∷ es) = (all_in ascii_continues_lem e.1 && leb (length e.1) 8) && all_words es

word_in : (e : ℕ × List ℕ) (es : List (ℕ × List ℕ)) → all_words (e ∷ es) ≡ true → (all_in ascii_continues_lem e.1 ≡ true) × ((length e.1 ≤ 8) × (all_words es ≡ true))
word_in e es a =
    let h = and_left (all_in ascii_continues_lem e.1 && leb (length e.1) 8) (all_words es) a in
    (and_left _ _ h, (leb-true _ 8 (and_right (all_in ascii_continues_lem e.1) (leb (length e.1) 8) h), and_right (all_in ascii_continues_lem e.1 && leb (length e.1) 8) (all_words es) a))

-- the code by the word's bytes is the code by its number
pub code_eq : (es : List (ℕ × List ℕ)) (l : List ℕ) (n : ℕ) → n ≤ length l → all_words es ≡ true → all_in ascii_continues_lem (take n l) ≡ true → word_code es l n ≡ code_of es (pack 0 (take n l))
code_eq [] l n h a k = refl
code_eq (e ∷ es) l n h a k =
    let w = word_in e es a in
    rw (pack_eq e.1 l n h w.0 k, code_eq es l n h w.1.1 k)

-- the bytes of a run are of its class
pub run_in : (p : ℕ → Bool) (l : List ℕ) → all_in p (take (run p l) l) ≡ true
run_in p [] = refl
run_in p (b ∷ l) = go (p b) refl (run_in p l)
  where
    go : (t : Bool) → p b ≡ t → all_in p (take (run p l) l) ≡ true → all_in p (take (cond t (suc (run p l)) 0) (b ∷ l)) ≡ true
    go true e r = rw (e, r)
    go false e r = refl

-- a word that stands at the front is no longer than the run
prefix_run : (w l : List ℕ) → all_in ascii_continues_lem w ≡ true → is_prefix w l ≡ true → length w ≤ run ascii_continues_lem l
prefix_run [] l a p = zero-le
prefix_run (x ∷ w) [] a p = absurd (true≢false (sym p))
prefix_run (x ∷ w) (b ∷ l) a p =
    let e = eqb-true b x (and_left (eqb b x) (is_prefix w l) p) in
    rw (ap ascii_continues_lem e ∙ and_left (ascii_continues_lem x) (all_in ascii_continues_lem w) a)
    (suc-le-suc (prefix_run w l (and_right (ascii_continues_lem x) (all_in ascii_continues_lem w) a) (and_right (eqb b x) (is_prefix w l) p)))

-- no word of the list is longer than 8, nor has it other characters
pub code_other : (es : List (ℕ × List ℕ)) (l : List ℕ) (n : ℕ) → all_words es ≡ true → (8 < n) ⊎ (run ascii_continues_lem l < n) → word_code es l n ≡ Identifier
code_other [] l n a h = refl
code_other (e ∷ es) l n a h =
    let w = word_in e es a in
    go (is_prefix e.1 l) (prefix_run e.1 l w.0) w.1.0 h (code_other es l n w.1.1 h)
  where
    go : (t : Bool) → (t ≡ true → length e.1 ≤ run ascii_continues_lem l) → length e.1 ≤ 8 → (8 < n) ⊎ (run ascii_continues_lem l < n) → word_code es l n ≡ Identifier → cond (t && eqb (length e.1) n) e.0 (word_code es l n) ≡ Identifier
    go false f k h r = r
    go true f k (inl h) r = rw (ne_eqb (length e.1) n (omega arith)) r
    go true f k (inr h) r = let q = f refl in rw (ne_eqb (length e.1) n (omega arith)) r

-- the entries of a list of words
abbrev pub literals : List (ℕ × List ℕ) → List Entry
literals [] = []
literals (e ∷ es) = (e.0, T.literal e.1) ∷ literals es

-- a keyword wins where it is the whole of the n bytes of a name, and a name elsewhere. m is the length of the best keyword so far, and c its code
pub best_word : (es : List (ℕ × List ℕ)) (l : List ℕ) (n c m : ℕ) → all_words es ≡ true → run ascii_continues_lem l ≤ n → m ≤ n → longer (longest (c, m) (literals es) l) Identifier n ≡ (cond (eqb m n) c (word_code es l n), n)
unfolding literal
best_word [] l n c m a r h = go (ℕ_discrete m n)
  where
    go : Dec (m ≡ n) → longer (c, m) Identifier n ≡ (cond (eqb m n) c Identifier, n)
    go (yes e) = rw (le-ltb m n (omega arith), eq-eqb m n e) (ap (λ (k : ℕ). (c, k)) e)
    go (no e) = rw (lt-ltb m n (omega arith), ne_eqb m n e)
best_word (e ∷ es) l n c m a r h =
    let w = word_in e es a in
    go (is_prefix e.1 l) (prefix_run e.1 l w.0) (dec_lt m (length e.1)) (ℕ_discrete m n)
    (λ (k d : ℕ) (q : k ≤ n). best_word es l n d k w.1.1 r q)
  where
    go : (t : Bool) → (t ≡ true → length e.1 ≤ run ascii_continues_lem l) → Dec (m < length e.1) → Dec (m ≡ n) → ((k d : ℕ) → k ≤ n → longer (longest (d, k) (literals es) l) Identifier n ≡ (cond (eqb k n) d (word_code es l n), n)) → longer (longest (longer (c, m) e.0 (cond t (length e.1) 0)) (literals es) l) Identifier n ≡ (cond (eqb m n) c (cond (t && eqb (length e.1) n) e.0 (word_code es l n)), n)
    go false f x y ih = rw (le-ltb m 0 zero-le) (ih m c h)
    go true f (yes x) y ih = let k = f refl in rw (lt-ltb m (length e.1) x, ne_eqb m n (omega arith)) (ih (length e.1) e.0 (omega arith))
    go true f (no x) (yes y) ih = rw (le-ltb m (length e.1) (omega arith), eq-eqb m n y) (ih m c h ∙ rw (eq-eqb m n y))
    go true f (no x) (no y) ih = rw (le-ltb m (length e.1) (omega arith), ne_eqb m n y, ne_eqb (length e.1) n (omega arith)) (ih m c h ∙ rw (ne_eqb m n y))

-- the number n is no word's: a pair for each word around what A says, in which form the `_` of a `match` on n knows it
abbrev pub NoWord : Type 0 → List (ℕ × List ℕ) → ℕ → Type 0
NoWord A [] n = A
NoWord A (e ∷ es) n = NoWord (A × (n ≡ pack 0 e.1 → ⊥)) es n

pub no_code : (A : Type 0) (es : List (ℕ × List ℕ)) (n : ℕ) → NoWord A es n → A × (code_of es n ≡ Identifier)
no_code A [] n h = (h, refl)
no_code A (e ∷ es) n h =
    let r = no_code (A × (n ≡ pack 0 e.1 → ⊥)) es n h in
    (r.0.0, rw (ne_eqb n (pack 0 e.1) r.0.1) r.1)

-- one byte more, at the end
pack_end : (n : ℕ) (l : List ℕ) (b : ℕ) → pack n (l ++ (b ∷ [])) ≡ pack n l * 256 + b
pack_end n [] b = refl
pack_end n (a ∷ l) b = pack_end (n * 256 + a) l b

pack_next : (l : List ℕ) (k : ℕ) → k < length l → pack 0 (take (suc k) l) ≡ pack 0 (take k l) * 256 + get_or l k 0
pack_next l k h = ap (pack 0) (take-suc l k 0 h) ∙ pack_end 0 (take k l) (get_or l k 0)

-- what a loop over the bytes keeps: the number is that of the bytes from `at` up to i, of which the last eight count
abbrev pub Packed : List ℕ → ℕ → ℕ → ℕ → Type 0
Packed s at i n = n ≡ pack 0 (take (i - at) (drop at s)) % 2 ^ 64

-- what is above seven bytes goes before the eighth comes
push : (m n b : ℕ) → b < 256 → n ≡ m % 2 ^ 64 → n % 2 ^ 56 * 256 + b ≡ (m * 256 + b) % 2 ^ 64
push m n b h e = omega arith

pub packed_next : (s : List ℕ) (at i n : ℕ) → get_or s i 0 < 256 → at ≤ i → i < length s → Packed s at i n → Packed s at (i + 1) (n % 2 ^ 56 * 256 + get_or s i 0)
packed_next s at i n b h r p =
    let d = i - at in
    let e₁ : i + 1 - at ≡ suc d = omega arith in
    let e₂ : at + d ≡ i = omega arith in
    rw (e₁, pack_next (drop at s) d (omega (arith, length-drop at s)), get_or-drop, e₂) (push (pack 0 (take d (drop at s))) n (get_or s i 0) b p)

-- eight bytes are a number below 2 ^ 64
eight : (w : List ℕ) → length w ≤ 8 → all_in ascii_continues_lem w ≡ true → pack 0 w < 2 ^ 64
eight w h a = pack_less w (replicate 8 0) 0 1 h a (omega arith)

pub keywords_words : all_words keywords ≡ true
unfolding keywords table
keywords_words = refl

-- the word at a place: its ASCII characters up to `end`, and all of them up to `stop`
module _ (s : List ℕ) (at end stop : ℕ) (within : at < length s) (h : ascii_begins (get_or s at 0) ≡ true) (isEnd : end ≡ at + run ascii_continues_lem (drop at s)) (isStop : stop ≡ end + many continues_name (drop end s)) where
  ends : stop ≡ at + name (drop at s)
  ends = isStop ∙ sym (name_parts s at within h end isEnd)

  ended : stop - at ≡ name (drop at s)
  ended = omega (arith, ends)

  pub short_word : (m code : ℕ) → (eqb stop end && leb (stop - at) 8) ≡ true → m ≡ pack 0 (take (end - at) (drop at s)) % 2 ^ 64 → code ≡ code_of keywords m → Some (raw_token code stop) ≡ word_at s at
  unfolding word_at
  short_word m code t isM is_code =
      let n = run ascii_continues_lem (drop at s) in
      let same = eqb-true stop end (and_left (eqb stop end) (leb (stop - at) 8) t) in
      let few = leb-true (stop - at) 8 (and_right (eqb stop end) (leb (stop - at) 8) t) in
      let is_n : name (drop at s) ≡ n = omega (arith, ended) in
      let e : end - at ≡ n = omega arith in
      let l = run_le ascii_continues_lem (drop at s) in
      let a = run_in ascii_continues_lem (drop at s) in
      let fits = eight (take n (drop at s)) (omega (arith, length-take-le n (drop at s) l)) a in
      let number : pack 0 (take n (drop at s)) ≡ m = sym (mod-eq_of_lt fits) ∙ ap (λ (k : ℕ). pack 0 (take k (drop at s)) % 2 ^ 64) (sym e) ∙ sym isM in
      let c : word_code keywords (drop at s) n ≡ code = code_eq keywords (drop at s) n l keywords_words a ∙ ap (code_of keywords) number ∙ sym is_code in
      rw (is_n, c) (ap (λ (k : ℕ). Some (raw_token code k)) (omega (arith, ends, is_n)))

  pub other_word : (eqb stop end && leb (stop - at) 8) ≡ false → Some (raw_token Identifier stop) ≡ word_at s at
  unfolding word_at
  other_word f = rw (code_other keywords (drop at s) (name (drop at s)) keywords_words (go (ℕ_discrete stop end) (dec_lt 8 (stop - at)))) (ap (λ (k : ℕ). Some (raw_token Identifier k)) ends)
    where
      go : Dec (stop ≡ end) → Dec (8 < stop - at) → (8 < name (drop at s)) ⊎ (run ascii_continues_lem (drop at s) < name (drop at s))
      go d (yes h) = inl (rw ended at h)
      go (no d) (no h) = inr (omega (arith, ended, isEnd, isStop))
      go (yes d) (no h) = absurd (true≢false (sym (rw (eq-eqb stop end d, le-leb (stop - at) 8 (omega arith))) ∙ f))
