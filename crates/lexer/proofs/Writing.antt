-- What stores of tokens and text make of the slices, and of what was scanned so far.
-- Assumes nothing.
use mathlib.Core.Path.{◌≡◌, refl, sym, ap, ◌∙◌}
use mathlib.Core.List.{List, [], ◌∷◌, ◌++◌, append_assoc}
use Prim.Native.Nat.{ℕ, suc, ◌+◌, ◌*◌, ◌≤◌}
use native.Mathlib.Omega.{arith}
use lib.ListN.{length, take, drop, replicate, length-append}
use lib.Seq.{sets, sets-eq, length-take-le, take_at}
use Rattle.tokens.specs.Token.{Token}
use Rattle.lexer.specs.Scan.{Scan, scanned, refused, prepend, mark}
use Rattle.lexer.specs.Words.{words}
use Rattle.lexer.specs.Steps.{left}

pub length_words : (ts : List Token) → length (words ts) ≡ 3 * length ts
length_words [] = refl
length_words (t ∷ ts) = omega (arith, length_words ts)

words_append : (ts us : List Token) → words (ts ++ us) ≡ words ts ++ words us
words_append [] us = refl
words_append (t ∷ ts) us = ap (λ (l : List ℕ). t.code ∷ t.start ∷ t.end ∷ l) (words_append ts us)

-- the front of a list, up to what was stored there
pub take_sets : (l : List ℕ) (o m : ℕ) (vs : List ℕ) → m ≡ o + length vs → m ≤ length l → take m (sets l o vs) ≡ take o l ++ vs
take_sets l o m vs e h =
    let f : length (take o l ++ vs) ≡ m = length-append (take o l) vs ∙ ap (λ (k : ℕ). k + length vs) (length-take-le o l (omega arith)) ∙ sym e in
    ap (take m) (sets-eq vs l o (omega arith)) ∙ take_at (take o l ++ vs) (drop (o + length vs) l) m f

-- words and text in front of a scan go to the words and text before it
pub left_prepend : (ws bs : List ℕ) (ts : List Token) (cs : List ℕ) (r : Scan) → left ws bs (prepend ts cs r) ≡ left (ws ++ words ts) (bs ++ cs) r
left_prepend ws bs ts cs (scanned us ds) =
    rw (words_append ts us, append_assoc ws (words ts) (words us), append_assoc bs cs ds)
left_prepend ws bs ts cs (refused number place) = refl

-- tokens that are written behind those so far, and text that is
module _ (tokens : List ℕ) (count : ℕ) (ts : List Token) (tokens' : List ℕ) (count' : ℕ) (text bs text' : List ℕ) (used used' : ℕ) where
  pub wrote : tokens' ≡ sets tokens (3 * count) (words ts) → count' ≡ count + length ts → 3 * count' ≤ length tokens → take used' text' ≡ take used text ++ bs → (r : Scan)
      → left (take (3 * count) tokens) (take used text) (prepend ts bs r) ≡ left (take (3 * count') tokens') (take used' text') r
  wrote a c f b r =
      left_prepend (take (3 * count) tokens) (take used text) ts bs r
      ∙ ap (λ (ws : List ℕ). left ws (take used text ++ bs) r) (sym (ap (take (3 * count')) a ∙ take_sets tokens (3 * count) (3 * count') (words ts) (omega (arith, length_words ts)) f))
      ∙ ap (λ (cs : List ℕ). left (take (3 * count') tokens') cs r) (sym b)

-- marks, one after the other
pub marks_more : (l : List ℕ) (p k m code start end : ℕ) → k ≡ suc m
    → sets l (3 * p) (words (replicate k (mark code start end))) ≡ sets (sets l (3 * p) (code ∷ start ∷ end ∷ [])) (3 * (p + 1)) (words (replicate m (mark code start end)))
marks_more l p k m code start end e =
    let f : 3 * (p + 1) ≡ suc (suc (suc (3 * p))) = omega arith in
    rw (e, f)
