-- Laws of decoding, one step at a time.
-- Assumes nothing.
use mathlib.Core.Path.{◌≡◌, sym, ap, ◌∙◌}
use mathlib.Core.Bool.{Bool, true, cond}
use mathlib.Core.List.{List, [], ◌∷◌, ◌++◌}
use Prim.Native.Nat.{ℕ, ◌+◌, ◌<◌, ◌≤◌}
use native.Mathlib.Nat.{add_assoc}
use native.Mathlib.Omega.{arith}
use lib.ListN.{length, get_or, drop}
use lib.Seq.{sets}
use borrow.Author.Tests.{eq-eqb, ne_eqb}
use Rattle.source.proofs.Lists.{at_cons, past}
use Rattle.strings.specs.Decoded.{unescape, escape, decode_from, decoded}

-- ---- what stands at the place i of s

module _ (s : List ℕ) (i : ℕ) where
  -- a byte that is no backslash
  pub plain : i < length s → (get_or s i 0 ≡ 92 → ⊥) → decoded (drop i s) ≡ get_or s i 0 ∷ decoded (drop (i + 1) s)
  unfolding decoded
  plain h n = rw (at_cons s i h, ne_eqb (get_or s i 0) 92 n)

  -- the end
  pub none : length s ≤ i → decoded (drop i s) ≡ []
  unfolding decoded
  none h = rw (past s i h)

  module _ (slash : get_or s i 0 ≡ 92) where
    opened : i < length s → decoded (drop i s) ≡ decode_from true (drop (i + 1) s)
    unfolding decoded
    opened h = rw (at_cons s i h, eq-eqb (get_or s i 0) 92 slash)

    -- a backslash that is the last byte
    pub alone : i < length s → length s ≤ i + 1 → decoded (drop i s) ≡ 92 ∷ decoded (drop (i + 1) s)
    unfolding decoded
    alone h k = opened h ∙ rw (past s (i + 1) k)

    next : i + 1 < length s → decoded (drop i s) ≡ escape (get_or s (i + 1) 0) ++ decoded (drop (i + 2) s)
    unfolding decoded
    next h = opened (omega arith) ∙ rw (at_cons s (i + 1) h, add_assoc)

    -- a backslash and a byte that are kept
    pub kept : i + 1 < length s → unescape (get_or s (i + 1) 0) ≡ 0 → decoded (drop i s) ≡ 92 ∷ get_or s (i + 1) 0 ∷ decoded (drop (i + 2) s)
    kept h z =
        next h
        ∙ ap (λ (t : Bool). cond t (92 ∷ get_or s (i + 1) 0 ∷ []) (unescape (get_or s (i + 1) 0) ∷ []) ++ decoded (drop (i + 2) s))
        (eq-eqb (unescape (get_or s (i + 1) 0)) 0 z)

    -- an escape
    pub replaced : i + 1 < length s → (u : ℕ) → u ≡ unescape (get_or s (i + 1) 0) → (u ≡ 0 → ⊥) → decoded (drop i s) ≡ u ∷ decoded (drop (i + 2) s)
    replaced h u e n =
        next h
        ∙ ap (λ (t : Bool). cond t (92 ∷ get_or s (i + 1) 0 ∷ []) (unescape (get_or s (i + 1) 0) ∷ []) ++ decoded (drop (i + 2) s))
        (ne_eqb (unescape (get_or s (i + 1) 0)) 0 (λ z. n (e ∙ z)))
        ∙ ap (λ (k : ℕ). k ∷ decoded (drop (i + 2) s)) (sym e)

-- ---- a loop that writes

-- what is to be written from i on, at o, makes of the text what all of it makes of the text at first, text₀, at `at`; and the ends are the same
abbrev pub Todo : List ℕ → ℕ → List ℕ → ℕ → ℕ → List ℕ → Type 0
Todo s at text₀ i o text =
    (at + length (decoded s) ≡ o + length (decoded (drop i s))) × (sets text₀ at (decoded s) ≡ sets text o (decoded (drop i s)))

module _ (s : List ℕ) (at : ℕ) (text₀ : List ℕ) (i o : ℕ) (text : List ℕ) (t : Todo s at text₀ i o text) where
  pub written : length s ≤ i → (o ≡ at + length (decoded s)) × (text ≡ sets text₀ at (decoded s))
  written h =
      let e = none s i h in
      (sym (t.0 ∙ ap (λ (l : List ℕ). o + length l) e ∙ omega arith), sym (t.1 ∙ ap (sets text o) e))
