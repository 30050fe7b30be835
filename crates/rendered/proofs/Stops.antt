-- Bytes that lengthen no match of a pattern, for the ways in which patterns are put together.
-- Assumes nothing.
use mathlib.Core.Path.{◌≡◌, refl, ap}
use mathlib.Core.Bool.{Bool, true, false, cond}
use mathlib.Core.List.{List, [], ◌∷◌, ◌++◌}
use Prim.Native.Nat.{ℕ}
use lib.Dec.{eqb}
use lib.ListN.{drop}
use lib.Seq.{drop-append-le}
use Rattle.source.specs.Bytes.{run}
use Rattle.raw_token.specs.Pattern.{behind, one, seq, maybe, and_maybe}
use Rattle.raw_token.proofs.Within.{Bounded}

-- r lengthens no match of p
abbrev pub Stops : List ℕ → (List ℕ → ℕ) → Type 0
Stops r p = (l : List ℕ) → p (l ++ r) ≡ p l

pub run_stops : (c : ℕ → Bool) (r : List ℕ) → run c r ≡ 0 → Stops r (run c)
run_stops c r z [] = z
run_stops c r z (b ∷ l) = rw (run_stops c r z l)

module _ (c : ℕ → Bool) (q : List ℕ → ℕ) (r : List ℕ) (stops : Stops r q) where
  pub seq_one_stops : seq (one c) q r ≡ 0 → Stops r (seq (one c) q)
  seq_one_stops z [] = z
  seq_one_stops z (b ∷ l) = go (c b)
    where
      go : (t : Bool) → cond (eqb (cond t 1 0) 0) 0 (behind (cond t 1 0) (q (drop (cond t 1 0) (b ∷ (l ++ r))))) ≡ cond (eqb (cond t 1 0) 0) 0 (behind (cond t 1 0) (q (drop (cond t 1 0) (b ∷ l))))
      go true = ap (behind 1) (stops l)
      go false = refl

  pub maybe_one_stops : maybe (one c) q r ≡ maybe (one c) q [] → Stops r (maybe (one c) q)
  maybe_one_stops z [] = z
  maybe_one_stops z (b ∷ l) = go (c b)
    where
      go : (t : Bool) → behind (cond t 1 0) (q (drop (cond t 1 0) (b ∷ (l ++ r)))) ≡ behind (cond t 1 0) (q (drop (cond t 1 0) (b ∷ l)))
      go true = ap (behind 1) (stops l)
      go false = ap (behind 0) (stops (b ∷ l))

module _ (p q : List ℕ → ℕ) (r : List ℕ) (bound : Bounded p) (sp : Stops r p) (sq : Stops r q) where
  pub seq_stops : Stops r (seq p q)
  seq_stops l = rw (sp l, drop-append-le (p l) l r (bound l), sq (drop (p l) l))

  pub and_maybe_stops : Stops r (and_maybe p q)
  and_maybe_stops l = rw (sp l, drop-append-le (p l) l r (bound l), sq (drop (p l) l))
