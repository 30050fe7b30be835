-- The readings of a part: which tokens it takes, by what stands behind them. The next token decides which way a reading goes, as in the descent, but no
-- token is refused and nothing is counted. A reading depends on no more than the next token behind it. (The trial goes along with it: Led.antt.)
-- Assumes nothing.
use mathlib.Core.Path.{refl}
use mathlib.Core.Bool.{false}
use mathlib.Core.List.{List, [], ◌∷◌, ◌++◌, append_assoc}
use Prim.Native.Nat.{ℕ}
use lib.Dec.{T, eqb, eqb_refl}
use Rattle.grammar.specs.Sets.{mem}
use Rattle.grammar.specs.Grammar.{Part, skip, act, tok, see, call, ◌⨾◌, ◌∕◌, many, tail}
use Rattle.grammar.specs.Trial.{Machine, St}
use Rattle.grammar.specs.Descent.{Plan, null, begins}
use Rattle.grammar.specs.Check.{next}
use Rattle.grammar.proofs.Sets.{Sees, or_l, sees_within}
use Rattle.grammar.proofs.Begin.{Begun, by, none, begun_seq, begun_left, begun_right, begun_after, begun_by, next_seen}
use Rattle.grammar.proofs.Whole.{Sound}

-- `Reads G p w l`: before l, the part p takes the tokens w
pub data Reads {Act R : Type 0} (G : Plan Act R) : Part Act R → List ℕ → List ℕ → Type 0 where
  by_skip : {l : List ℕ} → Reads G skip [] l
  by_act : {a : Act} {l : List ℕ} → Reads G (act a) [] l
  by_tok : {set : List ℕ} {t : ℕ} {l : List ℕ} → T (mem t set) → Reads G (tok set) (t ∷ []) l
  by_see : {set l : List ℕ} → Sees set l → Reads G (see set) [] l
  by_call : {r : R} {w l : List ℕ} → Reads G (G.body r) w l → Reads G (call r) w l
  by_seq : {p q : Part Act R} {v w l : List ℕ} → Reads G p v (w ++ l) → Reads G q w l → Reads G (p ⨾ q) (v ++ w) l
  by_left : {p q : Part Act R} {w l : List ℕ} → Reads G p w l → Reads G (p ∕ q) w l
  by_right : {p q : Part Act R} {w l : List ℕ} → (Sees (begins G.first p) (w ++ l) → ⊥) → Reads G q w l → Reads G (p ∕ q) w l
  many_stop : {p : Part Act R} {l : List ℕ} → (Sees (begins G.first p) l → ⊥) → Reads G (many p) [] l
  many_more : {p : Part Act R} {v w l : List ℕ} → Reads G p v (w ++ l) → Reads G (many p) w l → Reads G (many p) (v ++ w) l
  tail_stop : {c : ℕ} {p : Part Act R} {l : List ℕ} → (Sees (c ∷ []) l → ⊥) → Reads G (tail c p) [] l
  tail_last : {c : ℕ} {p : Part Act R} {l : List ℕ} → (Sees (begins G.first p) l → ⊥) → Reads G (tail c p) (c ∷ []) l
  tail_more : {c : ℕ} {p : Part Act R} {v w l : List ℕ} → Reads G p v (w ++ l) → Reads G (tail c p) w l → Reads G (tail c p) (c ∷ (v ++ w)) l

-- the same token stands next in both
pub record Same (l l' : List ℕ) : Type 0 where
  pub to : (set : List ℕ) → Sees set l → Sees set l'
  pub from : (set : List ℕ) → Sees set l' → Sees set l

pub same_head : (t : ℕ) (l l' : List ℕ) → Same (t ∷ l) (t ∷ l')
same_head t l l' = record { to = λ set h. record { holds = h.holds }; from = λ set h. record { holds = h.holds } }

same_after : {l l' : List ℕ} (w : List ℕ) → Same l l' → Same (w ++ l) (w ++ l')
same_after [] h = h
same_after {l} {l'} (t ∷ w) h = same_head t (w ++ l) (w ++ l')

-- a machine that keeps nothing
abbrev pub mute : (Act : Type 0) → Machine Act
mute Act = record { Kept = Unit {0}; shift = λ c k. k; run = λ a k. k }

abbrev at : (Act : Type 0) → List ℕ → St (mute Act)
at Act l = record { rest = l; kept = tt }

module _ {Act R : Type 0} {G : Plan Act R} where
  -- a reading looks no further than the next token
  pub reads_local : {p : Part Act R} {w l l' : List ℕ} → Same l l' → Reads G p w l → Reads G p w l'
  reads_local h by_skip = by_skip
  reads_local h by_act = by_act
  reads_local h (by_tok t) = by_tok t
  reads_local h (by_see {set} k) = by_see (h.to set k)
  reads_local h (by_call x) = by_call (reads_local h x)
  reads_local h (by_seq {w} x y) = by_seq (reads_local (same_after w h) x) (reads_local h y)
  reads_local h (by_left x) = by_left (reads_local h x)
  reads_local h (by_right {w} f x) = by_right (λ k. f ((same_after w h).from _ k)) (reads_local h x)
  reads_local h (many_stop f) = many_stop (λ k. f (h.from _ k))
  reads_local h (many_more {w} x y) = many_more (reads_local (same_after w h) x) (reads_local h y)
  reads_local h (tail_stop f) = tail_stop (λ k. f (h.from _ k))
  reads_local h (tail_last f) = tail_last (λ k. f (h.from _ k))
  reads_local h (tail_more {w} x y) = tail_more (reads_local (same_after w h) x) (reads_local h y)

  module _ (good : (r : R) → Sound G r) where
    -- it is begun by a token that can begin the part, or takes none
    reads_begun : {p : Part Act R} {w l : List ℕ} → Reads G p w l → Begun (begins G.first p) (null p) (at Act (w ++ l)) (at Act l)
    unfolding begins null
    reads_begun by_skip = none tt refl
    reads_begun by_act = none tt refl
    reads_begun (by_tok h) = by (record { holds = h })
    reads_begun (by_see h) = by h
    reads_begun (by_call {r} x) = by (sees_within (G.first r) (good r).starts (begun_by (null (G.body r)) (good r).full (reads_begun x)))
    reads_begun (by_seq {v} {w} {l} x y) = rw (append_assoc v w l) (begun_seq (reads_begun x) (reads_begun y))
    reads_begun (by_left {q} x) = begun_left (begins G.first q) (null q) (reads_begun x)
    reads_begun (by_right {p} f x) = begun_right (begins G.first p) (null p) (reads_begun x)
    reads_begun (many_stop f) = none tt refl
    reads_begun (many_more {v} {w} {l} x y) = rw (append_assoc v w l) (begun_after (reads_begun x) (reads_begun y))
    reads_begun (tail_stop f) = none tt refl
    reads_begun (tail_last {c} f) = by (record { holds = or_l (eqb c c) false (eqb_refl c) })
    reads_begun (tail_more {c} x y) = by (record { holds = or_l (eqb c c) false (eqb_refl c) })

    -- where one of K stands behind, one of these stands next
    pub reads_next : {K : List ℕ} {p : Part Act R} {w l : List ℕ} → Reads G p w l → Sees K l → Sees (next G.first p K) (w ++ l)
    reads_next x h = next_seen (reads_begun x) h
