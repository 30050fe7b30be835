-- What holds of all that a part can leave, as a function of the part: its tokens, its rules and its repetitions are all that has to be considered.
-- Assumes nothing.
use Prim.Native.Nat.{ℕ}
use lib.Dec.{T}
use Rattle.grammar.specs.Sets.{mem}
use Rattle.grammar.specs.Grammar.{Part, skip, act, tok, see, call, ◌⨾◌, ◌∕◌, many, tail}
use Rattle.grammar.proofs.Back.{One, o_skip, o_act, o_tok, o_see, o_call, o_seq, o_left, o_right, o_none, o_more, o_end, o_trail, o_item}
use Rattle.pyhyeon.specs.Action.{Action}
use Rattle.pyhyeon.specs.Rules.{Rule}
use Rattle.unparse.proofs.Machine.{Kept, build, trees}
use Rattle.unparse.proofs.Room.{Left}

-- Q holds of all that the part can leave, from k.
abbrev pub Leaves : ℕ → Part Action Rule → Kept → (Kept → Type 0) → Type 0
Leaves m skip k Q = Q k
Leaves m (act a) k Q = Q (build a k)
Leaves m (tok set) k Q = (t : ℕ) → T (mem t set) → Q (trees.shift t k)
Leaves m (see set) k Q = Q k
Leaves m (call r) k Q = (k' : Kept) → Left m r k k' → Q k'
Leaves m (p ⨾ q) k Q = Leaves m p k (λ k₁. Leaves m q k₁ Q)
Leaves m (p ∕ q) k Q = Leaves m p k Q × Leaves m q k Q
Leaves m (many p) k Q = (k' : Kept) → One trees (Left m) (many p) k k' → Q k'
Leaves m (tail c p) k Q = (k' : Kept) → One trees (Left m) (tail c p) k k' → Q k'

pub follow : {m : ℕ} {p : Part Action Rule} {k k' : Kept} (Q : Kept → Type 0) → One trees (Left m) p k k' → Leaves m p k Q → Q k'
follow Q o_skip h = h
follow Q o_act h = h
follow Q (o_tok i) h = h _ i
follow Q o_see h = h
follow Q (o_call w) h = h _ w
follow {m} Q (o_seq {q = q} v w) h = follow Q w (follow (λ k₁. Leaves m q k₁ Q) v h)
follow Q (o_left w) h = follow Q w h.0
follow Q (o_right w) h = follow Q w h.1
follow Q o_none h = h _ o_none
follow Q (o_more v w) h = h _ (o_more v w)
follow Q o_end h = h _ o_end
follow Q o_trail h = h _ o_trail
follow Q (o_item v w) h = h _ (o_item v w)

pub each : (m : ℕ) (p : Part Action Rule) (k : Kept) (Q : Kept → Type 0) → ((k' : Kept) → One trees (Left m) p k k' → Q k') → Leaves m p k Q
each m skip k Q f = f _ o_skip
each m (act a) k Q f = f _ o_act
each m (tok set) k Q f = λ t i. f _ (o_tok i)
each m (see set) k Q f = f _ o_see
each m (call r) k Q f = λ k' w. f k' (o_call w)
each m (p ⨾ q) k Q f = each m p k (λ k₁. Leaves m q k₁ Q) (λ k₁ v. each m q k₁ Q (λ k₂ w. f k₂ (o_seq v w)))
each m (p ∕ q) k Q f = (each m p k Q (λ k' w. f k' (o_left w)), each m q k Q (λ k' w. f k' (o_right w)))
each m (many p) k Q f = f
each m (tail c p) k Q f = f

-- A part that is taken as a whole, and what stands behind it.
pub wholly : (m : ℕ) (p q : Part Action Rule) (k : Kept) (Q : Kept → Type 0) → ((k₁ : Kept) → One trees (Left m) p k k₁ → Leaves m q k₁ Q) → Leaves m (p ⨾ q) k Q
wholly m p q k Q f = each m p k (λ k₁. Leaves m q k₁ Q) f
