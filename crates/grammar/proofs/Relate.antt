-- Two machines over one grammar: a relation between what they keep that every token and every action preserves goes through every way, within the same room.
-- (Alike.antt has the same of the trial, which knows of no room.)
-- Assumes nothing.
use mathlib.Core.List.{List}
use Prim.Native.Nat.{ℕ}
use Rattle.grammar.specs.Grammar.{Part}
use Rattle.grammar.specs.Descent.{Plan}
use Rattle.grammar.proofs.Alike.{Pair}
use Rattle.grammar.proofs.Ways.{Way, w_skip, w_act, w_tok, w_see, w_call, w_open, w_seq, w_left, w_right, w_none, w_more, w_end, w_trail, w_item}

-- the other machine has a way too, and what it comes to is related
pub record Carried {Act R : Type 0} (G : Plan Act R) (P : Pair Act) (m : ℕ) (p : Part Act R) (l : List ℕ) (j : P.right.Kept) (l' : List ℕ) (k' : P.left.Kept) : Type 0 where
  pub kept : P.right.Kept
  pub way : Way G P.right m p l j l' kept
  pub same : P.Rel k' kept

pub carried : {Act R : Type 0} {G : Plan Act R} (P : Pair Act) {m : ℕ} {p : Part Act R} {l l' : List ℕ} {k k' : P.left.Kept} →
    Way G P.left m p l k l' k' → (j : P.right.Kept) → P.Rel k j → Carried G P m p l j l' k'
carried P w_skip j h = record { kept = j; way = w_skip; same = h }
carried P (w_act {k} {a}) j h = record { kept = P.right.run a j; way = w_act; same = P.runs a k j h }
carried P (w_tok {t} {k} i) j h = record { kept = P.right.shift t j; way = w_tok i; same = P.shifts t k j h }
carried P (w_see i) j h = record { kept = j; way = w_see i; same = h }
carried P (w_call t w) j h = let x = carried P w j h in record { kept = x.kept; way = w_call t x.way; same = x.same }
carried P (w_open t w) j h = let x = carried P w j h in record { kept = x.kept; way = w_open t x.way; same = x.same }
carried P (w_seq v w) j h = let x = carried P v j h in let y = carried P w x.kept x.same in record { kept = y.kept; way = w_seq x.way y.way; same = y.same }
carried P (w_left w) j h = let x = carried P w j h in record { kept = x.kept; way = w_left x.way; same = x.same }
carried P (w_right w) j h = let x = carried P w j h in record { kept = x.kept; way = w_right x.way; same = x.same }
carried P w_none j h = record { kept = j; way = w_none; same = h }
carried P (w_more v w) j h = let x = carried P v j h in let y = carried P w x.kept x.same in record { kept = y.kept; way = w_more x.way y.way; same = y.same }
carried P w_end j h = record { kept = j; way = w_end; same = h }
carried P (w_trail {c} {k}) j h = record { kept = P.right.shift c j; way = w_trail; same = P.shifts c k j h }
carried P (w_item {c} {k} v w) j h =
    let x = carried P v (P.right.shift c j) (P.shifts c k j h) in let y = carried P w x.kept x.same in record { kept = y.kept; way = w_item x.way y.way; same = y.same }
