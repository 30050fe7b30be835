-- Lists that grow on the right, read by what is repeated: a list leads to where the rest of its loop leads.
-- Assumes nothing.
use mathlib.Core.List.{List, ◌∷◌}
use Prim.Native.Nat.{ℕ, ◌≤◌, max}
use native.Mathlib.Omega.{arith}
use Rattle.grammar.specs.Grammar.{Part, act, tok, call, ◌⨾◌, ◌∕◌, many, tail}
use Rattle.grammar.specs.Trial.{Machine}
use Rattle.grammar.proofs.Ways.{Way, w_act, w_seq, w_left, w_right, w_none, w_more, w_end, w_item}
use Rattle.token.specs.Code.{Comma}
use Rattle.ast.specs.Kind as kind
use Rattle.pyhyeon.specs.Action.{Action, list_one, list_join, list_done, list_none, named, define}
use Rattle.pyhyeon.specs.Rules.{Rule, names, entry, newlines, definition, elifs}
use Rattle.pyhyeon.specs.Rules as rule
use Rattle.pyhyeon.specs.Tables.{pyhyeon}
use Rattle.unparse.specs.Trees.{Item, Expr, Name, Pair, Stmt, Elif, Def}
use Rattle.unparse.proofs.Write.{Steps, run, ◌›◌, symbols, perform, ending, parted}
use Rattle.unparse.proofs.Levels.{Fits}

-- a member's part; the loop of a list after its first member; a list of one or more, with Q behind it; a list
abbrev pub member : Item → Part Action Rule
member Expr = call rule.E
member Name = tok names ⨾ act (named kind.Name)
member Pair = entry
member Stmt = call rule.Line ⨾ newlines
member Elif = elifs
member Def = definition kind.Method

abbrev pub looped : Item → Part Action Rule
looped Expr = tail Comma (rule.more (member Expr))
looped Name = tail Comma (rule.more (member Name))
looped Pair = tail Comma (rule.more (member Pair))
looped Stmt = many (call rule.Line ⨾ newlines ⨾ act list_join)
looped Elif = many (elifs ⨾ act list_join)
looped Def = many (rule.more (member Def))

abbrev pub lined : Item → Part Action Rule → Part Action Rule
lined Expr q = member Expr ⨾ act list_one ⨾ looped Expr ⨾ q
lined Name q = member Name ⨾ act list_one ⨾ looped Name ⨾ q
lined Pair q = member Pair ⨾ act list_one ⨾ looped Pair ⨾ q
lined Stmt q = call rule.Line ⨾ newlines ⨾ looped Stmt ⨾ q
lined Elif q = elifs ⨾ looped Elif ⨾ q
lined Def q = member Def ⨾ act list_one ⨾ looped Def ⨾ q

abbrev pub listed : Item → Part Action Rule
listed i = lined i (act list_done) ∕ act list_none

-- the steps lead on, to where the loop and what is behind it lead
pub record Grows (M : Machine Action) (d : ℕ) (i : Item) (e : Steps) : Type 0 where
  pub at : (m : ℕ) → d ≤ m → (q : Part Action Rule) (l : List ℕ) (k : M.Kept) {l' : List ℕ} {k' : M.Kept} →
      Way pyhyeon M m (looped i ⨾ q) l (perform M e k) l' k' → Way pyhyeon M m (lined i q) (symbols e l) k l' k'

-- what a member's steps are read by
abbrev pub Member : (M : Machine Action) (d : ℕ) (i : Item) (e : Steps) → Type 0
Member M d Expr e = Fits M d (call rule.E) e
Member M d Name e = Fits M d (tok names) e
Member M d Pair e = Fits M d entry e
Member M d Stmt e = Fits M d (call rule.Line) e
Member M d Elif e = Fits M d elifs e
Member M d Def e = (c : ℕ) → Fits M d (definition c) (e › run (define c))

module _ {M : Machine Action} where
  stop : {m : ℕ} {l : List ℕ} {k : M.Kept} (i : Item) → Way pyhyeon M m (looped i) l k l k
  stop Expr = w_end
  stop Name = w_end
  stop Pair = w_end
  stop Stmt = w_none
  stop Elif = w_none
  stop Def = w_none

  item_first : {m c : ℕ} {p q : Part Action Rule} {l l₁ l₂ : List ℕ} {k k₁ k₂ : M.Kept} → Way pyhyeon M m p l (M.shift c k) l₁ k₁ → Way pyhyeon M m (tail c p ⨾ q) l₁ k₁ l₂ k₂ →
      Way pyhyeon M m (tail c p ⨾ q) (c ∷ l) k l₂ k₂
  item_first v (w_seq w u) = w_seq (w_item v w) u

  pub more_first : {m : ℕ} {p q : Part Action Rule} {l l₁ l₂ : List ℕ} {k k₁ k₂ : M.Kept} → Way pyhyeon M m p l k l₁ k₁ → Way pyhyeon M m (many p ⨾ q) l₁ k₁ l₂ k₂ → Way pyhyeon M m (many p ⨾ q) l k l₂ k₂
  more_first v (w_seq w u) = w_seq (w_more v w) u

  pub first : (d : ℕ) (e : Steps) (i : Item) → Member M d i e → Grows M d i (ending i e)
  first d e Expr f = record { at = λ m le q l k w. w_seq (f.at m le _ _) (w_seq w_act w) }
  first d e Name f = record { at = λ m le q l k w. w_seq (w_seq (f.at m le _ _) w_act) (w_seq w_act w) }
  first d e Pair f = record { at = λ m le q l k w. w_seq (f.at m le _ _) (w_seq w_act w) }
  first d e Stmt f = record { at = λ m le q l k w. w_seq (f.at m le _ _) (w_seq w_none w) }
  first d e Elif f = record { at = λ m le q l k w. w_seq (f.at m le _ _) w }
  first d e Def f = record { at = λ m le q l k w. w_seq ((f kind.Method).at m le _ _) (w_seq w_act w) }

  pub next : {d : ℕ} {e : Steps} (d' : ℕ) (e' : Steps) (i : Item) → Grows M d i e → Member M d' i e' → Grows M (max d d') i (e › parted i (ending i e' › run list_join))
  next d' e' Expr g f = record { at = λ m le q l k w. g.at m (omega arith) q _ k (item_first (w_seq (f.at m (omega arith) _ _) (w_seq w_act w_act)) w) }
  next d' e' Name g f = record { at = λ m le q l k w. g.at m (omega arith) q _ k (item_first (w_seq (w_seq (f.at m (omega arith) _ _) w_act) (w_seq w_act w_act)) w) }
  next d' e' Pair g f = record { at = λ m le q l k w. g.at m (omega arith) q _ k (item_first (w_seq (f.at m (omega arith) _ _) (w_seq w_act w_act)) w) }
  next d' e' Stmt g f = record { at = λ m le q l k w. g.at m (omega arith) q _ k (more_first (w_seq (f.at m (omega arith) _ _) (w_seq w_none w_act)) w) }
  next d' e' Elif g f = record { at = λ m le q l k w. g.at m (omega arith) q _ k (more_first (w_seq (f.at m (omega arith) _ _) w_act) w) }
  next d' e' Def g f = record { at = λ m le q l k w. g.at m (omega arith) q _ k (more_first (w_seq ((f kind.Method).at m (omega arith) _ _) (w_seq w_act w_act)) w) }

  pub whole : {d : ℕ} {e : Steps} (i : Item) → Grows M d i e → Fits M d (listed i) (e › run list_done)
  whole i g = record { at = λ m le l k. w_left (g.at m le (act list_done) l k (w_seq (stop i) w_act)) }

  pub nothing : (i : Item) → Fits M 0 (listed i) (run list_none)
  nothing i = record { at = λ m le l k. w_right w_act }
