-- A choice, as code meets it: by the token that stands next one way is taken, or none, and then one of all was asked for.
-- Assumes nothing.
use mathlib.Core.Path.{◌≡◌, refl, ap, sym, ◌∙◌}
use mathlib.Core.Bool.{Bool, true, false, ◌||◌}
use mathlib.Core.List.{List, ◌++◌}
use Prim.Native.Nat.{ℕ, ◌≤◌}
use native.Mathlib.Omega.{arith}
use lib.ListN.{drop}
use Rattle.grammar.specs.Sets.{mem, sees}
use Rattle.grammar.specs.Grammar.{Part, ◌⨾◌, ◌∕◌}
use Rattle.grammar.specs.Trial.{St}
use Rattle.grammar.specs.Descent.{Answer, no, null, begins, seq_d, or_d, walk}
use Rattle.pyhyeon.specs.Symbol.{symbols}
use Rattle.pyhyeon.specs.Machine.{Value}
use Rattle.pyhyeon.specs.Action.{Action, machine}
use Rattle.pyhyeon.specs.Rules.{Rule}
use Rattle.pyhyeon.specs.Tables.{first}
use Rattle.std.specs.Prelude.{Err}
use Rattle.leaves.specs.declared.State.{State}
use Rattle.leaves.specs.declared.Refused.{Refused}
use Rattle.leaves.specs.declared.Refused.TheVariants as refused
use Rattle.lookahead.specs.Tokens.{eof_at, text_before, tokens_of, symbol_at}
use Rattle.leaves.specs.Contract.{Parsed, state, stopped, asked_for, Shape, Told, told_node, told_no, told_deep, Comes}
use Rattle.leaves.proofs.Asked.{asked_where, same_asked}
use Rattle.lookahead.proofs.Tokens.{sees_at}
use Rattle.lookahead.proofs.Tests.{or_true, among_second}
use Rattle.joint.proofs.Chain.{frame_asked, ◌⨟◌, on, regroup}

module _ (src toks : List ℕ) where
  -- the last way of a choice is taken: it may be absent, or its token stands next
  pub data Goes (s : State) : Part Action Rule → Type 0 where
    absent : {p : Part Action Rule} → null p ≡ true → Goes s p
    starts : {p : Part Action Rule} → mem (symbol_at src toks s.at.0) (begins first p) ≡ true → Goes s p

  goes_on : {s : State} {p : Part Action Rule} → s.at.0 ≤ eof_at toks → Goes s p → (null p || sees (begins first p) (drop s.at.0 (symbols src (tokens_of src toks)))) ≡ true
  goes_on h (absent n) = rw n refl
  goes_on {s} {p} h (starts e) = rw (sees_at src toks (begins first p) s.at.0 h ∙ e) (or_true (null p))

module _ {src toks : List ℕ} where
  -- and so is a choice that has it for its last way
  pub later : {s : State} {p p' : Part Action Rule} → Goes src toks s p' → Goes src toks s (p ∕ p')
  unfolding null begins
  later {p = p} {p'} (absent n) = absent {p = p ∕ p'} (rw n (or_true (null p)))
  later {s} {p} {p'} (starts e) = starts {p = p ∕ p'} (among_second (begins first p) (begins first p') (symbol_at src toks s.at.0) e)

module _ {src toks : List ℕ} {room : ℕ} {out : Shape} {vs : List Value} {a : Parsed} {t : List ℕ} where
  -- an alternative, by its first token; what follows the choice follows each of them
  pub alt_first : {p p' q : Part Action Rule} {s : State} {tr : List ℕ} {ws : List Value} → s.at.0 ≤ eof_at toks → mem (symbol_at src toks s.at.0) (begins first p) ≡ true →
      Comes src toks room (p ⨟ q) out vs ws s tr a t → Comes src toks room ((p ∕ p') ⨾ q) out vs ws s tr a t
  unfolding walk seq_d or_d state
  alt_first {p} {q = q} {s = s} {tr = tr} {ws = ws} h e c =
      let b = sees_at src toks (begins first p) s.at.0 h ∙ e in
      record { told = rw b (rw (regroup src toks room p q s.opened (state src toks s tr ws)) at c.told); frame = c.frame }

  pub alt_next : {p p' q : Part Action Rule} {s : State} {tr : List ℕ} {ws : List Value} → s.at.0 ≤ eof_at toks → mem (symbol_at src toks s.at.0) (begins first p) ≡ false → Goes src toks s p' →
      Comes src toks room (p' ⨟ q) out vs ws s tr a t → Comes src toks room ((p ∕ p') ⨾ q) out vs ws s tr a t
  unfolding walk seq_d or_d state
  alt_next {p} {p'} {q = q} {s = s} {tr = tr} {ws = ws} h e g c =
      let b = sees_at src toks (begins first p) s.at.0 h ∙ e in
      record { told = rw (b, goes_on src toks h g) (rw (regroup src toks room p' q s.opened (state src toks s tr ws)) at c.told); frame = c.frame }

  -- the same at the end of a rule
  pub or_first : {p p' : Part Action Rule} {s : State} {tr : List ℕ} {ws : List Value} → s.at.0 ≤ eof_at toks → mem (symbol_at src toks s.at.0) (begins first p) ≡ true →
      Comes src toks room p out vs ws s tr a t → Comes src toks room (p ∕ p') out vs ws s tr a t
  unfolding walk or_d state
  or_first {p} {s = s} h e c = let b = sees_at src toks (begins first p) s.at.0 h ∙ e in record { told = rw b c.told; frame = c.frame }

  pub or_next : {p p' : Part Action Rule} {s : State} {tr : List ℕ} {ws : List Value} → s.at.0 ≤ eof_at toks → mem (symbol_at src toks s.at.0) (begins first p) ≡ false → Goes src toks s p' →
      Comes src toks room p' out vs ws s tr a t → Comes src toks room (p ∕ p') out vs ws s tr a t
  unfolding walk or_d state
  or_next {p} {p'} {s = s} h e g c = let b = sees_at src toks (begins first p) s.at.0 h ∙ e in record { told = rw (b, goes_on src toks h g) c.told; frame = c.frame }

-- A refusal by code of its own stands for one of the same number, whatever was asked for and is at hand there.
module _ (src toks : List ℕ) (asked set : List ℕ) (n : ℕ) (st : St (machine src (tokens_of src toks))) (ws : List Value) where
  abbrev at_hand : St (machine src (tokens_of src toks))
  at_hand = record { rest = st.rest; kept = record { at = st.kept.at; nodes = st.kept.nodes; values = ws } }

  asks_other : {out : Shape} {vs : List Value} {x : Answer (machine src (tokens_of src toks))} {a : Parsed} {t : List ℕ} → ((s : State) → asked_for asked s ≡ asked_for set s) → x ≡ no asked n st → Told src toks out vs x a t → Told src toks out vs (no set n at_hand) a t
  unfolding state
  asks_other k e (told_node m s tr u) = absurd (let z : ◌≡◌ {A = ℕ} 0 1 = cc in omega arith)
  asks_other k e (told_no asked₁ s tr ws₁ u) =
      let a : asked₁ ≡ asked = cc in
      let o : s.opened ≡ n = cc in
      let i : state src toks s tr ws₁ ≡ st = cc in
      rw (ap (λ (z : List ℕ). asked_for z s) a ∙ k s, ← o, ← i) (told_no set s tr ws u)
  asks_other k e (told_deep s tr ws₁ u) = absurd (let z : ◌≡◌ {A = ℕ} 0 1 = cc in omega arith)

-- what was asked for, by an answer of 14
is_no : {src toks : List ℕ} {out : Shape} {vs : List Value} {x : Answer (machine src (tokens_of src toks))} {r : Parsed} {tr : List ℕ} {s : State} → Told src toks out vs x r tr → r ≡ Err (refused.Misfit s) →
    (asked : List ℕ) × (ws : List Value) × (asked_for asked s ≡ refused.Misfit s) × (x ≡ no asked s.opened (state src toks s tr ws))
is_no (told_node n s tr u) e = absurd (let z : ◌≡◌ {A = ℕ} 0 1 = cc in omega arith)
is_no {s = s} (told_no asked s₁ tr ws u) e =
    let d : asked_for asked s₁ ≡ refused.Misfit s = cc in
    let i : s₁ ≡ s = sym (asked_where asked s₁) ∙ ap stopped d in
    (asked, ws, rw i at d, rw i)
is_no (told_deep s tr ws u) e = absurd (let z : ◌≡◌ {A = ℕ} 0 1 = cc in omega arith)

-- neither way of a choice starts
neither : (src toks : List ℕ) (room : ℕ) (p p' : Part Action Rule) (s : State) (tr : List ℕ) (ws : List Value) → s.at.0 ≤ eof_at toks → mem (symbol_at src toks s.at.0) (begins first p) ≡ false → null p' ≡ false → mem (symbol_at src toks s.at.0) (begins first p') ≡ false →
    on src toks room (p ∕ p') s.opened (state src toks s tr ws) ≡ no (begins first p ++ begins first p') s.opened (state src toks s tr ws)
unfolding walk or_d state
neither src toks room p p' s tr ws h e n f = rw (sees_at src toks (begins first p) s.at.0 h ∙ e, n, sees_at src toks (begins first p') s.at.0 h ∙ f)

module _ {src toks : List ℕ} {room : ℕ} {out : Shape} {vs : List Value} {p p' : Part Action Rule} {s : State} {tr : List ℕ} {ws : List Value} where
  pub or_neither : {x : Refused} → s.at.0 ≤ eof_at toks → s.used ≡ text_before src toks s.at.0 → mem (symbol_at src toks s.at.0) (begins first p) ≡ false → null p' ≡ false → mem (symbol_at src toks s.at.0) (begins first p') ≡ false →
      asked_for (begins first p ++ begins first p') s ≡ x → Comes src toks room (p ∕ p') out vs ws s tr (Err x) tr
  or_neither h u e n f a = record { told = rw (neither src toks room p p' s tr ws h e n f, ← a) (told_no (begins first p ++ begins first p') s tr ws u); frame = frame_asked (begins first p ++ begins first p') s a }

  -- the same where code of its own reads the last way, which refuses here
  or_stop : {a : Parsed} {t : List ℕ} → s.at.0 ≤ eof_at toks → mem (symbol_at src toks s.at.0) (begins first p) ≡ false → null p' ≡ false → mem (symbol_at src toks s.at.0) (begins first p') ≡ false →
      asked_for (begins first p ++ begins first p') s ≡ refused.Misfit s → Comes src toks room p' out vs ws s tr (Err (refused.Misfit s)) tr → Comes src toks room p' out vs ws s tr a t → Comes src toks room (p ∕ p') out vs ws s tr a t
  unfolding state
  or_stop h e n f k c c' =
      let (asked, us, i, x) = is_no c.told refl in
      record { told = rw (neither src toks room p p' s tr ws h e n f) (asks_other src toks asked (begins first p ++ begins first p') s.opened (state src toks s tr us) ws (λ z. same_asked asked (begins first p ++ begins first p') s z (i ∙ sym k)) x c'.told); frame = c'.frame }

  -- so code of its own reads the last way, whatever stands next
  pub or_last : {a : Parsed} {t : List ℕ} → s.at.0 ≤ eof_at toks → mem (symbol_at src toks s.at.0) (begins first p) ≡ false → null p' ≡ false → asked_for (begins first p ++ begins first p') s ≡ refused.Misfit s →
      (mem (symbol_at src toks s.at.0) (begins first p') ≡ false → Comes src toks room p' out vs ws s tr (Err (refused.Misfit s)) tr) → Comes src toks room p' out vs ws s tr a t → Comes src toks room (p ∕ p') out vs ws s tr a t
  or_last {a} {t} h e n k c c' = test (mem (symbol_at src toks s.at.0) (begins first p')) refl
    where
      test : (b : Bool) → mem (symbol_at src toks s.at.0) (begins first p') ≡ b → Comes src toks room (p ∕ p') out vs ws s tr a t
      test true f = or_next h e (starts f) c'
      test false f = or_stop h e n f k (c f) c'
