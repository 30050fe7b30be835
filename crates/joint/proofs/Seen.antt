-- Tokens that end a part, and tokens that are seen and stay.
-- Assumes nothing.
use mathlib.Core.Path.{◌≡◌, refl, ◌∙◌}
use mathlib.Core.Bool.{true, false}
use mathlib.Core.List.{List, ◌∷◌}
use Prim.Native.Nat.{ℕ, ◌+◌, ◌≤◌}
use Rattle.grammar.specs.Sets.{mem}
use Rattle.grammar.specs.Grammar.{Part, skip, tok, see, ◌⨾◌}
use Rattle.grammar.specs.Trial.{ok_if, see_p, skip_p}
use Rattle.grammar.specs.Descent.{Answer, done, no, deep, stuck, then_d, same_d, seq_d, walk, descend}
use Rattle.token.specs.declared.NodeNumber.{NodeNumber}
use Rattle.pyhyeon.specs.Machine.{Value}
use Rattle.pyhyeon.specs.Action.{Action, machine}
use Rattle.pyhyeon.specs.Rules.{Rule}
use Rattle.pyhyeon.specs.Tables.{first, pyhyeon}
use Rattle.std.specs.Prelude.{Err}
use Rattle.leaves.specs.declared.State.{State}
use Rattle.leaves.specs.declared.Refused.{Refused}
use Rattle.lookahead.specs.Tokens.{eof_at, text_before, tokens_of, symbol_at}
use Rattle.leaves.specs.Contract.{Parsed, read, past, state, asked_for, Shape, told_no, Comes}
use Rattle.lookahead.proofs.Tokens.{sees_at}
use Rattle.joint.proofs.Chain.{frame_asked, tok_then, tok_not, skip_end}

then_skip : (src toks : List ℕ) (room : ℕ) (x : Answer (machine src (tokens_of src toks))) → then_d x (walk first (descend pyhyeon room) skip) ≡ x
unfolding then_d walk same_d skip_p
then_skip src toks room (done n s) = refl
then_skip src toks room (no asked n s) = refl
then_skip src toks room (deep n s) = refl
then_skip src toks room stuck = refl

module _ {src toks : List ℕ} {room : ℕ} {out : Shape} {vs : List Value} {a : Parsed} {t : List ℕ} where
  -- a part with nothing after it
  pub unskip : {p : Part Action Rule} {s : State} {tr : List ℕ} {ws : List Value} → Comes src toks room (p ⨾ skip) out vs ws s tr a t → Comes src toks room p out vs ws s tr a t
  unfolding walk seq_d
  unskip {p} {s} {tr} {ws} c = record { told = rw (then_skip src toks room (walk first (descend pyhyeon room) p s.opened (state src toks s tr ws))) at c.told; frame = c.frame }

  pub see_then : {set : List ℕ} {q : Part Action Rule} {s : State} {tr : List ℕ} {ws : List Value} → s.at.0 ≤ eof_at toks → mem (symbol_at src toks s.at.0) set ≡ true →
      Comes src toks room q out vs ws s tr a t → Comes src toks room (see set ⨾ q) out vs ws s tr a t
  unfolding walk seq_d then_d same_d see_p ok_if state
  see_then {set} {s = s} h e c = let b = sees_at src toks set s.at.0 h ∙ e in record { told = rw b c.told; frame = c.frame }

module _ {src toks : List ℕ} {room : ℕ} {out : Shape} {vs : List Value} where
  pub see_not : {set : List ℕ} {x : Refused} {q : Part Action Rule} {s : State} {tr : List ℕ} {ws : List Value} → s.at.0 ≤ eof_at toks → s.used ≡ text_before src toks s.at.0 → mem (symbol_at src toks s.at.0) set ≡ false → asked_for set s ≡ x →
      Comes src toks room (see set ⨾ q) out vs ws s tr (Err x) tr
  unfolding walk seq_d then_d same_d see_p ok_if state
  see_not {set} {s = s} {tr = tr} {ws = ws} h u e a = let b = sees_at src toks set s.at.0 h ∙ e in record { told = rw (b, ← a) (told_no set s tr ws u); frame = frame_asked set s a }

  -- the same at the end of a part
  pub see_end : {set : List ℕ} {s : State} {tr : List ℕ} {n : NodeNumber} → s.at.0 ≤ eof_at toks → mem (symbol_at src toks s.at.0) set ≡ true → s.used ≡ text_before src toks s.at.0 →
      Comes src toks room (see set) out vs (out n.0 s.nodes ∷ vs) s tr (read n s) tr
  see_end h e u = unskip (see_then h e (skip_end u))

  pub see_no : {set : List ℕ} {x : Refused} {s : State} {tr : List ℕ} {ws : List Value} → s.at.0 ≤ eof_at toks → s.used ≡ text_before src toks s.at.0 → mem (symbol_at src toks s.at.0) set ≡ false → asked_for set s ≡ x → Comes src toks room (see set) out vs ws s tr (Err x) tr
  see_no h u e a = unskip (see_not h u e a)

  pub tok_end : {set : List ℕ} {s : State} {tr : List ℕ} {n : NodeNumber} → s.at.0 ≤ eof_at toks → mem (symbol_at src toks s.at.0) set ≡ true → s.used ≡ text_before src toks (s.at.0 + 1) →
      Comes src toks room (tok set) out vs (out n.0 s.nodes ∷ vs) s tr (read n (past s)) tr
  tok_end h e u = unskip (tok_then h e (skip_end u))

  pub tok_no : {set : List ℕ} {x : Refused} {s : State} {tr : List ℕ} {ws : List Value} → s.at.0 ≤ eof_at toks → s.used ≡ text_before src toks s.at.0 → mem (symbol_at src toks s.at.0) set ≡ false → asked_for set s ≡ x → Comes src toks room (tok set) out vs ws s tr (Err x) tr
  tok_no h u e a = unskip (tok_not h u e a)
