-- What Program's answer tells of the descent of a token list.
-- Assumes nothing.
use mathlib.Core.Path.{◌≡◌, ap, ◌∙◌, subst}
use mathlib.Core.List.{List, []}
use Prim.Native.Nat.{ℕ, ◌+◌, ◌*◌, ◌≤◌}
use native.Mathlib.Omega.{arith}
use lib.ListN.{length, take}
use Rattle.grammar.specs.Trial.{St}
use Rattle.grammar.specs.Descent.{Answer, descend}
use Rattle.grammar.proofs.Ends.{Ends, ends_done, ends_no, ends_deep, ends_map, ends_both}
use Rattle.grammar.proofs.Along.{descend_along}
use Rattle.grammar.proofs.Limits.{descend_went}
use Rattle.token.specs.declared.NodeNumber.{NodeNumber}
use Rattle.tokens.specs.Token.{Token}
use Rattle.ast.specs.Words.{nodes_of}
use Rattle.ast.proofs.Nodes.{length_nodes}
use Rattle.pyhyeon.specs.Action.{machine}
use Rattle.pyhyeon.specs.Rules.{Program}
use Rattle.pyhyeon.specs.Tables.{depth, pyhyeon}
use Rattle.pyhyeon.specs.Prices.{prices}
use Rattle.pyhyeon.specs.Missing.{fault_of}
use Rattle.pyhyeon.specs.Reading.{Work, Descended, Accepted, TooDeep, Misfit, start, descended, descent}
use Rattle.pyhyeon.proofs.Meter.{meter}
use Rattle.pyhyeon.proofs.Held.{Fit, Held, keeps}
use Rattle.pyhyeon.proofs.Limits.{frugal}
use Rattle.leaves.specs.declared.State.{State}
use Rattle.std.specs.Prelude.{Err}
use Rattle.leaves.specs.declared.Refused.TheVariants as refused
use Rattle.lookahead.specs.Tokens.{code_at, start_at, eof_at, tokens_of, Tokens}
use Rattle.leaves.specs.Contract.{Parsed, read, a_node, state, asked_for, Told, told_node, told_no, told_deep, Rules}
use Rattle.lookahead.proofs.Tokens.{token_is}
use Rattle.joint.proofs.Promised.{tokens_same}
use Rattle.joint.proofs.Handed.{Handed}

-- the state at which Program is read
abbrev pub begin : State
begin = record { at = record { 0 = 0 }; nodes = 0; opened = 0; used = 0 }

-- the work that a state and a tree stand for, with T tokens
abbrev pub work_at : ℕ → State → List ℕ → Work
work_at T s tr = record { tokens = T; openings = s.opened; nodes = nodes_of tr s.nodes }

-- what the descent comes to, and Program's answer and tree: the place is where the state's token starts
pub data Came (toks : List ℕ) (T : ℕ) : Descended → Parsed → List ℕ → Type 0 where
  came_node : (n : NodeNumber) (s : State) (tr : List ℕ) → 1 ≤ s.nodes → Came toks T (Accepted (work_at T s tr)) (read n s) tr
  came_no : (asked : List ℕ) (s : State) (tr : List ℕ) → s.at.0 ≤ T → Came toks T (Misfit (fault_of (code_at toks s.at.0) asked) (start_at toks s.at.0) (work_at T s tr)) (Err (asked_for asked s)) tr
  came_deep : (s : State) (tr : List ℕ) → s.at.0 ≤ T → Came toks T (TooDeep (start_at toks s.at.0) (work_at T s tr)) (Err (refused.TooDeep s)) tr

module _ {src toks : List ℕ} (w : Tokens src toks) where
  -- where it comes through, the node at hand is there; where it is refused, the token that stands next is there
  Through : ℕ → St (machine src (tokens_of src toks)) → Type 0
  Through n s = Held (length s.kept.nodes) s.kept.values

  Short : ℕ → St (machine src (tokens_of src toks)) → Type 0
  Short n s = s.kept.at ≤ eof_at toks

  comes : (tr : List ℕ) → Ends Through Short (descend pyhyeon depth Program 0 (state src toks begin tr []))
  unfolding Through Short state meter Held nodes_of
  comes tr =
      let s₀ = state src toks begin tr [] in
      ends_map (λ n s h. h.0.held tt) (λ n s h. let e = h.1.sum in omega (arith, e, w.ends))
      (ends_both (descend_along (keeps src (tokens_of src toks)) pyhyeon depth Program 0 s₀) (descend_went pyhyeon prices frugal (meter src (tokens_of src toks)) depth Program 0 s₀))

  told_came : {x : Answer (machine src (tokens_of src toks))} {a : Parsed} {tr : List ℕ} → Told src toks a_node [] x a tr → Ends Through Short x → Came toks (eof_at toks) (descended src (tokens_of src toks) x) a tr
  unfolding Through Short state Held Fit
  told_came (told_node n s tr u) (ends_done h) = rw w.ends (came_node n s tr (omega (arith, h.0, length_nodes tr s.nodes)))
  told_came (told_no asked s tr ws u) (ends_no h) = rw (w.ends, ap (λ (t : Token). t.start) (token_is src toks s.at.0 h), ap (λ (t : Token). t.code) (token_is src toks s.at.0 h)) (came_no asked s tr h)
  told_came (told_deep s tr ws u) (ends_deep h) = rw (w.ends, ap (λ (t : Token). t.start) (token_is src toks s.at.0 h)) (came_deep s tr h)

  came : {tr tr' : List ℕ} {a : Parsed} → Rules src toks depth Program a_node begin tr a tr' → Came toks (eof_at toks) (descent src (tokens_of src toks)) a tr'
  unfolding descent start state nodes_of
  came {tr} r = told_came (r.told []) (comes tr)

-- the same of the words that the scanner handed on
module _ {s : List ℕ} {count used : ℕ} {tokens : List ℕ} (h : Handed s count used tokens) where
  pub descends : {tr tr' : List ℕ} {a : Parsed} → Rules s (take (3 * (count + 1)) tokens) depth Program a_node begin tr a tr' → Came (take (3 * (count + 1)) tokens) count (descent s h.ts) a tr'
  descends {tr' = tr'} {a = a} r =
      let toks = take (3 * (count + 1)) tokens in
      let same : tokens_of s toks ≡ h.ts = ap (tokens_of s) h.front ∙ tokens_same s h.ts h.bs h.is in
      subst (λ (us : List Token). Came toks count (descent s us) a tr') same
      (subst (λ (T : ℕ). Came toks T (descent s (tokens_of s toks)) a tr') h.eof (came h.held r))
