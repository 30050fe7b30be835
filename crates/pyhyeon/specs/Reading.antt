-- What the descent and the ordered trial of a script come to.
-- Assumes nothing.
use Rattle.std.specs.Prelude.{ℕ, ◌+◌, ◌*◌, ◌≤◌, List, length}
use Rattle.grammar.specs.Trial.{St, Out, ok, fail, out, parse}
use Rattle.grammar.specs.Descent.{Answer, done, no, deep, stuck, descend}
use Rattle.grammar.specs.Limits.{before}
use Rattle.token.specs.Code.{Eof}
use Rattle.tokens.specs.Token.{Token}
use Rattle.ast.specs.Node.{Node}
use Rattle.pyhyeon.specs.Symbol.{symbols}
use Rattle.pyhyeon.specs.Machine.{Kept, blank}
use Rattle.pyhyeon.specs.Action.{token_at_lem, machine}
use Rattle.pyhyeon.specs.Rules.{Program, plain}
use Rattle.pyhyeon.specs.Tables.{depth, pyhyeon}
use Rattle.pyhyeon.specs.Missing.{Fault, wrong, fault_number, fault_of}

-- "T is the number of tokens without Eof"; the openings, and the nodes that are written.
pub record Work : Type 0 where
  pub tokens : ℕ
  pub openings : ℕ
  pub nodes : List Node

-- The descent accepts; or refuses with 13, at the start of the token that would open one E or Block too many; or with 14, 15 or 16, at the start of the
-- token that does not fit. "Program hands back its openings and its nodes written, in a refusal as well."
pub data Descended : Type 0 where
  Accepted : Work → Descended
  TooDeep : ℕ → Work → Descended
  Misfit : Fault → ℕ → Work → Descended

-- "an answer holds number, place, T, N, text bytes, openings": number and place, and the work done
abbrev pub number_of : Descended → ℕ
number_of (Accepted w) = 0
number_of (TooDeep place w) = 13
number_of (Misfit f place w) = fault_number f

abbrev pub place_of : Descended → ℕ
place_of (Accepted w) = 0
place_of (TooDeep place w) = place
place_of (Misfit f place w) = place

abbrev pub work_of : Descended → Work
work_of (Accepted w) = w
work_of (TooDeep place w) = w
work_of (Misfit f place w) = w

-- "It accepts exactly when Program fits": with these nodes.
pub data Tried : Type 0 where
  Fits : List Node → Tried
  Fails : Tried

module _ (source : List ℕ) (toks : List Token) where
  -- "fed the source and its tokens with Eof": no token is taken, no node kept
  unfoldable pub start : St (machine source toks)
  start = record { rest = symbols source toks; kept = blank }

  abbrev pub work : ℕ → Kept → Work
  work n k = record { tokens = before Eof (symbols source toks); openings = n; nodes = k.nodes }

  -- where the token that stands next starts, and its code
  abbrev pub here : Kept → ℕ
  here k = (token_at_lem source toks k.at).start

  abbrev pub code : Kept → ℕ
  code k = (token_at_lem source toks k.at).code

  -- `stuck` never comes (proofs/Agreement.antt, `descent_answers`)
  abbrev pub descended : Answer (machine source toks) → Descended
  descended (done n s) = Accepted (work n s.kept)
  descended (no asked n s) = Misfit (fault_of (code s.kept) asked) (here s.kept) (work n s.kept)
  descended (deep n s) = TooDeep (here s.kept) (work n s.kept)
  descended stuck = Misfit wrong 0 (work 0 blank)

  unfoldable pub descent : Descended
  descent = descended (descend pyhyeon depth Program 0 start)

  -- `out` never comes (proofs/Agreement.antt, `trial_answers`)
  abbrev pub tried : Out (machine source toks) → Tried
  tried (ok s) = Fits s.kept.nodes
  tried fail = Fails
  tried out = Fails

  unfoldable pub trial : Tried
  trial = tried (parse plain Program start)

-- 13 set aside, both accept, with the same nodes, or both refuse.
pub data Agree : Tried → Descended → Type 0 where
  both_accept : (w : Work) → Agree (Fits w.nodes) (Accepted w)
  both_refuse : (f : Fault) (place : ℕ) (w : Work) → Agree Fails (Misfit f place w)
  set_aside : (t : Tried) (place : ℕ) (w : Work) → Agree t (TooDeep place w)

-- openings at most 10 T + 1, and nodes at most 2 T + 1
pub record Limited (w : Work) : Type 0 where
  pub openings : w.openings ≤ 10 * w.tokens + 1
  pub nodes : length w.nodes ≤ 2 * w.tokens + 1
