-- What the contracts of the tree reader say: how its state and tree stand for a state of the machine, and what an answer tells of the descent.
-- Assumes nothing.
use Rattle.std.specs.Prelude.{ℕ, ◌+◌, ◌-◌, ◌*◌, ◌^◌, ◌≤◌, ◌<◌, ◌≡◌, true, cond, Result, Ok, Err, List, ◌∷◌, ◌++◌, length, get_or, drop}
use Rattle.grammar.specs.Sets.{mem}
use Rattle.grammar.specs.Grammar.{Part, ◌⨾◌}
use Rattle.grammar.specs.Trial.{St}
use Rattle.grammar.specs.Descent.{Answer, done, no, deep, walk, descend}
use Rattle.token.specs.Code as token
use Rattle.token.specs.declared.NodeNumber.{NodeNumber}
use Rattle.ast.specs.Operator.{binary_op_lem}
use Rattle.ast.specs.Words.{nodes_of}
use Rattle.pyhyeon.specs.Symbol.{symbols}
use Rattle.pyhyeon.specs.Machine.{Value, node, growing, list, Kept, write}
use Rattle.pyhyeon.specs.Action.{Action, literal, unary_node, wrap, binary_of, perform, machine}
use Rattle.pyhyeon.specs.Rules.{Rule}
use Rattle.pyhyeon.specs.Tables.{first, pyhyeon}
use Rattle.pyhyeon.specs.Missing.{fault_number, asks_operand, asked_fault}
use Rattle.lookahead.specs.Tokens.{eof_at, text_before, tokens_of, symbol_at, Tokens}
use Rattle.leaves.specs.declared.State.{State}
use Rattle.leaves.specs.declared.Added.{Added}
use Rattle.leaves.specs.declared.Refused.{Refused}
use Rattle.leaves.specs.declared.Refused.TheVariants as refused
use Rattle.source.specs.Reasons.{reason_of}
use Rattle.source.specs.declared.refusal.Reason.{Reason}
use Rattle.source.specs.declared.refusal.Reason.TheVariants as reason

-- the answer of a rule or a part: a node, and the state after it; or a refusal, and the state at its token
abbrev pub Parsed : Type 0
Parsed = Result Added Refused

abbrev pub read : NodeNumber → State → Parsed
read n s = Ok (record { 0 = n; 1 = s })

-- why the rule or part is refused, and the state at the refusal's token
abbrev pub why : Refused → Reason
why (refused.TooDeep s) = reason.TooDeep
why (refused.Misfit s) = reason.Misfit
why (refused.Missing s) = reason.Missing

abbrev pub stopped : Refused → State
stopped (refused.TooDeep s) = s
stopped (refused.Misfit s) = s
stopped (refused.Missing s) = s

-- one token further; one node more
abbrev pub past : State → State
past s = record { at = record { 0 = s.at.0 + 1 }; nodes = s.nodes; opened = s.opened; used = s.used }

abbrev pub added : State → State
added s = record { at = s.at; nodes = s.nodes + 1; opened = s.opened; used = s.used }

-- what the machine keeps, where the code is at s with this tree, and these values are at hand
abbrev pub kept : State → List ℕ → List Value → Kept
kept s tr vs = record { at = s.at.0; nodes = nodes_of tr s.nodes; values = vs }

unfoldable pub state : (src toks : List ℕ) → State → List ℕ → List Value → St (machine src (tokens_of src toks))
state src toks s tr vs = record { rest = drop s.at.0 (symbols src (tokens_of src toks)); kept = kept s tr vs }

-- The value that an answer stands for, by the node in it and the number of nodes written: a node; a list, "its first node or none" (01, Tree); or a
-- list in the making, whose last node was written last.
abbrev pub Shape : Type 0
Shape = ℕ → ℕ → Value

abbrev pub a_node : Shape
a_node n c = node n

abbrev pub a_list : Shape
a_list n c = list n

abbrev pub a_growing : Shape
a_growing n c = growing n (c - 1)

-- From the tree tr with n nodes to tr' with n': the header's words, and all words behind the n' nodes, are as they were. Answers and leaves tell it.
pub record Frame (n : ℕ) (tr : List ℕ) (n' : ℕ) (tr' : List ℕ) : Type 0 where
  pub grows : n ≤ n'
  pub header : (w : ℕ) → w < 8 → get_or tr' w 0 ≡ get_or tr w 0
  pub behind : (w : ℕ) → 8 * n' + 8 ≤ w → get_or tr' w 0 ≡ get_or tr w 0

-- the nodes that are written when an answer is given
abbrev pub written : Parsed → ℕ
written (Ok r) = r.1.nodes
written (Err e) = (stopped e).nodes

-- What was asked for, as a reason: that of the number that a Newline or Dedent has there, 16 for an expression or operand and 14 for all else. Which number
-- the refusal has in the end, the reader tells by the token.
abbrev pub asked_reason : List ℕ → Reason
asked_reason asked = reason_of (fault_number (asked_fault asked))

-- and as code hands it on: the refusal, at a state
abbrev pub asked_for : List ℕ → State → Refused
asked_for asked s = cond (asks_operand asked) (refused.Missing s) (refused.Misfit s)

-- What the descent comes to, and the answer and the tree of the code: one value more at hand (`out` says which); or a refusal at the state's token, with
-- whatever is at hand: 13, or what was asked for. The state has counted the text before its token.
pub data Told (src toks : List ℕ) (out : Shape) (vs : List Value) : Answer (machine src (tokens_of src toks)) → Parsed → List ℕ → Type 0 where
  told_node : (n : NodeNumber) (s : State) (tr : List ℕ) → s.used ≡ text_before src toks s.at.0 → Told src toks out vs (done s.opened (state src toks s tr (out n.0 s.nodes ∷ vs))) (read n s) tr
  told_no : (asked : List ℕ) (s : State) (tr : List ℕ) (ws : List Value) → s.used ≡ text_before src toks s.at.0 → Told src toks out vs (no asked s.opened (state src toks s tr ws)) (Err (asked_for asked s)) tr
  told_deep : (s : State) (tr : List ℕ) (ws : List Value) → s.used ≡ text_before src toks s.at.0 → Told src toks out vs (deep s.opened (state src toks s tr ws)) (Err (refused.TooDeep s)) tr

-- The answer is what the descent of the rule r comes to, from s on, with room for so many more E and Block, whatever values are at hand.
pub record Rules (src toks : List ℕ) (room : ℕ) (r : Rule) (out : Shape) (s : State) (tr : List ℕ) (a : Parsed) (tr' : List ℕ) : Type 0 where
  pub told : (vs : List Value) → Told src toks out vs (descend pyhyeon room r s.opened (state src toks s tr vs)) a tr'
  pub frame : Frame s.nodes tr (written a) tr'

-- The answer is what the part p of a rule comes to, from s on, with the values ws at hand; where it is not refused, one value more than vs is left.
pub record Comes (src toks : List ℕ) (room : ℕ) (p : Part Action Rule) (out : Shape) (vs ws : List Value) (s : State) (tr : List ℕ) (a : Parsed) (tr' : List ℕ) : Type 0 where
  pub told : Told src toks out vs (walk first (descend pyhyeon room) p s.opened (state src toks s tr ws)) a tr'
  pub frame : Frame s.nodes tr (written a) tr'

-- The same where the values `ins` are at hand and any others below them.
pub record Parts (src toks : List ℕ) (room : ℕ) (p : Part Action Rule) (ins : List Value) (out : Shape) (s : State) (tr : List ℕ) (a : Parsed) (tr' : List ℕ) : Type 0 where
  pub comes : (vs : List Value) → Comes src toks room p out vs (ins ++ vs) s tr a tr'

-- what code needs at s, where no more than `more` rules were opened beyond ten a token
pub record Ready (src toks tree : List ℕ) (s : State) (more : ℕ) : Type 0 where
  pub tokens : Tokens src toks
  pub room : 16 * eof_at toks + 16 ≤ length tree
  pub here : s.at.0 ≤ eof_at toks
  pub nodes : s.nodes ≤ 2 * s.at.0
  pub opened : s.opened ≤ 10 * s.at.0 + more
  pub used : s.used ≡ text_before src toks s.at.0

-- the rule can begin at the state's token
pub record Begun (src toks : List ℕ) (s : State) (r : Rule) : Type 0 where
  pub seen : mem (symbol_at src toks s.at.0) (first r) ≡ true

-- a token was taken, and the next node has its place
pub record Spot (toks tree : List ℕ) (s : State) : Type 0 where
  pub some : 0 < s.at.0
  pub token : 3 * s.at.0 ≤ length toks
  pub last : s.at.0 ≤ eof_at toks + 1
  pub word : 8 * s.nodes + 16 ≤ length tree
  pub count : s.nodes < 2 ^ 32 - 1

-- A leaf does the action x, and the node that it wrote takes the place of the values `ins`.
pub record Writes (src toks : List ℕ) (x : Action) (ins : List Value) (s : State) (tr : List ℕ) (r : Added) (tr' : List ℕ) : Type 0 where
  pub node : r.0.0 ≡ s.nodes
  pub after : r.1 ≡ added s
  pub same : (vs : List Value) → perform src (tokens_of src toks) x (kept s tr (ins ++ vs)) ≡ kept (added s) tr' (Value.node s.nodes ∷ vs)
  pub frame : Frame s.nodes tr (s.nodes + 1) tr'

-- The literal's leaf does the same for `literal`, and counts the literal's text.
pub record Literals (src toks : List ℕ) (s : State) (tr : List ℕ) (r : Added) (tr' : List ℕ) : Type 0 where
  pub node : r.0.0 ≡ s.nodes
  pub after : r.1 ≡ record { at = s.at; nodes = s.nodes + 1; opened = s.opened; used = text_before src toks s.at.0 }
  pub same : (vs : List Value) → perform src (tokens_of src toks) literal (kept s tr vs) ≡ kept (added s) tr' (Value.node s.nodes ∷ vs)
  pub frame : Frame s.nodes tr (s.nodes + 1) tr'

-- A leaf does the action x, which writes no node: the values `outs` take the place of `ins`.
pub record Changes (src toks : List ℕ) (x : Action) (ins outs : List Value) (s : State) (tr tr' : List ℕ) : Type 0 where
  pub same : (vs : List Value) → perform src (tokens_of src toks) x (kept s tr (ins ++ vs)) ≡ kept s tr' (outs ++ vs)
  pub frame : Frame s.nodes tr s.nodes tr'

-- the And of the nodes x and y, which takes the place of the last value
pub record Joins (src toks : List ℕ) (x y : ℕ) (s : State) (tr : List ℕ) (r : Added) (tr' : List ℕ) : Type 0 where
  pub node : r.0.0 ≡ s.nodes
  pub after : r.1 ≡ added s
  pub same : (v : Value) (vs : List Value) → binary_of src (tokens_of src toks) 1 (binary_op_lem token.And) x y (kept s tr (v ∷ vs)) ≡ kept (added s) tr' (Value.node s.nodes ∷ vs)
  pub frame : Frame s.nodes tr (s.nodes + 1) tr'

-- the node of one sign; and those of all signs from the token `first` up to `end`
pub record Signed (src toks : List ℕ) (op child : ℕ) (s : State) (tr : List ℕ) (r : Added) (tr' : List ℕ) : Type 0 where
  pub node : r.0.0 ≡ s.nodes
  pub after : r.1 ≡ added s
  pub same : (vs : List Value) → write 1 (unary_node src (tokens_of src toks) op (kept s tr (Value.node child ∷ vs))) (kept s tr (Value.node child ∷ vs)) ≡ kept (added s) tr' (Value.node s.nodes ∷ vs)
  pub frame : Frame s.nodes tr (s.nodes + 1) tr'

pub record Wraps (src toks : List ℕ) (first end child : ℕ) (s : State) (tr : List ℕ) (r : Added) (tr' : List ℕ) : Type 0 where
  pub at : s.at ≡ r.1.at
  pub opened : s.opened ≡ r.1.opened
  pub used : s.used ≡ r.1.used
  pub same : (vs : List Value) → wrap src (tokens_of src toks) (end - first) first (kept s tr (Value.node child ∷ vs)) ≡ kept r.1 tr' (Value.node r.0.0 ∷ vs)
  pub frame : Frame s.nodes tr r.1.nodes tr'

-- the signs stand before the state's token, and there is room for their nodes
pub record Wrapping (toks tree : List ℕ) (first end : ℕ) (s : State) : Type 0 where
  pub order : first ≤ end
  pub before : end < s.at.0
  pub token : 3 * s.at.0 ≤ length toks
  pub last : s.at.0 ≤ eof_at toks + 1
  pub word : 8 * (s.nodes + (end - first)) + 8 ≤ length tree
  pub count : s.nodes + (end - first) < 2 ^ 32

-- from s to s' the rest p of a list was read: what follows is read from s' on, with the list's first node n and some last node at hand
pub record Led (src toks : List ℕ) (room : ℕ) (p : Part Action Rule) (ins : List Value) (s : State) (tr : List ℕ) (n : NodeNumber) (s' : State) (tr' : List ℕ) : Type 0 where
  pub ready : Ready src toks tr' s' 1
  pub on : s.at.0 ≤ s'.at.0
  pub kept : s.nodes ≤ s'.nodes
  pub spare : s'.nodes + 2 * s.at.0 ≤ s.nodes + 2 * s'.at.0
  pub there : n.0 < s'.nodes
  pub last : ℕ
  pub same : (out : Shape) (q : Part Action Rule) (vs ws : List Value) {a : Parsed} {t : List ℕ} → Comes src toks room q out vs (growing n.0 last ∷ ws) s' tr' a t → Comes src toks room (p ⨾ q) out vs (ins ++ ws) s tr a t

-- Code that reads the rest p of a list, whatever follows it.
pub record Lists (src toks : List ℕ) (room : ℕ) (p : Part Action Rule) (ins : List Value) (s : State) (tr : List ℕ) (r : Parsed) (tr' : List ℕ) : Type 0 where
  pub leads : (n : NodeNumber) (s' : State) → r ≡ read n s' → Led src toks room p ins s tr n s' tr'
  pub stops : (out : Shape) (e : Refused) → r ≡ Err e → (q : Part Action Rule) (vs ws : List Value) → Comes src toks room (p ⨾ q) out vs (ins ++ ws) s tr (Err e) tr'
