-- What the actions come to: where a leaf did one, and where only values at hand change.
-- Assumes nothing.
use mathlib.Core.Path.{◌≡◌, refl, ap, sym, ◌∙◌}
use mathlib.Core.Bool.{true}
use mathlib.Core.List.{List, [], ◌∷◌, ◌++◌}
use Prim.Native.Nat.{ℕ, ◌+◌, ◌-◌, ◌≤◌}
use native.Mathlib.Omega.{arith}
use lib.ListN.{length}
use Rattle.grammar.specs.Sets.{mem}
use Rattle.grammar.specs.Grammar.{Part, skip, act, tok, ◌⨾◌}
use Rattle.grammar.specs.Trial.{skip_p}
use Rattle.grammar.specs.Descent.{walk, seq_d, then_d, same_d}
use Rattle.token.specs.Code as code
use Rattle.token.specs.declared.NodeNumber.{NodeNumber}
use Rattle.ast.specs.Node.{none}
use Rattle.ast.specs.Operator.{binary_op_lem}
use Rattle.ast.specs.Words.{nodes_of}
use Rattle.ast.proofs.Nodes.{length_nodes}
use Rattle.pyhyeon.specs.Machine.{Value, token, node, signs, growing, list, chain, Kept, number, count, operand, one, whole, put}
use Rattle.pyhyeon.specs.Action.{Action, mark, literal, signs_none, unary, binary, compare, compare_more, compared, list_none, list_one, list_done, binary_of, perform}
use Rattle.pyhyeon.specs.Rules.{Rule}
use Rattle.leaves.specs.declared.State.{State}
use Rattle.leaves.specs.declared.Added.{Added}
use Rattle.lookahead.specs.Tokens.{eof_at, text_before, tokens_of, symbol_at}
use Rattle.leaves.specs.Contract.{Parsed, read, past, added, kept, Shape, a_node, a_list, Comes, Writes, Literals, Changes, Wraps, Joins}
use Rattle.leaves.proofs.Frames.{frame_none}
use Rattle.joint.proofs.Chain.{tok_then, act_then, act_last}

-- the node that a leaf wrote, by its number
number_of : {m : NodeNumber} {k : ℕ} → m.0 ≡ k → m ≡ record { 0 = k }
number_of e = ap (λ (k : ℕ). record { 0 = k }) e

-- an action that ends a part
module _ {src toks : List ℕ} {room : ℕ} {vs : List Value} {s : State} {tr tr' : List ℕ} {r : Added} where
  pub act_wrote : {x : Action} {ins : List Value} → s.used ≡ text_before src toks s.at.0 → Writes src toks x ins s tr r tr' → Comes src toks room (act x) a_node vs (ins ++ vs) s tr (read r.0 r.1) tr'
  act_wrote u w = rw (w.after, number_of w.node) (act_last {out = a_node} (w.same vs) refl refl w.frame u)

  pub act_literal : Literals src toks s tr r tr' → Comes src toks room (act literal) a_node vs vs s tr (read r.0 r.1) tr'
  act_literal w = rw (w.after, number_of w.node) (act_last {out = a_node} (w.same vs) refl refl w.frame refl)

  pub act_wrapped : {first end child : ℕ} → s.used ≡ text_before src toks s.at.0 → Wraps src toks first end child s tr r tr' →
      Comes src toks room (act unary) a_node vs (node child ∷ signs first (end - first) ∷ vs) s tr (read r.0 r.1) tr'
  unfolding perform number count
  act_wrapped u w = act_last {out = a_node} (w.same vs) w.at w.opened w.frame (sym w.used ∙ u ∙ ap (λ (t : ℕ). text_before src toks t) (ap (λ t. t.0) w.at))

module _ {src toks : List ℕ} {room : ℕ} {vs : List Value} {s : State} {tr : List ℕ} {n : NodeNumber} where
  pub act_changed : {x : Action} {ins : List Value} {tr' : List ℕ} → s.used ≡ text_before src toks s.at.0 → Changes src toks x ins (node n.0 ∷ []) s tr tr' → Comes src toks room (act x) a_node vs (ins ++ vs) s tr (read n s) tr'
  act_changed u w = act_last {out = a_node} (w.same vs) refl refl w.frame u

  pub compared_last : {l : ℕ} → s.used ≡ text_before src toks s.at.0 → Comes src toks room (act compared) a_node vs (chain n.0 l ∷ vs) s tr (read n s) tr
  unfolding perform whole
  compared_last u = act_last {out = a_node} refl refl refl frame_none u

  pub list_last : {l : ℕ} → s.used ≡ text_before src toks s.at.0 → Comes src toks room (act list_done) a_list vs (growing n.0 l ∷ vs) s tr (read n s) tr
  unfolding perform number
  list_last u = act_last {out = a_list} refl refl refl frame_none u

module _ {src toks : List ℕ} {room : ℕ} {vs : List Value} {s : State} {tr : List ℕ} where
  pub none_last : s.used ≡ text_before src toks s.at.0 → Comes src toks room (act list_none) a_list vs vs s tr (read (record { 0 = none }) s) tr
  unfolding perform
  none_last u = act_last {out = a_list} refl refl refl frame_none u

-- an action, and more after it
module _ {src toks : List ℕ} {room : ℕ} {out : Shape} {vs ws : List Value} {s : State} {tr : List ℕ} {q : Part Action Rule} {a : Parsed} {t : List ℕ} where
  pub wrote_then : {x : Action} {ins : List Value} {tr' : List ℕ} {r : Added} → Writes src toks x ins s tr r tr' → Comes src toks room q out vs (node r.0.0 ∷ ws) r.1 tr' a t → Comes src toks room (act x ⨾ q) out vs (ins ++ ws) s tr a t
  wrote_then {r = r} w c = act_then (w.same ws) refl refl w.frame (rw (w.after, w.node) at c)

  -- a token that is taken and put at hand
  pub tok_mark : {set : List ℕ} → s.at.0 ≤ eof_at toks → mem (symbol_at src toks s.at.0) set ≡ true → Comes src toks room q out vs (token s.at.0 ∷ ws) (past s) tr a t → Comes src toks room (tok set ⨾ act mark ⨾ q) out vs ws s tr a t
  unfolding perform
  tok_mark h e c =
      let d : s.at.0 + 1 - 1 ≡ s.at.0 = omega arith in
      tok_then h e (act_then (rw d refl) refl refl frame_none c)

  -- a token that was taken before is put at hand
  pub mark_at : {i : ℕ} → s.at.0 ≡ i + 1 → Comes src toks room q out vs (token i ∷ ws) s tr a t → Comes src toks room (act mark ⨾ q) out vs ws s tr a t
  unfolding perform
  mark_at {i} e c =
      let d : s.at.0 - 1 ≡ i = omega arith in
      act_then (rw d refl) refl refl frame_none c

  -- the actions that only change values at hand
  pub signs_then : Comes src toks room q out vs (signs s.at.0 0 ∷ ws) s tr a t → Comes src toks room (act signs_none ⨾ q) out vs ws s tr a t
  unfolding perform
  signs_then c = act_then refl refl refl frame_none c

  pub skip_then : Comes src toks room q out vs ws s tr a t → Comes src toks room (skip ⨾ q) out vs ws s tr a t
  unfolding walk seq_d then_d same_d skip_p
  skip_then c = record { told = c.told; frame = c.frame }

  pub none_then : Comes src toks room q out vs (list none ∷ ws) s tr a t → Comes src toks room (act list_none ⨾ q) out vs ws s tr a t
  unfolding perform
  none_then c = act_then refl refl refl frame_none c

  pub one_then : {n : ℕ} → Comes src toks room q out vs (growing n n ∷ ws) s tr a t → Comes src toks room (act list_one ⨾ q) out vs (node n ∷ ws) s tr a t
  unfolding perform one
  one_then c = act_then refl refl refl frame_none c

  pub done_then : {f l : ℕ} → Comes src toks room q out vs (list f ∷ ws) s tr a t → Comes src toks room (act list_done ⨾ q) out vs (growing f l ∷ ws) s tr a t
  unfolding perform number
  done_then c = act_then refl refl refl frame_none c

module _ {src toks : List ℕ} {room : ℕ} {out : Shape} {vs : List Value} {s : State} {tr : List ℕ} {q : Part Action Rule} {a : Parsed} {t : List ℕ} where
  -- a leaf's change, and more after it
  pub changed_then : {x : Action} {ins outs : List Value} {tr' : List ℕ} (ws : List Value) → Changes src toks x ins outs s tr tr' → Comes src toks room q out vs (outs ++ ws) s tr' a t → Comes src toks room (act x ⨾ q) out vs (ins ++ ws) s tr a t
  changed_then ws w c = act_then (w.same ws) refl refl w.frame c

-- A comparison is written as any operator is; what is at hand after it is a chain.
module _ {src toks tr tr' : List ℕ} {s : State} {r : Added} {op y : ℕ} where
  pub compare_is : {x : ℕ} (vs : List Value) → Writes src toks binary (node y ∷ token op ∷ node x ∷ []) s tr r tr' →
      perform src (tokens_of src toks) compare (kept s tr (node y ∷ token op ∷ node x ∷ vs)) ≡ kept (added s) tr' (chain s.nodes y ∷ vs)
  unfolding perform number
  compare_is {x} vs w = ap (λ (k : Kept). put 1 (chain (length (nodes_of tr s.nodes)) y) k) (w.same vs) ∙ rw (length_nodes tr s.nodes)

  pub compare_more_is : {x first : ℕ} {tr'' : List ℕ} {r' : Added} (vs : List Value) → Writes src toks binary (node y ∷ token op ∷ node x ∷ []) s tr r tr' → Joins src toks first s.nodes (added s) tr' r' tr'' →
      perform src (tokens_of src toks) compare_more (kept s tr (node y ∷ token op ∷ chain first x ∷ vs)) ≡ kept (added (added s)) tr'' (chain (s.nodes + 1) y ∷ vs)
  unfolding perform number operand
  compare_more_is {x} {first} vs w j =
      ap (λ (k : Kept). put 1 (chain (length (nodes_of tr s.nodes) + 1) y) (binary_of src (tokens_of src toks) 1 (binary_op_lem code.And) first (length (nodes_of tr s.nodes)) k)) (w.same vs)
      ∙ rw (length_nodes tr s.nodes) (ap (λ (k : Kept). put 1 (chain (s.nodes + 1) y) k) (j.same (node s.nodes) vs))
