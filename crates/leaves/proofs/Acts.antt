-- What the leaves do to the words of the tree is what the machine's actions do to its nodes.
-- Assumes nothing.
use mathlib.Core.Path.{◌≡◌, ap, ◌∙◌}
use mathlib.Core.List.{List, [], ◌∷◌, ◌++◌}
use Prim.Native.Nat.{ℕ, ◌+◌, ◌*◌, ◌-◌, ◌≤◌, ◌<◌}
use native.Mathlib.Omega.{arith}
use lib.ListN.{length, get_or, drop}
use Rattle.tokens.specs.Token.{Token}
use Rattle.ast.specs.Node.{Node, made, spanned, blank}
use Rattle.ast.specs.Words.{node_at, nodes_of, set_span_lem, set_next_lem}
use Rattle.ast.proofs.Nodes.{length_nodes, node_there, nodes_put, nodes_span, nodes_next}
use Rattle.pyhyeon.specs.Machine.{Value, token, node, growing, number, last, both, write, change}
use Rattle.pyhyeon.specs.Action.{Action, group, list_join, token_at_lem, perform}
use Rattle.leaves.specs.declared.State.{State}
use Rattle.leaves.specs.declared.Added.{Added}
use Rattle.lookahead.specs.Tokens.{start_at, end_at, token_of, tokens_of}
use Rattle.leaves.specs.Contract.{added, kept, Spot, Writes, Changes}
use Rattle.leaves.specs.Put.{Put}
use Rattle.leaves.proofs.Frames.{frame_put, frame_span, frame_next}
use Rattle.lookahead.proofs.Tokens.{token_is}

-- a node that was put is written
pub put_is : {s : State} {tr tr' : List ℕ} {a : Added} {n : Node} → 8 * s.nodes + 16 ≤ length tr → Put s tr n a tr' → (i : ℕ) (ws : List Value) → write i n (kept s tr ws) ≡ kept (added s) tr' (node s.nodes ∷ drop i ws)
put_is {s} {tr} {n = n} room w i ws = rw (w.words, nodes_put tr s.nodes n room, length_nodes tr s.nodes)

module _ {toks tr : List ℕ} {s : State} (here : Spot toks tr s) where
  -- the token that was taken last, and one before it
  pub taken_is : (src : List ℕ) → token_at_lem src (tokens_of src toks) (s.at.0 - 1) ≡ token_of src toks (s.at.0 - 1)
  taken_is src = let l = here.last in token_is src toks (s.at.0 - 1) (omega arith)

  pub earlier_is : (src : List ℕ) {o : ℕ} → o < s.at.0 → token_at_lem src (tokens_of src toks) o ≡ token_of src toks o
  earlier_is src {o} h = let l = here.last in token_is src toks o (omega arith)

  -- from a token on, up to the token that was taken last
  pub opened_is : (src : List ℕ) {kind o p q r f : ℕ} → o < s.at.0
      → made kind (token_at_lem src (tokens_of src toks) o).start (token_at_lem src (tokens_of src toks) (s.at.0 - 1)).end p q r f ≡ made kind (start_at toks o) (end_at toks (s.at.0 - 1)) p q r f
  opened_is src {kind} {o} {p} {q} {r} {f} h =
      ap (λ (x : Token). made kind x.start (token_at_lem src (tokens_of src toks) (s.at.0 - 1)).end p q r f) (earlier_is src h)
      ∙ ap (λ (x : Token). made kind (start_at toks o) x.end p q r f) (taken_is src)

  -- from the start of a node on
  pub begun_is : (src : List ℕ) {kind x p q r : ℕ} → x < s.nodes
      → made kind (get_or (nodes_of tr s.nodes) x blank).start (token_at_lem src (tokens_of src toks) (s.at.0 - 1)).end p q r 0 ≡ made kind (node_at tr x).start (end_at toks (s.at.0 - 1)) p q r 0
  begun_is src {kind} {x} {p} {q} {r} h =
      ap (λ (n : Node). made kind n.start (token_at_lem src (tokens_of src toks) (s.at.0 - 1)).end p q r 0) (node_there tr s.nodes x h)
      ∙ ap (λ (t : Token). made kind (node_at tr x).start t.end p q r 0) (taken_is src)

  module _ {tr' : List ℕ} {a : Added} where
    -- a node of the machine's that is the one that was put
    pub as_put : {n m : Node} → m ≡ n → Put s tr n a tr' → (i : ℕ) (ws : List Value) → write i m (kept s tr ws) ≡ kept (added s) tr' (node s.nodes ∷ drop i ws)
    as_put e w i ws = ap (λ (x : Node). write i x (kept s tr ws)) e ∙ put_is here.word w i ws

    pub writes : (src : List ℕ) {x : Action} {ins : List Value} {n : Node} → Put s tr n a tr'
        → ((vs : List Value) → perform src (tokens_of src toks) x (kept s tr (ins ++ vs)) ≡ kept (added s) tr' (node s.nodes ∷ vs)) → Writes src toks x ins s tr a tr'
    writes src w e = record { node = w.node; after = w.after; same = e; frame = frame_put w }

-- the span of a node in parentheses
pub group_changed : {toks tr tr' : List ℕ} {s : State} {o n x y : ℕ} → Spot toks tr s → tr' ≡ set_span_lem tr n x y → x ≡ start_at toks o → y ≡ end_at toks (s.at.0 - 1) → o < s.at.0 → n < s.nodes → (src : List ℕ)
    → Changes src toks group (node n ∷ token o ∷ []) (node n ∷ []) s tr tr'
unfolding perform number
group_changed {toks} {tr} {tr'} {s} {o} {n} {x} {y} here e d₁ d₂ g h src = record {
  same = λ vs.
      let l = here.last in
      let w = here.word in
      let k = kept s tr (node n ∷ vs) in
      ap (λ (x : Token). change n (spanned x.start (token_at_lem src (tokens_of src toks) (s.at.0 - 1)).end) k) (token_is src toks o (omega arith))
      ∙ ap (λ (x : Token). change n (spanned (start_at toks o) x.end) k) (token_is src toks (s.at.0 - 1) (omega arith))
      ∙ rw (e, d₁, d₂, nodes_span tr s.nodes n (start_at toks o) (end_at toks (s.at.0 - 1)) h (omega arith));
  frame = frame_span n x y h e;
}

-- two lists that were linked
pub join_changed : {tr tr' : List ℕ} {s : State} {x n : ℕ} → tr' ≡ set_next_lem tr x n → x < s.nodes → 8 * s.nodes + 8 ≤ length tr → (src toks : List ℕ) (f l : ℕ)
    → Changes src toks list_join (growing n l ∷ growing f x ∷ []) (growing f l ∷ []) s tr tr'
unfolding perform number last both
join_changed {tr} {tr'} {s} {x} {n} e h w src toks f l = record { same = λ vs. rw (e, nodes_next tr s.nodes x n h (omega arith)); frame = frame_next x n h e }
