-- What the leaves of expressions do to the words of the tree is what the machine's actions do to its nodes.
-- Assumes nothing.
use mathlib.Core.Path.{◌≡◌, ap, sym, ◌∙◌}
use mathlib.Core.List.{List, [], ◌∷◌}
use Prim.Native.Nat.{ℕ, ◌-◌, ◌<◌}
use native.Mathlib.Omega.{arith}
use Rattle.token.specs.Code as code
use Rattle.literal.specs.declared.Literal.{Literal}
use Rattle.tokens.specs.Token.{Token}
use Rattle.ast.specs.Kind as kind
use Rattle.ast.specs.Node.{Node, none, made}
use Rattle.ast.specs.declared.Content.{Content}
use Rattle.ast.specs.Literal.{leaf_of_lem, literal_node_lem}
use Rattle.ast.specs.Operator.{unary_op_lem, binary_op_lem}
use Rattle.ast.specs.Words.{node_at}
use Rattle.ast.proofs.Nodes.{length_nodes, nodes_put}
use Rattle.pyhyeon.specs.Machine.{token, node, growing, list, number, write}
use Rattle.pyhyeon.specs.Action.{named, binary, enclose, empty, tuple, pair, attribute, apply, index, lambda, perform}
use Rattle.lookahead.specs.Tokens.{code_at, start_at, end_at, text_before, token_of}
use Rattle.lookahead.proofs.Tokens.{token_is}
use Rattle.leaves.specs.declared.State.{State}
use Rattle.leaves.specs.declared.Added.{Added}
use Rattle.leaves.specs.Contract.{kept, Spot, Writes, Literals, Joins, Signed}
use Rattle.leaves.specs.Put.{Put}
use Rattle.leaves.proofs.Frames.{frame_put}
use Rattle.leaves.proofs.Acts.{taken_is, earlier_is, opened_is, begun_is, as_put, writes}

module _ {toks tr : List ℕ} {s : State} (here : Spot toks tr s) {tr' : List ℕ} {a : Added} where
  pub named_wrote : {kind : ℕ} → Put s tr (made kind (start_at toks (s.at.0 - 1)) (end_at toks (s.at.0 - 1)) (start_at toks (s.at.0 - 1)) (end_at toks (s.at.0 - 1)) 0 0) a tr' → (src : List ℕ) → Writes src toks (named kind) [] s tr a tr'
  unfolding perform
  named_wrote {kind} w src = writes here src w (as_put here (ap (λ (x : Token). made kind x.start x.end x.start x.end 0 0) (taken_is here src)) w 0)

  pub enclose_wrote : {kind o f : ℕ} → Put s tr (made kind (start_at toks o) (end_at toks (s.at.0 - 1)) f 0 0 0) a tr' → o < s.at.0 → (src : List ℕ) → Writes src toks (enclose kind) (list f ∷ token o ∷ []) s tr a tr'
  unfolding perform number
  enclose_wrote {kind} {o} {f} w h src = writes here src w (λ vs. as_put here (opened_is here src h) w 2 (list f ∷ token o ∷ vs))

  pub empty_wrote : {kind o : ℕ} → Put s tr (made kind (start_at toks o) (end_at toks (s.at.0 - 1)) none 0 0 0) a tr' → o < s.at.0 → (src : List ℕ) → Writes src toks (empty kind) (token o ∷ []) s tr a tr'
  unfolding perform number
  empty_wrote {kind} {o} w h src = writes here src w (λ vs. as_put here (opened_is here src h) w 1 (token o ∷ vs))

  pub lambda_wrote : {o f n : ℕ} → Put s tr (made kind.Lambda (start_at toks o) (end_at toks (s.at.0 - 1)) f n 0 0) a tr' → o < s.at.0 → (src : List ℕ) → Writes src toks lambda (node n ∷ list f ∷ token o ∷ []) s tr a tr'
  unfolding perform number
  lambda_wrote {o} {f} {n} w h src = writes here src w (λ vs. as_put here (opened_is here src h) w 3 (node n ∷ list f ∷ token o ∷ vs))

  pub tuple_wrote : {f : ℕ} → Put s tr (made kind.Tuple (node_at tr f).start (end_at toks (s.at.0 - 1)) f 0 0 0) a tr' → f < s.nodes → (src : List ℕ) (l : ℕ) → Writes src toks tuple (growing f l ∷ []) s tr a tr'
  unfolding perform number
  tuple_wrote {f} w h src l = writes here src w (λ vs. as_put here (begun_is here src h) w 1 (growing f l ∷ vs))

  pub pair_wrote : {x y : ℕ} → Put s tr (made kind.Pair (node_at tr x).start (end_at toks (s.at.0 - 1)) x y 0 0) a tr' → x < s.nodes → (src : List ℕ) → Writes src toks pair (node y ∷ node x ∷ []) s tr a tr'
  unfolding perform number
  pair_wrote {x} {y} w h src = writes here src w (λ vs. as_put here (begun_is here src h) w 2 (node y ∷ node x ∷ vs))

  pub attribute_wrote : {x : ℕ} → Put s tr (made kind.Attribute (node_at tr x).start (end_at toks (s.at.0 - 1)) x (start_at toks (s.at.0 - 1)) (end_at toks (s.at.0 - 1)) 0) a tr' → x < s.nodes → (src : List ℕ)
      → Writes src toks attribute (node x ∷ []) s tr a tr'
  unfolding perform number
  attribute_wrote {x} w h src =
      writes here src w (λ vs. as_put here (begun_is here src h ∙ ap (λ (t : Token). made kind.Attribute (node_at tr x).start (end_at toks (s.at.0 - 1)) x t.start t.end 0) (taken_is here src)) w 1 (node x ∷ vs))

  pub apply_wrote : {x f : ℕ} → Put s tr (made kind.Call (node_at tr x).start (end_at toks (s.at.0 - 1)) x f 0 0) a tr' → x < s.nodes → (src : List ℕ) → Writes src toks apply (list f ∷ node x ∷ []) s tr a tr'
  unfolding perform number
  apply_wrote {x} {f} w h src = writes here src w (λ vs. as_put here (begun_is here src h) w 2 (list f ∷ node x ∷ vs))

  pub index_wrote : {x i : ℕ} → Put s tr (made kind.Index (node_at tr x).start (end_at toks (s.at.0 - 1)) x i 0 0) a tr' → x < s.nodes → (src : List ℕ) → Writes src toks index (node i ∷ node x ∷ []) s tr a tr'
  unfolding perform number
  index_wrote {x} {i} w h src = writes here src w (λ vs. as_put here (begun_is here src h) w 2 (node i ∷ node x ∷ vs))

  pub binary_wrote : {op x y : ℕ} → Put s tr (made kind.Binary (node_at tr x).start (end_at toks (s.at.0 - 1)) (binary_op_lem (code_at toks op)) x y 0) a tr' → op < s.at.0 → x < s.nodes → (src : List ℕ)
      → Writes src toks binary (node y ∷ token op ∷ node x ∷ []) s tr a tr'
  unfolding perform number
  binary_wrote {op} {x} {y} w g h src =
      writes here src w (λ vs. as_put here (begun_is here src h ∙ ap (λ (t : Token). made kind.Binary (node_at tr x).start (end_at toks (s.at.0 - 1)) (binary_op_lem t.code) x y 0) (earlier_is here src g)) w 3 (node y ∷ token op ∷ node x ∷ vs))

  -- the And of two nodes
  pub and_wrote : {x y : ℕ} → Put s tr (made kind.Binary (node_at tr x).start (end_at toks (s.at.0 - 1)) (binary_op_lem code.And) x y 0) a tr' → x < s.nodes → (src : List ℕ) → Joins src toks x y s tr a tr'
  and_wrote w h src = record { node = w.node; after = w.after; same = λ v vs. as_put here (begun_is here src h) w 1 (v ∷ vs); frame = frame_put w }

  -- the node of one sign
  pub unary_wrote : {op n : ℕ} → Put s tr (made kind.Unary (start_at toks op) (end_at toks (s.at.0 - 1)) (unary_op_lem (code_at toks op)) n 0 0) a tr' → op < s.at.0 → (src : List ℕ) → Signed src toks op n s tr a tr'
  unfolding number
  unary_wrote {op} {n} w h src = record {
    node = w.node;
    after = w.after;
    same = λ vs.
        as_put here (opened_is here src h ∙ ap (λ (t : Token). made kind.Unary (start_at toks op) (end_at toks (s.at.0 - 1)) (unary_op_lem t.code) n 0 0) (earlier_is here src h)) w 1 (node n ∷ vs);
    frame = frame_put w;
  }

-- the node of the literal m, whose token stands from x to y, of the leaf that was made of them
pub leaf_node : (x y : ℕ) {a b : ℕ} {f : Content} {l m : Literal} → f ≡ leaf_of_lem a b l → a ≡ x → b ≡ y → l ≡ m → made f.kind x y f.p f.q f.r f.s ≡ literal_node_lem x y m
leaf_node x y e starts ends d = ap (λ (f : Content). made f.kind x y f.p f.q f.r f.s) (e ∙ rw (starts, ends, d))

-- the node of a literal, where its text is counted first
pub literal_wrote : {src toks tr tr' : List ℕ} {s : State} {a : Added} {u : ℕ} {n : Node} → Spot toks tr s → Put (record { at = s.at; nodes = s.nodes; opened = s.opened; used = u }) tr n a tr'
    → u ≡ text_before src toks s.at.0 → n ≡ literal_node_lem (start_at toks (s.at.0 - 1)) (end_at toks (s.at.0 - 1)) (token_of src toks (s.at.0 - 1)).literal → Literals src toks s tr a tr'
unfolding perform
literal_wrote {src} {toks} {tr} {tr'} {s} {a} {u} {n} here w e d = record {
  node = w.node;
  after = rw e at w.after;
  same = λ vs.
      let l = here.last in
      ap (λ (t : Token). write 0 (literal_node_lem t.start t.end t.literal) (kept s tr vs)) (token_is src toks (s.at.0 - 1) (omega arith))
      ∙ ap (λ (x : Node). write 0 x (kept s tr vs)) (sym d)
      ∙ rw (w.words, nodes_put tr s.nodes n here.word, length_nodes tr s.nodes);
  frame = frame_put w;
}
