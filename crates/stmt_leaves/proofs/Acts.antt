-- What a node that was put is for the machine, whatever action of statements it was put for.
-- Assumes nothing.
use mathlib.Core.Path.{◌≡◌, ap, sym, ◌∙◌}
use mathlib.Core.List.{List, [], ◌∷◌, ◌++◌}
use Prim.Native.Nat.{ℕ, ◌+◌, ◌*◌, ◌-◌, ◌≤◌, ◌<◌}
use native.Mathlib.Omega.{arith}
use lib.ListN.{length, get_or, set}
use Rattle.tokens.specs.Token.{Token}
use Rattle.ast.specs.Kind as kind
use Rattle.ast.specs.Node.{Node, made, spanned, blank}
use Rattle.ast.specs.Words.{node_at, nodes_of, set_span_lem}
use Rattle.ast.proofs.Nodes.{length_span, node_there, nodes_span}
use Rattle.pyhyeon.specs.Machine.{Value, node, list, number, Kept, write}
use Rattle.pyhyeon.specs.Action.{Action, assign, program, token_at_lem, perform}
use Rattle.leaves.specs.declared.State.{State}
use Rattle.leaves.specs.declared.Added.{Added}
use Rattle.lookahead.specs.Tokens.{start_at, end_at, tokens_of}
use Rattle.leaves.specs.Contract.{added, kept, Spot, Writes}
use Rattle.leaves.specs.Put.{Put}
use Rattle.leaves.proofs.Frames.{frame_put, frame_span, frame_then}
use Rattle.leaves.proofs.Acts.{put_is, taken_is, earlier_is, opened_is, begun_is, as_put, writes}

-- A node from the token o on, where the action writes just that in place of its values.
module _ {toks tr : List ℕ} {s : State} (here : Spot toks tr s) {tr' : List ℕ} {a : Added} (src : List ℕ) {x : Action} {ins : List Value} where
  pub opened_wrote : {kind o p q r f : ℕ} → Put s tr (made kind (start_at toks o) (end_at toks (s.at.0 - 1)) p q r f) a tr' → o < s.at.0
      → ((vs : List Value) → perform src (tokens_of src toks) x (kept s tr (ins ++ vs)) ≡ write 0 (made kind (token_at_lem src (tokens_of src toks) o).start (token_at_lem src (tokens_of src toks) (s.at.0 - 1)).end p q r f) (kept s tr vs))
      → Writes src toks x ins s tr a tr'
  opened_wrote w h e = writes here src w (λ vs. e vs ∙ as_put here (opened_is here src h) w 0 vs)

  -- the same where its first two fields are a name, the token n
  pub called_wrote : {kind o n r f : ℕ} → Put s tr (made kind (start_at toks o) (end_at toks (s.at.0 - 1)) (start_at toks n) (end_at toks n) r f) a tr' → o < s.at.0 → n < s.at.0
      → ((vs : List Value) → perform src (tokens_of src toks) x (kept s tr (ins ++ vs)) ≡ write 0 (made kind (token_at_lem src (tokens_of src toks) o).start (token_at_lem src (tokens_of src toks) (s.at.0 - 1)).end (token_at_lem src (tokens_of src toks) n).start (token_at_lem src (tokens_of src toks) n).end r f) (kept s tr vs))
      → Writes src toks x ins s tr a tr'
  called_wrote {kind} {o} {n} {r} {f} w h g e =
      writes here src w (λ vs. e vs ∙ as_put here (opened_is here src h ∙ ap (λ (t : Token). made kind (start_at toks o) (end_at toks (s.at.0 - 1)) t.start t.end r f) (earlier_is here src g)) w 0 vs)

  -- from the start of the node m on
  pub begun_wrote : {kind m p q r : ℕ} → Put s tr (made kind (node_at tr m).start (end_at toks (s.at.0 - 1)) p q r 0) a tr' → m < s.nodes
      → ((vs : List Value) → perform src (tokens_of src toks) x (kept s tr (ins ++ vs)) ≡ write 0 (made kind (get_or (nodes_of tr s.nodes) m blank).start (token_at_lem src (tokens_of src toks) (s.at.0 - 1)).end p q r 0) (kept s tr vs))
      → Writes src toks x ins s tr a tr'
  begun_wrote w h e = writes here src w (λ vs. e vs ∙ as_put here (begun_is here src h) w 0 vs)

-- only the length of the tree matters
still : {toks tr tr' : List ℕ} {s : State} → Spot toks tr s → length tr' ≡ length tr → Spot toks tr' s
still here e = record { some = here.some; token = here.token; last = here.last; word = rw e here.word; count = here.count }

-- the target's span is set first, and then the Assign is put
pub assign_wrote : {toks tr tr₁ tr' : List ℕ} {s : State} {a : Added} {x v from to : ℕ} → Spot toks tr s → tr₁ ≡ set_span_lem tr x from to → from ≡ (node_at tr x).start → to ≡ end_at toks (s.at.0 - 1)
    → Put s tr₁ (made kind.Assign (node_at tr₁ x).start (end_at toks (s.at.0 - 1)) x v 0 0) a tr' → x < s.nodes → (src : List ℕ) → Writes src toks assign (node v ∷ node x ∷ []) s tr a tr'
unfolding perform number
assign_wrote {toks} {tr} {tr₁} {tr'} {s} {a} {x} {v} {from} {to} here e d₁ d₂ w h src = record { node = w.node; after = w.after; same = go; frame = frame_then (frame_span x from to h e) (frame_put w) }
  where
    there : Spot toks tr₁ s
    there = still here (ap length e ∙ length_span tr x from to)

    -- the target with the wider span
    wider : spanned (get_or (nodes_of tr s.nodes) x blank).start (token_at_lem src (tokens_of src toks) (s.at.0 - 1)).end (get_or (nodes_of tr s.nodes) x blank) ≡ spanned from to (get_or (nodes_of tr s.nodes) x blank)
    wider = ap (λ (n : Node). spanned n.start (token_at_lem src (tokens_of src toks) (s.at.0 - 1)).end (get_or (nodes_of tr s.nodes) x blank)) (node_there tr s.nodes x h)
        ∙ ap (λ (t : Token). spanned (node_at tr x).start t.end (get_or (nodes_of tr s.nodes) x blank)) (taken_is here src)
        ∙ rw (d₁, d₂)

    nodes : set (nodes_of tr s.nodes) x (spanned (get_or (nodes_of tr s.nodes) x blank).start (token_at_lem src (tokens_of src toks) (s.at.0 - 1)).end (get_or (nodes_of tr s.nodes) x blank)) ≡ nodes_of tr₁ s.nodes
    nodes =
        let l = here.word in
        ap (set (nodes_of tr s.nodes) x) wider ∙ sym (nodes_span tr s.nodes x from to h (omega arith)) ∙ ap (λ (t : List ℕ). nodes_of t s.nodes) (sym e)

    assigned : List Node → List Value → Kept
    assigned ns vs = record {
      at = s.at.0;
      nodes = ns ++ (made kind.Assign (get_or ns x blank).start (token_at_lem src (tokens_of src toks) (s.at.0 - 1)).end x v 0 0 ∷ []);
      values = node (length ns) ∷ vs;
    }

    go : (vs : List Value) → perform src (tokens_of src toks) assign (kept s tr (node v ∷ node x ∷ vs)) ≡ kept (added s) tr' (node s.nodes ∷ vs)
    go vs = ap (λ (ns : List Node). assigned ns vs) nodes ∙ as_put there (begun_is there src h) w 0 vs

-- the Program of a whole source
pub program_wrote : {src tr tr' : List ℕ} {s : State} {a : Added} {f : ℕ} → 8 * s.nodes + 16 ≤ length tr → Put s tr (made kind.Program 0 (length src) f 0 0 0) a tr' → (toks : List ℕ) → Writes src toks program (list f ∷ []) s tr a tr'
unfolding perform number
program_wrote room w toks = record { node = w.node; after = w.after; same = put_is room w 0; frame = frame_put w }
