-- What an answer of any shape tells of the state after it: by the limits of the descent, and by what the actions do to the nodes and the values.
-- Assumes nothing.
use mathlib.Core.Path.{◌≡◌, refl, ◌∙◌}
use mathlib.Core.Bool.{Bool, true, false}
use mathlib.Core.List.{List, [], ◌∷◌, ◌++◌}
use Prim.Native.Nat.{ℕ, ◌+◌, ◌*◌, ◌≤◌, ◌<◌}
use native.Mathlib.Omega.{arith}
use lib.Dec.{T, leb, ltb, leb→le, ltb→lt}
use lib.ListN.{drop}
use Rattle.grammar.specs.Sets.{mem}
use Rattle.grammar.specs.Grammar.{Part, call}
use Rattle.grammar.specs.Descent.{done, by_d, walk, descend}
use Rattle.grammar.specs.Check.{takes, low}
use Rattle.grammar.specs.Limits.{before, clean, credit, afford}
use Rattle.grammar.proofs.Tokens.{before_drop}
use Rattle.grammar.proofs.Ends.{at_done}
use Rattle.grammar.proofs.Along.{descend_along, walk_along}
use Rattle.grammar.proofs.Limits.{descend_counts, walk_counts, on_token, fresh, Stands}
use Rattle.token.specs.Code.{Eof}
use Rattle.token.specs.declared.NodeNumber.{NodeNumber}
use Rattle.ast.proofs.Nodes.{length_nodes}
use Rattle.pyhyeon.specs.Symbol.{symbols}
use Rattle.pyhyeon.specs.Machine.{Value}
use Rattle.pyhyeon.specs.Action.{Action}
use Rattle.pyhyeon.specs.Rules.{Rule, Line, Simple, Block}
use Rattle.pyhyeon.specs.Tables.{first, least, rank, pyhyeon}
use Rattle.pyhyeon.specs.Prices.{needs, gives, prices}
use Rattle.pyhyeon.proofs.Meter.{owed, counted, meter}
use Rattle.pyhyeon.proofs.Held.{Fit, Held, keeps}
use Rattle.pyhyeon.proofs.Limits.{frugal}
use Rattle.leaves.specs.declared.State.{State}
use Rattle.lookahead.specs.Tokens.{eof_at, text_before, tokens_of, symbol_at, Tokens}
use Rattle.leaves.specs.Contract.{Parsed, read, state, Shape, a_node, a_growing, Told, Rules, Parts}
use Rattle.lookahead.proofs.Tokens.{sees_at, before_eof}
use Rattle.joint.proofs.Chain.{is_node, is_used}

-- From a rule or a part at s to the value of the node n and the state s': it takes at least `some` tokens, opens at most `high` rules on the first,
-- and leaves at least `spare` nodes of what its tokens paid.
pub record Counted (src toks : List ℕ) (some high spare : ℕ) (out : Shape) (s : State) (n : NodeNumber) (s' : State) : Type 0 where
  pub on : s.at.0 + some ≤ s'.at.0
  pub here : s'.at.0 ≤ eof_at toks
  pub kept : s.nodes ≤ s'.nodes
  pub nodes : s'.nodes + 2 * s.at.0 + spare ≤ s.nodes + 2 * s'.at.0
  pub opened : s'.opened + 10 * s.at.0 + 10 ≤ s.opened + high + 10 * s'.at.0
  pub held : Fit s'.nodes (out n.0 s'.nodes)
  pub used : s'.used ≡ text_before src toks s'.at.0

-- the same of one that takes a token, with so many more rules to open on it
pub record Came (src toks : List ℕ) (high : ℕ) (out : Shape) (s : State) (n : NodeNumber) (s' : State) : Type 0 where
  pub on : s.at.0 < s'.at.0
  pub here : s'.at.0 ≤ eof_at toks
  pub kept : s.nodes ≤ s'.nodes
  pub nodes : s'.nodes + 2 * s.at.0 ≤ s.nodes + 2 * s'.at.0
  pub opened : s'.opened + 10 * s.at.0 + 10 ≤ s.opened + high + 10 * s'.at.0
  pub held : Fit s'.nodes (out n.0 s'.nodes)
  pub used : s'.used ≡ text_before src toks s'.at.0

-- the same from a part that may be absent, where no rule was opened on the token at hand
pub record Passed (src toks : List ℕ) (out : Shape) (s : State) (n : NodeNumber) (s' : State) : Type 0 where
  pub on : s.at.0 ≤ s'.at.0
  pub here : s'.at.0 ≤ eof_at toks
  pub kept : s.nodes ≤ s'.nodes
  pub nodes : s'.nodes + 2 * s.at.0 ≤ s.nodes + 2 * s'.at.0
  pub opened : s'.opened + 10 * s.at.0 ≤ s.opened + 10 * s'.at.0
  pub held : Fit s'.nodes (out n.0 s'.nodes)
  pub used : s'.used ≡ text_before src toks s'.at.0

-- what is held of a node, and of a list in the making
module _ {src toks : List ℕ} {s : State} {n : NodeNumber} {s' : State} where
  pub came_node : {high : ℕ} → Came src toks high a_node s n s' → n.0 < s'.nodes
  unfolding Fit
  came_node c = c.held

  pub came_growing : {high : ℕ} → Came src toks high a_growing s n s' → n.0 < s'.nodes
  unfolding Fit
  came_growing c = c.held.0

  pub passed_node : Passed src toks a_node s n s' → n.0 < s'.nodes
  unfolding Fit
  passed_node c = c.held

-- the rules that take a token and need no credit
pub data Pays : Rule → Type 0 where
  pays : {r : Rule} → least r ≡ 1 → needs r ≡ 0 → Pays r

pub pays_line : Pays Line
unfolding least needs
pays_line = pays refl refl

pub pays_simple : Pays Simple
unfolding least needs
pays_simple = pays refl refl

pub pays_block : Pays Block
unfolding least needs
pays_block = pays refl refl

-- The test of a part that takes a token and is read on one before the end: it opens no more rules than `high` on that one.
pub record Taking (high : ℕ) (p : Part Action Rule) : Type 0 where
  pub few : T (leb high 10)
  pub some : T (ltb 0 (takes least p))
  pub tidy : T (clean pyhyeon Eof p)
  pub lower : T (low pyhyeon 10 high p)
  pub pays : T (afford prices 0 p)

-- The test of any part, where no rule was opened on the token at hand.
pub record Modest (p : Part Action Rule) : Type 0 where
  pub tidy : T (clean pyhyeon Eof p)
  pub lower : T (low pyhyeon 10 10 p)
  pub pays : T (afford prices 0 p)

module _ (src toks : List ℕ) (w : Tokens src toks) where
  -- the tokens before the end, from a state on
  left : (i : ℕ) → i ≤ eof_at toks → before Eof (drop i (symbols src (tokens_of src toks))) + i ≡ eof_at toks
  left i h = before_drop Eof i (symbols src (tokens_of src toks)) (rw w.ends h) ∙ w.ends

  counted_told : (r : Rule) (room : ℕ) (out : Shape) (s : State) (tr : List ℕ) {a : Parsed} {tr' : List ℕ} {n : NodeNumber} {s' : State} → Pays r → s.at.0 < eof_at toks →
      Told src toks out [] (descend pyhyeon room r s.opened (state src toks s tr [])) a tr' → a ≡ read n s' → Counted src toks 1 (rank r + 1) (gives r) out s n s'
  unfolding state meter counted owed Held
  counted_told r room out s tr {tr' = tr'} {n = n} {s' = s'} (pays l k) h told e =
      let x : descend pyhyeon room r s.opened (state src toks s tr []) ≡ done s'.opened (state src toks s' tr' (out n.0 s'.nodes ∷ [])) = is_node told e in
      let b = left s.at.0 (omega arith) in
      let c = at_done (descend_counts pyhyeon prices frugal (meter src (tokens_of src toks)) room r s.opened (state src toks s tr []) (omega (arith, l)) (omega arith)) x in
      let d = at_done (descend_along (keeps src (tokens_of src toks)) pyhyeon room r s.opened (state src toks s tr [])) x in
      let m = length_nodes tr s.nodes in
      let m' = length_nodes tr' s'.nodes in
      record {
        on = omega (arith, c.on, l);
        here = omega (arith, c.sum);
        kept = omega (arith, d.grows);
        nodes = omega (arith, c.written, k);
        opened = omega (arith, c.opened);
        held = rw m' at (d.held tt).0;
        used = is_used told e;
      }

  -- a rule
  pub counted_rule : {r : Rule} {room : ℕ} {out : Shape} {s : State} {tr : List ℕ} {a : Parsed} {tr' : List ℕ} {n : NodeNumber} {s' : State} → Pays r → s.at.0 < eof_at toks →
      Rules src toks room r out s tr a tr' → a ≡ read n s' → Counted src toks 1 (rank r + 1) (gives r) out s n s'
  counted_rule {r} {room} {out} {s} {tr} p h reads e = counted_told r room out s tr p h (reads.told []) e

  -- a call that gave a value was made on a token that can begin the rule
  pub counted_call : {r : Rule} {room : ℕ} {out : Shape} {s : State} {tr : List ℕ} {a : Parsed} {tr' : List ℕ} {n : NodeNumber} {s' : State} → Pays r → mem Eof (first r) ≡ false → s.at.0 ≤ eof_at toks →
      Parts src toks room (call r) [] out s tr a tr' → a ≡ read n s' → Counted src toks 1 (rank r + 1) (gives r) out s n s'
  unfolding walk by_d state
  counted_call {r} {room} {out} {s} {tr} {a} {tr'} {n} {s'} p outside h reads e = go (mem (symbol_at src toks s.at.0) (first r)) refl
    where
      go : (b : Bool) → mem (symbol_at src toks s.at.0) (first r) ≡ b → Counted src toks 1 (rank r + 1) (gives r) out s n s'
      go true m = counted_told r room out s tr p (before_eof (first r) outside w h m) (rw (sees_at src toks (first r) s.at.0 h ∙ m) at (reads.comes []).told) e
      go false m = let x = is_node (rw (sees_at src toks (first r) s.at.0 h ∙ m) at (reads.comes []).told) e in let z : ◌≡◌ {A = ℕ} 0 1 = cc in absurd (omega arith)

  -- a part with the values `ins` at hand: on a token before the end, or where no rule was opened on the token at hand
  module _ (ins : List Value) {p : Part Action Rule} {room : ℕ} {out : Shape} {s : State} {tr : List ℕ} {a : Parsed} {tr' : List ℕ} {n : NodeNumber} {s' : State} where
    counts : {high : ℕ} → T (clean pyhyeon Eof p) → T (low pyhyeon 10 high p) → T (afford prices 0 p) → s.at.0 ≤ eof_at toks → Stands pyhyeon prices frugal (meter src (tokens_of src toks)) p high (state src toks s tr (ins ++ [])) →
        owed (ins ++ []) ≡ 0 → Held s.nodes (ins ++ []) → Parts src toks room p ins out s tr a tr' → a ≡ read n s' → Counted src toks (takes least p) high (credit prices 0 p) out s n s'
    unfolding state meter counted owed Held
    counts {high} tidy lower cost h stands none all reads e =
        let st = state src toks s tr (ins ++ []) in
        let x : walk first (descend pyhyeon room) p s.opened st ≡ done s'.opened (state src toks s' tr' (out n.0 s'.nodes ∷ [])) = is_node (reads.comes []).told e in
        let b = left s.at.0 h in
        let c = at_done (walk_counts pyhyeon prices frugal (meter src (tokens_of src toks)) room p high 0 s.opened st tidy lower cost stands) x in
        let d = at_done (walk_along (keeps src (tokens_of src toks)) pyhyeon room p s.opened st) x in
        let m = length_nodes tr s.nodes in
        let m' = length_nodes tr' s'.nodes in
        record {
          on = omega (arith, c.on);
          here = omega (arith, c.sum);
          kept = omega (arith, d.grows);
          nodes = omega (arith, c.written);
          opened = omega (arith, c.opened);
          held = rw m' at (d.held (rw m all)).0;
          used = is_used (reads.comes []).told e;
        }

    pub counted_part : {high : ℕ} → Taking high p → s.at.0 < eof_at toks → owed (ins ++ []) ≡ 0 → Held s.nodes (ins ++ []) → Parts src toks room p ins out s tr a tr' → a ≡ read n s' →
        Counted src toks (takes least p) high (credit prices 0 p) out s n s'
    unfolding state
    counted_part {high} t h none all reads e =
        let some = ltb→lt 0 (takes least p) t.some in
        let b = left s.at.0 (omega arith) in
        counts t.tidy t.lower t.pays (omega arith) (on_token (leb→le high 10 t.few) some (omega arith)) none all reads e

    pub counted_fresh : Modest p → s.at.0 ≤ eof_at toks → owed (ins ++ []) ≡ 0 → Held s.nodes (ins ++ []) → Parts src toks room p ins out s tr a tr' → a ≡ read n s' →
        Counted src toks (takes least p) 10 (credit prices 0 p) out s n s'
    counted_fresh t h none all reads e = counts t.tidy t.lower t.pays h fresh none all reads e

module _ {src toks : List ℕ} {some spare : ℕ} {out : Shape} {s : State} {n : NodeNumber} {s' : State} where
  came : {high : ℕ} → 0 < some → Counted src toks some high spare out s n s' → Came src toks high out s n s'
  came l g = record { on = omega arith; here = g.here; kept = g.kept; nodes = omega arith; opened = g.opened; held = g.held; used = g.used }

  passed : Counted src toks some 10 spare out s n s' → Passed src toks out s n s'
  passed g = record { on = omega arith; here = g.here; kept = g.kept; nodes = omega arith; opened = omega arith; held = g.held; used = g.used }

module _ (src toks : List ℕ) (w : Tokens src toks) {room : ℕ} {out : Shape} {s : State} {tr : List ℕ} {a : Parsed} {tr' : List ℕ} {n : NodeNumber} {s' : State} where
  -- a rule, and a call of one
  pub came_rule : {r : Rule} → Pays r → s.at.0 < eof_at toks → Rules src toks room r out s tr a tr' → a ≡ read n s' → Came src toks (rank r + 1) out s n s'
  came_rule p h reads e = came (omega arith) (counted_rule src toks w p h reads e)

  pub came_call : {r : Rule} → Pays r → mem Eof (first r) ≡ false → s.at.0 ≤ eof_at toks → Parts src toks room (call r) [] out s tr a tr' → a ≡ read n s' → Came src toks (rank r + 1) out s n s'
  came_call p outside h reads e = came (omega arith) (counted_call src toks w p outside h reads e)

  module _ {p : Part Action Rule} where
    -- a part that takes a token, and is read on one before the end
    pub came_part : (ins : List Value) {high : ℕ} → Taking high p → s.at.0 < eof_at toks → owed (ins ++ []) ≡ 0 → Held s.nodes (ins ++ []) → Parts src toks room p ins out s tr a tr' → a ≡ read n s' → Came src toks high out s n s'
    came_part ins t h none all reads e = came (ltb→lt 0 (takes least p) t.some) (counted_part src toks w ins t h none all reads e)

    -- any, where no rule was opened on the token at hand; and one that takes a token
    pub passed_part : (ins : List Value) → Modest p → s.at.0 ≤ eof_at toks → owed (ins ++ []) ≡ 0 → Held s.nodes (ins ++ []) → Parts src toks room p ins out s tr a tr' → a ≡ read n s' → Passed src toks out s n s'
    passed_part ins t h none all reads e = passed (counted_fresh src toks w ins t h none all reads e)

    pub came_some : (ins : List Value) → Modest p → T (ltb 0 (takes least p)) → s.at.0 ≤ eof_at toks → owed (ins ++ []) ≡ 0 → Held s.nodes (ins ++ []) → Parts src toks room p ins out s tr a tr' → a ≡ read n s' → Came src toks 10 out s n s'
    came_some ins t some h none all reads e = came (ltb→lt 0 (takes least p) some) (counted_fresh src toks w ins t h none all reads e)

    -- the same with nothing at hand
    pub came_start : {high : ℕ} → Taking high p → s.at.0 < eof_at toks → Parts src toks room p [] out s tr a tr' → a ≡ read n s' → Came src toks high out s n s'
    unfolding owed Held
    came_start t h reads e = came_part [] t h refl tt reads e

    pub passed_start : Modest p → s.at.0 ≤ eof_at toks → Parts src toks room p [] out s tr a tr' → a ≡ read n s' → Passed src toks out s n s'
    unfolding owed Held
    passed_start t h reads e = passed_part [] t h refl tt reads e

    pub came_fresh : Modest p → T (ltb 0 (takes least p)) → s.at.0 ≤ eof_at toks → Parts src toks room p [] out s tr a tr' → a ≡ read n s' → Came src toks 10 out s n s'
    unfolding owed Held
    came_fresh t some h reads e = came_some [] t some h refl tt reads e
