-- From what a step answered to what the areas hold.
-- Assumes nothing.
use mathlib.Core.Path.{◌≡◌, refl, sym, ap, ◌∙◌, subst}
use mathlib.Core.List.{List, [], ◌++◌, append-nil}
use Rattle.std.specs.Prelude.{Result, Ok, Err}
use Prim.Native.Nat.{ℕ, ◌+◌, ◌-◌, ◌*◌, ◌≤◌}
use native.Mathlib.Omega.{arith}
use lib.ListN.{length, take, drop, replicate, length-append, length-replicate, drop_of_length-le}
use Rattle.areas.specs.Area.{area, token_area}
use Rattle.token.specs.declared.NodeNumber.{NodeNumber}
use Rattle.lexer.specs.Scan.{Scan, scanned, refused, token_list}
use Rattle.lexer.specs.Words.{answer_of, words_of, text_bytes, Scans}
use Rattle.lexer.specs.declared.Scanned.{Scanned}
use Rattle.lexer.proofs.Writing.{length_words}
use Rattle.lexer.proofs.Laws.{tokens_few, text_few}
use Rattle.ast.specs.Words.{nodes_of}
use Rattle.ast.proofs.Nodes.{length_nodes}
use Rattle.pyhyeon.specs.Reading.{Descended, Accepted, Limited, work_of, descent}
use Rattle.pyhyeon.proofs.Limits.{limits}
use Rattle.leaves.specs.declared.State.{State}
use Rattle.leaves.specs.declared.Refused.{Refused}
use Rattle.leaves.specs.Contract.{Parsed, read, why, stopped, asked_reason}
use Rattle.leaves.proofs.Asked.{asked_why, asked_where}
use Rattle.lookahead.specs.Tokens.{code_at, start_at}
use Rattle.joint.proofs.Handed.{Handed, handed_front}
use Rattle.reader.specs.Outcome.{Outcome, tree_area, header, of_descent, of_scan}
use Rattle.reader.specs.Steps.{Exact, padded, Held, Tells, Counted, Fills}
use Rattle.source.specs.Reasons.{refusal_at}
use Rattle.source.specs.declared.refusal.Reason.{Reason}
use Rattle.source.specs.declared.refusal.Refusal.{Refusal}
use Rattle.reader.specs.Answer as answer
use Rattle.reader.specs.Answer.{Answer, before}
use Rattle.reader.proofs.Filled.{zeros_pad, records_of}
use Rattle.reader.proofs.Came.{work_at, Came, came_node, came_no, came_deep}

-- ---- the tokens that are handed on

pub hands : {src : List ℕ} {count used : ℕ} {tokens text : List ℕ} → Held src count used tokens text → Handed src count used tokens
unfolding padded
hands {src} {tokens = tokens} h = handed_front tokens (replicate (token_area (length src) - length (words_of (token_list src))) 0) h.small h.answer h.tokens_are

length_padded : (size : ℕ) (filled : List ℕ) → length filled ≤ size → length (padded size filled) ≡ size
unfolding padded
length_padded size filled h = length-append filled (replicate (size - length filled) 0) ∙ omega (arith, length-replicate {A = ℕ} (size - length filled) 0)

module _ {src : List ℕ} {count used : ℕ} {tokens text : List ℕ} (held : Held src count used tokens text) where
  fill_few : (x : Scan) → token_list src ≡ x → (length (words_of x) ≤ token_area (length src)) × (length (text_bytes x) ≤ length src)
  fill_few (refused number place) e = (omega arith, omega arith)
  fill_few (scanned ts bs) e = (omega (arith, length_words ts, tokens_few src ts bs e), text_few src ts bs e)

  pub held_tokens : length tokens ≡ token_area (length src)
  held_tokens = ap length held.tokens_are ∙ length_padded (token_area (length src)) (words_of (token_list src)) (fill_few (token_list src) refl).0

  pub held_text : length text ≡ length src
  held_text = ap length held.text_is ∙ length_padded (length src) (text_bytes (token_list src)) (fill_few (token_list src) refl).1

-- ---- the descent's answer

module _ {toks : List ℕ} {T : ℕ} where
  pub told : {d : Descended} {a b : Parsed} {tr : List ℕ} → a ≡ b → Came toks T d a tr → Came toks T d b tr
  told {d} {tr = tr} e c = subst (λ (x : Parsed). Came toks T d x tr) e c

  pub stop_here : {d : Descended} {x : Refused} {tr : List ℕ} → Came toks T d (Err x) tr → (stopped x).at.0 ≤ T
  stop_here (came_no asked s tr h) = rw (asked_where asked s) h
  stop_here (came_deep s tr h) = h

  node_is : {d : Descended} {n : NodeNumber} {s : State} {tr : List ℕ} → Came toks T d (read n s) tr → (d ≡ Accepted (work_at T s tr)) × (1 ≤ s.nodes)
  node_is (came_node n s tr h) = (refl, h)

  few : {d : Descended} {n : NodeNumber} {s : State} {tr : List ℕ} → Came toks T d (read n s) tr → Limited (work_of d) → (s.nodes ≤ 2 * T + 1) × (s.opened ≤ 10 * T + 1)
  few (came_node n s tr h) l = (omega (arith, l.nodes, length_nodes tr s.nodes), l.openings)

-- a refusal at a state
abbrev pub stop_at : ℕ → Reason → ℕ → State → Answer
stop_at count given place s = Err (record { refusal = record { reason = given; place = place }; tokens = count; nodes = s.nodes; openings = s.opened })

module _ {src : List ℕ} {count used : ℕ} {tokens text : List ℕ} (held : Held src count used tokens text) (h : Handed src count used tokens) {tr : List ℕ} where
  -- the counts of an accepted source
  pub counts : {toks : List ℕ} {n : NodeNumber} {s : State} → Came toks count (descent src h.ts) (read n s) tr → Counted (length src) (record { tokens = count; nodes = s.nodes; text = used; openings = s.opened })
  counts {s = s} c =
      let f = few c (limits src h.ts) in
      record { small = held.small; few_tokens = h.few; few_bytes = h.few_bytes; some = (node_is c).1; few_nodes = f.0; few_openings = f.1 }

  pub accepts : {toks : List ℕ} {n : NodeNumber} {s : State} {r : Answer} {tree : List ℕ} → length tr ≡ tree_area (length src) → Came toks count (descent src h.ts) (read n s) tr
      → r ≡ answer.tree count s.nodes used s.opened → tree ≡ padded (tree_area (length src)) (header (length src) count used s.nodes s.opened ++ take (8 * s.nodes) (drop 8 tr))
      → Fills (of_scan src (token_list src)) (length src) r tokens text tree
  accepts {s = s} {r = r} {tree = tree} long c a e =
      let k = counts c in
      let m : length (nodes_of tr s.nodes) ≡ s.nodes = length_nodes tr s.nodes in
      let is : of_scan src (token_list src) ≡ of_descent (length src) h.ts h.bs (Accepted (work_at count s tr)) = ap (of_scan src) h.is ∙ ap (of_descent (length src) h.ts h.bs) (node_is c).0 in
      subst (λ (o : Outcome). Fills o (length src) r tokens text tree) (sym is)
      (record {
        answer = a ∙ rw (m, ← h.bytes);
        tokens_are = held.tokens_are ∙ ap (λ (x : Scan). padded (token_area (length src)) (words_of x)) h.is;
        text_is = held.text_is ∙ ap (λ (x : Scan). padded (length src) (text_bytes x)) h.is;
        tree_is = rw (m, ← h.bytes) (e ∙ ap (λ (l : List ℕ). padded (tree_area (length src)) (header (length src) count used s.nodes s.opened ++ l)) (records_of tr s.nodes (omega arith)));
      })

  -- a refusal: zeros alone
  pub refuses : {toks : List ℕ} {code place : ℕ} {x : Refused} {k given : Reason} {s : State} {tokens' text' tree' : List ℕ} → length tr ≡ tree_area (length src) → Came toks count (descent src h.ts) (Err x) tr → k ≡ why x → s ≡ stopped x → Tells k code given → code ≡ code_at toks s.at.0 → place ≡ start_at toks s.at.0
      → tokens' ≡ replicate (length tokens) 0 → text' ≡ replicate (length text) 0 → tree' ≡ replicate (length tr) 0
      → Fills (of_scan src (token_list src)) (length src) (stop_at count given place s) tokens' text' tree'
  refuses {toks} {code} {place} {x} {k} {given} {s} {tokens'} {text'} {tree'} long c i j m o e p q r =
      rw j (subst (λ (y : Scan). Fills (of_scan src y) (length src) (stop_at count given place (stopped x)) tokens' text' tree') (sym h.is)
      (subst (λ (w : ℕ). Fills (of_descent (length src) h.ts h.bs (descent src h.ts)) (length src) (stop_at count given w (stopped x)) tokens' text' tree') (sym (rw j at e)) (go c (rw (i, o, j) at m))))
    where
      go : {d : Descended} {y : Refused} {t : List ℕ} → Came toks count d (Err y) t → Tells (why y) (code_at toks (stopped y).at.0) given → Fills (of_descent (length src) h.ts h.bs d) (length src) (stop_at count given (start_at toks (stopped y).at.0) (stopped y)) tokens' text' tree'
      go (came_no asked s tr l) w =
          let v : Tells (asked_reason asked) (code_at toks s.at.0) given = rw (asked_where asked s, asked_why asked s) at w in
          rw (asked_where asked s, length_nodes tr s.nodes, v.unfit asked refl) (record { answer = refl; tokens_are = p ∙ zeros_pad (held_tokens held); text_is = q ∙ zeros_pad (held_text held); tree_is = r ∙ zeros_pad long })
      go (came_deep s tr l) w = rw (length_nodes tr s.nodes, w.deep refl) (record { answer = refl; tokens_are = p ∙ zeros_pad (held_tokens held); text_is = q ∙ zeros_pad (held_text held); tree_is = r ∙ zeros_pad long })

-- ---- the scanner's answer

-- a slice that is its area has nothing beyond
exact_area : (size : ℕ) (filled before : List ℕ) → length before ≡ size → area size filled before ≡ padded size filled
unfolding area padded
exact_area size filled before e = rw (drop_of_length-le before {i = size} (omega arith), append-nil)

module _ {src tokens text tree : List ℕ} (x : Exact src tokens text tree) {r : Result Scanned Refusal} {tokens' text' : List ℕ} (h : Scans src r tokens text tokens' text') where
  scans_tokens : tokens' ≡ padded (token_area (length src)) (words_of (token_list src))
  scans_tokens = h.tokens_are ∙ exact_area (token_area (length src)) (words_of (token_list src)) tokens x.tokens_long

  scans_text : text' ≡ padded (length src) (text_bytes (token_list src))
  scans_text = h.text_is ∙ exact_area (length src) (text_bytes (token_list src)) text x.text_long

  pub scan_held : {count used : ℕ} → r ≡ Ok (record { count = count; text = used }) → Held src count used tokens' text'
  scan_held e = record { small = x.small; answer = sym e ∙ h.answer; tokens_are = scans_tokens; text_is = scans_text }

  pub scan_no : {p : Refusal} {tree' : List ℕ} → r ≡ Err p → tree' ≡ padded (tree_area (length src)) [] → Fills (of_scan src (token_list src)) (length src) (before p) tokens' text' tree'
  scan_no {p} {tree'} e z = go (token_list src) (sym e ∙ h.answer) scans_tokens scans_text
    where
      go : (s : Scan) → Err p ≡ answer_of s → tokens' ≡ padded (token_area (length src)) (words_of s) → text' ≡ padded (length src) (text_bytes s) → Fills (of_scan src s) (length src) (before p) tokens' text' tree'
      go (scanned ts bs) a l t = let z : ◌≡◌ {A = ℕ} 0 1 = cc in absurd (omega arith)
      go (refused number place) a l t =
          let same : p ≡ refusal_at number place = cc in
          record { answer = ap before same; tokens_are = l; text_is = t; tree_is = z }
