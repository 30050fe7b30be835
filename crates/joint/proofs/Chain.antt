-- What the answer of a rule is made of: a law for each constructor of a part, as code meets it. The proof of a function names them in the order of
-- its tests and calls.
-- Assumes nothing.
use mathlib.Core.Path.{◌≡◌, refl, ap, sym, ◌∙◌}
use mathlib.Core.Bool.{Bool, true, false}
use mathlib.Core.List.{List, [], ◌∷◌, ◌++◌}
use Prim.Native.Nat.{ℕ, zero, suc, ◌+◌, ◌-◌, ◌≤◌}
use native.Mathlib.Omega.{arith}
use native.Mathlib.Numerals.{add-one}
use lib.Dec.{T}
use lib.ListN.{get_or}
use lib.Seq.{drop-cons}
use Rattle.grammar.specs.Sets.{mem}
use Rattle.grammar.specs.Grammar.{Part, skip, act, tok, see, call, ◌⨾◌, ◌∕◌, many, tail}
use Rattle.grammar.specs.Trial.{Machine, St, ok, fail, ok_if, take_from, take_p, act_p, skip_p}
use Rattle.grammar.specs.Descent.{Answer, done, no, deep, stuck, Walk, begins, null, then_d, same_d, seq_d, by_d, or_d, walk, enter, descend}
use Rattle.grammar.specs.Check.{low}
use Rattle.grammar.proofs.Step.{descend_is, many_is, list_is}
use Rattle.grammar.proofs.Whole.{Sound, tested}
use Rattle.std.specs.Prelude.{Ok, Err}
use Rattle.std.specs.Result.{IsErrAnd}
use Rattle.token.specs.declared.NodeNumber.{NodeNumber}
use Rattle.pyhyeon.specs.Symbol.{symbols}
use Rattle.pyhyeon.specs.Machine.{Value}
use Rattle.pyhyeon.specs.Action.{Action, perform, machine}
use Rattle.pyhyeon.specs.Rules.{Rule}
use Rattle.pyhyeon.specs.Tables.{joined, first, opens, pyhyeon}
use Rattle.pyhyeon.proofs.Language.{language}
use Rattle.leaves.specs.declared.State.{State}
use Rattle.leaves.specs.declared.Added.{Added}
use Rattle.leaves.specs.declared.Refused.{Refused}
use Rattle.leaves.specs.declared.Refused.TheVariants as refused
use Rattle.lookahead.specs.Tokens.{eof_at, text_before, tokens_of, symbol_at}
use Rattle.leaves.specs.Contract.{Parsed, read, past, kept, state, why, stopped, asked_for, Shape, a_node, Frame, Told, told_node, told_no, told_deep, Rules, Comes, Parts}
use Rattle.leaves.proofs.Asked.{asked_where}
use Rattle.leaves.proofs.Frames.{frame_none, frame_then}
use Rattle.lookahead.proofs.Tokens.{symbols_length, symbols_at, sees_at}

-- the tables pass their test
pub good : (r : Rule) → Sound pyhyeon r
good r = tested pyhyeon r (language.passes r)

-- answers that are one and the same hold the same
pub read_same : {n m : NodeNumber} {s t : State} → read n s ≡ read m t → (n ≡ m) × (s ≡ t)
read_same {n} {m} {s} {t} e = let d : ◌≡◌ {A = Added} (record { 0 = n; 1 = s }) (record { 0 = m; 1 = t }) = cc in (ap (λ (r : Added). r.0) d, ap (λ (r : Added). r.1) d)

-- answers that are the same refusal have one reason and one state
pub refused_same : {x y : Refused} → ◌≡◌ {A = Parsed} (Err x) (Err y) → (why x ≡ why y) × (stopped x ≡ stopped y)
refused_same {x} {y} e = let d : ◌≡◌ {A = Refused} x y = cc in (ap why d, ap stopped d)

-- what `?` hands on is the refusal that it met
pub handed_on : {e : Refused} (r : Parsed) → IsErrAnd r (λ y. y ≡ e) → r ≡ Err e
handed_on (Ok x) k = absurd k
handed_on (Err y) k = rw k refl

-- an answer that is a node tells what the descent came to
pub is_node : {src toks : List ℕ} {out : Shape} {vs : List Value} {x : Answer (machine src (tokens_of src toks))} {r : Parsed} {tr : List ℕ} {n : NodeNumber} {s : State} → Told src toks out vs x r tr → r ≡ read n s →
    x ≡ done s.opened (state src toks s tr (out n.0 s.nodes ∷ vs))
is_node (told_node n s tr u) e = let d = read_same e in rw (d.0, d.1) refl
is_node (told_no asked s tr ws u) e = cc
is_node (told_deep s tr ws u) e = cc

-- and the text before its token is counted
pub is_used : {src toks : List ℕ} {out : Shape} {vs : List Value} {x : Answer (machine src (tokens_of src toks))} {r : Parsed} {tr : List ℕ} {n : NodeNumber} {s : State} → Told src toks out vs x r tr → r ≡ read n s →
    s.used ≡ text_before src toks s.at.0
is_used {s = s} (told_node n s₁ tr u) e = rw (← (read_same e).1) u
is_used (told_no asked s tr ws u) e = let z : ◌≡◌ {A = ℕ} 0 1 = cc in absurd (omega arith)
is_used (told_deep s tr ws u) e = let z : ◌≡◌ {A = ℕ} 0 1 = cc in absurd (omega arith)

-- the words that stay, through an answer that is known
module _ {src toks : List ℕ} {room : ℕ} {p : Part Action Rule} {out : Shape} {vs ws : List Value} {s : State} {tr : List ℕ} {b : Parsed} {tr₁ : List ℕ} where
  frame_node : {s₁ : State} {n : NodeNumber} {m : ℕ} {t : List ℕ} → Comes src toks room p out vs ws s tr b tr₁ → b ≡ read n s₁ → Frame s₁.nodes tr₁ m t → Frame s.nodes tr m t
  frame_node c e f = frame_then (rw e at c.frame) f

  frame_stop : {x : Refused} → Comes src toks room p out vs ws s tr b tr₁ → b ≡ Err x → Frame s.nodes tr (stopped x).nodes tr₁
  frame_stop c e = rw e at c.frame

-- where what was asked for stops, no node is written
pub frame_asked : (set : List ℕ) (s : State) {x : Refused} {tr : List ℕ} → asked_for set s ≡ x → Frame s.nodes tr (stopped x).nodes tr
frame_asked set s a = rw (← a, asked_where set s) frame_none

infixr 40 ◌⨟◌
-- one after the other, grouped to the right
abbrev pub ◌⨟◌ : {Act R : Type 0} → Part Act R → Part Act R → Part Act R
skip ⨟ r = skip ⨾ r
act a ⨟ r = act a ⨾ r
tok set ⨟ r = tok set ⨾ r
see set ⨟ r = see set ⨾ r
call x ⨟ r = call x ⨾ r
(p ⨾ q) ⨟ r = p ⨾ (q ⨟ r)
(p ∕ q) ⨟ r = (p ∕ q) ⨾ r
many p ⨟ r = many p ⨾ r
tail c p ⨟ r = tail c p ⨾ r

module _ {Act : Type 0} {M : Machine Act} where
  then_assoc : (x : Answer M) (v w : Walk M) → then_d (then_d x v) w ≡ then_d x (seq_d v w)
  unfolding then_d seq_d
  then_assoc (done n s) v w = refl
  then_assoc (no asked n s) v w = refl
  then_assoc (deep n s) v w = refl
  then_assoc stuck v w = refl

  then_same : (x : Answer M) (v w : Walk M) → ((n : ℕ) (s : St M) → v n s ≡ w n s) → then_d x v ≡ then_d x w
  unfolding then_d
  then_same (done n s) v w h = h n s
  then_same (no asked n s) v w h = refl
  then_same (deep n s) v w h = refl
  then_same stuck v w h = refl

  -- a choice whose last way may be absent is a decision
  or_by : (b : Bool) (set : List ℕ) (v w : Walk M) (n : ℕ) (s : St M) → by_d b v w n s ≡ or_d b true set v w n s
  unfolding by_d or_d
  or_by true set v w n s = refl
  or_by false set v w n s = refl

module _ (src toks : List ℕ) (room : ℕ) where
  -- the walk of a part
  abbrev pub on : Part Action Rule → Walk (machine src (tokens_of src toks))
  on p = walk first (descend pyhyeon room) p

  pub regroup : (p q : Part Action Rule) (n : ℕ) (s : St (machine src (tokens_of src toks))) → on (p ⨟ q) n s ≡ then_d (on p n s) (on q)
  unfolding walk seq_d
  regroup skip q n s = refl
  regroup (act a) q n s = refl
  regroup (tok set) q n s = refl
  regroup (see set) q n s = refl
  regroup (call r) q n s = refl
  regroup (p ⨾ p') q n s = then_same (on p n s) (on (p' ⨟ q)) (seq_d (on p') (on q)) (λ n₁ s₁. regroup p' q n₁ s₁) ∙ sym (then_assoc (on p n s) (on p') (on q))
  regroup (p ∕ p') q n s = refl
  regroup (many p) q n s = refl
  regroup (tail c p) q n s = refl

-- what is seen at a token
module _ (src toks : List ℕ) where
  take_seen : (set : List ℕ) (s : State) (tr : List ℕ) (ws : List Value) → s.at.0 ≤ eof_at toks → mem (symbol_at src toks s.at.0) set ≡ true → take_p set (state src toks s tr ws) ≡ ok (state src toks (past s) tr ws)
  unfolding take_p take_from ok_if state
  take_seen set s tr ws h e =
      let i : ℕ = s.at.0 in
      let t : mem (get_or (symbols src (tokens_of src toks)) i 0) set ≡ true = ap (λ (c : ℕ). mem c set) (symbols_at src toks i h) ∙ e in
      rw (drop-cons (symbols src (tokens_of src toks)) i 0 (omega (arith, symbols_length src toks)), t, add-one)

  take_unseen : (set : List ℕ) (s : State) (tr : List ℕ) (ws : List Value) → s.at.0 ≤ eof_at toks → mem (symbol_at src toks s.at.0) set ≡ false → take_p set (state src toks s tr ws) ≡ fail
  unfolding take_p take_from ok_if state
  take_unseen set s tr ws h e =
      let i : ℕ = s.at.0 in
      let t : mem (get_or (symbols src (tokens_of src toks)) i 0) set ≡ false = ap (λ (c : ℕ). mem c set) (symbols_at src toks i h) ∙ e in
      rw (drop-cons (symbols src (tokens_of src toks)) i 0 (omega (arith, symbols_length src toks)), t)

-- one step of what is repeated, by what is seen
module _ (src toks : List ℕ) (room : ℕ) (s : State) (tr : List ℕ) (ws : List Value) (h : s.at.0 ≤ eof_at toks) where
  abbrev st : St (machine src (tokens_of src toks))
  st = state src toks s tr ws

  many_goes : (p q : Part Action Rule) → T (low pyhyeon 100 100 (many p)) → mem (symbol_at src toks s.at.0) (begins first p) ≡ true → on src toks room (many p ⨾ q) s.opened st ≡ on src toks room (p ⨟ (many p ⨾ q)) s.opened st
  unfolding walk seq_d by_d state
  many_goes p q l e =
      let b = sees_at src toks (begins first p) s.at.0 h ∙ e in
      let m = many_is pyhyeon good room p l s.opened st in
      ap (λ (x : Answer (machine src (tokens_of src toks))). then_d x (on src toks room q)) (rw b at m)
      ∙ then_assoc (on src toks room p s.opened st) (on src toks room (many p)) (on src toks room q)
      ∙ sym (regroup src toks room p (many p ⨾ q) s.opened st)

  many_none : (p : Part Action Rule) → T (low pyhyeon 100 100 (many p)) → mem (symbol_at src toks s.at.0) (begins first p) ≡ false → on src toks room (many p) s.opened st ≡ done s.opened st
  unfolding walk seq_d by_d state
  many_none p l e =
      let b = sees_at src toks (begins first p) s.at.0 h ∙ e in
      let m = many_is pyhyeon good room p l s.opened st in
      rw b at m

  many_turns : (p : Part Action Rule) → T (low pyhyeon 100 100 (many p)) → mem (symbol_at src toks s.at.0) (begins first p) ≡ true → on src toks room (many p) s.opened st ≡ on src toks room (p ⨟ many p) s.opened st
  unfolding walk seq_d by_d state
  many_turns p l e =
      let b = sees_at src toks (begins first p) s.at.0 h ∙ e in
      let m = many_is pyhyeon good room p l s.opened st in
      (rw b at m) ∙ sym (regroup src toks room p (many p) s.opened st)

  -- the rest of a list: no comma; a comma and no member; a comma and a member
  tail_stays : (c : ℕ) (p q : Part Action Rule) → T (low pyhyeon 100 100 p) → mem (symbol_at src toks s.at.0) (c ∷ []) ≡ false → on src toks room (tail c p ⨾ q) s.opened st ≡ on src toks room q s.opened st
  unfolding walk seq_d by_d then_d state
  tail_stays c p q l e =
      let b = sees_at src toks (c ∷ []) s.at.0 h ∙ e in
      let m = list_is pyhyeon good room c p l s.opened st in
      ap (λ (x : Answer (machine src (tokens_of src toks))). then_d x (on src toks room q)) (rw b at m)

  module _ (c : ℕ) (p q : Part Action Rule) (l : T (low pyhyeon 100 100 p)) (e : mem (symbol_at src toks s.at.0) (c ∷ []) ≡ true) (h' : s.at.0 + 1 ≤ eof_at toks) where
    abbrev st' : St (machine src (tokens_of src toks))
    st' = state src toks (past s) tr ws

    comma : on src toks room (tail c p) s.opened st ≡ by_d (mem (symbol_at src toks (s.at.0 + 1)) (begins first p)) (seq_d (on src toks room p) (on src toks room (tail c p))) done s.opened st'
    unfolding walk seq_d then_d same_d by_d state
    comma =
        let b = sees_at src toks (c ∷ []) s.at.0 h ∙ e in
        let m = list_is pyhyeon good room c p l s.opened st in
        (rw b at m) ∙ rw (take_seen src toks (c ∷ []) s tr ws h e, sees_at src toks (begins first p) (s.at.0 + 1) h')

    tail_shut : mem (symbol_at src toks (s.at.0 + 1)) (begins first p) ≡ false → on src toks room (tail c p ⨾ q) s.opened st ≡ on src toks room q s.opened st'
    unfolding walk seq_d then_d by_d
    tail_shut f = rw (comma, f)

    tail_goes : mem (symbol_at src toks (s.at.0 + 1)) (begins first p) ≡ true → on src toks room (tail c p ⨾ q) s.opened st ≡ on src toks room (p ⨟ (tail c p ⨾ q)) s.opened st'
    unfolding walk seq_d by_d
    tail_goes f =
        ap (λ (x : Answer (machine src (tokens_of src toks))). then_d x (on src toks room q)) (rw f at comma)
        ∙ then_assoc (on src toks room p s.opened st') (on src toks room (tail c p)) (on src toks room q)
        ∙ sym (regroup src toks room p (tail c p ⨾ q) s.opened st')

    -- behind the comma it is a member and the rest, or nothing
    tail_parts : begins first (p ⨾ tail c p) ≡ begins first p → on src toks room (tail c p ⨾ q) s.opened st ≡ on src toks room ((p ⨾ tail c p ∕ skip) ⨾ q) s.opened st'
    unfolding walk seq_d same_d null skip_p state
    tail_parts b =
        rw (comma, b, sees_at src toks (begins first p) (s.at.0 + 1) h')
        (ap (λ (x : Answer (machine src (tokens_of src toks))). then_d x (on src toks room q)) (or_by (mem (symbol_at src toks (s.at.0 + 1)) (begins first p)) _ _ done s.opened st'))

module _ {src toks : List ℕ} {room : ℕ} {out : Shape} {vs : List Value} {a : Parsed} {t : List ℕ} where
  -- a token that is there, and one that is not
  pub tok_then : {set : List ℕ} {q : Part Action Rule} {s : State} {tr : List ℕ} {ws : List Value} → s.at.0 ≤ eof_at toks → mem (symbol_at src toks s.at.0) set ≡ true →
      Comes src toks room q out vs ws (past s) tr a t → Comes src toks room (tok set ⨾ q) out vs ws s tr a t
  unfolding walk seq_d then_d same_d
  tok_then {set} {s = s} {tr = tr} {ws = ws} h e c = record { told = rw (take_seen src toks set s tr ws h e) c.told; frame = c.frame }

  -- an action, by what the code did to the tree
  pub act_then : {x : Action} {q : Part Action Rule} {s s' : State} {tr tr' : List ℕ} {ws ws' : List Value} → perform src (tokens_of src toks) x (kept s tr ws) ≡ kept s' tr' ws' → s.at ≡ s'.at → s.opened ≡ s'.opened → Frame s.nodes tr s'.nodes tr' →
      Comes src toks room q out vs ws' s' tr' a t → Comes src toks room (act x ⨾ q) out vs ws s tr a t
  unfolding walk seq_d then_d same_d act_p state
  act_then {s = s} {s' = s'} p e o f c = record { told = rw (p, e, o) c.told; frame = frame_then f c.frame }

  -- a part that code of its own reads
  pub part_then : {p q : Part Action Rule} {ins : List Value} {s s₁ : State} {tr tr₁ : List ℕ} {ws : List Value} {b : Parsed} {n : NodeNumber} {mid : Shape} → Parts src toks room p ins mid s tr b tr₁ → b ≡ read n s₁ →
      Comes src toks room q out vs (mid n.0 s₁.nodes ∷ ws) s₁ tr₁ a t → Comes src toks room (p ⨾ q) out vs (ins ++ ws) s tr a t
  unfolding walk seq_d then_d
  part_then {ws = ws} r e c = record { told = rw (is_node (r.comes ws).told e) c.told; frame = frame_node (r.comes ws) e c.frame }

  -- a part that is written as one, by its own parts
  pub flat : {p q : Part Action Rule} {s : State} {tr : List ℕ} {ws : List Value} → Comes src toks room (p ⨟ q) out vs ws s tr a t → Comes src toks room (p ⨾ q) out vs ws s tr a t
  unfolding walk seq_d
  flat {p} {q} {s} {tr} {ws} c = record { told = rw (regroup src toks room p q s.opened (state src toks s tr ws)) at c.told; frame = c.frame }

  -- a part that code of its own reads, at the head of a longer one
  pub flat_then : {p q : Part Action Rule} {ins : List Value} {s s₁ : State} {tr tr₁ : List ℕ} {ws : List Value} {b : Parsed} {n : NodeNumber} {mid : Shape} → Parts src toks room p ins mid s tr b tr₁ → b ≡ read n s₁ →
      Comes src toks room q out vs (mid n.0 s₁.nodes ∷ ws) s₁ tr₁ a t → Comes src toks room (p ⨟ q) out vs (ins ++ ws) s tr a t
  unfolding then_d
  flat_then {p} {q} {ins} {s} {tr = tr} {ws = ws} r e c = record { told = rw (regroup src toks room p q s.opened (state src toks s tr (ins ++ ws)), is_node (r.comes ws).told e) c.told; frame = frame_node (r.comes ws) e c.frame }

  -- what is repeated: one more, or no more
  pub many_on : {p q : Part Action Rule} {s : State} {tr : List ℕ} {ws : List Value} → T (low pyhyeon 100 100 (many p)) → s.at.0 ≤ eof_at toks → mem (symbol_at src toks s.at.0) (begins first p) ≡ true →
      Comes src toks room (p ⨟ (many p ⨾ q)) out vs ws s tr a t → Comes src toks room (many p ⨾ q) out vs ws s tr a t
  many_on {p} {q} {s = s} {tr = tr} {ws = ws} l h e c = record { told = rw (many_goes src toks room s tr ws h p q l e) c.told; frame = c.frame }

  pub many_end : {p q : Part Action Rule} {s : State} {tr : List ℕ} {ws : List Value} → T (low pyhyeon 100 100 (many p)) → s.at.0 ≤ eof_at toks → mem (symbol_at src toks s.at.0) (begins first p) ≡ false →
      Comes src toks room q out vs ws s tr a t → Comes src toks room (many p ⨾ q) out vs ws s tr a t
  unfolding walk seq_d then_d
  many_end {p} {q} {s = s} {tr = tr} {ws = ws} l h e c = record { told = rw (many_none src toks room s tr ws h p l e) c.told; frame = c.frame }

  -- the same at the end of a rule
  pub turn_on : {p : Part Action Rule} {s : State} {tr : List ℕ} {ws : List Value} → T (low pyhyeon 100 100 (many p)) → s.at.0 ≤ eof_at toks → mem (symbol_at src toks s.at.0) (begins first p) ≡ true →
      Comes src toks room (p ⨟ many p) out vs ws s tr a t → Comes src toks room (many p) out vs ws s tr a t
  turn_on {p} {s = s} {tr = tr} {ws = ws} l h e c = record { told = rw (many_turns src toks room s tr ws h p l e) c.told; frame = c.frame }

  -- the rest of a list: no comma; a comma and no member; a comma and a member
  pub list_end : {i : ℕ} {p q : Part Action Rule} {s : State} {tr : List ℕ} {ws : List Value} → T (low pyhyeon 100 100 p) → s.at.0 ≤ eof_at toks → mem (symbol_at src toks s.at.0) (i ∷ []) ≡ false →
      Comes src toks room q out vs ws s tr a t → Comes src toks room (tail i p ⨾ q) out vs ws s tr a t
  list_end {i} {p} {q} {s = s} {tr = tr} {ws = ws} l h e c = record { told = rw (tail_stays src toks room s tr ws h i p q l e) c.told; frame = c.frame }

  pub list_shut : {i : ℕ} {p q : Part Action Rule} {s : State} {tr : List ℕ} {ws : List Value} → T (low pyhyeon 100 100 p) → s.at.0 + 1 ≤ eof_at toks → mem (symbol_at src toks s.at.0) (i ∷ []) ≡ true →
      mem (symbol_at src toks (s.at.0 + 1)) (begins first p) ≡ false → Comes src toks room q out vs ws (past s) tr a t → Comes src toks room (tail i p ⨾ q) out vs ws s tr a t
  list_shut {i} {p} {q} {s = s} {tr = tr} {ws = ws} l h e f c = record { told = rw (tail_shut src toks room s tr ws (omega arith) i p q l e h f) c.told; frame = c.frame }

  pub list_on : {i : ℕ} {p q : Part Action Rule} {s : State} {tr : List ℕ} {ws : List Value} → T (low pyhyeon 100 100 p) → s.at.0 + 1 ≤ eof_at toks → mem (symbol_at src toks s.at.0) (i ∷ []) ≡ true →
      mem (symbol_at src toks (s.at.0 + 1)) (begins first p) ≡ true → Comes src toks room (p ⨟ (tail i p ⨾ q)) out vs ws (past s) tr a t → Comes src toks room (tail i p ⨾ q) out vs ws s tr a t
  list_on {i} {p} {q} {s = s} {tr = tr} {ws = ws} l h e f c = record { told = rw (tail_goes src toks room s tr ws (omega arith) i p q l e h f) c.told; frame = c.frame }

  -- the same of what was read already: behind the comma stands a member and the rest, or nothing
  pub list_parts : {i : ℕ} {p q : Part Action Rule} {s : State} {tr : List ℕ} {ws : List Value} → T (low pyhyeon 100 100 p) → s.at.0 + 1 ≤ eof_at toks → mem (symbol_at src toks s.at.0) (i ∷ []) ≡ true → begins first (p ⨾ tail i p) ≡ begins first p →
      Comes src toks room (tail i p ⨾ q) out vs ws s tr a t → Comes src toks room ((p ⨾ tail i p ∕ skip) ⨾ q) out vs ws (past s) tr a t
  list_parts {i} {p} {q} {s = s} {tr = tr} {ws = ws} l h e b c = record { told = rw (tail_parts src toks room s tr ws (omega arith) i p q l e h b) at c.told; frame = c.frame }

-- one opening more
abbrev pub raised : State → State
raised s = record { at = s.at; nodes = s.nodes; opened = s.opened + 1; used = s.used }

-- a rule is its body, with one opening more
module _ {src toks : List ℕ} {room : ℕ} {r : Rule} {out : Shape} {s : State} {tr : List ℕ} where
  pub open_plain : {a : Parsed} {t : List ℕ} → opens r ≡ false → ((vs : List Value) → Comes src toks room (joined r) out vs vs (raised s) tr a t) → Rules src toks room r out s tr a t
  unfolding state enter
  open_plain o c = record { told = λ vs. rw (descend_is pyhyeon good room r s.opened (state src toks s tr vs), o) (c vs).told; frame = (c []).frame }

  -- E and Block take of the room
  pub open_deep : opens r ≡ true → s.used ≡ text_before src toks s.at.0 → room ≡ 0 → Rules src toks room r out s tr (Err (refused.TooDeep s)) tr
  unfolding enter
  open_deep o u z = record { told = λ vs. rw (descend_is pyhyeon good room r s.opened (state src toks s tr vs), o, z) (told_deep s tr vs u); frame = frame_none }

  pub open_room : {a : Parsed} {t : List ℕ} → opens r ≡ true → (room ≡ 0 → ⊥) → ((vs : List Value) → Comes src toks (room - 1) (joined r) out vs vs (raised s) tr a t) → Rules src toks room r out s tr a t
  unfolding enter state
  open_room {a} {t} o nz c = go room nz c
    where
      go : (m : ℕ) → (m ≡ 0 → ⊥) → ((vs : List Value) → Comes src toks (m - 1) (joined r) out vs vs (raised s) tr a t) → Rules src toks m r out s tr a t
      go zero nz c = absurd (nz refl)
      go (suc m) nz c = let e : suc m - 1 ≡ m = omega arith in record { told = λ vs. rw (descend_is pyhyeon good (suc m) r s.opened (state src toks s tr vs), o) (rw e at (c vs).told); frame = (c []).frame }

stop : {src toks : List ℕ} {out mid : Shape} {vs us : List Value} {x : Answer (machine src (tokens_of src toks))} {b : Parsed} {t : List ℕ} {x₁ : Refused} (w : Walk (machine src (tokens_of src toks))) → Told src toks mid us x b t → b ≡ Err x₁ → Told src toks out vs (then_d x w) (Err x₁) t
unfolding then_d
stop w (told_node n s tr u) e = absurd (let z : ◌≡◌ {A = ℕ} 0 1 = cc in omega arith)
stop w (told_no asked s tr ws u) e = rw (← e) (told_no asked s tr ws u)
stop w (told_deep s tr ws u) e = rw (← e) (told_deep s tr ws u)

-- where a part ends: the node, or the refusal
module _ {src toks : List ℕ} {room : ℕ} {out : Shape} {vs : List Value} where
  pub act_last : {x : Action} {s s' : State} {tr tr' : List ℕ} {ws : List Value} {n : NodeNumber} → perform src (tokens_of src toks) x (kept s tr ws) ≡ kept s' tr' (out n.0 s'.nodes ∷ vs) → s.at ≡ s'.at → s.opened ≡ s'.opened → Frame s.nodes tr s'.nodes tr' → s'.used ≡ text_before src toks s'.at.0 →
      Comes src toks room (act x) out vs ws s tr (read n s') tr'
  unfolding walk same_d act_p state
  act_last {s' = s'} {tr' = tr'} {n = n} p e o f u = record { told = rw (p, e, o) (told_node n s' tr' u); frame = f }

  -- nothing, after a node
  pub skip_end : {s : State} {tr : List ℕ} {n : NodeNumber} → s.used ≡ text_before src toks s.at.0 → Comes src toks room skip out vs (out n.0 s.nodes ∷ vs) s tr (read n s) tr
  unfolding walk same_d skip_p
  skip_end {s} {tr} {n} u = record { told = told_node n s tr u; frame = frame_none }

  pub turn_end : {p : Part Action Rule} {s : State} {tr : List ℕ} {n : NodeNumber} → T (low pyhyeon 100 100 (many p)) → s.at.0 ≤ eof_at toks → mem (symbol_at src toks s.at.0) (begins first p) ≡ false → s.used ≡ text_before src toks s.at.0 →
      Comes src toks room (many p) out vs (out n.0 s.nodes ∷ vs) s tr (read n s) tr
  turn_end {p} {s} {tr} {n} l h e u = record { told = rw (many_none src toks room s tr (out n.0 s.nodes ∷ vs) h p l e) (told_node n s tr u); frame = frame_none }

  pub tok_not : {set : List ℕ} {x : Refused} {q : Part Action Rule} {s : State} {tr : List ℕ} {ws : List Value} → s.at.0 ≤ eof_at toks → s.used ≡ text_before src toks s.at.0 → mem (symbol_at src toks s.at.0) set ≡ false → asked_for set s ≡ x →
      Comes src toks room (tok set ⨾ q) out vs ws s tr (Err x) tr
  unfolding walk seq_d then_d same_d
  tok_not {set} {s = s} {tr = tr} {ws = ws} h u e a = record { told = rw (take_unseen src toks set s tr ws h e, ← a) (told_no set s tr ws u); frame = frame_asked set s a }

  pub part_stop : {p q : Part Action Rule} {ins : List Value} {s : State} {tr tr₁ : List ℕ} {b : Parsed} {x : Refused} {mid : Shape} (ws : List Value) → Parts src toks room p ins mid s tr b tr₁ → b ≡ Err x →
      Comes src toks room (p ⨾ q) out vs (ins ++ ws) s tr (Err x) tr₁
  unfolding walk seq_d
  part_stop {q = q} ws r e = record { told = stop (on src toks room q) (r.comes ws).told e; frame = frame_stop (r.comes ws) e }

module _ {src toks : List ℕ} {room : ℕ} {out : Shape} {vs : List Value} where
  pub flat_stop : {p : Part Action Rule} {ins : List Value} {s : State} {tr tr₁ : List ℕ} {b : Parsed} {x : Refused} {mid : Shape} (q : Part Action Rule) (ws : List Value) → Parts src toks room p ins mid s tr b tr₁ → b ≡ Err x →
      Comes src toks room (p ⨟ q) out vs (ins ++ ws) s tr (Err x) tr₁
  flat_stop {p} {ins} {s} {tr = tr} q ws r e = record { told = rw (regroup src toks room p q s.opened (state src toks s tr (ins ++ ws))) (stop (on src toks room q) (r.comes ws).told e); frame = frame_stop (r.comes ws) e }

-- a call of a rule
module _ {src toks : List ℕ} {room : ℕ} {r : Rule} {out : Shape} {s : State} {tr : List ℕ} where
  pub called : {a : Parsed} {t : List ℕ} → s.at.0 ≤ eof_at toks → mem (symbol_at src toks s.at.0) (first r) ≡ true → Rules src toks room r out s tr a t → Parts src toks room (call r) [] out s tr a t
  unfolding walk by_d state
  called h e c = record { comes = λ vs. record { told = rw (sees_at src toks (first r) s.at.0 h ∙ e) (c.told vs); frame = c.frame } }

  pub no_call : {x : Refused} → s.at.0 ≤ eof_at toks → s.used ≡ text_before src toks s.at.0 → mem (symbol_at src toks s.at.0) (first r) ≡ false → asked_for (first r) s ≡ x → Parts src toks room (call r) [] out s tr (Err x) tr
  unfolding walk by_d state
  no_call h u e a = record { comes = λ vs. record { told = rw (sees_at src toks (first r) s.at.0 h ∙ e, ← a) (told_no (first r) s tr vs u); frame = frame_asked (first r) s a } }

-- the same where more was to follow, and so any shape will do
pub not_called : {src toks : List ℕ} {room : ℕ} {r : Rule} {s : State} {tr : List ℕ} {x : Refused} → s.at.0 ≤ eof_at toks → s.used ≡ text_before src toks s.at.0 → mem (symbol_at src toks s.at.0) (first r) ≡ false → asked_for (first r) s ≡ x → Parts src toks room (call r) [] a_node s tr (Err x) tr
not_called = no_call
