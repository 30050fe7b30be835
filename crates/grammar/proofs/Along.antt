-- A relation between the states before and after, reflexive and transitive, that every step of a grammar keeps, holds from the start of a descent to its end,
-- accepted or refused. A step is a token, an action, or a token with the action right behind it, for what only the two together keep. An action is never refused,
-- so no descent ends between them.
-- Assumes nothing.
use mathlib.Core.Bool.{Bool, true, false, ◌&&◌, ◌||◌}
use mathlib.Core.List.{List, [], ◌∷◌}
use mathlib.Core.Logic.{⊎_elim}
use Prim.Native.Nat.{ℕ, zero, suc}
use lib.Dec.{T}
use lib.ListN.{length}
use Rattle.grammar.specs.Sets.{mem, sees, apart}
use Rattle.grammar.specs.Grammar.{Part, skip, act, tok, see, call, ◌⨾◌, ◌∕◌, many, tail}
use Rattle.grammar.specs.Trial.{Machine, St, skip_p, take_from, take_p, see_p, act_p, enough}
use Rattle.grammar.specs.Descent.{Plan, Answer, Walk, null, begins, same_d, seq_d, many_d, list_d, walk, rule_d, descend}
use Rattle.grammar.proofs.Sets.{and_l, and_r, and_i, or_l, or_e, mem_apart}
use Rattle.grammar.proofs.Begin.{On, on_fail, on_if}
use Rattle.grammar.proofs.Ends.{Ends, ends_done, ends_no, ends_stuck, ends_map, ends_then, ends_by, ends_or, ends_same, ends_loop, ends_tail, ends_enter}

-- A token in `due` may only be taken with a `paired` action right behind it; any other token, and an action that is `free`, may stand alone. A paired action may
-- follow any token.
pub record Steps (Act : Type 0) : Type 0 where
  pub due : List ℕ
  pub free : Act → Bool
  pub paired : Act → Bool

-- one token; one action that passes the test
unfoldable is_tok : {Act R : Type 0} → Part Act R → Bool
is_tok skip = false
is_tok (act a) = false
is_tok (tok set) = true
is_tok (see set) = false
is_tok (call r) = false
is_tok (p ⨾ q) = false
is_tok (p ∕ q) = false
is_tok (many p) = false
is_tok (tail c p) = false

unfoldable is_act : {Act R : Type 0} → (Act → Bool) → Part Act R → Bool
is_act test skip = false
is_act test (act a) = test a
is_act test (tok set) = false
is_act test (see set) = false
is_act test (call r) = false
is_act test (p ⨾ q) = false
is_act test (p ∕ q) = false
is_act test (many p) = false
is_act test (tail c p) = false

-- A part is made of such steps: a test that antt computes. A pair is seen only at the end of a sequence, since `◌⨾◌` groups to the right.
unfoldable pub made_of : {Act R : Type 0} → Steps Act → Part Act R → Bool
unfolding is_tok is_act
made_of W skip = true
made_of W (act a) = W.free a
made_of W (tok set) = apart set W.due
made_of W (see set) = true
made_of W (call r) = true
made_of W (p ⨾ q) = made_of W p && made_of W q || is_tok p && is_act W.paired q
made_of W (p ∕ q) = made_of W p && made_of W q
made_of W (many p) = made_of W p
made_of W (tail c p) = apart (c ∷ []) W.due && made_of W p

-- the steps keep the relation
pub record Keeps {Act : Type 0} (M : Machine Act) (W : Steps Act) (Rel : St M → St M → Type 0) : Type 0 where
  pub same : (s : St M) → Rel s s
  pub on : {s s₁ s₂ : St M} → Rel s s₁ → Rel s₁ s₂ → Rel s s₂
  pub shifted : (t : ℕ) → (T (mem t W.due) → ⊥) → (l : List ℕ) (k : M.Kept) → Rel (record { rest = t ∷ l; kept = k }) (record { rest = l; kept = M.shift t k })
  pub acted : (a : Act) → T (W.free a) → (s : St M) → Rel s (record { rest = s.rest; kept = M.run a s.kept })
  pub both : (a : Act) → T (W.paired a) → (t : ℕ) (l : List ℕ) (k : M.Kept) → Rel (record { rest = t ∷ l; kept = k }) (record { rest = l; kept = M.run a (M.shift t k) })

module _ {Act : Type 0} {M : Machine Act} {W : Steps Act} {Rel : St M → St M → Type 0} (keeps : Keeps M W Rel) where
  -- the state at the end is related to s, in acceptance and in refusal
  abbrev pub From : St M → Answer M → Type 0
  From s x = Ends (λ _ s'. Rel s s') (λ _ s'. Rel s s') x

  onward : {s s₁ : St M} {x : Answer M} → Rel s s₁ → From s₁ x → From s x
  onward h e = ends_map (λ n₁ s₂ i. keeps.on h i) (λ n₁ s₂ i. keeps.on h i) e

  take_along : (set : List ℕ) → T (apart set W.due) → (l : List ℕ) (k : M.Kept) → On (Rel (record { rest = l; kept = k })) (take_from {M = M} set l k)
  unfolding take_from
  take_along set a [] k = on_fail
  take_along set a (t ∷ ts) k = on_if (mem t set) (record { rest = ts; kept = M.shift t k }) (λ m. keeps.shifted t (mem_apart t set W.due a m) ts k)

  take-from : (set : List ℕ) → T (apart set W.due) → (n : ℕ) (s : St M) → From s (same_d set (take_p set s) n s)
  unfolding take_p
  take-from set a n s = ends_same set n s (take_along set a s.rest s.kept) (λ s' h. h) (keeps.same s)

  -- a token, and the action behind it
  abbrev after : Act → St M → St M
  after a s = record { rest = s.rest; kept = M.run a s.kept }

  both_along : (set : List ℕ) (a : Act) → T (W.paired a) → (l : List ℕ) (k : M.Kept) → On (λ s. Rel (record { rest = l; kept = k }) (after a s)) (take_from {M = M} set l k)
  unfolding take_from
  both_along set a h [] k = on_fail
  both_along set a h (t ∷ ts) k = on_if {P = λ s. Rel (record { rest = t ∷ ts; kept = k }) (after a s)} (mem t set) (record { rest = ts; kept = M.shift t k }) (λ _. keeps.both a h t ts k)

  both_from : {R : Type 0} (first : R → List ℕ) (env : R → Walk M) (p q : Part Act R) → T (is_tok p) → T (is_act W.paired q) → (n : ℕ) (s : St M) → From s (seq_d (walk first env p) (walk first env q) n s)
  unfolding walk is_tok is_act take_p act_p same_d seq_d
  both_from first env skip q h i n s = absurd h
  both_from first env (act a) q h i n s = absurd h
  both_from {R = R} first env (tok set) q h i n s = go q i
    where
      go : (q : Part Act R) → T (is_act W.paired q) → From s (seq_d (walk first env (tok set)) (walk first env q) n s)
      go skip i = absurd i
      go (act a) i = ends_then (ends_same set n s (both_along set a i s.rest s.kept) (λ s' h. h) (keeps.same s)) (λ n₁ s₁ h. ends_done h)
      go (tok set) i = absurd i
      go (see set) i = absurd i
      go (call r) i = absurd i
      go (p ⨾ q) i = absurd i
      go (p ∕ q) i = absurd i
      go (many p) i = absurd i
      go (tail c p) i = absurd i
  both_from first env (see set) q h i n s = absurd h
  both_from first env (call r) q h i n s = absurd h
  both_from first env (p ⨾ p') q h i n s = absurd h
  both_from first env (p ∕ p') q h i n s = absurd h
  both_from first env (many p) q h i n s = absurd h
  both_from first env (tail c p) q h i n s = absurd h

  -- a part, where the rules do so
  along_part : {R : Type 0} (first : R → List ℕ) {env : R → Walk M} → ((r : R) (n : ℕ) (s : St M) → From s (env r n s)) →
      (p : Part Act R) → T (made_of W p) → (n : ℕ) (s : St M) → From s (walk first env p n s)
  unfolding walk made_of skip_p act_p see_p same_d seq_d many_d list_d
  along_part first he skip t n s = ends_done (keeps.same s)
  along_part first he (act a) t n s = ends_done (keeps.acted a t s)
  along_part first he (tok set) t n s = take-from set t n s
  along_part first he (see set) t n s = ends_same set n s (on_if {P = Rel s} (sees set s.rest) s (λ _. keeps.same s)) (λ s' h. h) (keeps.same s)
  along_part first {env} he (call r) t n s = ends_by (sees (first r) s.rest) (env r) _ n s (λ _. he r n s) (ends_no (keeps.same s))
  along_part first {env} he (p ⨾ q) t n s =
      ⊎_elim
      (λ h. ends_then (along_part first he p (and_l (made_of W p) (made_of W q) h) n s) (λ n₁ s₁ i. onward i (along_part first he q (and_r (made_of W p) (made_of W q) h) n₁ s₁)))
      (λ h. both_from first env p q (and_l (is_tok p) (is_act W.paired q) h) (and_r (is_tok p) (is_act W.paired q) h) n s)
      (or_e (made_of W p && made_of W q) (is_tok p && is_act W.paired q) t)
  along_part first {env} he (p ∕ q) t n s =
      ends_or _ (sees (begins first p) s.rest) (null q || sees (begins first q) s.rest) (walk first env p) (walk first env q) n s
      (λ _. along_part first he p (search and_l) n s) (along_part first he q (search (and_l, and_r)) n s) (keeps.same s)
  along_part first {env} he (many p) t n s =
      ends_loop (begins first p) (walk first env p) (λ n₁ s₁ i. onward i (along_part first he p t n₁ s₁)) (suc (length s.rest)) n s (keeps.same s)
  along_part first {env} he (tail c p) t n s =
      ends_tail {J = λ _ s'. Rel s s'} c (begins first p) (walk first env p)
      (λ n₁ s₁ i. onward i (take-from (c ∷ []) (search and_l) n₁ s₁)) (λ n₁ s₁ j. j)
      (λ n₁ s₁ j. onward j (along_part first he p (search (and_l, and_r)) n₁ s₁)) (suc (length s.rest)) n s (keeps.same s)

  module _ {R : Type 0} (G : Plan Act R) (passes : (r : R) → T (made_of W (G.body r))) where
    along_rule : (k room : ℕ) (r : R) (n : ℕ) (s : St M) → From s (rule_d G k room r n s)
    unfolding rule_d
    along_rule zero room r n s = ends_stuck
    along_rule (suc k) room r n s = ends_enter _ (G.opens r) room n s (keeps.same s) (λ m. along_part G.first (along_rule k m) (G.body r) (passes r) _ s)

    -- a rule, where the grammar is made of such steps
    pub descend_by : (room : ℕ) (r : R) (n : ℕ) (s : St M) → From s (descend G room r n s)
    unfolding descend
    descend_by room r n s = along_rule (enough s) room r n s

-- every token and every action by itself, of which every part is made
abbrev pub singly : {Act : Type 0} → Steps Act
singly = record { due = []; free = λ a. true; paired = λ a. false }

apart_none : (set : List ℕ) → T (apart set [])
apart_none [] = tt
apart_none (t ∷ set) = apart_none set

singly_part : {Act R : Type 0} (p : Part Act R) → T (made_of singly p)
unfolding made_of
singly_part skip = tt
singly_part (act a) = tt
singly_part (tok set) = apart_none set
singly_part (see set) = tt
singly_part (call r) = tt
singly_part (p ⨾ q) = or_l (made_of singly p && made_of singly q) _ (and_i (made_of singly p) (made_of singly q) (singly_part p) (singly_part q))
singly_part (p ∕ q) = and_i (made_of singly p) (made_of singly q) (singly_part p) (singly_part q)
singly_part (many p) = singly_part p
singly_part (tail c p) = singly_part p

module _ {Act : Type 0} {M : Machine Act} {Rel : St M → St M → Type 0} (keeps : Keeps M singly Rel) {R : Type 0} (G : Plan Act R) where
  pub descend_along : (room : ℕ) (r : R) (n : ℕ) (s : St M) → From keeps s (descend G room r n s)
  descend_along room r n s = descend_by keeps G (λ r'. singly_part (G.body r')) room r n s

  pub walk_along : (room : ℕ) (p : Part Act R) (n : ℕ) (s : St M) → From keeps s (walk G.first (descend G room) p n s)
  walk_along room p n s = along_part keeps G.first (descend_along room) p (singly_part p) n s
