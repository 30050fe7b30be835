-- The descent: it "opens a rule only on a token that can begin it and decides by the next token" (01, Grammar), and never goes back.
-- Assumes nothing.
use Rattle.std.specs.Prelude.{ℕ, zero, suc, ◌+◌, Bool, true, false, ◌&&◌, ◌||◌, List, [], ◌∷◌, ◌++◌, length}
use Rattle.grammar.specs.Sets.{sees, only}
use Rattle.grammar.specs.Grammar.{Part, skip, act, tok, see, call, ◌⨾◌, ◌∕◌, many, tail}
use Rattle.grammar.specs.Trial.{Machine, St, Out, ok, fail, out, skip_p, take_p, see_p, act_p, enough}

-- A grammar with its tables. `body`, `first` and `opens` define the descent; all but `opens` are tested (Check.antt).
pub record Plan (Act R : Type 0) : Type 0 where
  pub body : R → Part Act R  -- the rules, with alternatives that begin alike taken together
  pub first : R → List ℕ  -- "A token can begin a rule when some reading of the rule starts with it"
  pub follow : R → List ℕ  -- the tokens that can stand after it
  pub least : R → ℕ  -- it takes at least so many tokens
  pub rank : R → ℕ  -- a rule that is called before a token is taken has a lower rank; below 100
  pub opens : R → Bool  -- it takes of the room for depth

-- What the descent comes to, each with the count of openings so far: `done`, a state; `no`, where the next token of the state does not fit, with the tokens
-- of which one was asked for there (more could stand: a repeated part, or one that may be absent, asks for none); `deep`, refusal 13, where the next token
-- would open one rule too many within one another.
-- `stuck` is for the trial's `out`, and never comes where the count suffices.
pub data Answer {Act : Type 0} (M : Machine Act) : Type 0 where
  done : ℕ → St M → Answer M
  no : List ℕ → ℕ → St M → Answer M
  deep : ℕ → St M → Answer M
  stuck : Answer M

abbrev pub Walk : {Act : Type 0} → Machine Act → Type 0
Walk M = ℕ → St M → Answer M

-- the part can fit without a token
unfoldable pub null : {Act R : Type 0} → Part Act R → Bool
null skip = true
null (act a) = true
null (tok set) = false
null (see set) = false
null (call r) = false
null (p ⨾ q) = null p && null q
null (p ∕ q) = null p || null q
null (many p) = true
null (tail c p) = true

-- the tokens that can begin it
unfoldable pub begins : {Act R : Type 0} → (R → List ℕ) → Part Act R → List ℕ
unfolding null
begins first skip = []
begins first (act a) = []
begins first (tok set) = set
begins first (see set) = set
begins first (call r) = first r
begins first (p ⨾ q) = begins first p ++ only (null p) (begins first q)
begins first (p ∕ q) = begins first p ++ begins first q
begins first (many p) = begins first p
begins first (tail c p) = c ∷ []

module _ {Act : Type 0} {M : Machine Act} where
  unfoldable pub then_d : Answer M → Walk M → Answer M
  then_d (done n s) q = q n s
  then_d (no asked n s) q = no asked n s
  then_d (deep n s) q = deep n s
  then_d stuck q = stuck

  -- what needs no decision is the trial's; where it fails, one of this set was asked for
  unfoldable pub same_d : List ℕ → Out M → Walk M
  same_d set (ok s') n s = done n s'
  same_d set fail n s = no set n s
  same_d set out n s = stuck

  unfoldable pub seq_d : Walk M → Walk M → Walk M
  seq_d p q n s = then_d (p n s) q

  -- p if its token stands next, and else q
  unfoldable pub by_d : Bool → Walk M → Walk M → Walk M
  by_d true p q n s = p n s
  by_d false p q n s = q n s

  -- "decides by the next token" (01, Grammar): p or q, by what that can begin (q may need none); where it can begin neither, a token of either was asked
  -- for: this set
  unfoldable pub or_d : Bool → Bool → List ℕ → Walk M → Walk M → Walk M
  or_d true b set p q n s = p n s
  or_d false true set p q n s = q n s
  or_d false false set p q n s = no set n s

  unfoldable pub loop_d : List ℕ → Walk M → ℕ → Walk M
  loop_d set p zero n s = stuck
  loop_d set p (suc k) n s = by_d (sees set s.rest) (seq_d p (loop_d set p k)) done n s

  -- after a separator: a member if its token stands next, and else the list is at its end
  unfoldable pub tail_d : ℕ → List ℕ → Walk M → ℕ → Walk M
  tail_d c set p zero n s = stuck
  tail_d c set p (suc k) n s =
      by_d (sees (c ∷ []) s.rest)
      (seq_d (λ n₁ s₁. same_d (c ∷ []) (take_p (c ∷ []) s₁) n₁ s₁) (λ n₁ s₁. by_d (sees set s₁.rest) (seq_d p (tail_d c set p k)) done n₁ s₁))
      done n s

  -- each member takes a token, so there is no limit in these counts
  unfoldable pub many_d : List ℕ → Walk M → Walk M
  many_d set p n s = loop_d set p (suc (length s.rest)) n s

  unfoldable pub list_d : ℕ → List ℕ → Walk M → Walk M
  list_d c set p n s = tail_d c set p (suc (length s.rest)) n s

  -- a part, where the rules are known
  unfoldable pub walk : {R : Type 0} → (R → List ℕ) → (R → Walk M) → Part Act R → Walk M
  walk first env skip n s = same_d [] (skip_p s) n s
  walk first env (act a) n s = same_d [] (act_p a s) n s
  walk first env (tok set) n s = same_d set (take_p set s) n s
  walk first env (see set) n s = same_d set (see_p set s) n s
  walk first env (call r) n s = by_d (sees (first r) s.rest) (env r) (no (first r)) n s
  walk first env (p ⨾ q) n s = seq_d (walk first env p) (walk first env q) n s
  walk first env (p ∕ q) n s =
      or_d (sees (begins first p) s.rest) (null q || sees (begins first q) s.rest) (begins first p ++ begins first q) (walk first env p) (walk first env q) n s
  walk first env (many p) n s = many_d (begins first p) (walk first env p) n s
  walk first env (tail c p) n s = list_d c (begins first p) (walk first env p) n s

  -- "Each call of one is an opening": every rule counts one, before it reads a token. A rule that is marked takes of the room that is left, and
  -- is refused where there is none: "the opening that 13 refuses isn't counted".
  unfoldable pub enter : Bool → ℕ → (ℕ → Walk M) → Walk M
  enter false room go n s = go room (n + 1) s
  enter true zero go n s = deep n s
  enter true (suc room) go n s = go room (n + 1) s

  -- a rule, with at most k rules open within one another
  unfoldable pub rule_d : {R : Type 0} → Plan Act R → ℕ → ℕ → R → Walk M
  rule_d G zero room r n s = stuck
  rule_d G (suc k) room r n s = enter (G.opens r) room (λ m. walk G.first (λ r'. rule_d G k m r') (G.body r)) n s

  -- a rule, with room for so many marked ones within one another
  unfoldable pub descend : {R : Type 0} → Plan Act R → ℕ → R → Walk M
  unfolding enough
  descend G room r n s = rule_d G (enough s) room r n s
