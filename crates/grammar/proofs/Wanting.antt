-- Tests of a grammar by which what is asked for where the descent refuses says which tokens could stand there (Exact.antt). They are computed, and need not be
-- believed.
-- Assumes nothing.
use Prim.Native.Nat.{ℕ}
use mathlib.Core.Bool.{Bool, true, false, not, ◌&&◌, ◌||◌}
use mathlib.Core.List.{List, ◌++◌}
use Rattle.grammar.specs.Sets.{sees, within}
use Rattle.grammar.specs.Grammar.{Part, skip, act, tok, see, call, ◌⨾◌, ◌∕◌, many, tail}
use Rattle.grammar.specs.Descent.{Plan, null, begins}
use Rattle.grammar.specs.Check.{next}

-- no `see` of the part fits before l
unfoldable pub unseen : {Act R : Type 0} → List ℕ → Part Act R → Bool
unseen l skip = true
unseen l (act a) = true
unseen l (tok set) = true
unseen l (see set) = not (sees set l)
unseen l (call r) = true
unseen l (p ⨾ q) = unseen l p && unseen l q
unseen l (p ∕ q) = unseen l p && unseen l q
unseen l (many p) = unseen l p
unseen l (tail c p) = unseen l p

-- Where all that is asked for is among X, only tokens of X can stand: `shows`, with two tests more.

-- the part may refuse at once, and ask for tokens of X alone
unfoldable pub exposed : {Act R : Type 0} → Plan Act R → List ℕ → Part Act R → Bool
unfolding null begins
exposed G X skip = false
exposed G X (act a) = false
exposed G X (tok set) = within set X
exposed G X (see set) = within set X
exposed G X (call r) = within (G.first r) X
exposed G X (p ⨾ q) = exposed G X p || (null p && exposed G X q)
exposed G X (p ∕ q) = within (begins G.first p ++ begins G.first q) X
exposed G X (many p) = false
exposed G X (tail c p) = false

-- the part takes no token more, whatever stands next, unless it is one of X
unfoldable pub firm : {Act R : Type 0} → Plan Act R → List ℕ → Part Act R → Bool
unfolding begins
firm G X skip = true
firm G X (act a) = true
firm G X (tok set) = true
firm G X (see set) = false
firm G X (call r) = false
firm G X (p ⨾ q) = firm G X p && firm G X q
firm G X (p ∕ q) = within (begins G.first p) X && firm G X p && firm G X q
firm G X (many p) = within (begins G.first p) X && firm G X p
firm G X (tail c p) = false

-- what stands before such a refusal takes no token more: the test of one rule's body
unfoldable pub shows : {Act R : Type 0} → Plan Act R → List ℕ → Part Act R → Bool
unfolding exposed firm
shows G X skip = true
shows G X (act a) = true
shows G X (tok set) = true
shows G X (see set) = true
shows G X (call r) = true
shows G X (p ⨾ q) = (not (exposed G X q) || firm G X p) && shows G X p && shows G X q
shows G X (p ∕ q) = shows G X p && shows G X q
shows G X (many p) = shows G X p
shows G X (tail c p) = shows G X p

-- Each set of tokens that the part can ask for passes, and the rules that it calls are `called`. Unless b, what it asks for at once is left out: a rule, or a
-- way of a choice, is gone into only where its token stands next, or it needs none.
unfoldable pub direct : {Act R : Type 0} → Plan Act R → (List ℕ → Bool) → (R → Bool) → Bool → Part Act R → Bool
unfolding null begins
direct G pass called b skip = true
direct G pass called b (act a) = true
direct G pass called b (tok set) = not b || pass set
direct G pass called b (see set) = not b || pass set
direct G pass called b (call r) = called r && (not b || pass (G.first r))
direct G pass called b (p ⨾ q) = direct G pass called b p && direct G pass called true q
direct G pass called b (p ∕ q) = (not b || (null q || pass (begins G.first p ++ begins G.first q))) && direct G pass called false p && direct G pass called false q
direct G pass called b (many p) = direct G pass called false p
direct G pass called b (tail c p) = direct G pass called false p

-- what does not pass is asked for at the end of the part alone, by a `see` that any token of K passes
unfoldable pub closing : {Act R : Type 0} → Plan Act R → (List ℕ → Bool) → (R → Bool) → List ℕ → Part Act R → Bool
unfolding null begins direct
closing G pass called K skip = true
closing G pass called K (act a) = true
closing G pass called K (tok set) = pass set
closing G pass called K (see set) = pass set || within K set
closing G pass called K (call r) = false
closing G pass called K (p ⨾ q) = (direct G pass called true p && closing G pass called K q) || (closing G pass called (next G.first q K) p && null q && direct G pass called true q)
closing G pass called K (p ∕ q) = false
closing G pass called K (many p) = false
closing G pass called K (tail c p) = false
