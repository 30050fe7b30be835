-- The test by which refusals 14, 15 and 16 are never too late, which antt computes: whatever tokens the descent has taken, some list of tokens takes it on
-- to its end. It need not be believed: the theorem (proofs/Late.antt) is shown of every grammar that passes it.
-- Assumes nothing.
use Rattle.std.specs.Prelude.{ℕ, Bool, true, false, ◌&&◌, ◌||◌, List, [], ◌∷◌, ◌++◌, ltb}
use Rattle.grammar.specs.Sets.{within, apart}
use Rattle.grammar.specs.Grammar.{Part, skip, act, tok, see, call, ◌⨾◌, ◌∕◌, many, tail}
use Rattle.grammar.specs.Descent.{Plan, begins}
use Rattle.grammar.specs.Check.{next}

-- one of the set is a token
abbrev pub offers : (ℕ → Bool) → List ℕ → Bool
offers is_token [] = false
offers is_token (c ∷ set) = is_token c || offers is_token set

-- The part has a reading that stops before any token of K, in which every code is a token's, and that calls only rules of a height below h. What may be
-- absent is left out; a list can stop only before a token that is not its separator, which `fits` does not ask.
unfoldable pub ready : {Act R : Type 0} → (ℕ → Bool) → Plan Act R → (R → ℕ) → ℕ → List ℕ → Part Act R → Bool
ready is_token G height h K skip = true
ready is_token G height h K (act a) = true
ready is_token G height h K (tok set) = offers is_token set
ready is_token G height h K (see set) = within K set
ready is_token G height h K (call r) = ltb (height r) h
ready is_token G height h K (p ⨾ q) = ready is_token G height h (next G.first q K) p && ready is_token G height h K q
ready is_token G height h K (p ∕ q) = ready is_token G height h K p || ready is_token G height h K q
ready is_token G height h K (many p) = true
ready is_token G height h K (tail c p) = apart (c ∷ []) K

-- Wherever the walk of the part stands once it has taken a token, some reading goes on from there and stops before any token of K. (Heights are below
-- 100, so that here any rule may be called.)
unfoldable pub alive : {Act R : Type 0} → (ℕ → Bool) → Plan Act R → (R → ℕ) → List ℕ → Part Act R → Bool
unfolding ready
alive is_token G height K skip = true
alive is_token G height K (act a) = true
alive is_token G height K (tok set) = true
alive is_token G height K (see set) = true
alive is_token G height K (call r) = true
alive is_token G height K (p ⨾ q) = alive is_token G height (next G.first q K) p && alive is_token G height K q && ready is_token G height 100 K q
alive is_token G height K (p ∕ q) = alive is_token G height K p && alive is_token G height K q
alive is_token G height K (many p) = alive is_token G height (begins G.first p ++ K) p
alive is_token G height K (tail c p) = apart (c ∷ []) K && alive is_token G height (c ∷ K) p

-- The whole test, of one rule. The height of a rule is how deep rules nest in some reading of it: no rule is read only through itself.
unfoldable pub complete : {Act R : Type 0} → (ℕ → Bool) → Plan Act R → (R → ℕ) → R → Bool
unfolding ready alive
complete is_token G height r = ready is_token G height (height r) (G.follow r) (G.body r) && alive is_token G height (G.follow r) (G.body r)
