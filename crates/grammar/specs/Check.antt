-- The test of a grammar's tables, which antt computes. It need not be believed: the theorem is shown of every grammar that passes it.
-- Assumes nothing.
use Rattle.std.specs.Prelude.{ℕ, zero, suc, ◌+◌, min, Bool, true, false, not, ◌&&◌, ◌||◌, List, ◌∷◌, ◌++◌, ltb, leb}
use Rattle.grammar.specs.Sets.{only, within, apart}
use Rattle.grammar.specs.Grammar.{Part, skip, act, tok, see, call, ◌⨾◌, ◌∕◌, many, tail}
use Rattle.grammar.specs.Descent.{Plan, null, begins}

-- the tokens that can stand next, where p and then one of K is to come
abbrev pub next : {Act R : Type 0} → (R → List ℕ) → Part Act R → List ℕ → List ℕ
next first p K = begins first p ++ only (null p) K

-- The next token decides, where one of K is to come after: no alternative begins as a later one may, no part that may be absent as what may come after.
unfoldable pub fits : {Act R : Type 0} → Plan Act R → List ℕ → Part Act R → Bool
fits G K skip = true
fits G K (act a) = true
fits G K (tok set) = true
fits G K (see set) = true
fits G K (call r) = within K (G.follow r)
fits G K (p ⨾ q) = fits G (next G.first q K) p && fits G K q
fits G K (p ∕ q) = not (null p) && apart (begins G.first p) (next G.first q K) && fits G K p && fits G K q
fits G K (many p) = not (null p) && apart (begins G.first p) K && fits G (begins G.first p ++ K) p
fits G K (tail c p) = not (null p) && apart (begins G.first p) K && fits G (c ∷ K) p

-- a part takes at least so many tokens
unfoldable pub takes : {Act R : Type 0} → (R → ℕ) → Part Act R → ℕ
takes least skip = 0
takes least (act a) = 0
takes least (tok set) = 1
takes least (see set) = 0
takes least (call r) = least r
takes least (p ⨾ q) = takes least p + takes least q
takes least (p ∕ q) = min (takes least p) (takes least q)
takes least (many p) = 0
takes least (tail c p) = 0

-- the bound on the ranks: m before a token is taken, and w after
abbrev pub after : ℕ → ℕ → ℕ → ℕ
after w zero m = m
after w (suc k) m = w

-- A rule that is called before a token is taken has a rank below m, and any other below w; what is repeated takes a token.
unfoldable pub low : {Act R : Type 0} → Plan Act R → ℕ → ℕ → Part Act R → Bool
low G w m skip = true
low G w m (act a) = true
low G w m (tok set) = true
low G w m (see set) = true
low G w m (call r) = ltb (G.rank r) m
low G w m (p ⨾ q) = low G w m p && low G w (after w (takes G.least p) m) q
low G w m (p ∕ q) = low G w m p && low G w m q
low G w m (many p) = ltb 0 (takes G.least p) && low G w m p
low G w m (tail c p) = low G w w p

-- the whole test, of one rule
unfoldable pub sound : {Act R : Type 0} → Plan Act R → R → Bool
unfolding fits low takes begins null
sound G r =
    not (null (G.body r))
    && within (begins G.first (G.body r)) (G.first r)
    && fits G (G.follow r) (G.body r)
    && leb (G.least r) (takes G.least (G.body r))
    && ltb (G.rank r) 100
    && low G 100 (G.rank r) (G.body r)

-- the table of beginnings has no token more than some reading of the rule starts with
unfoldable pub tight : {Act R : Type 0} → Plan Act R → R → Bool
unfolding begins null
tight G r = within (G.first r) (begins G.first (G.body r))

-- it takes no token and tests none
unfoldable pub idle : {Act R : Type 0} → Part Act R → Bool
idle skip = true
idle (act a) = true
idle (tok set) = false
idle (see set) = false
idle (call r) = false
idle (p ⨾ q) = idle p && idle q
idle (p ∕ q) = false
idle (many p) = false
idle (tail c p) = false

-- where it fits, a token of K stands next: for the rule of a whole input, which ends in `see`
unfoldable pub stops : {Act R : Type 0} → List ℕ → Part Act R → Bool
unfolding idle
stops K skip = false
stops K (act a) = false
stops K (tok set) = false
stops K (see set) = within set K
stops K (call r) = false
stops K (p ⨾ q) = (idle q && stops K p) || stops K q
stops K (p ∕ q) = stops K p && stops K q
stops K (many p) = false
stops K (tail c p) = false
