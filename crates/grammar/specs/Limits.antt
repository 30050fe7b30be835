-- Limits on the work of the descent: the rules that it opens, and the nodes that its actions write.
-- The prices, and the test of a grammar's tables, which antt computes: no statement rests on them but the limits, which are shown of every grammar that
-- passes. What is to be believed here is `before`, by which T is counted.
-- Assumes nothing.
use Rattle.std.specs.Prelude.{ℕ, zero, suc, ◌+◌, ◌*◌, ◌-◌, ◌≤◌, min, ◌≡◌, Bool, true, false, not, ◌&&◌, List, [], ◌∷◌, eqb, ltb, leb}
use Rattle.grammar.specs.Sets.{mem}
use Rattle.grammar.specs.Grammar.{Part, skip, act, tok, see, call, ◌⨾◌, ◌∕◌, many, tail}
use Rattle.grammar.specs.Trial.{Machine, St}
use Rattle.grammar.specs.Descent.{Plan}
use Rattle.grammar.specs.Check.{takes, low}

-- What the descent's work costs, and what each token pays.
pub record Prices (Act R : Type 0) : Type 0 where
  pub eof : ℕ  -- the token that ends the input: no rule takes it
  pub width : ℕ  -- so many rules at the most are opened on one token
  pub pay : ℕ  -- so many nodes each token pays for
  pub writes : Act → ℕ  -- the nodes that an action writes
  pub needs : R → ℕ  -- the credit, in nodes, that a rule is to be given
  pub gives : R → ℕ  -- the credit that it leaves, of what its own tokens paid

-- What is counted of what a machine keeps: the number of the next token, and the nodes that are written.
pub record Meter {Act : Type 0} (M : Machine Act) (writes : Act → ℕ) : Type 0 where
  pub place : M.Kept → ℕ
  pub nodes : M.Kept → ℕ
  pub place_shift : (t : ℕ) (k : M.Kept) → place (M.shift t k) ≡ place k + 1
  pub place_run : (a : Act) (k : M.Kept) → place (M.run a k) ≡ place k
  pub nodes_shift : (t : ℕ) (k : M.Kept) → nodes (M.shift t k) ≤ nodes k
  pub nodes_run : (a : Act) (k : M.Kept) → nodes (M.run a k) ≤ nodes k + writes a

-- one more, unless the test passes
abbrev pub unless : Bool → ℕ → ℕ
unless true n = 0
unless false n = suc n

-- the tokens before the first that is c
abbrev pub before : ℕ → List ℕ → ℕ
before c [] = 0
before c (t ∷ ts) = unless (eqb t c) (before c ts)

-- The rules that may still be opened, with b tokens before the end: m on the token at hand, and w on each after it.
unfoldable pub to_come : ℕ → ℕ → ℕ → ℕ
to_come w m zero = 0
to_come w m (suc b) = m + w * b

-- the rules that may still be opened at s, if m on the token at hand
unfoldable pub ahead : {Act : Type 0} {M : Machine Act} {R : Type 0} → Prices Act R → ℕ → St M → ℕ
ahead Q m s = to_come Q.width m (before Q.eof s.rest)

-- the nodes that are written at s, and those that the tokens to come will pay for
unfoldable pub worth : {Act : Type 0} {M : Machine Act} {R : Type 0} (Q : Prices Act R) → Meter M Q.writes → St M → ℕ
worth Q Z s = Z.nodes s.kept + Q.pay * before Q.eof s.rest

-- Nothing takes the token c, and a rule is called only on another, and takes one at least.
unfoldable pub clean : {Act R : Type 0} → Plan Act R → ℕ → Part Act R → Bool
clean G c skip = true
clean G c (act a) = true
clean G c (tok set) = not (mem c set)
clean G c (see set) = true
clean G c (call r) = ltb 0 (G.least r) && not (mem c (G.first r))
clean G c (p ⨾ q) = clean G c p && clean G c q
clean G c (p ∕ q) = clean G c p && clean G c q
clean G c (many p) = clean G c p
clean G c (tail k p) = not (mem c (k ∷ [])) && clean G c p

-- the credit that is left after a part, from the credit c: a token adds to it, an action takes of it
unfoldable pub credit : {Act R : Type 0} → Prices Act R → ℕ → Part Act R → ℕ
credit Q c skip = c
credit Q c (act a) = c - Q.writes a
credit Q c (tok set) = c + Q.pay
credit Q c (see set) = c
credit Q c (call r) = c - Q.needs r + Q.gives r
credit Q c (p ⨾ q) = credit Q (credit Q c p) q
credit Q c (p ∕ q) = min (credit Q c p) (credit Q c q)
credit Q c (many p) = c
credit Q c (tail k p) = c

-- the credit never goes below nothing, and what is repeated leaves no less than it found
unfoldable pub afford : {Act R : Type 0} → Prices Act R → ℕ → Part Act R → Bool
unfolding credit
afford Q c skip = true
afford Q c (act a) = leb (Q.writes a) c
afford Q c (tok set) = true
afford Q c (see set) = true
afford Q c (call r) = leb (Q.needs r) c
afford Q c (p ⨾ q) = afford Q c p && afford Q (credit Q c p) q
afford Q c (p ∕ q) = afford Q c p && afford Q c q
afford Q c (many p) = afford Q c p && leb c (credit Q c p)
afford Q c (tail k p) = afford Q (c + Q.pay) p && leb c (credit Q (c + Q.pay) p)

-- the credit that is left at the least where the part is refused
unfoldable pub spare : {Act R : Type 0} → Prices Act R → ℕ → Part Act R → ℕ
unfolding credit
spare Q c skip = c
spare Q c (act a) = c
spare Q c (tok set) = c
spare Q c (see set) = c
spare Q c (call r) = c - Q.needs r
spare Q c (p ⨾ q) = min (spare Q c p) (spare Q (credit Q c p) q)
spare Q c (p ∕ q) = min (spare Q c p) (spare Q c q)
spare Q c (many p) = min c (spare Q c p)
spare Q c (tail k p) = min c (spare Q (c + Q.pay) p)

-- the whole test, of one rule
unfoldable pub modest : {Act R : Type 0} → Plan Act R → Prices Act R → R → Bool
unfolding clean takes low credit afford
modest G Q r =
    clean G Q.eof (G.body r)
    && leb (G.least r) (takes G.least (G.body r))
    && leb (G.rank r) Q.width
    && low G Q.width (G.rank r) (G.body r)
    && afford Q (Q.needs r) (G.body r)
    && leb (Q.gives r) (credit Q (Q.needs r) (G.body r))
