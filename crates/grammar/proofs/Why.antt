-- Where a table is wrong: what stands in the way, for whoever writes the tables. No theorem cites this.
-- State `clashes G (G.follow r) (G.body r) ≡ []` by `refl`: the refusal shows the codes.
-- Assumes nothing.
use Prim.Native.Nat.{ℕ, ◌+◌}
use mathlib.Core.Bool.{Bool, true, false}
use mathlib.Core.List.{List, [], ◌∷◌, ◌++◌}
use lib.Dec.{leb, ltb}
use Rattle.grammar.specs.Sets.{mem}
use Rattle.grammar.specs.Grammar.{Part, skip, act, tok, see, call, ◌⨾◌, ◌∕◌, many, tail}
use Rattle.grammar.specs.Descent.{Plan, null, begins}
use Rattle.grammar.specs.Check.{next, takes, after}
use Rattle.grammar.specs.Limits.{Prices, credit}

-- the codes of the first that are in the second, or those that are not
abbrev pub common : List ℕ → List ℕ → List ℕ
common [] b = []
common (x ∷ a) b = elim (mem x b) [ true ↦ x ∷ common a b | false ↦ common a b ]

abbrev pub missing : List ℕ → List ℕ → List ℕ
missing [] b = []
missing (x ∷ a) b = elim (mem x b) [ true ↦ missing a b | false ↦ x ∷ missing a b ]

-- 0 stands for a part that can fit without a token where it may not
abbrev pub never : Bool → List ℕ
never true = 0 ∷ []
never false = []

unfoldable pub clashes : {Act R : Type 0} → Plan Act R → List ℕ → Part Act R → List ℕ
unfolding null begins
clashes G K skip = []
clashes G K (act a) = []
clashes G K (tok set) = []
clashes G K (see set) = []
clashes G K (call r) = missing K (G.follow r)
clashes G K (p ⨾ q) = clashes G (next G.first q K) p ++ clashes G K q
clashes G K (p ∕ q) = never (null p) ++ common (begins G.first p) (next G.first q K) ++ clashes G K p ++ clashes G K q
clashes G K (many p) = never (null p) ++ common (begins G.first p) K ++ clashes G (begins G.first p ++ K) p
clashes G K (tail c p) = never (null p) ++ common (begins G.first p) K ++ clashes G (c ∷ K) p

-- Where `modest` fails. State `debts Q (Q.needs r) (G.body r) ≡ []` by `refl`: the refusal shows 999 for an action that is not paid for,
-- 1000 for a rule that needs more credit than there is, and 1001 for what is repeated and leaves less credit than it found.
abbrev pub unless_met : Bool → ℕ → List ℕ
unless_met true x = []
unless_met false x = x ∷ []

unfoldable pub debts : {Act R : Type 0} → Prices Act R → ℕ → Part Act R → List ℕ
unfolding credit
debts Q c skip = []
debts Q c (act a) = unless_met (leb (Q.writes a) c) 999
debts Q c (tok set) = []
debts Q c (see set) = []
debts Q c (call r) = unless_met (leb (Q.needs r) c) 1000
debts Q c (p ⨾ q) = debts Q c p ++ debts Q (credit Q c p) q
debts Q c (p ∕ q) = debts Q c p ++ debts Q c q
debts Q c (many p) = debts Q c p ++ unless_met (leb c (credit Q c p)) 1001
debts Q c (tail k p) = debts Q (c + Q.pay) p ++ unless_met (leb c (credit Q (c + Q.pay) p)) 1001

-- State `steep G w (G.rank r) (G.body r) ≡ []`: the refusal shows the ranks of the rules that are called too high, with w for the width.
unfoldable pub steep : {Act R : Type 0} → Plan Act R → ℕ → ℕ → Part Act R → List ℕ
unfolding takes
steep G w m skip = []
steep G w m (act a) = []
steep G w m (tok set) = []
steep G w m (see set) = []
steep G w m (call r) = unless_met (ltb (G.rank r) m) (G.rank r)
steep G w m (p ⨾ q) = steep G w m p ++ steep G w (after w (takes G.least p) m) q
steep G w m (p ∕ q) = steep G w m p ++ steep G w m q
steep G w m (many p) = steep G w m p
steep G w m (tail c p) = steep G w w p
