-- "17 where some block has no statement" (02, change 6).
-- Assumes nothing.
use Rattle.std.specs.Prelude.{ℕ, Bool, false, cond, ◌||◌, List, [], ◌∷◌, eqb}
use Rattle.grammar.specs.Sets.{mem}
use Rattle.ast.specs.Kind as kind
use Rattle.ast.specs.Node.{Node, none}

-- the list that is a node's Block (01, Tree): "2 If (condition, then list, ..), 3 While (p, q list)", "14 Elif (p, q list)"; "4 For (p q name, r, s list), 5 Def and 13
-- Method (p q name, r Name list, s list)"; "15 Else (p list)". Other nodes have none, and read 0
abbrev pub block_of : Node → ℕ
block_of n =
    cond (mem n.kind (kind.If ∷ kind.While ∷ kind.Elif ∷ [])) n.q
    (cond (mem n.kind (kind.For ∷ kind.Def ∷ kind.Method ∷ [])) n.s
    (cond (eqb n.kind kind.Else) n.p 0))

abbrev pub hollow : Node → Bool
hollow n = eqb (block_of n) none

-- some block has no statement
unfoldable pub any_hollow_lem : List Node → Bool
any_hollow_lem [] = false
any_hollow_lem (n ∷ ns) = hollow n || any_hollow_lem ns
