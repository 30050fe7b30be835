-- Whatever text a tree was read from, that text took as much room as the tree needs: every rule, on the machine of erased trees.
-- Assumes nothing.
use mathlib.Core.Path.{◌≡◌}
use mathlib.Core.Bool.{not}
use Prim.Native.Nat.{ℕ, suc}
use lib.Dec.{T}
use Rattle.grammar.specs.Grammar.{call}
use Rattle.grammar.specs.Trial.{St}
use Rattle.grammar.specs.Descent.{done, descend}
use Rattle.grammar.proofs.Back.{One, o_call, induct, way_of}
use Rattle.pyhyeon.specs.Rules.{Rule, Program, Line, Simple, Block, Class}
use Rattle.pyhyeon.specs.Rules as rule
use Rattle.pyhyeon.specs.Tables.{joined, opens, pyhyeon}
use Rattle.unparse.proofs.Machine.{Kept, trees}
use Rattle.unparse.proofs.Room.{Left}
use Rattle.unparse.proofs.DepthExprs.{for_O, for_A, for_S, for_P, for_C, for_U, for_E, for_F}
use Rattle.unparse.proofs.DepthStmts.{for_Simple, for_Block, for_Class, for_Line, for_Program}

-- every rule
unmarked : (m : ℕ) (r : Rule) (k k' : Kept) → T (not (pyhyeon.opens r)) → One trees (Left m) (joined r) k k' → Left m r k k'
unfolding opens
unmarked m Program k k' t w = for_Program w
unmarked m Line k k' t w = for_Line w
unmarked m Simple k k' t w = for_Simple w
unmarked m Block k k' t w = absurd t
unmarked m Class k k' t w = for_Class w
unmarked m rule.E k k' t w = absurd t
unmarked m rule.O k k' t w = for_O w
unmarked m rule.A k k' t w = for_A w
unmarked m rule.C k k' t w = for_C w
unmarked m rule.S k k' t w = for_S w
unmarked m rule.P k k' t w = for_P w
unmarked m rule.U k k' t w = for_U w
unmarked m rule.F k k' t w = for_F w

marked : (m : ℕ) (r : Rule) (k k' : Kept) → T (pyhyeon.opens r) → One trees (Left m) (joined r) k k' → Left (suc m) r k k'
unfolding opens
marked m Program k k' t w = absurd t
marked m Line k k' t w = absurd t
marked m Simple k k' t w = absurd t
marked m Block k k' t w = for_Block w
marked m Class k k' t w = absurd t
marked m rule.E k k' t w = for_E w
marked m rule.O k k' t w = absurd t
marked m rule.A k k' t w = absurd t
marked m rule.C k k' t w = absurd t
marked m rule.S k k' t w = absurd t
marked m rule.P k k' t w = absurd t
marked m rule.U k k' t w = absurd t
marked m rule.F k k' t w = absurd t

of_call : {m : ℕ} {r : Rule} {k k' : Kept} → One trees (Left m) (call r) k k' → Left m r k k'
of_call (o_call p) = p

-- What the descent of a rule leaves, with room for m, needs no more than m.
pub within : (m n n' : ℕ) (r : Rule) (s s' : St trees) → descend {M = trees} pyhyeon m r n s ≡ done n' s' → Left m r s.kept s'.kept
within m n n' r s s' e = of_call (induct Left unmarked marked (way_of pyhyeon {M = trees} n e))
