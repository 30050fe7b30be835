-- The tables of this language pass the tests: the descent finds every way that there is.
-- Assumes nothing.
use mathlib.Core.List.{List}
use Prim.Native.Nat.{ℕ}
use Rattle.grammar.specs.Grammar.{call}
use Rattle.grammar.specs.Trial.{Machine}
use Rattle.grammar.specs.Descent.{descend}
use Rattle.grammar.proofs.Sets.{Sees}
use Rattle.grammar.proofs.Top.{good}
use Rattle.grammar.proofs.Ways.{Way, Comes}
use Rattle.grammar.proofs.Ways as ways
use Rattle.pyhyeon.specs.Action.{Action}
use Rattle.pyhyeon.specs.Rules.{Rule}
use Rattle.pyhyeon.specs.Tables.{follow, pyhyeon}
use Rattle.pyhyeon.proofs.Language.{language}
use Rattle.pyhyeon.proofs.Late.{height, is_code, finishes}

pub reads : {M : Machine Action} {m : ℕ} {r : Rule} {l l' : List ℕ} {k k' : M.Kept} → Way pyhyeon M m (call r) l k l' k' → Sees (follow r) l' →
    (n : ℕ) → Comes {M = M} (descend pyhyeon m r n (record { rest = l; kept = k })) (record { rest = l'; kept = k' })
reads w h n = ways.reads pyhyeon (good language) is_code height finishes w h n
