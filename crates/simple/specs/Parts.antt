-- The end of simples, and what an answer tells of its node. Only contracts cite these.
-- Assumes nothing.
use Rattle.std.specs.Prelude.{◌+◌, ◌≡◌, [], ◌∷◌}
use Rattle.grammar.specs.Grammar.{Part, see, ◌∕◌}
use Rattle.token.specs.Code.{Newline, Eof}
use Rattle.token.specs.declared.NodeNumber.{NodeNumber}
use Rattle.pyhyeon.specs.Action.{Action}
use Rattle.pyhyeon.specs.Rules.{Rule, tk}
use Rattle.leaves.specs.declared.State.{State}
use Rattle.leaves.specs.Contract.{Parsed, read}

-- the answer's node, if there is one, was written last
pub record Newest (r : Parsed) : Type 0 where
  pub last : (n : NodeNumber) (s : State) → r ≡ read n s → n.0 + 1 ≡ s.nodes

-- "then Newline or end": how simples end (01, Grammar; specs/Rules.antt of pyhyeon, `simples`)
abbrev pub line_end_lem : Part Action Rule
line_end_lem = tk Newline ∕ see (Eof ∷ [])
