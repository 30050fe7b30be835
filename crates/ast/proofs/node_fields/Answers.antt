-- `ast::node_fields` meets its contract: the check computes the table at a single kind, and these goals are on runs of kinds.
use mathlib.Core.Path.{sym}
use native.Mathlib.Omega.{arith}
use Rattle.ast.proofs.Fields.{one, three, none}
use Rattle.ast.proofs.node_fields.Goals as goal

pub returns-in-1-2 : goal.returns-in-1-2
returns-in-1-2 c = sym (one c.args.kind (grind arith) (omega arith))

pub returns-in-3-2 : goal.returns-in-3-2
returns-in-3-2 c = sym (three c.args.kind (omega arith) (omega arith))

pub returns-in_default-3 : goal.returns-in_default-3
returns-in_default-3 c = sym (none c.args.kind (omega arith))
