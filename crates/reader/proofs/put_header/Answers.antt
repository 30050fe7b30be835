-- `reader::put_header` meets its contract: eight stores in a row.
use Rattle.reader.specs.Outcome.{header}
use lib.Seq.{sets-eq}
use native.Mathlib.Omega.{arith}
use Rattle.reader.proofs.put_header.Goals as goal

pub returns : goal.returns
returns c = sets-eq (header c.args.n c.args.found.tokens c.args.found.text c.args.found.nodes c.args.found.openings) c.args.tree.now 0 (omega arith)
