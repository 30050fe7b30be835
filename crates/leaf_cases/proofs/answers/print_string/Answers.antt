-- what is decoded is no longer than its source, so it lies within the text
use Rattle.std.proofs.Common.{arith}
use Rattle.strings.proofs.Bounds.{no_longer}
use Rattle.leaf_cases.proofs.answers.print_string.Goals as goal

pub slice_bounds-decoded-end : goal.slice_bounds-decoded-end
slice_bounds-decoded-end g c = omega (arith, no_longer c.args.s.now)
