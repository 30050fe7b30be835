use Rattle.std.proofs.Common.{◌-◌, length}
use Rattle.leaf_cases.proofs.answers.print_characters.Given as goal

abbrev pub decreases-loop-at : goal.decreases-loop-at
decreases-loop-at g l = length l.s - l.at
