-- an admitted value is no NaN
use Rattle.std.proofs.Common.{sym}
use Rattle.numbers.proofs.Nearest.{no_nan}
use Rattle.leaf_cases.proofs.answers.print_float.Goals as goal

pub of_f64-requires : goal.of_f64-requires
of_f64-requires g c = no_nan c.args.s.now _ (sym c.in-Some.ensures)
