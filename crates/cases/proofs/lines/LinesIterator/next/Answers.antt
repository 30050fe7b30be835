use Rattle.std.proofs.Common.{arith}
use Rattle.std.proofs.lemmas.Grind.{common_steps}
use Rattle.cases.proofs.Cuts.{no_lines, cut, fewer}
use Rattle.cases.proofs.lines.LinesIterator.next.Goals as goal

pub returns-then-is_empty-clause-steps : goal.returns-then-is_empty-clause-steps
returns-then-is_empty-clause-steps c = let e = no_lines c.args.self.now.0.now (grind (arith, common_steps)) in (e, e)

pub returns-clause-steps : goal.returns-clause-steps
returns-clause-steps c = cut c.args.self.now.0.now c.line_end-end.result c.min.result (grind (arith, common_steps)) c.line_end-end.ensures.0 c.min.ensures

pub returns-clause-goes : goal.returns-clause-goes
returns-clause-goes c =
    let less = fewer c.args.self.now.0.now c.line_end-end.result c.min.result (grind (arith, common_steps)) c.line_end-end.ensures.0 c.min.ensures in
    record { on = λ f. (tt, tt, less); keeps = tt; rests = λ f. tt }
