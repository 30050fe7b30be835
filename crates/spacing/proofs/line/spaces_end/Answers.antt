-- `spacing::line::spaces_end` meets its contract: it asks for the first byte that is no space.
use Rattle.std.proofs.Common.{refl, ◌∙◌, arith, rules, tests}
use lib.ListN.{drop}
use Rattle.std.proofs.lemmas.Iterator.{YieldsList-from_slice}
use Rattle.std.proofs.lemmas.Iterator.Search.{position_from_yields_List}
use Rattle.spacing.specs.Indentation.{is_space}
use Rattle.spacing.proofs.Gaps.{rest_is, run_found, other_than, twice}
use Rattle.spacing.proofs.line.spaces_end.Goals as goal

pub returns : goal.returns
returns c =
    let s = c.args.s.now in
    let at = c.args.at in
    let found = position_from_yields_List (other_than is_space) _ _ c.position.result c.position.ensures.ran (YieldsList-from_slice (drop at s) (c.iter.ensures.rest ∙ rest_is s at)) (λ x b q k. search (rules, tests)) in
    let r = run_found (other_than is_space) is_space (twice is_space) s at c.unwrap_or.result c.position.result c.requires c.unwrap_or.ensures found in
    (r.0, omega arith, r.1)
