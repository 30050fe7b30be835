-- `spacing::gap::comment_end` meets its contract: it asks for the first line feed.
use Rattle.std.proofs.Common.{refl, ◌∙◌, arith, rules, tests}
use lib.ListN.{drop}
use Rattle.std.proofs.lemmas.Iterator.{YieldsList-from_slice}
use Rattle.std.proofs.lemmas.Iterator.Search.{position_from_yields_List}
use Rattle.spacing.proofs.Gaps.{rest_is, is_feed, no_feed, run_found, comment_is}
use Rattle.spacing.proofs.gap.comment_end.Goals as goal

pub returns : goal.returns
returns c =
    let s = c.args.s.now in
    let at = c.args.at in
    let found = position_from_yields_List is_feed _ _ c.position.result c.position.ensures.ran (YieldsList-from_slice (drop at s) (c.iter.ensures.rest ∙ rest_is s at)) (λ x b q k. search (rules, tests)) in
    let r = run_found is_feed no_feed (λ b. refl) s at c.unwrap_or.result c.position.result c.requires c.unwrap_or.ensures found in
    (omega (arith, comment_is (drop at s), r.0), r.1, omega arith)
