-- at token 0 the reader of t is ready
use Rattle.std.proofs.Common.{rules}
use Rattle.lookahead.specs.Tokens.{text_before}
use Rattle.expr_cases.proofs.answers.print_tree.Goals as goal

pub comma_list-requires : goal.comma_list-requires
unfolding text_before
comma_list-requires g c = search rules
