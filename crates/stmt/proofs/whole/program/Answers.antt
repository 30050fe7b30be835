-- `stmt::whole::program` meets its contract: Program, from the start.
use Rattle.lookahead.specs.Tokens.{text_before}
use borrow.Author.Rules.{rules}
use Rattle.stmt.proofs.whole.program.Goals as goal

pub rule_program-requires : goal.rule_program-requires
unfolding text_before
rule_program-requires c = search rules
