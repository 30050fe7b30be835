-- `lexer::found` meets its contract: the value was taken and the token written, or the value was refused.
use mathlib.Core.Path.{sym, ◌∙◌}
use Rattle.lexer.proofs.Finding.{found-on}
use Rattle.lexer.proofs.found.Goals as goal

pub returns : goal.returns
returns c =
    let a = c.args in
    found-on a.src.now a.x c.requires.exact.1 a.start a.token.code a.token.end c.requires.at_le_start.0 c.requires.at_le_start.1 c.requires.at_le_start.2 _ a.tokens.now a.text.now _ _ c.requires.exact.0 (sym c.in-Some.is ∙ c.take_value.ensures.value) c.take_value.ensures.text_after c.put_token.ensures
