-- `lexer::close` meets its contract: the Dedents, and then Eof.
use native.Mathlib.Omega.{arith}
use Rattle.lexer.proofs.Turning.{all_closed}
use Rattle.lexer.proofs.close.Goals as goal

pub returns : goal.returns
returns c =
    let a = c.args in
    λ text. all_closed a.n a.x c.requires.2 a.tokens.now _ _ text (omega (arith, c.requires.1)) c.put_marks.auto.tokens c.put_marks.ensures c.put_token.ensures
