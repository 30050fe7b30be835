-- `raw_token::only_pair` meets its contract: the second byte decides.
use mathlib.Core.Path.{sym, ◌∙◌}
use Prim.Native.Nat.{◌+◌}
use Rattle.raw_token.specs.Parts.{only_at}
use Rattle.raw_token.proofs.Steps.{prefix_hit, prefix_miss}
use Rattle.raw_token.proofs.only_pair.Goals as goal

pub returns-then-byte-second : goal.returns-then-byte-second
unfolding only_at
returns-then-byte-second c =
    let a = c.args in
    rw (prefix_miss a.second a.s.now (a.at + 1) (λ e. c.if-byte-second.true (c.byte.ensures ∙ e)))

pub returns : goal.returns
unfolding only_at
returns c =
    let a = c.args in
    rw (prefix_hit a.second a.s.now (a.at + 1) c.requires.1 (sym c.byte.ensures ∙ c.if-byte-second.false))
