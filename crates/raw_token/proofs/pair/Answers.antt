-- `raw_token::pair` meets its contract: the second byte decides.
use mathlib.Core.Path.{sym, ◌∙◌}
use Prim.Native.Nat.{◌+◌}
use Rattle.raw_token.specs.Parts.{pair_at}
use Rattle.raw_token.proofs.Steps.{prefix_hit, prefix_miss}
use Rattle.raw_token.proofs.pair.Goals as goal

pub returns-then-byte-second : goal.returns-then-byte-second
unfolding pair_at
returns-then-byte-second c =
    let a = c.args in
    rw (prefix_miss a.second a.s.now (a.at + 1) (λ e. c.if-byte-second.true (c.byte.ensures ∙ e))) c.mark.ensures

pub returns : goal.returns
unfolding pair_at
returns c =
    let a = c.args in
    rw (prefix_hit a.second a.s.now (a.at + 1) c.requires.1 (sym c.byte.ensures ∙ c.if-byte-second.false))
