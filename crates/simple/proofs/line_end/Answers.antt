-- `simple::line_end` meets its contract: Newline or the end.
use Rattle.joint.proofs.Seen.{see_end, tok_end}
use Rattle.joint.proofs.Choices.{starts, or_first, or_next, or_neither}
use Rattle.lookahead.proofs.Tests.{coded, not_first}
use Rattle.grammar.specs.Descent.{null, begins}
use Rattle.token.specs.Code as code
use mathlib.Core.Path.{refl}
use mathlib.Core.List.{[], ◌∷◌}
use native.Mathlib.Omega.{arith}
use Rattle.joint.proofs.Taken.{taken}
use Rattle.simple.proofs.line_end.Goals as goal

pub returns-in-48 : goal.returns-in-48
unfolding begins null
returns-in-48 c =
    let w = c.requires in
    let e = taken (code.Newline ∷ []) refl refl {s = c.args.s} w.tokens w.at_bound.0 w.at_bound.1 (coded (code.Newline ∷ []) 48 c.symbol_at.ensures c.in-48.is refl) in
    rw c.past.ensures (λ room tr. record { comes = λ vs. or_first e.here e.seen (tok_end e.here e.seen e.used) })

pub returns-in-49 : goal.returns-in-49
unfolding begins null
returns-in-49 c =
    let h = c.requires.at_bound.0 in
    λ room tr. record { comes = λ vs. or_next h (coded (code.Newline ∷ []) 49 c.symbol_at.ensures c.in-49.is refl) (starts (coded (code.Eof ∷ []) 49 c.symbol_at.ensures c.in-49.is refl)) (see_end h (coded (code.Eof ∷ []) 49 c.symbol_at.ensures c.in-49.is refl) c.requires.at_bound.1) }

pub returns-in_default : goal.returns-in_default
unfolding begins null
returns-in_default c =
    let h = c.requires.at_bound.0 in
    λ room tr. record { comes = λ vs. or_neither h c.requires.at_bound.1 (not_first 48 [] c.symbol_at.ensures (omega arith)) refl (not_first 49 [] c.symbol_at.ensures (omega arith)) refl }
