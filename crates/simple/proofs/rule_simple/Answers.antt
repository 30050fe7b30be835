-- `simple::rule_simple` meets its contract: the rule Simple.
use Prim.Native.Nat.{ℕ}
use mathlib.Core.Path.{◌≡◌, refl}
use mathlib.Core.Bool.{true, false}
use mathlib.Core.List.{List, [], ◌∷◌, ◌++◌}
use native.Mathlib.Omega.{arith}
use Rattle.token.specs.Code as code
use Rattle.grammar.specs.Sets.{mem}
use Rattle.grammar.specs.Descent.{null, begins}
use Rattle.pyhyeon.specs.Rules.{plain}
use Rattle.pyhyeon.specs.Tables.{joined, first, opens, first_e}
use Rattle.lookahead.proofs.Tests.{coded}
use Rattle.joint.proofs.Chain.{raised, open_plain, tok_then}
use Rattle.joint.proofs.Choices.{starts, or_first, or_next}
use Rattle.simple.specs.declared.Role.TheVariants as role
use Rattle.simple.proofs.Stating.{Opening, opening_return, opening_other}
use Rattle.joint.proofs.Taken.{Taken, taken_ready}
use Rattle.simple.proofs.rule_simple.Goals as goal
use Rattle.simple.proofs.rule_simple.Goals.{After-symbol_at, In-8, In_default}

-- the words that are a statement of their own
abbrev words : List ℕ
words = code.Break ∷ code.Continue ∷ code.Pass ∷ []

-- where a word stands that is a statement of its own
alone : (c : After-symbol_at) (k : ℕ) → mem code.Eof (k ∷ []) ≡ false → mem code.String (k ∷ []) ≡ false → mem k (k ∷ []) ≡ true → c.symbol_at.result ≡ k → Taken c.args.src.now c.args.toks.now (k ∷ []) c.args.s
alone c k f g i e = taken_ready (k ∷ []) f g c.requires.ready (coded (k ∷ []) k c.symbol_at.ensures e i)

-- the first t, behind `return` or at once
returned : (c : In-8) → Opening c.args.src.now c.args.toks.now c.args.s c.args.tree.now (role.Return c.args.s.at) c.past-on.result
returned c = rw c.past-on.ensures (opening_return c.requires.ready (coded (code.Return ∷ []) 8 c.symbol_at.ensures c.in-8.is refl))

begun : (c : In_default) → Opening c.args.src.now c.args.toks.now c.args.s c.args.tree.now role.First (raised c.args.s)
unfolding first
begun c = opening_other c.requires.ready c.symbol_at.ensures (omega arith) (omega arith) (omega arith) (omega arith) c.requires.begun.seen

pub statement-requires-clause-ready : goal.statement-requires-clause-ready
statement-requires-clause-ready c =
    (returned (goal.at.statement-requires-clause-ready c).In-8).ready

pub returns-in-13-clause-rules : goal.returns-in-13-clause-rules
unfolding joined plain first begins null opens
returns-in-13-clause-rules c =
    let x = c.symbol_at.ensures in
    let k = c.in-13.is in
    let l = alone (goal.at.returns-in-13-clause-rules c).After-symbol_at code.Break refl refl refl k in
    let word = rw c.past-on.ensures at c.word.ensures in
    open_plain refl (λ vs. or_next l.here (coded (code.Return ∷ []) 13 x k refl) (starts (coded (first_e ++ words) 13 x k refl)) (or_next l.here (coded first_e 13 x k refl) (starts (coded words 13 x k refl)) (or_first l.here l.seen (tok_then l.here l.seen ((word.by_index _ _ l.used).comes vs)))))

pub returns-in-14-clause-rules : goal.returns-in-14-clause-rules
unfolding joined plain first begins null opens
returns-in-14-clause-rules c =
    let x = c.symbol_at.ensures in
    let k = c.in-14.is in
    let l = alone (goal.at.returns-in-14-clause-rules c).After-symbol_at code.Continue refl refl refl k in
    let word = rw c.past-on.ensures at c.word-in-14.ensures in
    open_plain refl (λ vs. or_next l.here (coded (code.Return ∷ []) 14 x k refl) (starts (coded (first_e ++ words) 14 x k refl)) (or_next l.here (coded first_e 14 x k refl) (starts (coded words 14 x k refl)) (or_next l.here (coded (code.Break ∷ []) 14 x k refl) (starts (coded (code.Continue ∷ code.Pass ∷ []) 14 x k refl)) (or_first l.here l.seen (tok_then l.here l.seen ((word.by_index _ _ l.used).comes vs))))))

pub returns-in-15-clause-rules : goal.returns-in-15-clause-rules
unfolding joined plain first begins null opens
returns-in-15-clause-rules c =
    let x = c.symbol_at.ensures in
    let k = c.in-15.is in
    let l = alone (goal.at.returns-in-15-clause-rules c).After-symbol_at code.Pass refl refl refl k in
    let word = rw c.past-on.ensures at c.word-in-15.ensures in
    open_plain refl (λ vs. or_next l.here (coded (code.Return ∷ []) 15 x k refl) (starts (coded (first_e ++ words) 15 x k refl)) (or_next l.here (coded first_e 15 x k refl) (starts (coded words 15 x k refl)) (or_next l.here (coded (code.Break ∷ []) 15 x k refl) (starts (coded (code.Continue ∷ code.Pass ∷ []) 15 x k refl)) (or_next l.here (coded (code.Continue ∷ []) 15 x k refl) (starts (coded (code.Pass ∷ []) 15 x k refl)) (tok_then l.here l.seen ((word.by_index _ _ l.used).comes vs))))))

pub returns-in-8-clause-rules : goal.returns-in-8-clause-rules
unfolding first opens
returns-in-8-clause-rules c =
    let o = returned (goal.at.returns-in-8-clause-rules c).In-8 in
    let m = c.statement.ensures in
    open_plain refl (λ vs. o.same vs (m.parts.comes vs))

pub returns-in_default-clause-rules : goal.returns-in_default-clause-rules
unfolding first opens
returns-in_default-clause-rules c =
    let o = begun (goal.at.returns-in_default-clause-rules c).In_default in
    let m = c.statement-in_default.ensures in
    open_plain refl (λ vs. o.same vs (m.parts.comes vs))
