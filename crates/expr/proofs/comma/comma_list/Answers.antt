-- `expr::comma_list` meets its contract: t, the comma list of E outside brackets.
use Rattle.expr.proofs.Read.{after_enter}
use Rattle.expr.proofs.Low.{low_member}
use Rattle.joint.proofs.Taken.{Taken, taken_tested}
use Rattle.joint.proofs.Loops.{ready_of}
use Rattle.joint.proofs.Ends.{one_then}
use Rattle.joint.proofs.Chain.{handed_on, tok_then, part_then, part_stop, list_parts, skip_end}
use Rattle.joint.proofs.Choices.{absent, or_first, or_next}
use Rattle.joint.proofs.Bounds.{Grown}
use Rattle.lookahead.proofs.Tests.{learnt}
use Rattle.token.specs.Code as code
use Rattle.grammar.specs.Descent.{null, begins}
use Rattle.pyhyeon.specs.Tables.{first}
use mathlib.Core.List.{[], ◌∷◌}
use mathlib.Core.Bool.{false}
use mathlib.Core.Path.{refl}
use native.Mathlib.Omega.{arith}
use Rattle.expr.proofs.comma.comma_list.Goals as goal
use Rattle.expr.proofs.comma.comma_list.Goals.{In_ok-n, Then-is_symbol}

-- what is known behind the first E
behind : (c : In_ok-n) → Grown c.args.src.now c.args.toks.now 8 c.args.s c.in_ok-n.field-0.0 c.in_ok-n.field-0.1
behind c = after_enter c.requires c.enter.ensures c.in_ok-n.was

-- where a comma stands behind it
comma : (c : Then-is_symbol) → Taken c.args.src.now c.args.toks.now (code.Comma ∷ []) c.in_ok-n.field-0.1
comma c =
    let g = after_enter c.requires c.enter.ensures c.in_ok-n.was in
    taken_tested (code.Comma ∷ []) refl refl c.requires.tokens g.here g.used c.if-is_symbol.true c.is_symbol.ensures c.symbol_at.ensures

pub symbol_at-requires : goal.symbol_at-requires
symbol_at-requires c = record { tokens = c.requires.tokens; at_bound = (behind (goal.at.symbol_at-requires c).In_ok-n).here }

pub comma_rest-requires : goal.comma_rest-requires
comma_rest-requires c =
    let g = (behind (goal.at.comma_rest-requires c).In_ok-n) in
    record { ready = ready_of c.requires.tokens (omega arith); first_lt_nodes = g.node }

pub returns-then-is_symbol : goal.returns-then-is_symbol
unfolding first begins null
returns-then-is_symbol c =
    let m = comma (goal.at.returns-then-is_symbol c).Then-is_symbol in
    record { comes = λ vs. part_then c.enter.ensures c.in_ok-n.was (or_first m.here m.seen (tok_then m.here m.seen (one_then (list_parts (low_member false) m.inside m.seen refl (c.comma_rest.ensures.comes vs))))) }

pub returns-else-is_symbol : goal.returns-else-is_symbol
unfolding begins null
returns-else-is_symbol c =
    let g = (behind (goal.at.returns-else-is_symbol c).In_ok-n) in
    let e = learnt (code.Comma ∷ []) c.if-is_symbol.false c.is_symbol.ensures c.symbol_at.ensures in
    record { comes = λ vs. part_then c.enter.ensures c.in_ok-n.was (or_next g.here e (absent refl) (skip_end g.used)) }

pub returns-in_err-n : goal.returns-in_err-n
returns-in_err-n c = rw (handed_on _ c.from_residual.ensures.1) (record { comes = λ vs. part_stop _ c.enter.ensures c.in_err-n.was })
