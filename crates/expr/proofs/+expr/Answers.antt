use Prim.Native.Nat.{ℕ, ◌+◌}
use Rattle.expr.proofs.Low.{modest_list, low_member, modest_parameters, modest_valued, low_postfix, bounded_postfix, begins_member, bounded_member, bounded_primary}
use Rattle.joint.proofs.Taken.{Taken, taken_tested, taken_wrote, ready_tested, taken_ready, next_tested}
use Rattle.joint.proofs.Chain.{handed_on, tok_not, part_then, part_stop, tok_then, list_end, called, not_called, flat_then, flat_stop, flat, list_parts, turn_on, turn_end, list_on, list_shut, open_plain, open_deep, open_room}
use Rattle.joint.proofs.Bounds.{Went, after_list, Grown, after_node, after_part, after_start, after_rule, spares_f}
use Rattle.lookahead.proofs.Tests.{learnt, of_neither, of_first, not_first, coded, without}
use mathlib.Core.List.{[], ◌∷◌}
use mathlib.Core.Path.{ap, refl, ◌≡◌, sym, ◌∙◌}
use borrow.Author.Rules.{rules}
use native.Mathlib.Omega.{arith}
use Rattle.expr.proofs.Read.{after_enter, after-e}
use Rattle.joint.proofs.Loops.{ready_of, lists_done, lists_node, lists_stop}
use Rattle.joint.proofs.Ends.{act_wrote, one_then, done_then, act_literal, tok_mark, none_last, act_changed, changed_then, act_wrapped, signs_then, mark_at}
use Rattle.joint.proofs.Choices.{or_first, or_last, starts, or_next, or_neither, absent, later}
use Rattle.std.specs.Prelude.{Option, Ok}
use Rattle.leaves.specs.declared.State.{State}
use Rattle.lookahead.specs.Tokens.{symbol_at}
use Rattle.grammar.specs.Descent.{null, begins}
use mathlib.Core.Bool.{false, true}
use Rattle.leaves.specs.Contract.{Begun, past}
use Rattle.pyhyeon.specs.Rules.{E, literals, names, plain, sign_set}
use Rattle.pyhyeon.specs.Tables.{first, first_e, first_f, joined, rank, opens, first_u}
use Rattle.grammar.specs.Sets.{mem}
use Rattle.pyhyeon.specs.Symbol.{Tee}
use Rattle.lookahead.proofs.Tokens.{before_eof}
use Rattle.levels.proofs.Operands.{Operand, Turn, reading_starts, reading_stops, operand_read, operand_spot, operand_held, turn_here, turn_ends, turn_misses, turn_less, turn_goes, operand_next}
use Rattle.levels.specs.declared.Level.TheVariants as level
use Rattle.levels.proofs.Grouping.{grouping, goes}
use Rattle.levels.proofs.Comparing.{comparing, goes as comparing_goes}
use Rattle.joint.proofs.Passing.{signs_pass, run_text}
use Rattle.token.specs.Code as code
use Rattle.expr.proofs.+expr.Goals.{args-In_ok-first, args-Then-is_symbol, braces-Else-is_symbol, braces-Then-begins_e, index-In_ok-i, index-Then-is_symbol, item-In_ok-key, item-Then-is_symbol, items-Then-begins_e, lambda-After-names, lambda-Then-is_symbol, post-After-past-on, rest-After-past-on, rest-Else-not-begins_e, rest-In_ok-n, round-Then-begins_e, rule_a-After-join, rule_a-In_ok-n, rule_c-After-compare, rule_c-In_ok-n, rule_o-After-join, rule_o-In_ok-n, rule_p-After-join, rule_p-In_ok-n, rule_s-After-join, rule_s-In_ok-n}
use Rattle.expr.proofs.+expr.Goals as goal

-- what is known behind the list
args-behind : (t : ℕ) (c : args-In_ok-first t) → Went c.args.src.now c.args.toks.now c.args.s c.in_ok-first.field-0.1
args-behind t c = after_list _ _ c.requires.ready.tokens modest_list c.requires.ready.here c.items.ensures c.in_ok-first.was

-- where the parenthesis stands behind it
args-paren : (t : ℕ) (c : args-Then-is_symbol t) (behind : Went c.args.src.now c.args.toks.now c.args.s c.in_ok-first.field-0.1) → Taken c.args.src.now c.args.toks.now (code.RParen ∷ []) c.in_ok-first.field-0.1
args-paren t c behind = taken_tested (code.RParen ∷ []) refl refl c.requires.ready.tokens behind.here behind.used c.if-is_symbol.true c.is_symbol.ensures c.symbol_at.ensures

pub args-symbol_at-requires-clause-at_bound : goal.args-symbol_at-requires-clause-at_bound
args-symbol_at-requires-clause-at_bound t c = (args-behind t (goal.at.args-symbol_at-requires-clause-at_bound t c).In_ok-first).here

pub args-past-on-requires : goal.args-past-on-requires
args-past-on-requires t c =
    let g = args-behind t (goal.at.args-past-on-requires t c).In_ok-first in
    omega arith

pub args-put_apply-requires : goal.args-put_apply-requires
args-put_apply-requires t c =
    let g = args-behind t (goal.at.args-put_apply-requires t c).In_ok-first in
    let m = args-paren t (goal.at.args-put_apply-requires t c).Then-is_symbol (args-behind t (goal.at.args-put_apply-requires t c).In_ok-first) in
    record { spot = rw c.past-on.ensures (omega arith); n_lt_nodes = rw c.past-on.ensures (omega arith) }

pub args-returns-then-is_symbol : goal.args-returns-then-is_symbol
args-returns-then-is_symbol t c =
    let m = args-paren t (goal.at.args-returns-then-is_symbol t c).Then-is_symbol (args-behind t (goal.at.args-returns-then-is_symbol t c).In_ok-first) in
    record { comes = λ vs. part_then c.items.ensures c.in_ok-first.was (taken_wrote m (rw c.past-on.ensures at (c.put_apply.ensures c.args.src.now))) }

pub args-returns-else-is_symbol : goal.args-returns-else-is_symbol
args-returns-else-is_symbol t c =
    let g = args-behind t (goal.at.args-returns-else-is_symbol t c).In_ok-first in
    let e = learnt (code.RParen ∷ []) c.if-is_symbol.false c.is_symbol.ensures c.symbol_at.ensures in
    record { comes = λ vs. part_then c.items.ensures c.in_ok-first.was (tok_not g.here g.used e refl) }

pub args-returns-in_err-first : goal.args-returns-in_err-first
args-returns-in_err-first t c = rw (handed_on _ c.from_residual.ensures.1) (record { comes = λ vs. part_stop _ c.items.ensures c.in_err-first.was })

pub body-put_lambda-requires : goal.body-put_lambda-requires
body-put_lambda-requires t c =
    let r = c.requires.ready in
    let g = after_enter r c.enter.ensures c.in_ok-n.was in
    record { spot = omega arith; keyword_lt_at = omega arith }

pub body-returns : goal.body-returns
body-returns t c =
    let r = c.requires.ready in
    let g = after_enter r c.enter.ensures c.in_ok-n.was in
    record { comes = λ vs. part_then c.enter.ensures c.in_ok-n.was (act_wrote g.used (c.put_lambda.ensures _)) }

pub body-returns-in_err-n : goal.body-returns-in_err-n
body-returns-in_err-n t c =
    rw (handed_on _ c.from_residual.ensures.1) (record { comes = λ vs. part_stop _ c.enter.ensures c.in_err-n.was })

pub brace-pairs-requires : goal.brace-pairs-requires
brace-pairs-requires t c =
    let r = c.requires.ready in
    let m = ready_tested (code.Colon ∷ []) refl refl r c.if-is_symbol.true c.is_symbol.ensures c.symbol_at.ensures in
    rw c.past.ensures (omega arith, (ready_of r.tokens (omega arith), (omega arith, c.requires.opener_lt_at.1)))

pub brace-returns-then-is_symbol : goal.brace-returns-then-is_symbol
unfolding begins null
brace-returns-then-is_symbol t c =
    let r = c.requires.ready in
    let e = learnt (code.Colon ∷ []) c.if-is_symbol.true c.is_symbol.ensures c.symbol_at.ensures in
    record { comes = λ vs. or_first r.here e (tok_then r.here e (rw c.past.ensures at (c.pairs.ensures.comes vs))) }

pub brace-returns-else-is_symbol : goal.brace-returns-else-is_symbol
unfolding begins null
brace-returns-else-is_symbol t c =
    let r = c.requires.ready in
    let e = learnt (code.Colon ∷ []) c.if-is_symbol.false c.is_symbol.ensures c.symbol_at.ensures in
    record {
      comes = λ vs. or_last r.here e refl refl
          (λ f. let n = of_neither (code.Comma ∷ []) (code.RBrace ∷ []) (symbol_at c.args.src.now c.args.toks.now c.args.s.at.0) f in
          one_then (list_end (low_member false) r.here n.0 (done_then (tok_not r.here r.used n.1 refl))))
          (one_then (c.listed.ensures.comes vs));
    }

-- no `}` stands next
braces-shut-not : (t : ℕ) (c : braces-Else-is_symbol t) → mem (symbol_at c.args.src.now c.args.toks.now c.args.s.at.0) (code.RBrace ∷ []) ≡ false
braces-shut-not t c = learnt (code.RBrace ∷ []) c.if-is_symbol.false c.is_symbol.ensures c.symbol_at-symbol.ensures

-- and an E begins
braces-begun : (t : ℕ) (c : braces-Then-begins_e t) → Begun c.args.src.now c.args.toks.now c.args.s E
unfolding first
braces-begun t c = record { seen = learnt first_e c.if-begins_e.true c.begins_e.ensures c.symbol_at-symbol.ensures }

pub braces-rule_e-requires : goal.braces-rule_e-requires
braces-rule_e-requires t c = (omega arith, (ready_of c.requires.ready.tokens (omega arith), braces-begun t (goal.at.braces-rule_e-requires t c).Then-begins_e))

pub braces-brace-requires : goal.braces-brace-requires
braces-brace-requires t c =
    let g = after-e c.requires.ready (braces-begun t (goal.at.braces-brace-requires t c).Then-begins_e) c.rule_e.ensures c.in_ok-n.was in
    (omega arith, (ready_of c.requires.ready.tokens (omega arith), (omega arith, g.node)))

pub braces-returns-then-is_symbol : goal.braces-returns-then-is_symbol
unfolding begins null
braces-returns-then-is_symbol t c =
    let r = c.requires.ready in
    let m = ready_tested (code.RBrace ∷ []) refl refl r c.if-is_symbol.true c.is_symbol.ensures c.symbol_at-symbol.ensures in
    record { comes = λ vs. or_first r.here m.seen (taken_wrote m (rw c.past-on.ensures at (c.put_empty.ensures c.args.src.now))) }

pub braces-returns-in_ok-n : goal.braces-returns-in_ok-n
unfolding first begins null
braces-returns-in_ok-n t c =
    let h = c.requires.ready.here in
    let b = (braces-begun t (goal.at.braces-returns-in_ok-n t c).Then-begins_e).seen in
    record { comes = λ vs. or_next h (braces-shut-not t (goal.at.braces-returns-in_ok-n t c).Else-is_symbol) (starts b) (part_then (called h b c.rule_e.ensures) c.in_ok-n.was (c.brace.ensures.comes vs)) }

pub braces-returns-in_err-n : goal.braces-returns-in_err-n
unfolding first begins null
braces-returns-in_err-n t c =
    let h = c.requires.ready.here in
    let b = (braces-begun t (goal.at.braces-returns-in_err-n t c).Then-begins_e).seen in
    rw (handed_on _ c.from_residual.ensures.1) (record { comes = λ vs. or_next h (braces-shut-not t (goal.at.braces-returns-in_err-n t c).Else-is_symbol) (starts b) (part_stop _ (called h b c.rule_e.ensures) c.in_err-n.was) })

pub braces-returns-else-begins_e : goal.braces-returns-else-begins_e
unfolding first begins null
braces-returns-else-begins_e t c =
    let r = c.requires.ready in
    let b = learnt first_e c.if-begins_e.false c.begins_e.ensures c.symbol_at-symbol.ensures in
    record { comes = λ vs. or_neither r.here r.used (braces-shut-not t (goal.at.braces-returns-else-begins_e t c).Else-is_symbol) refl b refl }

pub enter-rule_e-requires : goal.enter-rule_e-requires
unfolding first
enter-rule_e-requires t c =
    let e = learnt first_e c.if-begins_e.true c.begins_e.ensures c.symbol_at.ensures in
    (omega arith, (c.requires, record { seen = e }))

pub enter-returns-then-begins_e : goal.enter-returns-then-begins_e
unfolding first
enter-returns-then-begins_e t c =
    let e = learnt first_e c.if-begins_e.true c.begins_e.ensures c.symbol_at.ensures in
    called c.requires.here e c.rule_e.ensures

pub enter-returns-else-begins_e : goal.enter-returns-else-begins_e
unfolding first
enter-returns-else-begins_e t c =
    let e = learnt first_e c.if-begins_e.false c.begins_e.ensures c.symbol_at.ensures in
    not_called c.requires.here c.requires.used e refl

pub head-shown-requires : goal.head-shown-requires
head-shown-requires t c =
    let r = c.requires.ready in
    let m = taken_ready (code.LBracket ∷ []) refl refl r (rw (sym c.symbol_at.ensures ∙ c.in-38.is)) in
    rw c.past-on.ensures (omega arith, (ready_of r.tokens (omega arith), (omega arith, refl, refl)))

pub head-tee-requires : goal.head-tee-requires
head-tee-requires t c =
    let r = c.requires.ready in
    let m = taken_ready (Tee ∷ []) refl refl r (rw (sym c.symbol_at.ensures ∙ c.in-50.is)) in
    rw c.past-on.ensures (omega arith, (ready_of r.tokens (omega arith), refl))

pub head-braces-requires : goal.head-braces-requires
head-braces-requires t c =
    let r = c.requires.ready in
    let m = taken_ready (code.LBrace ∷ []) refl refl r (rw (sym c.symbol_at.ensures ∙ c.in-40.is)) in
    rw c.past-on.ensures (omega arith, (ready_of r.tokens (omega arith), omega arith))

pub head-round-requires : goal.head-round-requires
head-round-requires t c =
    let r = c.requires.ready in
    let m = taken_ready (code.LParen ∷ []) refl refl r (rw (sym c.symbol_at.ensures ∙ c.in-36.is)) in
    rw c.past-on.ensures (omega arith, (ready_of r.tokens (omega arith), omega arith))

pub head-returns-in-38 : goal.head-returns-in-38
unfolding first begins null
head-returns-in-38 t c =
    let h = c.requires.ready.here in
    let q = sym c.symbol_at.ensures ∙ c.in-38.is in
    record { comes = λ vs. or_next h (rw q) (starts (rw q)) (or_first h (rw q) (tok_mark h (rw q) (rw c.past-on.ensures at (c.shown.ensures.comes vs)))) }

pub head-returns-in-50 : goal.head-returns-in-50
unfolding first begins null
head-returns-in-50 t c =
    let h = c.requires.ready.here in
    let q = sym c.symbol_at.ensures ∙ c.in-50.is in
    record { comes = λ vs. or_next h (rw q) (starts (rw q)) (or_next h (rw q) (starts (rw q)) (or_first h (rw q) (tok_then h (rw q) (rw c.past-on.ensures at (c.tee.ensures.comes vs))))) }

pub head-returns-in-40 : goal.head-returns-in-40
unfolding first begins null
head-returns-in-40 t c =
    let h = c.requires.ready.here in
    let q = sym c.symbol_at.ensures ∙ c.in-40.is in
    record { comes = λ vs. or_next h (rw q) (starts (rw q)) (or_next h (rw q) (starts (rw q)) (or_next h (rw q) (starts (rw q)) (or_first h (rw q) (tok_mark h (rw q) (rw c.past-on.ensures at (c.braces.ensures.comes vs)))))) }

pub head-returns-in-36 : goal.head-returns-in-36
unfolding first begins null
head-returns-in-36 t c =
    let h = c.requires.ready.here in
    let q = sym c.symbol_at.ensures ∙ c.in-36.is in
    record { comes = λ vs. or_next h (rw q) (starts (rw q)) (or_next h (rw q) (starts (rw q)) (or_next h (rw q) (starts (rw q)) (or_next h (rw q) (starts (rw q)) (or_first h (rw q) (tok_mark h (rw q) (rw c.past-on.ensures at (c.round.ensures.comes vs))))))) }

pub head-returns-in-21 : goal.head-returns-in-21
unfolding first begins null
head-returns-in-21 t c =
    let r = c.requires.ready in
    let h = r.here in
    let q = sym c.symbol_at.ensures ∙ c.in-21.is in
    let m = taken_ready (code.Identifier ∷ []) refl refl r (rw q) in
    record { comes = λ vs. or_next h (rw q) (starts (rw q)) (or_next h (rw q) (starts (rw q)) (or_next h (rw q) (starts (rw q)) (or_next h (rw q) (starts (rw q)) (or_next h (rw q) (starts (rw q)) (taken_wrote m (rw c.past-on.ensures at (c.put_named.ensures c.args.src.now))))))) }

pub head-returns-in_default : goal.head-returns-in_default
unfolding first begins null
head-returns-in_default t c =
    let h = c.requires.ready.here in
    let k = c.symbol_at.ensures in
    let n = not_first 38 (Tee ∷ code.LBrace ∷ code.LParen ∷ code.Identifier ∷ []) k (omega arith) ∙ not_first 50 (code.LBrace ∷ code.LParen ∷ code.Identifier ∷ []) k (omega arith) ∙ not_first 40 (code.LParen ∷ code.Identifier ∷ []) k (omega arith) ∙ not_first 36 (code.Identifier ∷ []) k (omega arith) ∙ not_first 21 [] k (omega arith) in
    let e = of_first literals (code.LBracket ∷ Tee ∷ code.LBrace ∷ code.LParen ∷ code.Identifier ∷ []) (symbol_at c.args.src.now c.args.toks.now c.args.s.at.0) n c.requires.begun.seen in
    record { comes = λ vs. or_first h e (tok_then h e (act_literal (rw c.past-on.ensures at c.put_literal.ensures))) }

-- what is known behind the E
index-behind : (t : ℕ) (c : index-In_ok-i t) → Grown c.args.src.now c.args.toks.now 8 c.args.s c.in_ok-i.field-0.0 c.in_ok-i.field-0.1
index-behind t c = after_enter c.requires.ready c.enter.ensures c.in_ok-i.was

-- where the bracket stands behind it
index-bracket : (t : ℕ) (c : index-Then-is_symbol t) (behind : Grown c.args.src.now c.args.toks.now 8 c.args.s c.in_ok-i.field-0.0 c.in_ok-i.field-0.1) → Taken c.args.src.now c.args.toks.now (code.RBracket ∷ []) c.in_ok-i.field-0.1
index-bracket t c behind = taken_tested (code.RBracket ∷ []) refl refl c.requires.ready.tokens behind.here behind.used c.if-is_symbol.true c.is_symbol.ensures c.symbol_at.ensures

pub index-symbol_at-requires-clause-at_bound : goal.index-symbol_at-requires-clause-at_bound
index-symbol_at-requires-clause-at_bound t c = (index-behind t (goal.at.index-symbol_at-requires-clause-at_bound t c).In_ok-i).here

pub index-past-on-requires : goal.index-past-on-requires
index-past-on-requires t c =
    let g = index-behind t (goal.at.index-past-on-requires t c).In_ok-i in
    omega arith

pub index-put_index-requires : goal.index-put_index-requires
index-put_index-requires t c =
    let g = index-behind t (goal.at.index-put_index-requires t c).In_ok-i in
    let m = index-bracket t (goal.at.index-put_index-requires t c).Then-is_symbol (index-behind t (goal.at.index-put_index-requires t c).In_ok-i) in
    record { spot = rw c.past-on.ensures (omega arith); n_lt_nodes = rw c.past-on.ensures (omega arith) }

pub index-returns-then-is_symbol : goal.index-returns-then-is_symbol
index-returns-then-is_symbol t c =
    let m = index-bracket t (goal.at.index-returns-then-is_symbol t c).Then-is_symbol (index-behind t (goal.at.index-returns-then-is_symbol t c).In_ok-i) in
    record { comes = λ vs. part_then c.enter.ensures c.in_ok-i.was (taken_wrote m (rw c.past-on.ensures at (c.put_index.ensures c.args.src.now))) }

pub index-returns-else-is_symbol : goal.index-returns-else-is_symbol
index-returns-else-is_symbol t c =
    let g = index-behind t (goal.at.index-returns-else-is_symbol t c).In_ok-i in
    let e = learnt (code.RBracket ∷ []) c.if-is_symbol.false c.is_symbol.ensures c.symbol_at.ensures in
    record { comes = λ vs. part_then c.enter.ensures c.in_ok-i.was (tok_not g.here g.used e refl) }

pub index-returns-in_err-i : goal.index-returns-in_err-i
index-returns-in_err-i t c = rw (handed_on _ c.from_residual.ensures.1) (record { comes = λ vs. part_stop _ c.enter.ensures c.in_err-i.was })

-- what is known behind the E
item-behind : (t : ℕ) (c : item-In_ok-key t) → Grown c.args.src.now c.args.toks.now 8 c.args.s c.in_ok-key.field-0.0 c.in_ok-key.field-0.1
item-behind t c = after-e c.requires.ready c.requires.begun c.rule_e.ensures c.in_ok-key.was

-- where a colon stands behind it
item-colon : (t : ℕ) (c : item-Then-is_symbol t) (behind : Grown c.args.src.now c.args.toks.now 8 c.args.s c.in_ok-key.field-0.0 c.in_ok-key.field-0.1) → Taken c.args.src.now c.args.toks.now (code.Colon ∷ []) c.in_ok-key.field-0.1
item-colon t c behind = taken_tested (code.Colon ∷ []) refl refl c.requires.ready.tokens behind.here behind.used c.if-is_symbol.true c.is_symbol.ensures c.symbol_at.ensures

pub item-symbol_at-requires-clause-at_bound : goal.item-symbol_at-requires-clause-at_bound
item-symbol_at-requires-clause-at_bound t c = (item-behind t (goal.at.item-symbol_at-requires-clause-at_bound t c).In_ok-key).here

pub item-past-requires : goal.item-past-requires
item-past-requires t c =
    let g = item-behind t (goal.at.item-past-requires t c).In_ok-key in
    omega arith

pub item-value-requires : goal.item-value-requires
item-value-requires t c =
    let r = c.requires.ready in
    let g = item-behind t (goal.at.item-value-requires t c).In_ok-key in
    let m = item-colon t (goal.at.item-value-requires t c).Then-is_symbol (item-behind t (goal.at.item-value-requires t c).In_ok-key) in
    rw c.past.ensures (omega arith, (ready_of r.tokens (omega arith), g.node))

pub item-returns-then-is_symbol : goal.item-returns-then-is_symbol
unfolding first
item-returns-then-is_symbol t c =
    let r = c.requires.ready in
    let m = item-colon t (goal.at.item-returns-then-is_symbol t c).Then-is_symbol (item-behind t (goal.at.item-returns-then-is_symbol t c).In_ok-key) in
    record { comes = λ vs. part_then (called r.here c.requires.begun.seen c.rule_e.ensures) c.in_ok-key.was (tok_then m.here m.seen (rw c.past.ensures at (c.value.ensures.comes vs))) }

pub item-returns-else-is_symbol : goal.item-returns-else-is_symbol
unfolding first
item-returns-else-is_symbol t c =
    let r = c.requires.ready in
    let g = item-behind t (goal.at.item-returns-else-is_symbol t c).In_ok-key in
    let e = learnt (code.Colon ∷ []) c.if-is_symbol.false c.is_symbol.ensures c.symbol_at.ensures in
    record { comes = λ vs. part_then (called r.here c.requires.begun.seen c.rule_e.ensures) c.in_ok-key.was (tok_not g.here g.used e refl) }

pub item-returns-in_err-key : goal.item-returns-in_err-key
item-returns-in_err-key t c =
    rw (handed_on _ c.from_residual.ensures.1) (record { comes = λ vs. part_stop _ (called c.requires.ready.here c.requires.begun.seen c.rule_e.ensures) c.in_err-key.was })

-- where an E begins
items-begun : (t : ℕ) (c : items-Then-begins_e t) → Begun c.args.src.now c.args.toks.now c.args.s E
unfolding first
items-begun t c = record { seen = learnt first_e c.if-begins_e.true c.begins_e.ensures c.symbol_at.ensures }

pub items-rule_e-requires : goal.items-rule_e-requires
items-rule_e-requires t c = (omega arith, (ready_of c.requires.tokens (omega arith), items-begun t (goal.at.items-rule_e-requires t c).Then-begins_e))

pub items-rest-requires : goal.items-rest-requires
items-rest-requires t c =
    let g = after-e c.requires (items-begun t (goal.at.items-rest-requires t c).Then-begins_e) c.rule_e.ensures c.in_ok-n.was in
    (omega arith, (ready_of c.requires.tokens (omega arith), (g.node, g.node)))

pub items-returns-in_ok-n : goal.items-returns-in_ok-n
unfolding first begins null
items-returns-in_ok-n t c =
    let h = c.requires.here in
    let b = (items-begun t (goal.at.items-returns-in_ok-n t c).Then-begins_e).seen in
    record { comes = λ vs. or_first h b (part_then (called h b c.rule_e.ensures) c.in_ok-n.was (one_then (lists_done _ c.rest.ensures vs))) }

pub items-returns-in_err-n : goal.items-returns-in_err-n
unfolding first begins null
items-returns-in_err-n t c =
    let h = c.requires.here in
    let b = (items-begun t (goal.at.items-returns-in_err-n t c).Then-begins_e).seen in
    rw (handed_on _ c.from_residual.ensures.1) (record { comes = λ vs. or_first h b (part_stop _ (called h b c.rule_e.ensures) c.in_err-n.was) })

pub items-returns-else-begins_e : goal.items-returns-else-begins_e
unfolding first begins null
items-returns-else-begins_e t c =
    let r = c.requires in
    let b = learnt first_e c.if-begins_e.false c.begins_e.ensures c.symbol_at.ensures in
    record { comes = λ vs. or_next r.here b (absent refl) (none_last r.used) }

-- what is known behind the names
lambda-behind : (t : ℕ) (c : lambda-After-names t) → Went c.args.src.now c.args.toks.now c.args.s c.names.result.1
lambda-behind t c = after_list _ _ c.requires.ready.tokens modest_parameters c.requires.ready.here (c.names.ensures 0) refl

-- where the colon stands behind them
lambda-colon : (t : ℕ) (c : lambda-Then-is_symbol t) (behind : Went c.args.src.now c.args.toks.now c.args.s c.names.result.1) → Taken c.args.src.now c.args.toks.now (code.Colon ∷ []) c.names.result.1
lambda-colon t c behind = taken_tested (code.Colon ∷ []) refl refl c.requires.ready.tokens behind.here behind.used c.if-is_symbol.true c.is_symbol.ensures c.symbol_at.ensures

pub lambda-symbol_at-requires-clause-at_bound : goal.lambda-symbol_at-requires-clause-at_bound
lambda-symbol_at-requires-clause-at_bound t c = (lambda-behind t (goal.at.lambda-symbol_at-requires-clause-at_bound t c).After-names).here

pub lambda-past-requires : goal.lambda-past-requires
lambda-past-requires t c =
    let g = lambda-behind t (goal.at.lambda-past-requires t c).After-names in
    omega arith

pub lambda-body-requires : goal.lambda-body-requires
lambda-body-requires t c =
    let g = lambda-behind t (goal.at.lambda-body-requires t c).After-names in
    let m = lambda-colon t (goal.at.lambda-body-requires t c).Then-is_symbol (lambda-behind t (goal.at.lambda-body-requires t c).After-names) in
    rw c.past.ensures (omega arith, (ready_of c.requires.ready.tokens (omega arith), omega arith))

pub lambda-returns-then-is_symbol : goal.lambda-returns-then-is_symbol
lambda-returns-then-is_symbol t c =
    let m = lambda-colon t (goal.at.lambda-returns-then-is_symbol t c).Then-is_symbol (lambda-behind t (goal.at.lambda-returns-then-is_symbol t c).After-names) in
    record { comes = λ vs. part_then (c.names.ensures _) refl (tok_then m.here m.seen (rw c.past.ensures at (c.body.ensures.comes vs))) }

pub lambda-returns-else-is_symbol : goal.lambda-returns-else-is_symbol
lambda-returns-else-is_symbol t c =
    let g = lambda-behind t (goal.at.lambda-returns-else-is_symbol t c).After-names in
    let e = learnt (code.Colon ∷ []) c.if-is_symbol.false c.is_symbol.ensures c.symbol_at.ensures in
    record { comes = λ vs. part_then (c.names.ensures _) refl (tok_not g.here g.used e refl) }

pub listed-shut-requires : goal.listed-shut-requires
listed-shut-requires t c =
    let d = c.rest.ensures.leads _ _ c.in_ok-head.was in
    record { ready = d.ready; opener_lt_at = (omega (arith, d.on), c.requires.opener_lt_at.2, c.requires.opener_lt_at.3) }

pub listed-returns : goal.listed-returns
listed-returns t c =
    let d = c.rest.ensures.leads _ _ c.in_ok-head.was in
    record { comes = λ vs. d.same _ _ _ _ (done_then ((c.shut.ensures _).comes vs)) }

pub listed-returns-in_err-head : goal.listed-returns-in_err-head
listed-returns-in_err-head t c =
    rw (handed_on _ c.from_residual.ensures.1) (record { comes = λ vs. c.rest.ensures.stops _ _ c.in_err-head.was _ _ _ })

pub member-returns-else-paired : goal.member-returns-else-paired
member-returns-else-paired t c =
    rw c.if-paired.false (called c.requires.ready.here c.requires.begun.seen c.rule_e.ensures)

pub pairs-rest-requires : goal.pairs-rest-requires
pairs-rest-requires t c =
    let r = c.requires.ready in
    let g = after_node _ _ r.tokens _ modest_valued r.here c.requires.opener_lt_at.1 c.value.ensures c.in_ok-n.was in
    (omega arith, (ready_of r.tokens (omega arith), (g.1, g.1)))

pub pairs-shut-requires : goal.pairs-shut-requires
pairs-shut-requires t c =
    let r = c.requires.ready in
    let g = after_node _ _ r.tokens _ modest_valued r.here c.requires.opener_lt_at.1 c.value.ensures c.in_ok-n.was in
    let d = c.rest.ensures.leads _ _ c.in_ok-head.was in
    record { ready = d.ready; opener_lt_at = (omega (arith, d.on), refl, refl) }

pub pairs-returns : goal.pairs-returns
pairs-returns t c =
    let d = c.rest.ensures.leads _ _ c.in_ok-head.was in
    record { comes = λ vs. flat_then c.value.ensures c.in_ok-n.was (one_then (d.same _ _ _ _ (done_then ((c.shut.ensures _).comes vs)))) }

pub pairs-returns-in_err-head : goal.pairs-returns-in_err-head
pairs-returns-in_err-head t c =
    rw (handed_on _ c.from_residual-in_err-head.ensures.1) (record { comes = λ vs. flat_then c.value.ensures c.in_ok-n.was (one_then (c.rest.ensures.stops _ _ c.in_err-head.was _ _ _)) })

pub pairs-returns-in_err-n : goal.pairs-returns-in_err-n
pairs-returns-in_err-n t c =
    rw (handed_on _ c.from_residual.ensures.1) (record { comes = λ vs. flat_stop _ _ c.value.ensures c.in_err-n.was })

pub paren-returns-then-is_symbol : goal.paren-returns-then-is_symbol
unfolding begins null
paren-returns-then-is_symbol t c =
    let r = c.requires.ready in
    let m = ready_tested (code.RParen ∷ []) refl refl r c.if-is_symbol.true c.is_symbol.ensures c.symbol_at-symbol.ensures in
    rw c.past-on.ensures (record { comes = λ vs. or_first r.here m.seen (tok_then r.here m.seen (act_changed m.used (rw c.past-on.ensures at (c.widen.ensures c.args.src.now)))) })

pub paren-returns-then-is_symbol-2 : goal.paren-returns-then-is_symbol-2
unfolding first begins null
paren-returns-then-is_symbol-2 t c =
    let r = c.requires.ready in
    let e = learnt (code.RParen ∷ []) c.if-is_symbol.false c.is_symbol.ensures c.symbol_at-symbol.ensures in
    let m = ready_tested (code.Comma ∷ []) refl refl r c.if-is_symbol-2.true c.is_symbol-else-is_symbol.ensures c.symbol_at-symbol.ensures in
    record { comes = λ vs. or_next r.here e (starts m.seen) (tok_then r.here m.seen (flat (one_then (list_parts (low_member false) m.inside m.seen refl (c.listed.ensures.comes vs))))) }

pub paren-returns-else-is_symbol-2 : goal.paren-returns-else-is_symbol-2
unfolding begins null
paren-returns-else-is_symbol-2 t c =
    let r = c.requires.ready in
    let e = learnt (code.RParen ∷ []) c.if-is_symbol.false c.is_symbol.ensures c.symbol_at-symbol.ensures in
    let k = learnt (code.Comma ∷ []) c.if-is_symbol-2.false c.is_symbol-else-is_symbol.ensures c.symbol_at-symbol.ensures in
    record { comes = λ vs. or_neither r.here r.used e refl k refl }

-- the token that begins it is passed
post-passed : (t : ℕ) (c : post-After-past-on t) → Taken c.args.src.now c.args.toks.now (code.Dot ∷ code.LParen ∷ code.LBracket ∷ []) c.args.s
post-passed t c = taken_ready (code.Dot ∷ code.LParen ∷ code.LBracket ∷ []) refl refl c.requires.ready c.requires.n_lt_nodes.1

pub post-symbol_at-requires-in-45-clause-at_bound : goal.post-symbol_at-requires-in-45-clause-at_bound
post-symbol_at-requires-in-45-clause-at_bound t c =
    rw c.past-on.ensures ((post-passed t (goal.at.post-symbol_at-requires-in-45-clause-at_bound t c).After-past-on).inside)

pub post-put_attribute-requires-clause-spot : goal.post-put_attribute-requires-clause-spot
post-put_attribute-requires-clause-spot t c =
    let l = post-passed t (goal.at.post-put_attribute-requires-clause-spot t c).After-past-on in
    let m = next_tested names refl refl l c.if-is_name.true c.is_name.ensures (rw c.past-on.ensures at c.symbol_at-in-45.ensures) in
    rw (c.past.ensures, c.past-on.ensures) (omega arith)

pub post-args-requires : goal.post-args-requires
post-args-requires t c =
    let l = post-passed t (goal.at.post-args-requires t c).After-past-on in
    rw c.past-on.ensures (omega arith, (ready_of c.requires.ready.tokens (omega arith), c.requires.n_lt_nodes.0))

pub post-index-requires : goal.post-index-requires
post-index-requires t c =
    let l = post-passed t (goal.at.post-index-requires t c).After-past-on in
    rw c.past-on.ensures (omega arith, (ready_of c.requires.ready.tokens (omega arith), c.requires.n_lt_nodes.0))

pub post-returns-then-is_name : goal.post-returns-then-is_name
unfolding begins null
post-returns-then-is_name t c =
    let l = post-passed t (goal.at.post-returns-then-is_name t c).After-past-on in
    let e = coded (code.Dot ∷ []) 45 c.symbol_at.ensures c.in-45.is refl in
    let m = next_tested names refl refl l c.if-is_name.true c.is_name.ensures (rw c.past-on.ensures at c.symbol_at-in-45.ensures) in
    record { comes = λ vs. or_first l.here e (tok_then l.here e (taken_wrote m (rw (c.past.ensures, c.past-on.ensures) at (c.put_attribute.ensures c.args.src.now)))) }

pub post-returns-else-is_name : goal.post-returns-else-is_name
unfolding begins null
post-returns-else-is_name t c =
    let l = post-passed t (goal.at.post-returns-else-is_name t c).After-past-on in
    let e = coded (code.Dot ∷ []) 45 c.symbol_at.ensures c.in-45.is refl in
    let n = learnt names c.if-is_name.false c.is_name.ensures (rw c.past-on.ensures at c.symbol_at-in-45.ensures) in
    rw c.past-on.ensures (record { comes = λ vs. or_first l.here e (tok_then l.here e (tok_not l.inside l.used n refl)) })

pub post-returns-in-36 : goal.post-returns-in-36
unfolding begins null
post-returns-in-36 t c =
    let h = c.requires.ready.here in
    let q = sym c.symbol_at.ensures ∙ c.in-36.is in
    record { comes = λ vs. or_next h (rw q) (starts (rw q)) (or_first h (rw q) (tok_then h (rw q) (rw c.past-on.ensures at (c.args-in-36.ensures.comes vs)))) }

pub post-returns-in_default : goal.post-returns-in_default
unfolding begins null
post-returns-in_default t c =
    let r = c.requires.ready in
    let d = not_first 45 [] c.symbol_at.ensures (omega arith) in
    let p = not_first 36 [] c.symbol_at.ensures (omega arith) in
    let e = sym (not_first 45 (code.LParen ∷ code.LBracket ∷ []) c.symbol_at.ensures (omega arith) ∙ not_first 36 (code.LBracket ∷ []) c.symbol_at.ensures (omega arith)) ∙ c.requires.n_lt_nodes.1 in
    record { comes = λ vs. or_next r.here d (later (starts e)) (or_next r.here p (starts e) (tok_then r.here e (rw c.past-on.ensures at (c.index.ensures.comes vs)))) }

pub posts-loop-tree-smaller : goal.posts-loop-tree-smaller
posts-loop-tree-smaller t c =
    let i = c.loop-tree.invariant in
    let m = ready_tested (code.Dot ∷ code.LParen ∷ code.LBracket ∷ []) refl refl i.ready c.loop-tree-test.true c.begins_postfix.ensures c.symbol_at.ensures in
    let g = after_part _ _ i.ready.tokens _ bounded_postfix (omega arith) i.node c.post.ensures c.in_ok-m.was in
    omega arith

pub posts-loop-tree-preserved : goal.posts-loop-tree-preserved
unfolding begins null
posts-loop-tree-preserved t c =
    let i = c.loop-tree.invariant in
    let m = ready_tested (code.Dot ∷ code.LParen ∷ code.LBracket ∷ []) refl refl i.ready c.loop-tree-test.true c.begins_postfix.ensures c.symbol_at.ensures in
    let g = after_part _ _ i.ready.tokens _ bounded_postfix (omega arith) i.node c.post.ensures c.in_ok-m.was in
    let k = c.post.auto.tree in
    record {
      ready = ready_of i.ready.tokens (omega arith);
      on = omega arith;
      long = omega arith;
      node = g.node;
      same = λ vs came. i.same vs (turn_on low_postfix m.here m.seen (flat_then c.post.ensures c.in_ok-m.was came));
    }

pub posts-returns-in_err-m : goal.posts-returns-in_err-m
unfolding begins null
posts-returns-in_err-m t c =
    let i = c.loop-tree.invariant in
    let e = learnt (code.Dot ∷ code.LParen ∷ code.LBracket ∷ []) c.loop-tree-test.true c.begins_postfix.ensures c.symbol_at.ensures in
    rw (handed_on _ c.from_residual.ensures.1) (record { comes = λ vs. i.same vs (turn_on low_postfix i.ready.here e (flat_stop _ _ c.post.ensures c.in_err-m.was)) })

pub posts-returns : goal.posts-returns
unfolding begins null
posts-returns t c =
    let i = c.loop-tree.invariant in
    let e = learnt (code.Dot ∷ code.LParen ∷ code.LBracket ∷ []) c.loop-tree-test.false c.begins_postfix.ensures c.symbol_at.ensures in
    record { comes = λ vs. i.same vs (turn_end low_postfix i.ready.here e i.ready.used) }

-- where a comma was taken
rest-comma : (t : ℕ) (c : rest-After-past-on t) → Taken c.args.src.now c.args.toks.now (code.Comma ∷ []) c.loop-last.st
rest-comma t c = ready_tested (code.Comma ∷ []) refl refl c.loop-last.invariant.ready c.loop-last-test.true c.is_symbol.ensures c.symbol_at.ensures

-- where an E begins behind it
rest-begun : (t : ℕ) (c : rest-Else-not-begins_e t) → mem (symbol_at c.args.src.now c.args.toks.now (c.loop-last.st.at.0 + 1)) first_e ≡ true
rest-begun t c = rw c.past-on.ensures at (learnt first_e c.if-not-begins_e.false c.begins_e.ensures c.symbol_at-in-loop-last.ensures)

-- where a member was read there
rest-grown : (t : ℕ) (c : rest-In_ok-n t) (comma : Taken c.args.src.now c.args.toks.now (code.Comma ∷ []) c.loop-last.st) (begun : mem (symbol_at c.args.src.now c.args.toks.now (c.loop-last.st.at.0 + 1)) first_e ≡ true) → Grown c.args.src.now c.args.toks.now 8 (past c.loop-last.st) c.in_ok-n.field-0.0 c.in_ok-n.field-0.1
rest-grown t c comma begun =
    let w = c.loop-last.invariant.ready.tokens in
    let lt = before_eof first_e refl w comma.inside (begun) in
    after_start _ _ w (bounded_member c.args.paired) lt (rw c.past-on.ensures at c.member.ensures) c.in_ok-n.was

pub rest-symbol_at-requires-in-loop-last-clause-at_bound : goal.rest-symbol_at-requires-in-loop-last-clause-at_bound
rest-symbol_at-requires-in-loop-last-clause-at_bound t c = rw c.past-on.ensures ((rest-comma t (goal.at.rest-symbol_at-requires-in-loop-last-clause-at_bound t c).After-past-on).inside)

pub rest-member-requires : goal.rest-member-requires
unfolding first
rest-member-requires t c =
    let i = c.loop-last.invariant in
    let m = rest-comma t (goal.at.rest-member-requires t c).After-past-on in
    rw c.past-on.ensures (omega (arith, c.decreases, i.on, m.inside, i.ready.tokens.whole), (ready_of i.ready.tokens (omega arith), record { seen = rest-begun t (goal.at.rest-member-requires t c).Else-not-begins_e }))

pub rest-link-requires : goal.rest-link-requires
rest-link-requires t c =
    let i = c.loop-last.invariant in
    let m = rest-comma t (goal.at.rest-link-requires t c).After-past-on in
    let g = rest-grown t (goal.at.rest-link-requires t c).In_ok-n (rest-comma t (goal.at.rest-link-requires t c).After-past-on) (rest-begun t (goal.at.rest-link-requires t c).Else-not-begins_e) in
    omega (arith, c.member.auto.tree)

pub rest-loop-last-smaller : goal.rest-loop-last-smaller
rest-loop-last-smaller t c =
    let i = c.loop-last.invariant in
    let m = rest-comma t (goal.at.rest-loop-last-smaller t c).After-past-on in
    let g = rest-grown t (goal.at.rest-loop-last-smaller t c).In_ok-n (rest-comma t (goal.at.rest-loop-last-smaller t c).After-past-on) (rest-begun t (goal.at.rest-loop-last-smaller t c).Else-not-begins_e) in
    omega arith

pub rest-loop-last-preserved : goal.rest-loop-last-preserved
unfolding begins null
rest-loop-last-preserved t c =
    let i = c.loop-last.invariant in
    let m = rest-comma t (goal.at.rest-loop-last-preserved t c).After-past-on in
    let g = rest-grown t (goal.at.rest-loop-last-preserved t c).In_ok-n (rest-comma t (goal.at.rest-loop-last-preserved t c).After-past-on) (rest-begun t (goal.at.rest-loop-last-preserved t c).Else-not-begins_e) in
    let v = c.args.paired in
    let k = c.member.auto.tree in
    let k₂ = c.link.auto.tree in
    record {
      ready = ready_of i.ready.tokens (omega arith);
      on = omega arith;
      kept = omega arith;
      spare = omega arith;
      long = omega arith;
      node = g.node;
      same = λ out q vs ws came. i.same out q vs ws (list_on (low_member v) m.inside m.seen (rw (begins_member v) (rest-begun t (goal.at.rest-loop-last-preserved t c).Else-not-begins_e)) (part_then (rw c.past-on.ensures at c.member.ensures) c.in_ok-n.was (one_then (changed_then ws (c.link.ensures _ _ _ _) came))));
    }

pub rest-returns-in_err-n : goal.rest-returns-in_err-n
unfolding begins null
rest-returns-in_err-n t c =
    let i = c.loop-last.invariant in
    let m = rest-comma t (goal.at.rest-returns-in_err-n t c).After-past-on in
    let v = c.args.paired in
    rw (handed_on _ c.from_residual.ensures.1) (lists_stop (λ out q vs ws. i.same out q vs ws (list_on (low_member v) m.inside m.seen (rw (begins_member v) (rest-begun t (goal.at.rest-returns-in_err-n t c).Else-not-begins_e)) (part_stop _ (rw c.past-on.ensures at c.member.ensures) c.in_err-n.was))))

pub rest-returns-then-not-begins_e : goal.rest-returns-then-not-begins_e
unfolding begins null
rest-returns-then-not-begins_e t c =
    let v = c.args.paired in
    let i = c.loop-last.invariant in
    let m = rest-comma t (goal.at.rest-returns-then-not-begins_e t c).After-past-on in
    let b = rw c.past-on.ensures at (learnt first_e c.if-not-begins_e.true c.begins_e.ensures c.symbol_at-in-loop-last.ensures) in
    rw c.past-on.ensures (lists_node (record {
      ready = ready_of i.ready.tokens (omega arith);
      on = omega arith;
      kept = i.kept;
      spare = omega arith;
      there = omega (arith, i.kept, c.requires.first_lt_nodes.0);
      last = c.loop-last.last.0;
      same = λ out q vs ws came. i.same out q vs ws (list_shut (low_member v) m.inside m.seen (rw (begins_member v) b) came);
    }))

pub rest-returns : goal.rest-returns
unfolding begins null
rest-returns t c =
    let v = c.args.paired in
    let i = c.loop-last.invariant in
    let e = learnt (code.Comma ∷ []) c.loop-last-test.false c.is_symbol.ensures c.symbol_at.ensures in
    lists_node (record {
      ready = i.ready;
      on = i.on;
      kept = i.kept;
      spare = i.spare;
      there = omega (arith, i.kept, c.requires.first_lt_nodes.0);
      last = c.loop-last.last.0;
      same = λ out q vs ws came. i.same out q vs ws (list_end (low_member v) i.ready.here e came);
    })

-- where an E begins
round-begun : (t : ℕ) (c : round-Then-begins_e t) → Begun c.args.src.now c.args.toks.now c.args.s E
unfolding first
round-begun t c = record { seen = learnt first_e c.if-begins_e.true c.begins_e.ensures c.symbol_at-symbol.ensures }

pub round-rule_e-requires : goal.round-rule_e-requires
round-rule_e-requires t c = (omega arith, (ready_of c.requires.ready.tokens (omega arith), round-begun t (goal.at.round-rule_e-requires t c).Then-begins_e))

pub round-paren-requires : goal.round-paren-requires
round-paren-requires t c =
    let g = after-e c.requires.ready (round-begun t (goal.at.round-paren-requires t c).Then-begins_e) c.rule_e.ensures c.in_ok-n.was in
    (omega arith, (ready_of c.requires.ready.tokens (omega arith), (omega arith, g.node)))

pub round-unit-requires-clause-ready : goal.round-unit-requires-clause-ready
round-unit-requires-clause-ready t c =
    let r = c.requires.ready in
    let m = ready_tested (code.RParen ∷ []) refl refl r c.if-is_symbol.true c.is_symbol.ensures c.symbol_at-symbol.ensures in
    rw c.past.ensures (ready_of r.tokens (omega arith))

pub round-returns-in_ok-n : goal.round-returns-in_ok-n
unfolding first begins null
round-returns-in_ok-n t c =
    let h = c.requires.ready.here in
    let b = (round-begun t (goal.at.round-returns-in_ok-n t c).Then-begins_e).seen in
    record { comes = λ vs. or_first h b (part_then (called h b c.rule_e.ensures) c.in_ok-n.was (c.paren.ensures.comes vs)) }

pub round-returns-in_err-n : goal.round-returns-in_err-n
unfolding first begins null
round-returns-in_err-n t c =
    let h = c.requires.ready.here in
    let b = (round-begun t (goal.at.round-returns-in_err-n t c).Then-begins_e).seen in
    rw (handed_on _ c.from_residual.ensures.1) (record { comes = λ vs. or_first h b (part_stop _ (called h b c.rule_e.ensures) c.in_err-n.was) })

pub round-returns-then-is_symbol : goal.round-returns-then-is_symbol
unfolding first begins null
round-returns-then-is_symbol t c =
    let r = c.requires.ready in
    let b = learnt first_e c.if-begins_e.false c.begins_e.ensures c.symbol_at-symbol.ensures in
    let e = learnt (code.RParen ∷ []) c.if-is_symbol.true c.is_symbol.ensures c.symbol_at-symbol.ensures in
    record { comes = λ vs. or_next r.here b (starts e) (tok_then r.here e (rw c.past.ensures at ((c.unit.ensures c.args.left).comes vs))) }

pub round-returns-else-is_symbol : goal.round-returns-else-is_symbol
unfolding first begins null
round-returns-else-is_symbol t c =
    let r = c.requires.ready in
    let b = learnt first_e c.if-begins_e.false c.begins_e.ensures c.symbol_at-symbol.ensures in
    let e = learnt (code.RParen ∷ []) c.if-is_symbol.false c.is_symbol.ensures c.symbol_at-symbol.ensures in
    record { comes = λ vs. or_neither r.here r.used b refl e refl }

pub lambda_or_o-lambda-requires : goal.lambda_or_o-lambda-requires
lambda_or_o-lambda-requires t c =
    let r = c.requires.ready in
    let m = ready_tested (code.Lambda ∷ []) refl refl r c.if-is_symbol.true c.is_symbol.ensures c.symbol_at.ensures in
    rw c.past.ensures (omega arith, (ready_of r.tokens (omega arith), omega arith))

pub lambda_or_o-rule_o-requires : goal.lambda_or_o-rule_o-requires
unfolding first
lambda_or_o-rule_o-requires t c =
    let r = c.requires.ready in
    let e = learnt (code.Lambda ∷ []) c.if-is_symbol.false c.is_symbol.ensures c.symbol_at.ensures in
    (omega arith, (ready_of r.tokens (omega arith), record { seen = without code.Lambda first_u (symbol_at c.args.src.now c.args.toks.now c.args.s.at.0) e c.requires.begun.seen }))

pub lambda_or_o-returns-then-is_symbol : goal.lambda_or_o-returns-then-is_symbol
unfolding joined plain first begins null
lambda_or_o-returns-then-is_symbol t c =
    let r = c.requires.ready in
    let e = learnt (code.Lambda ∷ []) c.if-is_symbol.true c.is_symbol.ensures c.symbol_at.ensures in
    record { comes = λ vs. or_first r.here e (tok_mark r.here e (rw c.past.ensures at (c.lambda.ensures.comes vs))) }

pub lambda_or_o-returns-else-is_symbol : goal.lambda_or_o-returns-else-is_symbol
unfolding joined plain first begins null
lambda_or_o-returns-else-is_symbol t c =
    let r = c.requires.ready in
    let e = learnt (code.Lambda ∷ []) c.if-is_symbol.false c.is_symbol.ensures c.symbol_at.ensures in
    let b = without code.Lambda first_u (symbol_at c.args.src.now c.args.toks.now c.args.s.at.0) e c.requires.begun.seen in
    record { comes = λ vs. or_next r.here e (starts b) ((called r.here b c.rule_o.ensures).comes vs) }

pub rule_e-lambda_or_o-requires : goal.rule_e-lambda_or_o-requires
rule_e-lambda_or_o-requires t c =
    let r = c.requires.ready in
    (omega arith, (ready_of r.tokens (omega arith), record { seen = c.requires.begun.seen }))

pub rule_e-returns-then-left-eq0 : goal.rule_e-returns-then-left-eq0
unfolding opens
rule_e-returns-then-left-eq0 t c = open_deep refl c.requires.ready.used c.if-left-eq0.true

pub rule_e-returns : goal.rule_e-returns
unfolding opens
rule_e-returns t c = open_room refl c.if-left-eq0.false c.lambda_or_o.ensures.comes

pub rule_f-posts-requires : goal.rule_f-posts-requires
unfolding first
rule_f-posts-requires t c =
    let r = c.requires.ready in
    let lt = before_eof first_f refl r.tokens r.here c.requires.begun.seen in
    let g = after_start _ _ r.tokens bounded_primary lt c.head.ensures c.in_ok-n.was in
    (omega arith, (ready_of r.tokens (omega arith), g.node))

pub rule_f-returns : goal.rule_f-returns
unfolding joined opens
rule_f-returns t c =
    open_plain refl (λ vs. part_then c.head.ensures c.in_ok-n.was (c.posts.ensures.comes vs))

pub rule_f-returns-in_err-n : goal.rule_f-returns-in_err-n
unfolding joined opens
rule_f-returns-in_err-n t c =
    rw (handed_on _ c.from_residual.ensures.1) (open_plain refl (λ vs. part_stop vs c.head.ensures c.in_err-n.was))

pub rule_u-behind_signs-requires-clause-first_u_value : goal.rule_u-behind_signs-requires-clause-first_u_value
unfolding first
rule_u-behind_signs-requires-clause-first_u_value t c = search rules

pub rule_u-rule_f-requires : goal.rule_u-rule_f-requires
unfolding first
rule_u-rule_f-requires t c =
    let r = c.requires.ready in
    let k = c.skip_signs-end.ensures in
    let q = run_text sign_set refl refl r.tokens k in
    let e = sym c.behind_signs.ensures ∙ c.if-not-behind_signs.false in
    (omega arith, (ready_of r.tokens (omega arith), record { seen = e }))

pub rule_u-wrap-requires : goal.rule_u-wrap-requires
unfolding first rank
rule_u-wrap-requires t c =
    let r = c.requires.ready in
    let k = c.skip_signs-end.ensures in
    let e = sym c.behind_signs.ensures ∙ c.if-not-behind_signs.false in
    let lt = before_eof first_f refl r.tokens k.inside e in
    let g = after_rule _ _ r.tokens spares_f lt c.rule_f.ensures c.in_ok-n.was in
    omega (arith, c.rule_f.auto.tree, r.nodes, r.room, r.tokens.few, k.order, g.on, g.nodes, g.here)

pub rule_u-returns : goal.rule_u-returns
unfolding joined plain first opens rank
rule_u-returns t c =
    let r = c.requires.ready in
    let k = c.skip_signs-end.ensures in
    let e = sym c.behind_signs.ensures ∙ c.if-not-behind_signs.false in
    let lt = before_eof first_f refl r.tokens k.inside e in
    let g = after_rule _ _ r.tokens spares_f lt c.rule_f.ensures c.in_ok-n.was in
    open_plain refl (λ vs. signs_then (signs_pass k (part_then (called k.inside e c.rule_f.ensures) c.in_ok-n.was (act_wrapped g.used (c.wrap.ensures _)))))

pub rule_u-returns-in_err-n : goal.rule_u-returns-in_err-n
unfolding joined plain first opens
rule_u-returns-in_err-n t c =
    let k = c.skip_signs-end.ensures in
    let e = sym c.behind_signs.ensures ∙ c.if-not-behind_signs.false in
    rw (handed_on _ c.from_residual.ensures.1) (open_plain refl (λ vs. signs_then (signs_pass k (part_stop _ (called k.inside e c.rule_f.ensures) c.in_err-n.was))))

pub shown-shut-requires : goal.shown-shut-requires
shown-shut-requires t c =
    let r = c.requires.ready in
    let g = after_list _ _ r.tokens modest_list r.here c.items.ensures c.in_ok-first.was in
    record { ready = ready_of r.tokens (omega arith); opener_lt_at = (omega arith, c.requires.opener_lt_at.1, c.requires.opener_lt_at.2) }

pub shown-returns : goal.shown-returns
shown-returns t c =
    record { comes = λ vs. part_then c.items.ensures c.in_ok-first.was ((c.shut.ensures _).comes vs) }

pub shown-returns-in_err-first : goal.shown-returns-in_err-first
shown-returns-in_err-first t c =
    rw (handed_on _ c.from_residual.ensures.1) (record { comes = λ vs. part_stop _ c.items.ensures c.in_err-first.was })

pub tee-shown-requires : goal.tee-shown-requires
tee-shown-requires t c =
    let r = c.requires.ready in
    let m = ready_tested (code.LBrace ∷ []) refl refl r c.if-is_symbol.true c.is_symbol.ensures c.symbol_at.ensures in
    rw c.past-on.ensures (omega arith, (ready_of r.tokens (omega arith), (omega arith, refl, refl)))

pub tee-returns-then-is_symbol : goal.tee-returns-then-is_symbol
unfolding begins null
tee-returns-then-is_symbol t c =
    let r = c.requires.ready in
    let e = learnt (code.LBrace ∷ []) c.if-is_symbol.true c.is_symbol.ensures c.symbol_at.ensures in
    record { comes = λ vs. or_first r.here e (mark_at (sym c.requires.opener_value) (tok_then r.here e (rw c.past-on.ensures at (c.shown.ensures.comes vs)))) }

pub tee-returns-else-is_symbol : goal.tee-returns-else-is_symbol
unfolding begins null
tee-returns-else-is_symbol t c =
    let r = c.requires.ready in
    let e = learnt (code.LBrace ∷ []) c.if-is_symbol.false c.is_symbol.ensures c.symbol_at.ensures in
    record { comes = λ vs. or_next r.here e (absent refl) (act_wrote r.used (c.put_named.ensures _)) }

pub value-put_pair-requires : goal.value-put_pair-requires
value-put_pair-requires t c =
    let r = c.requires.ready in
    let g = after_enter r c.enter.ensures c.in_ok-n.was in
    record { spot = omega arith; key_lt_nodes = omega arith }

pub value-returns : goal.value-returns
value-returns t c =
    let r = c.requires.ready in
    let g = after_enter r c.enter.ensures c.in_ok-n.was in
    record { comes = λ vs. part_then c.enter.ensures c.in_ok-n.was (act_wrote g.used (c.put_pair.ensures _)) }

pub value-returns-in_err-n : goal.value-returns-in_err-n
value-returns-in_err-n t c =
    rw (handed_on _ c.from_residual.ensures.1) (record { comes = λ vs. part_stop _ c.enter.ensures c.in_err-n.was })

pub rule_o-loop-n-init : goal.rule_o-loop-n-init
unfolding first rank
rule_o-loop-n-init t c = reading_starts (grouping level.Or) (ready_of c.requires.ready.tokens (omega arith)) c.requires.begun.seen (omega arith)

pub rule_o-rule_a-requires : goal.rule_o-rule_a-requires
unfolding first
rule_o-rule_a-requires t c =
    let i = c.loop-n.invariant in
    (omega (arith, c.decreases, i.on), (i.ready, record { seen = i.seen }))

-- an operand was read; and joined to what stands before it
abbrev rule_o-operand : (t : ℕ) (c : rule_o-In_ok-n t) → Operand (grouping level.Or)
rule_o-operand t c = operand_read c.loop-n.invariant c.rule_a.ensures c.in_ok-n.was c.rule_a.auto.tree

abbrev rule_o-turn : (t : ℕ) (c : rule_o-After-join t) → Turn (grouping level.Or)
rule_o-turn t c = record { of = operand_read c.loop-n.invariant c.rule_a.ensures c.in_ok-n.was c.rule_a.auto.tree; made = _; tr₂ = _; goes = goes level.Or _ (c.join.ensures _); length = c.join.auto.tree }

pub rule_o-returns-in_err-n : goal.rule_o-returns-in_err-n
unfolding joined plain opens
rule_o-returns-in_err-n t c = rw (handed_on _ c.from_residual.ensures.1) (open_plain refl (λ vs. reading_stops c.loop-n.invariant c.rule_a.ensures c.in_err-n.was vs))

pub rule_o-join-requires : goal.rule_o-join-requires
rule_o-join-requires t c =
    let w = rule_o-operand t (goal.at.rule_o-join-requires t c).In_ok-n in
    record { spot = operand_spot w; held = operand_held w }

pub rule_o-look-requires-clause-at_bound : goal.rule_o-look-requires-clause-at_bound
rule_o-look-requires-clause-at_bound t c =
    let w = rule_o-turn t (goal.at.rule_o-look-requires-clause-at_bound t c).After-join in
    turn_here w

pub rule_o-returns-in_err-on : goal.rule_o-returns-in_err-on
unfolding joined plain opens
rule_o-returns-in_err-on t c =
    let w = rule_o-turn t (goal.at.rule_o-returns-in_err-on t c).After-join in
    let s = c.look.ensures.missing _ c.in_err-on.was in
    rw (handed_on _ c.from_residual-in_err-on.ensures.1) (open_plain refl (λ vs. rw s.0 (turn_misses w refl s.1 s.2 vs)))

pub rule_o-loop-n-smaller : goal.rule_o-loop-n-smaller
rule_o-loop-n-smaller t c =
    let w = rule_o-turn t (goal.at.rule_o-loop-n-smaller t c).After-join in
    let s = c.look.ensures.operand _ (c.in_ok-on.was ∙ ap (λ (o : Option State). Ok o) c.in-Some.is) in
    omega (arith, turn_less w s.0 s.1, (turn_goes w s.0 s.1 s.2).ready.here)

pub rule_o-loop-n-preserved : goal.rule_o-loop-n-preserved
rule_o-loop-n-preserved t c =
    let s = c.look.ensures.operand _ (c.in_ok-on.was ∙ ap (λ (o : Option State). Ok o) c.in-Some.is) in
    turn_goes (rule_o-turn t (goal.at.rule_o-loop-n-preserved t c).After-join) s.0 s.1 s.2

pub rule_o-returns-in-None : goal.rule_o-returns-in-None
unfolding joined plain opens
rule_o-returns-in-None t c =
    let w = rule_o-turn t (goal.at.rule_o-returns-in-None t c).After-join in
    open_plain refl (λ vs. turn_ends w (c.look.ensures.nothing (c.in_ok-on.was ∙ ap (λ (o : Option State). Ok o) c.in-None.is)) vs)

pub rule_a-loop-n-init : goal.rule_a-loop-n-init
unfolding first rank
rule_a-loop-n-init t c = reading_starts (grouping level.And) (ready_of c.requires.ready.tokens (omega arith)) c.requires.begun.seen (omega arith)

pub rule_a-rule_c-requires : goal.rule_a-rule_c-requires
unfolding first
rule_a-rule_c-requires t c =
    let i = c.loop-n.invariant in
    (omega (arith, c.decreases, i.on), (i.ready, record { seen = i.seen }))

-- an operand was read; and joined to what stands before it
abbrev rule_a-operand : (t : ℕ) (c : rule_a-In_ok-n t) → Operand (grouping level.And)
rule_a-operand t c = operand_read c.loop-n.invariant c.rule_c.ensures c.in_ok-n.was c.rule_c.auto.tree

abbrev rule_a-turn : (t : ℕ) (c : rule_a-After-join t) → Turn (grouping level.And)
rule_a-turn t c = record { of = operand_read c.loop-n.invariant c.rule_c.ensures c.in_ok-n.was c.rule_c.auto.tree; made = _; tr₂ = _; goes = goes level.And _ (c.join.ensures _); length = c.join.auto.tree }

pub rule_a-returns-in_err-n : goal.rule_a-returns-in_err-n
unfolding joined plain opens
rule_a-returns-in_err-n t c = rw (handed_on _ c.from_residual.ensures.1) (open_plain refl (λ vs. reading_stops c.loop-n.invariant c.rule_c.ensures c.in_err-n.was vs))

pub rule_a-join-requires : goal.rule_a-join-requires
rule_a-join-requires t c =
    let w = rule_a-operand t (goal.at.rule_a-join-requires t c).In_ok-n in
    record { spot = operand_spot w; held = operand_held w }

pub rule_a-look-requires-clause-at_bound : goal.rule_a-look-requires-clause-at_bound
rule_a-look-requires-clause-at_bound t c =
    let w = rule_a-turn t (goal.at.rule_a-look-requires-clause-at_bound t c).After-join in
    turn_here w

pub rule_a-returns-in_err-on : goal.rule_a-returns-in_err-on
unfolding joined plain opens
rule_a-returns-in_err-on t c =
    let w = rule_a-turn t (goal.at.rule_a-returns-in_err-on t c).After-join in
    let s = c.look.ensures.missing _ c.in_err-on.was in
    rw (handed_on _ c.from_residual-in_err-on.ensures.1) (open_plain refl (λ vs. rw s.0 (turn_misses w refl s.1 s.2 vs)))

pub rule_a-loop-n-smaller : goal.rule_a-loop-n-smaller
rule_a-loop-n-smaller t c =
    let w = rule_a-turn t (goal.at.rule_a-loop-n-smaller t c).After-join in
    let s = c.look.ensures.operand _ (c.in_ok-on.was ∙ ap (λ (o : Option State). Ok o) c.in-Some.is) in
    omega (arith, turn_less w s.0 s.1, (turn_goes w s.0 s.1 s.2).ready.here)

pub rule_a-loop-n-preserved : goal.rule_a-loop-n-preserved
rule_a-loop-n-preserved t c =
    let s = c.look.ensures.operand _ (c.in_ok-on.was ∙ ap (λ (o : Option State). Ok o) c.in-Some.is) in
    turn_goes (rule_a-turn t (goal.at.rule_a-loop-n-preserved t c).After-join) s.0 s.1 s.2

pub rule_a-returns-in-None : goal.rule_a-returns-in-None
unfolding joined plain opens
rule_a-returns-in-None t c =
    let w = rule_a-turn t (goal.at.rule_a-returns-in-None t c).After-join in
    open_plain refl (λ vs. turn_ends w (c.look.ensures.nothing (c.in_ok-on.was ∙ ap (λ (o : Option State). Ok o) c.in-None.is)) vs)

pub rule_s-loop-n-init : goal.rule_s-loop-n-init
unfolding first rank
rule_s-loop-n-init t c = reading_starts (grouping level.Sum) (ready_of c.requires.ready.tokens (omega arith)) c.requires.begun.seen (omega arith)

pub rule_s-rule_p-requires : goal.rule_s-rule_p-requires
unfolding first
rule_s-rule_p-requires t c =
    let i = c.loop-n.invariant in
    (omega (arith, c.decreases, i.on), (i.ready, record { seen = i.seen }))

-- an operand was read; and joined to what stands before it
abbrev rule_s-operand : (t : ℕ) (c : rule_s-In_ok-n t) → Operand (grouping level.Sum)
rule_s-operand t c = operand_read c.loop-n.invariant c.rule_p.ensures c.in_ok-n.was c.rule_p.auto.tree

abbrev rule_s-turn : (t : ℕ) (c : rule_s-After-join t) → Turn (grouping level.Sum)
rule_s-turn t c = record { of = operand_read c.loop-n.invariant c.rule_p.ensures c.in_ok-n.was c.rule_p.auto.tree; made = _; tr₂ = _; goes = goes level.Sum _ (c.join.ensures _); length = c.join.auto.tree }

pub rule_s-returns-in_err-n : goal.rule_s-returns-in_err-n
unfolding joined plain opens
rule_s-returns-in_err-n t c = rw (handed_on _ c.from_residual.ensures.1) (open_plain refl (λ vs. reading_stops c.loop-n.invariant c.rule_p.ensures c.in_err-n.was vs))

pub rule_s-join-requires : goal.rule_s-join-requires
rule_s-join-requires t c =
    let w = rule_s-operand t (goal.at.rule_s-join-requires t c).In_ok-n in
    record { spot = operand_spot w; held = operand_held w }

pub rule_s-look-requires-clause-at_bound : goal.rule_s-look-requires-clause-at_bound
rule_s-look-requires-clause-at_bound t c =
    let w = rule_s-turn t (goal.at.rule_s-look-requires-clause-at_bound t c).After-join in
    turn_here w

pub rule_s-returns-in_err-on : goal.rule_s-returns-in_err-on
unfolding joined plain opens
rule_s-returns-in_err-on t c =
    let w = rule_s-turn t (goal.at.rule_s-returns-in_err-on t c).After-join in
    let s = c.look.ensures.missing _ c.in_err-on.was in
    rw (handed_on _ c.from_residual-in_err-on.ensures.1) (open_plain refl (λ vs. rw s.0 (turn_misses w refl s.1 s.2 vs)))

pub rule_s-loop-n-smaller : goal.rule_s-loop-n-smaller
rule_s-loop-n-smaller t c =
    let w = rule_s-turn t (goal.at.rule_s-loop-n-smaller t c).After-join in
    let s = c.look.ensures.operand _ (c.in_ok-on.was ∙ ap (λ (o : Option State). Ok o) c.in-Some.is) in
    omega (arith, turn_less w s.0 s.1, (turn_goes w s.0 s.1 s.2).ready.here)

pub rule_s-loop-n-preserved : goal.rule_s-loop-n-preserved
rule_s-loop-n-preserved t c =
    let s = c.look.ensures.operand _ (c.in_ok-on.was ∙ ap (λ (o : Option State). Ok o) c.in-Some.is) in
    turn_goes (rule_s-turn t (goal.at.rule_s-loop-n-preserved t c).After-join) s.0 s.1 s.2

pub rule_s-returns-in-None : goal.rule_s-returns-in-None
unfolding joined plain opens
rule_s-returns-in-None t c =
    let w = rule_s-turn t (goal.at.rule_s-returns-in-None t c).After-join in
    open_plain refl (λ vs. turn_ends w (c.look.ensures.nothing (c.in_ok-on.was ∙ ap (λ (o : Option State). Ok o) c.in-None.is)) vs)

pub rule_p-loop-n-init : goal.rule_p-loop-n-init
unfolding first rank
rule_p-loop-n-init t c = reading_starts (grouping level.Product) (ready_of c.requires.ready.tokens (omega arith)) c.requires.begun.seen (omega arith)

pub rule_p-rule_u-requires : goal.rule_p-rule_u-requires
unfolding first
rule_p-rule_u-requires t c =
    let i = c.loop-n.invariant in
    (omega (arith, c.decreases, i.on), (i.ready, record { seen = i.seen }))

-- an operand was read; and joined to what stands before it
abbrev rule_p-operand : (t : ℕ) (c : rule_p-In_ok-n t) → Operand (grouping level.Product)
rule_p-operand t c = operand_read c.loop-n.invariant c.rule_u.ensures c.in_ok-n.was c.rule_u.auto.tree

abbrev rule_p-turn : (t : ℕ) (c : rule_p-After-join t) → Turn (grouping level.Product)
rule_p-turn t c = record { of = operand_read c.loop-n.invariant c.rule_u.ensures c.in_ok-n.was c.rule_u.auto.tree; made = _; tr₂ = _; goes = goes level.Product _ (c.join.ensures _); length = c.join.auto.tree }

pub rule_p-returns-in_err-n : goal.rule_p-returns-in_err-n
unfolding joined plain opens
rule_p-returns-in_err-n t c = rw (handed_on _ c.from_residual.ensures.1) (open_plain refl (λ vs. reading_stops c.loop-n.invariant c.rule_u.ensures c.in_err-n.was vs))

pub rule_p-join-requires : goal.rule_p-join-requires
rule_p-join-requires t c =
    let w = rule_p-operand t (goal.at.rule_p-join-requires t c).In_ok-n in
    record { spot = operand_spot w; held = operand_held w }

pub rule_p-look-requires-clause-at_bound : goal.rule_p-look-requires-clause-at_bound
rule_p-look-requires-clause-at_bound t c =
    let w = rule_p-turn t (goal.at.rule_p-look-requires-clause-at_bound t c).After-join in
    turn_here w

pub rule_p-returns-in_err-on : goal.rule_p-returns-in_err-on
unfolding joined plain opens
rule_p-returns-in_err-on t c =
    let w = rule_p-turn t (goal.at.rule_p-returns-in_err-on t c).After-join in
    let s = c.look.ensures.missing _ c.in_err-on.was in
    rw (handed_on _ c.from_residual-in_err-on.ensures.1) (open_plain refl (λ vs. rw s.0 (turn_misses w refl s.1 s.2 vs)))

pub rule_p-loop-n-smaller : goal.rule_p-loop-n-smaller
rule_p-loop-n-smaller t c =
    let w = rule_p-turn t (goal.at.rule_p-loop-n-smaller t c).After-join in
    let s = c.look.ensures.operand _ (c.in_ok-on.was ∙ ap (λ (o : Option State). Ok o) c.in-Some.is) in
    omega (arith, turn_less w s.0 s.1, (turn_goes w s.0 s.1 s.2).ready.here)

pub rule_p-loop-n-preserved : goal.rule_p-loop-n-preserved
rule_p-loop-n-preserved t c =
    let s = c.look.ensures.operand _ (c.in_ok-on.was ∙ ap (λ (o : Option State). Ok o) c.in-Some.is) in
    turn_goes (rule_p-turn t (goal.at.rule_p-loop-n-preserved t c).After-join) s.0 s.1 s.2

pub rule_p-returns-in-None : goal.rule_p-returns-in-None
unfolding joined plain opens
rule_p-returns-in-None t c =
    let w = rule_p-turn t (goal.at.rule_p-returns-in-None t c).After-join in
    open_plain refl (λ vs. turn_ends w (c.look.ensures.nothing (c.in_ok-on.was ∙ ap (λ (o : Option State). Ok o) c.in-None.is)) vs)

pub rule_c-loop-n-init : goal.rule_c-loop-n-init
unfolding first rank
rule_c-loop-n-init t c = reading_starts comparing (ready_of c.requires.ready.tokens (omega arith)) c.requires.begun.seen (omega arith)

pub rule_c-rule_s-requires : goal.rule_c-rule_s-requires
unfolding first
rule_c-rule_s-requires t c =
    let i = c.loop-n.invariant in
    (omega (arith, c.decreases, i.on), (i.ready, record { seen = i.seen }))

-- an operand was read; and joined to what stands before it
abbrev rule_c-operand : (t : ℕ) (c : rule_c-In_ok-n t) → Operand (comparing)
rule_c-operand t c = operand_read c.loop-n.invariant c.rule_s.ensures c.in_ok-n.was c.rule_s.auto.tree

abbrev rule_c-turn : (t : ℕ) (c : rule_c-After-compare t) → Turn (comparing)
rule_c-turn t c = record { of = operand_read c.loop-n.invariant c.rule_s.ensures c.in_ok-n.was c.rule_s.auto.tree; made = _; tr₂ = _; goes = comparing_goes _ (c.compare.ensures _); length = c.compare.auto.tree }

pub rule_c-returns-in_err-n : goal.rule_c-returns-in_err-n
unfolding joined plain opens
rule_c-returns-in_err-n t c = rw (handed_on _ c.from_residual.ensures.1) (open_plain refl (λ vs. reading_stops c.loop-n.invariant c.rule_s.ensures c.in_err-n.was vs))

pub rule_c-compare-requires : goal.rule_c-compare-requires
rule_c-compare-requires t c =
    let w = rule_c-operand t (goal.at.rule_c-compare-requires t c).In_ok-n in
    record { spot = operand_next w; hung = operand_held w }

pub rule_c-look-requires-clause-at_bound : goal.rule_c-look-requires-clause-at_bound
rule_c-look-requires-clause-at_bound t c =
    let w = rule_c-turn t (goal.at.rule_c-look-requires-clause-at_bound t c).After-compare in
    turn_here w

pub rule_c-returns-in_err-on : goal.rule_c-returns-in_err-on
unfolding joined plain opens
rule_c-returns-in_err-on t c =
    let w = rule_c-turn t (goal.at.rule_c-returns-in_err-on t c).After-compare in
    let s = c.look.ensures.missing _ c.in_err-on.was in
    rw (handed_on _ c.from_residual-in_err-on.ensures.1) (open_plain refl (λ vs. rw s.0 (turn_misses w refl s.1 s.2 vs)))

pub rule_c-loop-n-smaller : goal.rule_c-loop-n-smaller
rule_c-loop-n-smaller t c =
    let w = rule_c-turn t (goal.at.rule_c-loop-n-smaller t c).After-compare in
    let s = c.look.ensures.operand _ (c.in_ok-on.was ∙ ap (λ (o : Option State). Ok o) c.in-Some.is) in
    omega (arith, turn_less w s.0 s.1, (turn_goes w s.0 s.1 s.2).ready.here)

pub rule_c-loop-n-preserved : goal.rule_c-loop-n-preserved
rule_c-loop-n-preserved t c =
    let s = c.look.ensures.operand _ (c.in_ok-on.was ∙ ap (λ (o : Option State). Ok o) c.in-Some.is) in
    rw c.lengthen-before.ensures (turn_goes (rule_c-turn t (goal.at.rule_c-loop-n-preserved t c).After-compare) s.0 s.1 s.2)

pub rule_c-returns-in-None : goal.rule_c-returns-in-None
unfolding joined plain opens
rule_c-returns-in-None t c =
    let w = rule_c-turn t (goal.at.rule_c-returns-in-None t c).After-compare in
    open_plain refl (λ vs. turn_ends w (c.look.ensures.nothing (c.in_ok-on.was ∙ ap (λ (o : Option State). Ok o) c.in-None.is)) vs)

pub rule_u-returns-then-not-behind_signs : goal.rule_u-returns-then-not-behind_signs
unfolding joined plain first opens
rule_u-returns-then-not-behind_signs t c =
    let r = c.requires.ready in
    let k = c.skip_signs-end.ensures in
    let e = sym c.behind_signs.ensures ∙ c.if-not-behind_signs.true in
    open_plain refl (λ vs. signs_then (signs_pass k (part_stop _ (not_called k.inside (r.used ∙ sym (run_text sign_set refl refl r.tokens k)) e refl) refl)))
