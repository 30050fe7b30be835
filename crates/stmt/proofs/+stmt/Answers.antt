use Prim.Native.Nat.{ℕ}
use mathlib.Core.Path.{refl, ◌≡◌, ◌∙◌}
use mathlib.Core.Bool.{true, false}
use mathlib.Core.List.{[], ◌∷◌, List}
use native.Mathlib.Omega.{arith}
use Rattle.grammar.specs.Sets.{mem}
use Rattle.grammar.specs.Descent.{null, begins}
use Rattle.token.specs.Code as code
use Rattle.pyhyeon.specs.Rules.{names, plain}
use Rattle.pyhyeon.specs.Tables.{first, rank, first_line, joined, opens, first_simple}
use Rattle.lookahead.specs.Tokens.{symbol_at}
use Rattle.lookahead.proofs.Tests.{learnt, coded, not_first, of_second}
use Rattle.leaves.specs.Contract.{past, a_node, a_list, a_growing}
use Rattle.joint.proofs.Bounds.{Went, after_list}
use Rattle.joint.proofs.Chain.{handed_on, called, no_call, part_then, part_stop, tok_then, flat, flat_then, flat_stop, not_called, open_deep, open_room, open_plain}
use Rattle.joint.proofs.Choices.{absent, or_first, or_next, or_last, starts, alt_first, alt_next}
use Rattle.joint.proofs.Counts.{passed_start, passed_node, came_start, came_node, Came, Passed, came_call, pays_block, came_growing}
use Rattle.joint.proofs.Ends.{act_wrote, one_then, done_then, tok_mark, none_last, changed_then, wrote_then, list_last}
use Rattle.joint.proofs.Loops.{ready_of, lists_done, lists_node, lists_stop}
use Rattle.joint.proofs.Passing.{newlines_pass, run_text}
use Rattle.joint.proofs.Taken.{Taken, ready_tested, next_tested, taken_ready}
use Rattle.expr.proofs.Low.{modest_parameters}
use Rattle.expr.proofs.Read.{after_enter}
use Rattle.simple.proofs.Gathering.{gathering_starts}
use Rattle.simple.proofs.Newest.{newest_wrote}
use Rattle.stmt.specs.Parts.{elif_on, leading}
use Rattle.stmt.proofs.Blocks.{modest_inside, item, lines_stop, lines_came, lines_room, lines_held, lines_end, lines_goes, list_through, one_through}
use Rattle.stmt.proofs.Branches.{modest_elifs, modest_else, taking_elif}
use Rattle.stmt.proofs.Classes.{modest_method}
use Rattle.stmt.proofs.Guards.{guards_both, guards_stop}
use Rattle.stmt.proofs.Members.{came_member, others_on, others_stop, others_end}
use Rattle.stmt.proofs.Taking.{Stepped, stepped, stepped_ready, stepped_next, opened_past, step_then, step_mark, step_end, step_not, step_no}
use Rattle.stmt.proofs.+stmt.Goals as goal
use Rattle.stmt.proofs.+stmt.Goals.{class_body-In_ok-done, class_body-In_ok-on, cond-In_ok-last, cond-In_ok-more, each-In_ok-named, each-In_ok-on, elifs-Then-is_symbol, further-In_ok-n, indented-In_ok-first, indented-In_ok-on, lines-In_ok-n, method-In_ok-on, named-After-names, named-In_ok-named, named-In_ok-on, named-In_ok-shut, other-Then-is_symbol, rule_block-Start, rule_block-Then-is_symbol, rule_class-In_ok-colon, rule_class-In_ok-named, rule_class-In_ok-on, rule_class-Start, rule_line-After-symbol_at}

pub again-put_while-requires : goal.again-put_while-requires
again-put_while-requires t c =
    let g = c.guarded.ensures.leads c.in_ok-test.was in
    record { spot = omega arith; keyword_lt_at = omega arith }

pub again-returns-in_err-test-clause-parts : goal.again-returns-in_err-test-clause-parts
again-returns-in_err-test-clause-parts t c =
    rw (handed_on _ c.from_residual.ensures.1) (record { comes = λ vs. c.guarded.ensures.stops c.in_err-test.was })

pub again-returns : goal.again-returns
again-returns t c =
    let g = c.guarded.ensures.leads c.in_ok-test.was in
    let w = c.put_while.ensures in
    record { parts = record { comes = λ vs. g.same (act_wrote g.ready.used (w _)) }; newest = newest_wrote (w []) }

pub block-rule_block-requires : goal.block-rule_block-requires
unfolding first
block-rule_block-requires t c =
    let e = learnt (code.Colon ∷ []) c.if-is_symbol.true c.is_symbol.ensures c.symbol_at.ensures in
    (omega (arith, c.decreases), (c.requires, record { seen = e }))

pub block-returns-then-is_symbol : goal.block-returns-then-is_symbol
unfolding first
block-returns-then-is_symbol t c =
    let e = learnt (code.Colon ∷ []) c.if-is_symbol.true c.is_symbol.ensures c.symbol_at.ensures in
    called c.requires.here e c.rule_block.ensures

pub block-returns-else-is_symbol : goal.block-returns-else-is_symbol
unfolding first
block-returns-else-is_symbol t c =
    let e = learnt (code.Colon ∷ []) c.if-is_symbol.false c.is_symbol.ensures c.symbol_at.ensures in
    no_call c.requires.here c.requires.used e refl

-- where Indent stands, and what is known behind the first Method and at the Dedent
class_body-indent : (t : ℕ) (c : class_body-In_ok-on t) → Stepped c.args.src.now c.args.toks.now (code.Indent ∷ []) c.args.s c.in_ok-on.on
class_body-indent t c = stepped_ready (code.Indent ∷ []) refl refl c.requires.ready c.take.ensures c.in_ok-on.was

class_body-dedent : (t : ℕ) (c : class_body-In_ok-done t) → Stepped c.args.src.now c.args.toks.now (code.Dedent ∷ []) c.in_ok-first.field-0.1 c.in_ok-done.done
class_body-dedent t c = stepped_ready (code.Dedent ∷ []) refl refl (c.further.ensures.leads _ _ c.in_ok-first.was).ready c.take-2.ensures c.in_ok-done.was

pub class_body-returns-in_err-on-clause-parts : goal.class_body-returns-in_err-on-clause-parts
class_body-returns-in_err-on-clause-parts t c =
    let r = c.requires.ready in
    rw (handed_on _ c.from_residual.ensures.1) (record { comes = λ vs. step_not r.here r.used c.take.ensures c.in_err-on.was refl })

pub class_body-method-requires : goal.class_body-method-requires
class_body-method-requires t c =
    let r = c.requires.ready in
    let e = class_body-indent t (goal.at.class_body-method-requires t c).In_ok-on in
    (omega arith, ready_of r.tokens (omega arith))

pub class_body-returns-in_err-n-clause-parts : goal.class_body-returns-in_err-n-clause-parts
class_body-returns-in_err-n-clause-parts t c =
    let e = class_body-indent t (goal.at.class_body-returns-in_err-n-clause-parts t c).In_ok-on in
    rw (handed_on _ c.from_residual-in_err-n.ensures.1) (record { comes = λ vs. step_then e (part_stop _ c.method.ensures c.in_err-n.was) })

pub class_body-further-requires : goal.class_body-further-requires
class_body-further-requires t c =
    let r = c.requires.ready in
    let e = class_body-indent t (goal.at.class_body-further-requires t c).In_ok-on in
    let g = passed_start _ _ r.tokens modest_method e.inside c.method.ensures c.in_ok-n.was in
    let k = c.method.auto.tree in
    (omega arith, (ready_of r.tokens (omega arith), passed_node g))

pub class_body-returns-in_err-first-clause-parts : goal.class_body-returns-in_err-first-clause-parts
class_body-returns-in_err-first-clause-parts t c =
    let e = class_body-indent t (goal.at.class_body-returns-in_err-first-clause-parts t c).In_ok-on in
    rw (handed_on _ c.from_residual-in_err-first.ensures.1) (record { comes = λ vs. step_then e (part_then c.method.ensures c.in_ok-n.was (one_then (c.further.ensures.stops _ _ c.in_err-first.was _ _ _))) })

pub class_body-take-requires-2-clause-at_bound : goal.class_body-take-requires-2-clause-at_bound
class_body-take-requires-2-clause-at_bound t c = (c.further.ensures.leads _ _ c.in_ok-first.was).ready.here

pub class_body-returns-in_err-done-clause-parts : goal.class_body-returns-in_err-done-clause-parts
class_body-returns-in_err-done-clause-parts t c =
    let e = class_body-indent t (goal.at.class_body-returns-in_err-done-clause-parts t c).In_ok-on in
    let d = c.further.ensures.leads _ _ c.in_ok-first.was in
    rw (handed_on _ c.from_residual-in_err-done.ensures.1) (record { comes = λ vs. step_then e (part_then c.method.ensures c.in_ok-n.was (one_then (d.same _ _ _ _ (done_then (step_not d.ready.here d.ready.used c.take-2.ensures c.in_err-done.was refl))))) })

pub class_body-put_class-requires : goal.class_body-put_class-requires
class_body-put_class-requires t c =
    let p = c.requires.keyword_lt_at in
    let e = class_body-indent t (goal.at.class_body-put_class-requires t c).In_ok-on in
    let g = passed_start _ _ e.tokens modest_method e.inside c.method.ensures c.in_ok-n.was in
    let d = c.further.ensures.leads _ _ c.in_ok-first.was in
    let f = class_body-dedent t (goal.at.class_body-put_class-requires t c).In_ok-done in
    record { spot = omega arith; keyword_lt_at = omega arith }

pub class_body-returns : goal.class_body-returns
class_body-returns t c =
    let e = class_body-indent t (goal.at.class_body-returns t c).In_ok-on in
    let d = c.further.ensures.leads _ _ c.in_ok-first.was in
    let f = class_body-dedent t (goal.at.class_body-returns t c).In_ok-done in
    let w = c.put_class.ensures in
    record { parts = record { comes = λ vs. step_then e (part_then c.method.ensures c.in_ok-n.was (one_then (d.same _ _ _ _ (done_then (step_then f (act_wrote f.used (w _))))))) }; newest = newest_wrote (w []) }

-- what is known behind the Elifs, and behind the Else
cond-elifs : (t : ℕ) (c : cond-In_ok-more t) → Passed c.args.src.now c.args.toks.now a_list c.in_ok-test.field-0.2 c.in_ok-more.field-0.0 c.in_ok-more.field-0.1
cond-elifs t c =
    let g = c.guarded.ensures.leads c.in_ok-test.was in
    passed_start _ _ g.ready.tokens modest_elifs g.ready.here c.elifs.ensures c.in_ok-more.was

cond-else : (t : ℕ) (c : cond-In_ok-last t) → Passed c.args.src.now c.args.toks.now a_list c.in_ok-test.field-0.2 c.in_ok-more.field-0.0 c.in_ok-more.field-0.1 → Passed c.args.src.now c.args.toks.now a_list c.in_ok-more.field-0.1 c.in_ok-last.field-0.0 c.in_ok-last.field-0.1
cond-else t c h =
    let g = c.guarded.ensures.leads c.in_ok-test.was in
    passed_start _ _ g.ready.tokens modest_else h.here c.other.ensures c.in_ok-last.was

pub cond-returns-in_err-test-clause-parts : goal.cond-returns-in_err-test-clause-parts
cond-returns-in_err-test-clause-parts t c =
    rw (handed_on _ c.from_residual.ensures.1) (record { comes = λ vs. c.guarded.ensures.stops c.in_err-test.was })

pub cond-elifs-requires : goal.cond-elifs-requires
cond-elifs-requires t c =
    let g = c.guarded.ensures.leads c.in_ok-test.was in
    (omega arith, g.ready)

pub cond-returns-in_err-more-clause-parts : goal.cond-returns-in_err-more-clause-parts
cond-returns-in_err-more-clause-parts t c =
    let g = c.guarded.ensures.leads c.in_ok-test.was in
    rw (handed_on _ c.from_residual-in_err-more.ensures.1) (record { comes = λ vs. g.same (part_stop _ c.elifs.ensures c.in_err-more.was) })

pub cond-other-requires : goal.cond-other-requires
cond-other-requires t c =
    let g = c.guarded.ensures.leads c.in_ok-test.was in
    let h = cond-elifs t (goal.at.cond-other-requires t c).In_ok-more in
    let k = c.elifs.auto.tree in
    (omega arith, ready_of g.ready.tokens (omega arith))

pub cond-returns-in_err-last-clause-parts : goal.cond-returns-in_err-last-clause-parts
cond-returns-in_err-last-clause-parts t c =
    let g = c.guarded.ensures.leads c.in_ok-test.was in
    rw (handed_on _ c.from_residual-in_err-last.ensures.1) (record { comes = λ vs. g.same (part_then c.elifs.ensures c.in_ok-more.was (part_stop _ c.other.ensures c.in_err-last.was)) })

pub cond-put_if-requires : goal.cond-put_if-requires
cond-put_if-requires t c =
    let g = c.guarded.ensures.leads c.in_ok-test.was in
    let h = cond-elifs t (goal.at.cond-put_if-requires t c).In_ok-more in
    let i = cond-else t (goal.at.cond-put_if-requires t c).In_ok-last h in
    let k = c.elifs.auto.tree in
    let l = c.other.auto.tree in
    record { spot = omega arith; keyword_lt_at = omega arith }

pub cond-returns : goal.cond-returns
cond-returns t c =
    let g = c.guarded.ensures.leads c.in_ok-test.was in
    let i = cond-else t (goal.at.cond-returns t c).In_ok-last (cond-elifs t (goal.at.cond-returns t c).In_ok-more) in
    let w = c.put_if.ensures in
    record { parts = record { comes = λ vs. g.same (part_then c.elifs.ensures c.in_ok-more.was (part_then c.other.ensures c.in_ok-last.was (act_wrote i.used (w _)))) }; newest = newest_wrote (w []) }

-- where the name stands, and `in` behind it
each-name : (t : ℕ) (c : each-In_ok-named t) → Stepped c.args.src.now c.args.toks.now names c.args.s c.in_ok-named.named
each-name t c = stepped_ready names refl refl c.requires.ready c.take_name.ensures c.in_ok-named.was

each-in-it : (t : ℕ) (c : each-In_ok-on t) → Stepped c.args.src.now c.args.toks.now names c.args.s c.in_ok-named.named → Stepped c.args.src.now c.args.toks.now (code.In ∷ []) c.in_ok-named.named c.in_ok-on.on
each-in-it t c d = stepped_next (code.In ∷ []) refl refl d c.take.ensures c.in_ok-on.was

pub each-returns-in_err-named-clause-parts : goal.each-returns-in_err-named-clause-parts
each-returns-in_err-named-clause-parts t c =
    let r = c.requires.ready in
    rw (handed_on _ c.from_residual.ensures.1) (record { comes = λ vs. flat (step_not r.here r.used c.take_name.ensures c.in_err-named.was refl) })

pub each-take-requires-clause-at_bound : goal.each-take-requires-clause-at_bound
each-take-requires-clause-at_bound t c = (each-name t (goal.at.each-take-requires-clause-at_bound t c).In_ok-named).inside

pub each-returns-in_err-on-clause-parts : goal.each-returns-in_err-on-clause-parts
each-returns-in_err-on-clause-parts t c =
    let d = each-name t (goal.at.each-returns-in_err-on-clause-parts t c).In_ok-named in
    rw (handed_on _ c.from_residual-in_err-on.ensures.1) (record { comes = λ vs. flat (step_mark d (step_not d.inside d.used c.take.ensures c.in_err-on.was refl)) })

pub each-guarded-requires : goal.each-guarded-requires
each-guarded-requires t c =
    let r = c.requires.ready in
    let d = each-name t (goal.at.each-guarded-requires t c).In_ok-named in
    let e = each-in-it t (goal.at.each-guarded-requires t c).In_ok-on d in
    (omega arith, ready_of r.tokens (omega arith))

pub each-returns-in_err-range-clause-parts : goal.each-returns-in_err-range-clause-parts
each-returns-in_err-range-clause-parts t c =
    let d = each-name t (goal.at.each-returns-in_err-range-clause-parts t c).In_ok-named in
    let e = each-in-it t (goal.at.each-returns-in_err-range-clause-parts t c).In_ok-on d in
    rw (handed_on _ c.from_residual-in_err-range.ensures.1) (record { comes = λ vs. flat (step_mark d (step_then e (c.guarded.ensures.stops c.in_err-range.was))) })

pub each-put_for-requires : goal.each-put_for-requires
each-put_for-requires t c =
    let d = each-name t (goal.at.each-put_for-requires t c).In_ok-named in
    let e = each-in-it t (goal.at.each-put_for-requires t c).In_ok-on d in
    let g = c.guarded.ensures.leads c.in_ok-range.was in
    record { spot = omega arith; keyword_lt_at = omega arith }

pub each-returns : goal.each-returns
each-returns t c =
    let d = each-name t (goal.at.each-returns t c).In_ok-named in
    let e = each-in-it t (goal.at.each-returns t c).In_ok-on d in
    let g = c.guarded.ensures.leads c.in_ok-range.was in
    let w = c.put_for.ensures in
    record { parts = record { comes = λ vs. flat (step_mark d (step_then e (g.same (act_wrote g.ready.used (w _))))) }; newest = newest_wrote (w []) }

pub elif-guarded-requires : goal.elif-guarded-requires
elif-guarded-requires t c =
    let r = c.requires.ready in
    let e = taken_ready (code.Elif ∷ []) refl refl r c.requires.at_value in
    rw c.past.ensures (omega arith, ready_of r.tokens (omega arith))

pub elif-returns-in_err-test : goal.elif-returns-in_err-test
elif-returns-in_err-test t c =
    let x = rw c.past.ensures at c.guarded.ensures in
    rw (handed_on _ c.from_residual.ensures.1) (record { comes = λ vs. tok_mark c.requires.ready.here c.requires.at_value (x.stops c.in_err-test.was) })

pub elif-put_elif-requires : goal.elif-put_elif-requires
elif-put_elif-requires t c =
    let g = (rw c.past.ensures at c.guarded.ensures).leads c.in_ok-test.was in
    record { spot = omega arith; keyword_lt_at = omega arith }

pub elif-returns : goal.elif-returns
elif-returns t c =
    let g = (rw c.past.ensures at c.guarded.ensures).leads c.in_ok-test.was in
    record { comes = λ vs. tok_mark c.requires.ready.here c.requires.at_value (g.same (act_wrote g.ready.used (c.put_elif.ensures _))) }

-- where `elif` stands
elifs-keyword : (t : ℕ) (c : elifs-Then-is_symbol t) → Taken c.args.src.now c.args.toks.now (code.Elif ∷ []) c.args.s
elifs-keyword t c =
    ready_tested (code.Elif ∷ []) refl refl c.requires c.if-is_symbol.true c.is_symbol.ensures c.symbol_at.ensures

pub elifs-further-requires : goal.elifs-further-requires
elifs-further-requires t c =
    let r = c.requires in
    let e = elifs-keyword t (goal.at.elifs-further-requires t c).Then-is_symbol in
    let g = came_start _ _ r.tokens taking_elif (omega (arith, e.inside)) c.elif.ensures c.in_ok-n.was in
    let k = c.elif.auto.tree in
    (omega arith, (ready_of r.tokens (omega arith), came_node g))

pub elifs-returns-in_ok-n : goal.elifs-returns-in_ok-n
unfolding begins null
elifs-returns-in_ok-n t c =
    let e = elifs-keyword t (goal.at.elifs-returns-in_ok-n t c).Then-is_symbol in
    record { comes = λ vs. or_first e.here e.seen (flat (flat_then {p = elif_on} c.elif.ensures c.in_ok-n.was (one_then (lists_done _ c.further.ensures _)))) }

pub elifs-returns-in_err-n : goal.elifs-returns-in_err-n
unfolding begins null
elifs-returns-in_err-n t c =
    let e = elifs-keyword t (goal.at.elifs-returns-in_err-n t c).Then-is_symbol in
    rw (handed_on _ c.from_residual.ensures.1) (record { comes = λ vs. or_first e.here e.seen (flat (flat_stop {p = elif_on} _ _ c.elif.ensures c.in_err-n.was)) })

pub elifs-returns-else-is_symbol : goal.elifs-returns-else-is_symbol
unfolding begins null
elifs-returns-else-is_symbol t c =
    let r = c.requires in
    let e = learnt (code.Elif ∷ []) c.if-is_symbol.false c.is_symbol.ensures c.symbol_at.ensures in
    record { comes = λ vs. or_next r.here e (absent refl) (none_last r.used) }

-- what a turn has read
further-came : (t : ℕ) (c : further-In_ok-n t) → Came c.args.src.now c.args.toks.now 0 a_node c.loop-last.st c.in_ok-n.field-0.0 c.in_ok-n.field-0.1
further-came t c =
    let i = c.loop-last.invariant in
    let e = learnt (leading c.args.methods ∷ []) c.loop-last-test.true c.leads.ensures c.symbol_at.ensures in
    came_member c.args.methods i.ready.tokens i.ready.here e c.member.ensures c.in_ok-n.was

pub further-link-requires : goal.further-link-requires
further-link-requires t c =
    let i = c.loop-last.invariant in
    let g = further-came t (goal.at.further-link-requires t c).In_ok-n in
    let k = c.member.auto.tree in
    omega arith

pub further-loop-last-smaller : goal.further-loop-last-smaller
further-loop-last-smaller t c =
    let i = c.loop-last.invariant in
    let g = further-came t (goal.at.further-loop-last-smaller t c).In_ok-n in
    omega arith

pub further-loop-last-preserved : goal.further-loop-last-preserved
further-loop-last-preserved t c =
    let v = c.args.methods in
    let i = c.loop-last.invariant in
    let e = learnt (leading v ∷ []) c.loop-last-test.true c.leads.ensures c.symbol_at.ensures in
    let g = further-came t (goal.at.further-loop-last-preserved t c).In_ok-n in
    let k = c.member.auto.tree in
    let k₂ = c.link.auto.tree in
    record {
      ready = ready_of i.ready.tokens (omega arith);
      on = omega arith;
      kept = omega arith;
      spare = omega arith;
      long = omega arith;
      node = came_node g;
      same = λ out q vs ws came. i.same out q vs ws (others_on v i.ready.here e c.member.ensures c.in_ok-n.was (one_then (changed_then ws (c.link.ensures _ _ _ _) came)));
    }

pub further-returns-in_err-n : goal.further-returns-in_err-n
further-returns-in_err-n t c =
    let i = c.loop-last.invariant in
    let e = learnt (leading c.args.methods ∷ []) c.loop-last-test.true c.leads.ensures c.symbol_at.ensures in
    rw (handed_on _ c.from_residual.ensures.1) (lists_stop (λ out q vs ws. i.same out q vs ws (others_stop c.args.methods i.ready.here e c.member.ensures c.in_err-n.was)))

pub further-returns : goal.further-returns
further-returns t c =
    let v = c.args.methods in
    let i = c.loop-last.invariant in
    let e = learnt (leading v ∷ []) c.loop-last-test.false c.leads.ensures c.symbol_at.ensures in
    lists_node (record {
      ready = i.ready;
      on = i.on;
      kept = i.kept;
      spare = i.spare;
      there = omega (arith, i.kept, c.requires.first_lt_nodes);
      last = c.loop-last.last.0;
      same = λ out q vs ws came. i.same out q vs ws (others_end v i.ready.here e came);
    })

pub guarded-returns-in_err-test : goal.guarded-returns-in_err-test
guarded-returns-in_err-test t c =
    guards_stop _ c.from_residual.ensures.1 (λ out q vs ws. part_stop _ c.enter.ensures c.in_err-test.was)

pub guarded-block-requires : goal.guarded-block-requires
guarded-block-requires t c =
    let r = c.requires in
    let g = after_enter r c.enter.ensures c.in_ok-test.was in
    let k = c.enter.auto.tree in
    (omega arith, ready_of r.tokens (omega arith))

pub guarded-returns-in_err-first : goal.guarded-returns-in_err-first
guarded-returns-in_err-first t c =
    guards_stop _ c.from_residual-in_err-first.ensures.1 (λ out q vs ws. part_then c.enter.ensures c.in_ok-test.was (part_stop _ c.block.ensures c.in_err-first.was))

pub guarded-returns : goal.guarded-returns
unfolding first rank
guarded-returns t c =
    let r = c.requires in
    let g = after_enter r c.enter.ensures c.in_ok-test.was in
    let h = came_call _ _ r.tokens pays_block refl g.here c.block.ensures c.in_ok-first.was in
    let k = c.enter.auto.tree in
    let l = c.block.auto.tree in
    guards_both (record {
      ready = ready_of r.tokens (omega arith);
      on = omega arith;
      same = λ x. part_then c.enter.ensures c.in_ok-test.was (part_then c.block.ensures c.in_ok-first.was x);
    })

-- where Indent stands, and what is known behind the Lines
indented-indent : (t : ℕ) (c : indented-In_ok-on t) → Stepped c.args.src.now c.args.toks.now (code.Indent ∷ []) c.args.s c.in_ok-on.on
indented-indent t c = stepped_ready (code.Indent ∷ []) refl refl c.requires c.take.ensures c.in_ok-on.was

indented-passed : (t : ℕ) (c : indented-In_ok-first t) → Stepped c.args.src.now c.args.toks.now (code.Indent ∷ []) c.args.s c.in_ok-on.on → Passed c.args.src.now c.args.toks.now a_list c.in_ok-on.on c.in_ok-first.field-0.0 c.in_ok-first.field-0.1
indented-passed t c e = passed_start _ _ e.tokens modest_inside e.inside c.inside.ensures c.in_ok-first.was

pub indented-returns-in_err-on : goal.indented-returns-in_err-on
indented-returns-in_err-on t c =
    let r = c.requires in
    rw (handed_on _ c.from_residual.ensures.1) (record { comes = λ vs. step_not r.here r.used c.take.ensures c.in_err-on.was refl })

pub indented-inside-requires : goal.indented-inside-requires
indented-inside-requires t c =
    let r = c.requires in
    let e = indented-indent t (goal.at.indented-inside-requires t c).In_ok-on in
    (omega arith, ready_of r.tokens (omega arith))

pub indented-returns-in_err-first : goal.indented-returns-in_err-first
indented-returns-in_err-first t c =
    let e = indented-indent t (goal.at.indented-returns-in_err-first t c).In_ok-on in
    rw (handed_on _ c.from_residual-in_err-first.ensures.1) (record { comes = λ vs. step_then e (part_stop _ c.inside.ensures c.in_err-first.was) })

pub indented-take-requires-2-clause-at_bound : goal.indented-take-requires-2-clause-at_bound
indented-take-requires-2-clause-at_bound t c =
    (indented-passed t (goal.at.indented-take-requires-2-clause-at_bound t c).In_ok-first (indented-indent t (goal.at.indented-take-requires-2-clause-at_bound t c).In_ok-on)).here

pub indented-returns-in_err-done : goal.indented-returns-in_err-done
indented-returns-in_err-done t c =
    let e = indented-indent t (goal.at.indented-returns-in_err-done t c).In_ok-on in
    let g = indented-passed t (goal.at.indented-returns-in_err-done t c).In_ok-first e in
    rw (handed_on _ c.from_residual-in_err-done.ensures.1) (record { comes = λ vs. step_then e (part_then c.inside.ensures c.in_ok-first.was (step_no g.here g.used c.take-2.ensures c.in_err-done.was refl)) })

pub indented-returns : goal.indented-returns
indented-returns t c =
    let e = indented-indent t (goal.at.indented-returns t c).In_ok-on in
    let g = indented-passed t (goal.at.indented-returns t c).In_ok-first e in
    let d = stepped (code.Dedent ∷ []) refl refl e.tokens g.here g.used c.take-2.ensures c.in_ok-done.was in
    record { comes = λ vs. step_then e (part_then c.inside.ensures c.in_ok-first.was (step_end d)) }

pub inside-lines-requires : goal.inside-lines-requires
inside-lines-requires t c =
    let r = c.requires in
    let g = c.skip_newlines-at.ensures in
    let x = run_text (code.Newline ∷ []) refl refl r.tokens g in
    (omega (arith, c.decreases, g.order), ready_of r.tokens (omega (arith, r.room, r.nodes, r.opened, r.used, x, g.order, g.inside)))

pub inside-returns-then-begins_lines : goal.inside-returns-then-begins_lines
unfolding first begins null
inside-returns-then-begins_lines t c =
    let r = c.requires in
    let b = learnt (code.Newline ∷ first_line) c.if-begins_lines.true c.begins_lines.ensures c.symbol_at.ensures in
    record { comes = λ vs. or_first r.here b (newlines_pass c.skip_newlines-at.ensures (c.lines.ensures.comes vs)) }

pub inside-returns-else-begins_lines : goal.inside-returns-else-begins_lines
unfolding first begins null
inside-returns-else-begins_lines t c =
    let r = c.requires in
    let b = learnt (code.Newline ∷ first_line) c.if-begins_lines.false c.begins_lines.ensures c.symbol_at.ensures in
    record { comes = λ vs. or_next r.here b (absent refl) (none_last r.used) }

-- what a turn has read
lines-came : (t : ℕ) (c : lines-In_ok-n t) → Came c.args.src.now c.args.toks.now 10 a_growing c.loop-n.st c.in_ok-n.field-0.0 c.in_ok-n.field-0.1
lines-came t c = lines_came c.loop-n.invariant c.rule_line.ensures c.in_ok-n.was

pub lines-returns-then-not-begins_line : goal.lines-returns-then-not-begins_line
unfolding first
lines-returns-then-not-begins_line t c =
    let r = c.requires in
    let b = learnt first_line c.if-not-begins_line.true c.begins_line.ensures c.symbol_at.ensures in
    record { comes = λ vs. part_stop {mid = a_growing} _ (no_call r.here r.used b refl) refl }

pub lines-loop-n-init : goal.lines-loop-n-init
unfolding first
lines-loop-n-init t c =
    let b = learnt first_line c.if-not-begins_line.false c.begins_line.ensures c.symbol_at.ensures in
    gathering_starts {item = item} c.requires (record { seen = b })

pub lines-returns-in_err-n : goal.lines-returns-in_err-n
lines-returns-in_err-n t c =
    rw (handed_on _ c.from_residual.ensures.1) (record { comes = λ vs. lines_stop c.loop-n.invariant c.rule_line.ensures c.in_err-n.was vs })

pub lines-overflow_sub-last : goal.lines-overflow_sub-last
lines-overflow_sub-last t c = omega (arith, came_growing (lines-came t (goal.at.lines-overflow_sub-last t c).In_ok-n))

pub lines-skip_newlines-at-requires-clause-at_bound : goal.lines-skip_newlines-at-requires-clause-at_bound
lines-skip_newlines-at-requires-clause-at_bound t c = (lines-came t (goal.at.lines-skip_newlines-at-requires-clause-at_bound t c).In_ok-n).here

pub lines-append-first-requires : goal.lines-append-first-requires
lines-append-first-requires t c =
    let i = c.loop-n.invariant in
    let r = c.rule_line.ensures in
    let e = c.in_ok-n.was in
    record { nodes_in_bounds = lines_room i r e c.rule_line.auto.tree; held = lines_held i r e c.skip_newlines-at.ensures }

pub lines-returns-then-not-begins_line-2 : goal.lines-returns-then-not-begins_line-2
lines-returns-then-not-begins_line-2 t c =
    let j = c.append-first.ensures _ _ in
    let b = learnt first_line c.if-not-begins_line-2.true c.begins_line-in-loop-n.ensures c.symbol_at-in-loop-n.ensures in
    record { comes = λ vs. lines_end c.loop-n.invariant c.rule_line.ensures c.in_ok-n.was c.skip_newlines-at.ensures j b vs }

pub lines-loop-n-smaller : goal.lines-loop-n-smaller
lines-loop-n-smaller t c =
    let g = c.skip_newlines-at.ensures in
    let v = lines-came t (goal.at.lines-loop-n-smaller t c).In_ok-n in
    omega (arith, v.on, g.order, g.inside)

pub lines-loop-n-preserved : goal.lines-loop-n-preserved
lines-loop-n-preserved t c =
    let j = c.append-first.ensures _ _ in
    let b = learnt first_line c.if-not-begins_line-2.false c.begins_line-in-loop-n.ensures c.symbol_at-in-loop-n.ensures in
    lines_goes c.loop-n.invariant c.rule_line.ensures c.in_ok-n.was c.skip_newlines-at.ensures j c.rule_line.auto.tree c.append-first.auto.tree b

-- where `def` stands
method-def : (t : ℕ) (c : method-In_ok-on t) → Stepped c.args.src.now c.args.toks.now (code.Def ∷ []) c.args.s c.in_ok-on.on
method-def t c = stepped_ready (code.Def ∷ []) refl refl c.requires c.take.ensures c.in_ok-on.was

pub method-returns-in_err-on : goal.method-returns-in_err-on
method-returns-in_err-on t c =
    let r = c.requires in
    rw (handed_on _ c.from_residual.ensures.1) (record { comes = λ vs. step_not r.here r.used c.take.ensures c.in_err-on.was refl })

pub method-named-requires : goal.method-named-requires
method-named-requires t c =
    let r = c.requires in
    let e = method-def t (goal.at.method-named-requires t c).In_ok-on in
    (omega arith, (ready_of r.tokens (omega arith), omega arith))

pub method-returns : goal.method-returns
method-returns t c =
    let e = method-def t (goal.at.method-returns t c).In_ok-on in
    record { comes = λ vs. step_mark e (c.named.ensures.parts.comes vs) }

-- where the name stands, the parenthesis behind it, and what is known behind the names and at the parenthesis there
named-name : (t : ℕ) (c : named-In_ok-named t) → Stepped c.args.src.now c.args.toks.now names c.args.s c.in_ok-named.named
named-name t c = stepped_ready names refl refl c.requires.ready c.take_name.ensures c.in_ok-named.was

named-open : (t : ℕ) (c : named-In_ok-on t) → Stepped c.args.src.now c.args.toks.now names c.args.s c.in_ok-named.named → Stepped c.args.src.now c.args.toks.now (code.LParen ∷ []) c.in_ok-named.named c.in_ok-on.on
named-open t c d = stepped_next (code.LParen ∷ []) refl refl d c.take.ensures c.in_ok-on.was

named-went : (t : ℕ) (c : named-After-names t) → Stepped c.args.src.now c.args.toks.now (code.LParen ∷ []) c.in_ok-named.named c.in_ok-on.on → Went c.args.src.now c.args.toks.now c.in_ok-on.on c.names.result.1
named-went t c e = after_list _ _ e.tokens modest_parameters e.inside (c.names.ensures 0) refl

named-shut : (t : ℕ) (c : named-In_ok-shut t) → Went c.args.src.now c.args.toks.now c.in_ok-on.on c.names.result.1 → Stepped c.args.src.now c.args.toks.now (code.RParen ∷ []) c.names.result.1 c.in_ok-shut.shut
named-shut t c g = stepped (code.RParen ∷ []) refl refl c.requires.ready.tokens g.here g.used c.take-2.ensures c.in_ok-shut.was

pub named-returns-in_err-named-clause-parts : goal.named-returns-in_err-named-clause-parts
named-returns-in_err-named-clause-parts t c =
    let r = c.requires.ready in
    rw (handed_on _ c.from_residual.ensures.1) (record { comes = λ vs. flat (step_not r.here r.used c.take_name.ensures c.in_err-named.was refl) })

pub named-take-requires-clause-at_bound : goal.named-take-requires-clause-at_bound
named-take-requires-clause-at_bound t c = (named-name t (goal.at.named-take-requires-clause-at_bound t c).In_ok-named).inside

pub named-returns-in_err-on-clause-parts : goal.named-returns-in_err-on-clause-parts
named-returns-in_err-on-clause-parts t c =
    let d = named-name t (goal.at.named-returns-in_err-on-clause-parts t c).In_ok-named in
    rw (handed_on _ c.from_residual-in_err-on.ensures.1) (record { comes = λ vs. flat (step_mark d (step_not d.inside d.used c.take.ensures c.in_err-on.was refl)) })

pub named-names-requires : goal.named-names-requires
named-names-requires t c =
    let r = c.requires.ready in
    let d = named-name t (goal.at.named-names-requires t c).In_ok-named in
    let e = named-open t (goal.at.named-names-requires t c).In_ok-on d in
    ready_of r.tokens (omega arith)

pub named-take-requires-2-clause-at_bound : goal.named-take-requires-2-clause-at_bound
named-take-requires-2-clause-at_bound t c =
    let e = named-open t (goal.at.named-take-requires-2-clause-at_bound t c).In_ok-on (named-name t (goal.at.named-take-requires-2-clause-at_bound t c).In_ok-named) in
    (named-went t (goal.at.named-take-requires-2-clause-at_bound t c).After-names e).here

pub named-returns-in_err-shut-clause-parts : goal.named-returns-in_err-shut-clause-parts
named-returns-in_err-shut-clause-parts t c =
    let d = named-name t (goal.at.named-returns-in_err-shut-clause-parts t c).In_ok-named in
    let e = named-open t (goal.at.named-returns-in_err-shut-clause-parts t c).In_ok-on d in
    let g = named-went t (goal.at.named-returns-in_err-shut-clause-parts t c).After-names e in
    rw (handed_on _ c.from_residual-in_err-shut.ensures.1) (record { comes = λ vs. flat (step_mark d (step_then e (part_then (c.names.ensures _) refl (step_not g.here g.used c.take-2.ensures c.in_err-shut.was refl)))) })

pub named-block-requires : goal.named-block-requires
named-block-requires t c =
    let r = c.requires.ready in
    let d = named-name t (goal.at.named-block-requires t c).In_ok-named in
    let e = named-open t (goal.at.named-block-requires t c).In_ok-on d in
    let g = named-went t (goal.at.named-block-requires t c).After-names e in
    let f = named-shut t (goal.at.named-block-requires t c).In_ok-shut g in
    let k = c.names.auto.tree in
    (omega arith, ready_of r.tokens (omega arith))

pub named-returns-in_err-first-clause-parts : goal.named-returns-in_err-first-clause-parts
named-returns-in_err-first-clause-parts t c =
    let d = named-name t (goal.at.named-returns-in_err-first-clause-parts t c).In_ok-named in
    let e = named-open t (goal.at.named-returns-in_err-first-clause-parts t c).In_ok-on d in
    let f = named-shut t (goal.at.named-returns-in_err-first-clause-parts t c).In_ok-shut (named-went t (goal.at.named-returns-in_err-first-clause-parts t c).After-names e) in
    rw (handed_on _ c.from_residual-in_err-first.ensures.1) (record { comes = λ vs. flat (step_mark d (step_then e (part_then (c.names.ensures _) refl (step_then f (part_stop _ c.block.ensures c.in_err-first.was))))) })

pub named-put_def-requires : goal.named-put_def-requires
unfolding first rank
named-put_def-requires t c =
    let r = c.requires.ready in
    let d = named-name t (goal.at.named-put_def-requires t c).In_ok-named in
    let e = named-open t (goal.at.named-put_def-requires t c).In_ok-on d in
    let g = named-went t (goal.at.named-put_def-requires t c).After-names e in
    let f = named-shut t (goal.at.named-put_def-requires t c).In_ok-shut g in
    let b = came_call _ _ r.tokens pays_block refl f.inside c.block.ensures c.in_ok-first.was in
    let k₁ = c.names.auto.tree in
    let k₂ = c.block.auto.tree in
    record { spot = omega arith; keyword_lt_at = omega arith }

pub named-returns : goal.named-returns
unfolding first rank
named-returns t c =
    let d = named-name t (goal.at.named-returns t c).In_ok-named in
    let e = named-open t (goal.at.named-returns t c).In_ok-on d in
    let f = named-shut t (goal.at.named-returns t c).In_ok-shut (named-went t (goal.at.named-returns t c).After-names e) in
    let b = came_call _ _ f.tokens pays_block refl f.inside c.block.ensures c.in_ok-first.was in
    let w = c.put_def.ensures in
    record { parts = record { comes = λ vs. flat (step_mark d (step_then e (part_then (c.names.ensures _) refl (step_then f (part_then c.block.ensures c.in_ok-first.was (act_wrote b.used (w _))))))) }; newest = newest_wrote (w []) }

-- where `else` stands
other-else : (t : ℕ) (c : other-Then-is_symbol t) → Taken c.args.src.now c.args.toks.now (code.Else ∷ []) c.args.s
other-else t c =
    ready_tested (code.Else ∷ []) refl refl c.requires c.if-is_symbol.true c.is_symbol.ensures c.symbol_at.ensures

pub other-block-requires : goal.other-block-requires
other-block-requires t c =
    let r = c.requires in
    let e = other-else t (goal.at.other-block-requires t c).Then-is_symbol in
    rw c.past.ensures (omega arith, ready_of r.tokens (omega arith))

pub other-put_else-requires : goal.other-put_else-requires
unfolding first rank
other-put_else-requires t c =
    let x = rw c.past.ensures at c.block.ensures in
    let r = c.requires in
    let e = other-else t (goal.at.other-put_else-requires t c).Then-is_symbol in
    let h = came_call _ _ r.tokens pays_block refl e.inside x c.in_ok-first.was in
    let k = c.block.auto.tree in
    record { spot = omega arith; keyword_lt_at = omega arith }

pub other-returns-in_ok-first : goal.other-returns-in_ok-first
unfolding first rank begins null
other-returns-in_ok-first t c =
    let x = rw c.past.ensures at c.block.ensures in
    let e = other-else t (goal.at.other-returns-in_ok-first t c).Then-is_symbol in
    let h = came_call _ _ e.tokens pays_block refl e.inside x c.in_ok-first.was in
    let w = c.put_else.ensures in
    record { comes = λ vs. or_first e.here e.seen (tok_mark e.here e.seen (part_then x c.in_ok-first.was (wrote_then (w _) (one_then (list_last (rw (w []).after h.used)))))) }

pub other-returns-in_err-first : goal.other-returns-in_err-first
unfolding begins null
other-returns-in_err-first t c =
    let x = rw c.past.ensures at c.block.ensures in
    let e = other-else t (goal.at.other-returns-in_err-first t c).Then-is_symbol in
    rw (handed_on _ c.from_residual.ensures.1) (record { comes = λ vs. or_first e.here e.seen (tok_mark e.here e.seen (part_stop _ x c.in_err-first.was)) })

pub other-returns-else-is_symbol : goal.other-returns-else-is_symbol
unfolding begins null
other-returns-else-is_symbol t c =
    let r = c.requires in
    let e = learnt (code.Else ∷ []) c.if-is_symbol.false c.is_symbol.ensures c.symbol_at.ensures in
    record { comes = λ vs. or_next r.here e (absent refl) (none_last r.used) }

-- where the colon stands, and a Newline behind it
rule_block-colon : (t : ℕ) (c : rule_block-Start t) → Taken c.args.src.now c.args.toks.now (code.Colon ∷ []) c.args.s
unfolding first
rule_block-colon t c = taken_ready (code.Colon ∷ []) refl refl c.requires.ready c.requires.begun.seen

rule_block-newline : (t : ℕ) (c : rule_block-Then-is_symbol t) (colon : Taken c.args.src.now c.args.toks.now (code.Colon ∷ []) c.args.s) → Taken c.args.src.now c.args.toks.now (code.Newline ∷ []) (past c.args.s)
rule_block-newline t c colon = next_tested (code.Newline ∷ []) refl refl colon c.if-is_symbol.true c.is_symbol.ensures c.symbol_at.ensures

pub rule_block-symbol_at-requires-clause-at_bound : goal.rule_block-symbol_at-requires-clause-at_bound
rule_block-symbol_at-requires-clause-at_bound t c = (rule_block-colon t (goal.at.rule_block-symbol_at-requires-clause-at_bound t c).Start).inside

pub rule_block-skip_newlines-at-requires-clause-at_bound : goal.rule_block-skip_newlines-at-requires-clause-at_bound
rule_block-skip_newlines-at-requires-clause-at_bound t c =
    (rule_block-newline t (goal.at.rule_block-skip_newlines-at-requires-clause-at_bound t c).Then-is_symbol (rule_block-colon t (goal.at.rule_block-skip_newlines-at-requires-clause-at_bound t c).Start)).inside

pub rule_block-indented-requires : goal.rule_block-indented-requires
rule_block-indented-requires t c =
    let r = c.requires.ready in
    let e = rule_block-newline t (goal.at.rule_block-indented-requires t c).Then-is_symbol (rule_block-colon t (goal.at.rule_block-indented-requires t c).Start) in
    let g = c.skip_newlines-at.ensures in
    let x = run_text (code.Newline ∷ []) refl refl r.tokens g in
    (omega (arith, c.decreases, g.order, g.inside, r.tokens.whole), ready_of r.tokens (omega (arith, r.room, r.nodes, r.opened, e.used, x, g.order, g.inside)))

pub rule_block-simples-requires : goal.rule_block-simples-requires
rule_block-simples-requires t c =
    let r = c.requires.ready in
    let d = rule_block-colon t (goal.at.rule_block-simples-requires t c).Start in
    ready_of r.tokens (omega arith)

pub rule_block-returns-then-left-eq0 : goal.rule_block-returns-then-left-eq0
unfolding opens
rule_block-returns-then-left-eq0 t c =
    open_deep refl c.requires.ready.used c.if-left-eq0.true

pub rule_block-returns-then-is_symbol : goal.rule_block-returns-then-is_symbol
unfolding joined first begins null opens
rule_block-returns-then-is_symbol t c =
    let d = rule_block-colon t (goal.at.rule_block-returns-then-is_symbol t c).Start in
    let e = rule_block-newline t (goal.at.rule_block-returns-then-is_symbol t c).Then-is_symbol (rule_block-colon t (goal.at.rule_block-returns-then-is_symbol t c).Start) in
    open_room refl c.if-left-eq0.false (λ vs. tok_then d.here d.seen (or_first e.here e.seen (tok_then e.here e.seen (newlines_pass c.skip_newlines-at.ensures (c.indented.ensures.comes vs)))))

pub rule_block-returns-else-is_symbol : goal.rule_block-returns-else-is_symbol
unfolding joined first begins null opens
rule_block-returns-else-is_symbol t c =
    let d = rule_block-colon t (goal.at.rule_block-returns-else-is_symbol t c).Start in
    let e = learnt (code.Newline ∷ []) c.if-is_symbol.false c.is_symbol.ensures c.symbol_at.ensures in
    open_room refl c.if-left-eq0.false (λ vs. tok_then d.here d.seen (or_last d.inside e refl refl (λ f. flat (part_stop _ (not_called d.inside d.used f refl) refl)) (list_through _ c.simples.ensures vs)))

-- where `class` stands, the name behind it, the colon and a Newline
rule_class-class : (t : ℕ) (c : rule_class-Start t) → Taken c.args.src.now c.args.toks.now (code.Class ∷ []) c.args.s
unfolding first
rule_class-class t c = taken_ready (code.Class ∷ []) refl refl c.requires.ready c.requires.begun.seen

rule_class-name : (t : ℕ) (c : rule_class-In_ok-named t) → Taken c.args.src.now c.args.toks.now (code.Class ∷ []) c.args.s → Stepped c.args.src.now c.args.toks.now names (opened_past c.args.s) c.in_ok-named.named
rule_class-name t c k = stepped names refl refl k.tokens k.inside k.used c.take_name.ensures c.in_ok-named.was

rule_class-colon : (t : ℕ) (c : rule_class-In_ok-colon t) → Stepped c.args.src.now c.args.toks.now names (opened_past c.args.s) c.in_ok-named.named → Stepped c.args.src.now c.args.toks.now (code.Colon ∷ []) c.in_ok-named.named c.in_ok-colon.colon
rule_class-colon t c d = stepped_next (code.Colon ∷ []) refl refl d c.take.ensures c.in_ok-colon.was

rule_class-newline : (t : ℕ) (c : rule_class-In_ok-on t) → Stepped c.args.src.now c.args.toks.now (code.Colon ∷ []) c.in_ok-named.named c.in_ok-colon.colon → Stepped c.args.src.now c.args.toks.now (code.Newline ∷ []) c.in_ok-colon.colon c.in_ok-on.on
rule_class-newline t c e = stepped_next (code.Newline ∷ []) refl refl e c.take-2.ensures c.in_ok-on.was

pub rule_class-take_name-requires-clause-at_bound : goal.rule_class-take_name-requires-clause-at_bound
rule_class-take_name-requires-clause-at_bound t c = (rule_class-class t (goal.at.rule_class-take_name-requires-clause-at_bound t c).Start).inside

pub rule_class-returns-in_err-named-clause-rules : goal.rule_class-returns-in_err-named-clause-rules
unfolding joined plain first opens
rule_class-returns-in_err-named-clause-rules t c =
    let k = rule_class-class t (goal.at.rule_class-returns-in_err-named-clause-rules t c).Start in
    rw (handed_on _ c.from_residual.ensures.1) (open_plain refl (λ vs. tok_mark k.here k.seen (flat (step_not k.inside k.used c.take_name.ensures c.in_err-named.was refl))))

pub rule_class-take-requires-clause-at_bound : goal.rule_class-take-requires-clause-at_bound
rule_class-take-requires-clause-at_bound t c =
    (rule_class-name t (goal.at.rule_class-take-requires-clause-at_bound t c).In_ok-named (rule_class-class t (goal.at.rule_class-take-requires-clause-at_bound t c).Start)).inside

pub rule_class-returns-in_err-colon-clause-rules : goal.rule_class-returns-in_err-colon-clause-rules
unfolding joined plain first opens
rule_class-returns-in_err-colon-clause-rules t c =
    let k = rule_class-class t (goal.at.rule_class-returns-in_err-colon-clause-rules t c).Start in
    let d = rule_class-name t (goal.at.rule_class-returns-in_err-colon-clause-rules t c).In_ok-named k in
    rw (handed_on _ c.from_residual-in_err-colon.ensures.1) (open_plain refl (λ vs. tok_mark k.here k.seen (flat (step_mark d (step_not d.inside d.used c.take.ensures c.in_err-colon.was refl)))))

pub rule_class-take-requires-2-clause-at_bound : goal.rule_class-take-requires-2-clause-at_bound
rule_class-take-requires-2-clause-at_bound t c =
    let d = rule_class-name t (goal.at.rule_class-take-requires-2-clause-at_bound t c).In_ok-named (rule_class-class t (goal.at.rule_class-take-requires-2-clause-at_bound t c).Start) in
    (rule_class-colon t (goal.at.rule_class-take-requires-2-clause-at_bound t c).In_ok-colon d).inside

pub rule_class-returns-in_err-on-clause-rules : goal.rule_class-returns-in_err-on-clause-rules
unfolding joined plain first opens
rule_class-returns-in_err-on-clause-rules t c =
    let k = rule_class-class t (goal.at.rule_class-returns-in_err-on-clause-rules t c).Start in
    let d = rule_class-name t (goal.at.rule_class-returns-in_err-on-clause-rules t c).In_ok-named k in
    let e = rule_class-colon t (goal.at.rule_class-returns-in_err-on-clause-rules t c).In_ok-colon d in
    rw (handed_on _ c.from_residual-in_err-on.ensures.1) (open_plain refl (λ vs. tok_mark k.here k.seen (flat (step_mark d (step_then e (step_not e.inside e.used c.take-2.ensures c.in_err-on.was refl))))))

pub rule_class-skip_newlines-at-requires-clause-at_bound : goal.rule_class-skip_newlines-at-requires-clause-at_bound
rule_class-skip_newlines-at-requires-clause-at_bound t c =
    let d = rule_class-name t (goal.at.rule_class-skip_newlines-at-requires-clause-at_bound t c).In_ok-named (rule_class-class t (goal.at.rule_class-skip_newlines-at-requires-clause-at_bound t c).Start) in
    let e = rule_class-colon t (goal.at.rule_class-skip_newlines-at-requires-clause-at_bound t c).In_ok-colon d in
    (rule_class-newline t (goal.at.rule_class-skip_newlines-at-requires-clause-at_bound t c).In_ok-on e).inside

pub rule_class-class_body-requires : goal.rule_class-class_body-requires
rule_class-class_body-requires t c =
    let r = c.requires.ready in
    let k = rule_class-class t (goal.at.rule_class-class_body-requires t c).Start in
    let d = rule_class-name t (goal.at.rule_class-class_body-requires t c).In_ok-named k in
    let e = rule_class-colon t (goal.at.rule_class-class_body-requires t c).In_ok-colon d in
    let f = rule_class-newline t (goal.at.rule_class-class_body-requires t c).In_ok-on e in
    let n = c.skip_newlines-at.ensures in
    let x = run_text (code.Newline ∷ []) refl refl r.tokens n in
    (omega arith, (ready_of r.tokens (omega arith), omega arith))

pub rule_class-returns-clause-rules : goal.rule_class-returns-clause-rules
unfolding joined plain first opens
rule_class-returns-clause-rules t c =
    let k = rule_class-class t (goal.at.rule_class-returns-clause-rules t c).Start in
    let d = rule_class-name t (goal.at.rule_class-returns-clause-rules t c).In_ok-named k in
    let e = rule_class-colon t (goal.at.rule_class-returns-clause-rules t c).In_ok-colon d in
    let f = rule_class-newline t (goal.at.rule_class-returns-clause-rules t c).In_ok-on e in
    open_plain refl (λ vs. tok_mark k.here k.seen (flat (step_mark d (step_then e (step_then f (newlines_pass c.skip_newlines-at.ensures (c.class_body.ensures.parts.comes vs)))))))

-- what begins a Line that is not simple
abbrev rule_line-keywords : List ℕ
rule_line-keywords = code.Class ∷ code.Def ∷ code.If ∷ code.While ∷ code.For ∷ []

-- where a keyword stands
rule_line-keyword : (t : ℕ) (c : rule_line-After-symbol_at t) (k : ℕ) → mem code.Eof (k ∷ []) ≡ false → mem code.String (k ∷ []) ≡ false → mem k (k ∷ []) ≡ true → c.symbol_at.result ≡ k → Taken c.args.src.now c.args.toks.now (k ∷ []) c.args.s
rule_line-keyword t c k f g i e = taken_ready (k ∷ []) f g c.requires.ready (coded (k ∷ []) k c.symbol_at.ensures e i)

pub rule_line-rule_class-requires : goal.rule_line-rule_class-requires
unfolding first
rule_line-rule_class-requires t c =
    let r = c.requires.ready in
    let l = rule_line-keyword t (goal.at.rule_line-rule_class-requires t c).After-symbol_at code.Class refl refl refl c.in-12.is in
    (omega (arith, c.decreases), (ready_of r.tokens (omega arith), record { seen = l.seen }))

pub rule_line-named-requires : goal.rule_line-named-requires
rule_line-named-requires t c =
    let r = c.requires.ready in
    let l = rule_line-keyword t (goal.at.rule_line-named-requires t c).After-symbol_at code.Def refl refl refl c.in-7.is in
    rw c.past-on.ensures (omega arith, (ready_of r.tokens (omega arith), omega arith))

pub rule_line-cond-requires : goal.rule_line-cond-requires
rule_line-cond-requires t c =
    let r = c.requires.ready in
    let l = rule_line-keyword t (goal.at.rule_line-cond-requires t c).After-symbol_at code.If refl refl refl c.in-1.is in
    rw c.past-on.ensures (omega arith, (ready_of r.tokens (omega arith), omega arith))

pub rule_line-again-requires : goal.rule_line-again-requires
rule_line-again-requires t c =
    let r = c.requires.ready in
    let l = rule_line-keyword t (goal.at.rule_line-again-requires t c).After-symbol_at code.While refl refl refl c.in-4.is in
    rw c.past-on.ensures (omega arith, (ready_of r.tokens (omega arith), omega arith))

pub rule_line-each-requires : goal.rule_line-each-requires
rule_line-each-requires t c =
    let r = c.requires.ready in
    let l = rule_line-keyword t (goal.at.rule_line-each-requires t c).After-symbol_at code.For refl refl refl c.in-5.is in
    rw c.past-on.ensures (omega arith, (ready_of r.tokens (omega arith), omega arith))

pub rule_line-returns-in-12 : goal.rule_line-returns-in-12
unfolding joined plain first begins null opens
rule_line-returns-in-12 t c =
    let y = c.symbol_at.ensures in
    let k = c.in-12.is in
    let l = rule_line-keyword t (goal.at.rule_line-returns-in-12 t c).After-symbol_at code.Class refl refl refl k in
    open_plain refl (λ vs. or_first l.here (coded rule_line-keywords 12 y k refl) (alt_first l.here l.seen (one_through _ (called l.here l.seen c.rule_class.ensures.rules) c.rule_class.ensures.newest vs)))

pub rule_line-returns-in-7 : goal.rule_line-returns-in-7
unfolding joined plain first begins null opens
rule_line-returns-in-7 t c =
    let x = rw c.past-on.ensures at c.named.ensures in
    let y = c.symbol_at.ensures in
    let k = c.in-7.is in
    let l = rule_line-keyword t (goal.at.rule_line-returns-in-7 t c).After-symbol_at code.Def refl refl refl k in
    open_plain refl (λ vs. or_first l.here (coded rule_line-keywords 7 y k refl) (alt_next l.here (coded (code.Class ∷ []) 7 y k refl) (starts (coded (code.Def ∷ code.If ∷ code.While ∷ code.For ∷ []) 7 y k refl)) (alt_first l.here l.seen (tok_mark l.here l.seen (one_through _ x.parts x.newest vs)))))

pub rule_line-returns-in-1 : goal.rule_line-returns-in-1
unfolding joined plain first begins null opens
rule_line-returns-in-1 t c =
    let x = rw c.past-on.ensures at c.cond.ensures in
    let y = c.symbol_at.ensures in
    let k = c.in-1.is in
    let l = rule_line-keyword t (goal.at.rule_line-returns-in-1 t c).After-symbol_at code.If refl refl refl k in
    open_plain refl (λ vs. or_first l.here (coded rule_line-keywords 1 y k refl) (alt_next l.here (coded (code.Class ∷ []) 1 y k refl) (starts (coded (code.Def ∷ code.If ∷ code.While ∷ code.For ∷ []) 1 y k refl)) (alt_next l.here (coded (code.Def ∷ []) 1 y k refl) (starts (coded (code.If ∷ code.While ∷ code.For ∷ []) 1 y k refl)) (alt_first l.here l.seen (tok_mark l.here l.seen (one_through _ x.parts x.newest vs))))))

pub rule_line-returns-in-4 : goal.rule_line-returns-in-4
unfolding joined plain first begins null opens
rule_line-returns-in-4 t c =
    let x = rw c.past-on.ensures at c.again.ensures in
    let y = c.symbol_at.ensures in
    let k = c.in-4.is in
    let l = rule_line-keyword t (goal.at.rule_line-returns-in-4 t c).After-symbol_at code.While refl refl refl k in
    open_plain refl (λ vs. or_first l.here (coded rule_line-keywords 4 y k refl) (alt_next l.here (coded (code.Class ∷ []) 4 y k refl) (starts (coded (code.Def ∷ code.If ∷ code.While ∷ code.For ∷ []) 4 y k refl)) (alt_next l.here (coded (code.Def ∷ []) 4 y k refl) (starts (coded (code.If ∷ code.While ∷ code.For ∷ []) 4 y k refl)) (alt_next l.here (coded (code.If ∷ []) 4 y k refl) (starts (coded (code.While ∷ code.For ∷ []) 4 y k refl)) (alt_first l.here l.seen (tok_mark l.here l.seen (one_through _ x.parts x.newest vs)))))))

pub rule_line-returns-in-5 : goal.rule_line-returns-in-5
unfolding joined plain first begins null opens
rule_line-returns-in-5 t c =
    let x = rw c.past-on.ensures at c.each.ensures in
    let y = c.symbol_at.ensures in
    let k = c.in-5.is in
    let l = rule_line-keyword t (goal.at.rule_line-returns-in-5 t c).After-symbol_at code.For refl refl refl k in
    open_plain refl (λ vs. or_first l.here (coded rule_line-keywords 5 y k refl) (alt_next l.here (coded (code.Class ∷ []) 5 y k refl) (starts (coded (code.Def ∷ code.If ∷ code.While ∷ code.For ∷ []) 5 y k refl)) (alt_next l.here (coded (code.Def ∷ []) 5 y k refl) (starts (coded (code.If ∷ code.While ∷ code.For ∷ []) 5 y k refl)) (alt_next l.here (coded (code.If ∷ []) 5 y k refl) (starts (coded (code.While ∷ code.For ∷ []) 5 y k refl)) (alt_next l.here (coded (code.While ∷ []) 5 y k refl) (starts (coded (code.For ∷ []) 5 y k refl)) (tok_mark l.here l.seen (one_through _ x.parts x.newest vs)))))))

pub rule_line-returns-in_default : goal.rule_line-returns-in_default
unfolding joined plain first begins null opens
rule_line-returns-in_default t c =
    let r = c.requires.ready in
    let x = c.symbol_at.ensures in
    let a = not_first 12 (code.Def ∷ code.If ∷ code.While ∷ code.For ∷ []) x (omega arith) ∙ not_first 7 (code.If ∷ code.While ∷ code.For ∷ []) x (omega arith) ∙ not_first 1 (code.While ∷ code.For ∷ []) x (omega arith) ∙ not_first 4 (code.For ∷ []) x (omega arith) ∙ not_first 5 [] x (omega arith) in
    open_plain refl (λ vs. or_next r.here a (starts (of_second rule_line-keywords first_simple (symbol_at c.args.src.now c.args.toks.now c.args.s.at.0) a c.requires.begun.seen)) (c.simples.ensures.comes vs))
