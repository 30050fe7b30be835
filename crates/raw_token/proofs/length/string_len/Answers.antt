use borrow.Author.Rules.{rules}
use mathlib.Core.Path.{◌∙◌}
use Rattle.raw_token.specs.Pattern.{string}
use Rattle.raw_token.proofs.Steps.{matches, misses, string_open, body_end, body_quote, body_next, escaped_feed, escaped_next, behind_none, grow, close}
use Rattle.raw_token.proofs.length.string_len.Goals as goal
use Rattle.raw_token.proofs.length.string_len.Goals.{then-escaped+else-b-eq10, else-escaped+else-b-quote}

pub loop-i-init : goal.loop-i-init
loop-i-init c = string_open c.args.s.now c.args.at c.requires.0 c.requires.1

pub returns-then-b-eq10 : goal.returns-then-b-eq10
returns-then-b-eq10 c =
    let s = c.args.s.now in
    let l = c.loop-i in
    misses string s c.args.at (rw c.if-escaped.true at l.invariant ∙ behind_none _ _ (escaped_feed _ s l.i c.loop-i-test.true c.if-b-eq10.true))

pub returns-then-b-quote : goal.returns-then-b-quote
returns-then-b-quote c =
    let s = c.args.s.now in
    let l = c.loop-i in
    matches string s c.args.at _ (close _ l.i c.args.at _ (search rules) (rw c.if-escaped.false at l.invariant) (body_quote _ s l.i c.loop-i-test.true c.if-b-quote.true)) (search rules) (search rules)

pub loop-i-preserved : goal.loop-i-preserved
loop-i-preserved c =
    let s = c.args.s.now in
    let l = c.loop-i in
    elim c.if-escaped.branch [
      | then-escaped+else-b-eq10 w ↦ rw w.escaped-is (grow _ l.i c.args.at _ _ (search rules) (rw w.if-escaped.true at l.invariant) (escaped_next _ s l.i c.loop-i-test.true w.if-b-eq10.false))
      | else-escaped+else-b-quote w ↦ rw w.escaped-is (grow _ l.i c.args.at _ _ (search rules) (rw w.if-escaped.false at l.invariant) (body_next _ s l.i c.loop-i-test.true w.if-b-quote.false))
    ]

pub returns : goal.returns
returns c =
    let l = c.loop-i in
    misses string c.args.s.now c.args.at (l.invariant ∙ behind_none _ _ (body_end _ c.args.s.now l.i l.escaped c.loop-i-test.false))
