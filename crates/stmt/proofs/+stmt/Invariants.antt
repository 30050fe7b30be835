-- The measures and the invariants of the cycle. A measure is eight times the words of the tokens that
-- are left, and the member's rank: a call at the same token goes to a lower rank, and a token read lowers the measure by 24.
use Prim.Native.Nat.{◌+◌, ◌-◌, ◌*◌}
use lib.ListN.{length}
use Rattle.joint.proofs.Loops.{Listing}
use Rattle.stmt.specs.Parts.{others}
use Rattle.lookahead.specs.Tokens.{eof_at}
use Rattle.stmt.proofs.Blocks.{Reading}
use Rattle.stmt.proofs.+stmt.Given as goal

abbrev pub decreases-again : goal.decreases-again
decreases-again l = 8 * (length l.toks.now - 3 * l.s.at.0) + 1

abbrev pub decreases-block : goal.decreases-block
decreases-block l = 8 * (length l.toks.now - 3 * l.s.at.0) + 1

abbrev pub decreases-class_body : goal.decreases-class_body
decreases-class_body l = 8 * (length l.toks.now - 3 * l.s.at.0) + 0

abbrev pub decreases-cond : goal.decreases-cond
decreases-cond l = 8 * (length l.toks.now - 3 * l.s.at.0) + 1

abbrev pub decreases-each : goal.decreases-each
decreases-each l = 8 * (length l.toks.now - 3 * l.s.at.0) + 0

abbrev pub decreases-elif : goal.decreases-elif
decreases-elif l = 8 * (length l.toks.now - 3 * l.s.at.0) + 0

abbrev pub decreases-elifs : goal.decreases-elifs
decreases-elifs l = 8 * (length l.toks.now - 3 * l.s.at.0) + 1

abbrev pub decreases-further : goal.decreases-further
decreases-further l = 8 * (length l.toks.now - 3 * l.s.at.0) + 2

abbrev pub decreases-guarded : goal.decreases-guarded
decreases-guarded l = 8 * (length l.toks.now - 3 * l.s.at.0) + 0

abbrev pub decreases-indented : goal.decreases-indented
decreases-indented l = 8 * (length l.toks.now - 3 * l.s.at.0) + 0

abbrev pub decreases-inside : goal.decreases-inside
decreases-inside l = 8 * (length l.toks.now - 3 * l.s.at.0) + 3

abbrev pub decreases-lines : goal.decreases-lines
decreases-lines l = 8 * (length l.toks.now - 3 * l.s.at.0) + 2

abbrev pub decreases-member : goal.decreases-member
decreases-member l = 8 * (length l.toks.now - 3 * l.s.at.0) + 1

abbrev pub decreases-method : goal.decreases-method
decreases-method l = 8 * (length l.toks.now - 3 * l.s.at.0) + 0

abbrev pub decreases-named : goal.decreases-named
decreases-named l = 8 * (length l.toks.now - 3 * l.s.at.0) + 0

abbrev pub decreases-other : goal.decreases-other
decreases-other l = 8 * (length l.toks.now - 3 * l.s.at.0) + 0

abbrev pub decreases-rule_block : goal.decreases-rule_block
decreases-rule_block l = 8 * (length l.toks.now - 3 * l.s.at.0) + 0

abbrev pub decreases-rule_class : goal.decreases-rule_class
decreases-rule_class l = 8 * (length l.toks.now - 3 * l.s.at.0) + 0

abbrev pub decreases-rule_line : goal.decreases-rule_line
decreases-rule_line l = 8 * (length l.toks.now - 3 * l.s.at.0) + 1

abbrev pub invariant-further-loop-last : goal.invariant-further-loop-last
invariant-further-loop-last l = Listing l.src l.toks l.left (others l.methods) l.first.0 l.initial.last.0 l.initial.st l.initial.tree l.last.0 l.st l.tree

abbrev pub decreases-further-loop-last : goal.decreases-further-loop-last
decreases-further-loop-last l = eof_at l.toks - l.st.at.0

abbrev pub invariant-lines-loop-n : goal.invariant-lines-loop-n
invariant-lines-loop-n l = Reading l.src l.toks l.left l.initial.st l.initial.tree l.gathered l.st l.tree

abbrev pub decreases-lines-loop-n : goal.decreases-lines-loop-n
decreases-lines-loop-n l = eof_at l.toks - l.st.at.0
