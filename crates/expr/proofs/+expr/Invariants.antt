-- The measures and the invariants of the cycle. A measure is eight times the words of the tokens that
-- are left, and the member's rank: a call at the same token goes to a lower rank, and a token read lowers the measure by 24.
use Prim.Native.Nat.{◌+◌, ◌-◌, ◌*◌}
use lib.ListN.{length}
use mathlib.Core.List.{[], ◌∷◌}
use Rattle.joint.proofs.Loops.{Going, Listing}
use Rattle.lookahead.specs.Tokens.{eof_at}
use Rattle.pyhyeon.specs.Rules.{postfix}
use Rattle.pyhyeon.specs.Machine.{node}
use Rattle.grammar.specs.Grammar.{many}
use Rattle.expr.specs.Parts.{others}
use Rattle.levels.proofs.Operands.{Reading}
use Rattle.levels.proofs.Grouping.{grouping}
use Rattle.levels.proofs.Comparing.{comparing}
use Rattle.levels.specs.declared.Level.TheVariants as level
use Rattle.expr.proofs.+expr.Given as goal

abbrev pub decreases-args : goal.decreases-args
decreases-args l = 8 * (length l.toks.now - 3 * l.s.at.0) + 13

abbrev pub decreases-body : goal.decreases-body
decreases-body l = 8 * (length l.toks.now - 3 * l.s.at.0) + 12

abbrev pub decreases-brace : goal.decreases-brace
decreases-brace l = 8 * (length l.toks.now - 3 * l.s.at.0) + 2

abbrev pub decreases-braces : goal.decreases-braces
decreases-braces l = 8 * (length l.toks.now - 3 * l.s.at.0) + 12

abbrev pub decreases-enter : goal.decreases-enter
decreases-enter l = 8 * (length l.toks.now - 3 * l.s.at.0) + 11

abbrev pub decreases-head : goal.decreases-head
decreases-head l = 8 * (length l.toks.now - 3 * l.s.at.0) + 1

abbrev pub decreases-index : goal.decreases-index
decreases-index l = 8 * (length l.toks.now - 3 * l.s.at.0) + 12

abbrev pub decreases-item : goal.decreases-item
decreases-item l = 8 * (length l.toks.now - 3 * l.s.at.0) + 11

abbrev pub decreases-items : goal.decreases-items
decreases-items l = 8 * (length l.toks.now - 3 * l.s.at.0) + 12

abbrev pub decreases-lambda : goal.decreases-lambda
decreases-lambda l = 8 * (length l.toks.now - 3 * l.s.at.0) + 0

abbrev pub decreases-lambda_or_o : goal.decreases-lambda_or_o
decreases-lambda_or_o l = 8 * (length l.toks.now - 3 * l.s.at.0) + 9

abbrev pub decreases-listed : goal.decreases-listed
decreases-listed l = 8 * (length l.toks.now - 3 * l.s.at.0) + 1

abbrev pub decreases-member : goal.decreases-member
decreases-member l = 8 * (length l.toks.now - 3 * l.s.at.0) + 12

abbrev pub decreases-pairs : goal.decreases-pairs
decreases-pairs l = 8 * (length l.toks.now - 3 * l.s.at.0) + 13

abbrev pub decreases-paren : goal.decreases-paren
decreases-paren l = 8 * (length l.toks.now - 3 * l.s.at.0) + 2

abbrev pub decreases-post : goal.decreases-post
decreases-post l = 8 * (length l.toks.now - 3 * l.s.at.0) + 0

abbrev pub decreases-posts : goal.decreases-posts
decreases-posts l = 8 * (length l.toks.now - 3 * l.s.at.0) + 1

abbrev pub decreases-rest : goal.decreases-rest
decreases-rest l = 8 * (length l.toks.now - 3 * l.s.at.0) + 0

abbrev pub decreases-round : goal.decreases-round
decreases-round l = 8 * (length l.toks.now - 3 * l.s.at.0) + 12

abbrev pub decreases-rule_a : goal.decreases-rule_a
decreases-rule_a l = 8 * (length l.toks.now - 3 * l.s.at.0) + 7

abbrev pub decreases-rule_c : goal.decreases-rule_c
decreases-rule_c l = 8 * (length l.toks.now - 3 * l.s.at.0) + 6

abbrev pub decreases-rule_e : goal.decreases-rule_e
decreases-rule_e l = 8 * (length l.toks.now - 3 * l.s.at.0) + 10

abbrev pub decreases-rule_f : goal.decreases-rule_f
decreases-rule_f l = 8 * (length l.toks.now - 3 * l.s.at.0) + 2

abbrev pub decreases-rule_o : goal.decreases-rule_o
decreases-rule_o l = 8 * (length l.toks.now - 3 * l.s.at.0) + 8

abbrev pub decreases-rule_p : goal.decreases-rule_p
decreases-rule_p l = 8 * (length l.toks.now - 3 * l.s.at.0) + 4

abbrev pub decreases-rule_s : goal.decreases-rule_s
decreases-rule_s l = 8 * (length l.toks.now - 3 * l.s.at.0) + 5

abbrev pub decreases-rule_u : goal.decreases-rule_u
decreases-rule_u l = 8 * (length l.toks.now - 3 * l.s.at.0) + 3

abbrev pub decreases-shown : goal.decreases-shown
decreases-shown l = 8 * (length l.toks.now - 3 * l.s.at.0) + 13

abbrev pub decreases-tee : goal.decreases-tee
decreases-tee l = 8 * (length l.toks.now - 3 * l.s.at.0) + 0

abbrev pub decreases-value : goal.decreases-value
decreases-value l = 8 * (length l.toks.now - 3 * l.s.at.0) + 12

abbrev pub invariant-posts-loop-tree : goal.invariant-posts-loop-tree
invariant-posts-loop-tree l = Going l.src l.toks 2 l.left (many postfix) (node l.initial.n.0 ∷ []) l.initial.st l.initial.tree (node l.n.0 ∷ []) l.n.0 l.st l.tree

abbrev pub decreases-posts-loop-tree : goal.decreases-posts-loop-tree
decreases-posts-loop-tree l = eof_at l.toks - l.st.at.0

abbrev pub invariant-rest-loop-last : goal.invariant-rest-loop-last
invariant-rest-loop-last l = Listing l.src l.toks l.left (others l.paired) l.first.0 l.initial.last.0 l.initial.st l.initial.tree l.last.0 l.st l.tree

abbrev pub decreases-rest-loop-last : goal.decreases-rest-loop-last
decreases-rest-loop-last l = eof_at l.toks - l.st.at.0

abbrev pub invariant-rule_c-loop-n : goal.invariant-rule_c-loop-n
invariant-rule_c-loop-n l = Reading comparing l.src l.toks l.left 7 l.initial.st l.initial.tree l.before l.st l.tree

abbrev pub decreases-rule_c-loop-n : goal.decreases-rule_c-loop-n
decreases-rule_c-loop-n l = eof_at l.toks - l.st.at.0

abbrev pub invariant-rule_o-loop-n : goal.invariant-rule_o-loop-n
invariant-rule_o-loop-n l = Reading (grouping level.Or) l.src l.toks l.left 5 l.initial.st l.initial.tree l.before l.st l.tree

abbrev pub decreases-rule_o-loop-n : goal.decreases-rule_o-loop-n
decreases-rule_o-loop-n l = eof_at l.toks - l.st.at.0

abbrev pub invariant-rule_a-loop-n : goal.invariant-rule_a-loop-n
invariant-rule_a-loop-n l = Reading (grouping level.And) l.src l.toks l.left 6 l.initial.st l.initial.tree l.before l.st l.tree

abbrev pub decreases-rule_a-loop-n : goal.decreases-rule_a-loop-n
decreases-rule_a-loop-n l = eof_at l.toks - l.st.at.0

abbrev pub invariant-rule_s-loop-n : goal.invariant-rule_s-loop-n
invariant-rule_s-loop-n l = Reading (grouping level.Sum) l.src l.toks l.left 8 l.initial.st l.initial.tree l.before l.st l.tree

abbrev pub decreases-rule_s-loop-n : goal.decreases-rule_s-loop-n
decreases-rule_s-loop-n l = eof_at l.toks - l.st.at.0

abbrev pub invariant-rule_p-loop-n : goal.invariant-rule_p-loop-n
invariant-rule_p-loop-n l = Reading (grouping level.Product) l.src l.toks l.left 9 l.initial.st l.initial.tree l.before l.st l.tree

abbrev pub decreases-rule_p-loop-n : goal.decreases-rule_p-loop-n
decreases-rule_p-loop-n l = eof_at l.toks - l.st.at.0
