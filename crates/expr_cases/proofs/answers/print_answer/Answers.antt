-- what the scanner leaves is what the reader of t asks
use Rattle.std.proofs.Common.{refl, sym, arith, length-take-le}
use Rattle.joint.proofs.Handed.{handed}
use Rattle.expr_cases.proofs.answers.print_answer.Goals as goal

pub overflow_add-words : goal.overflow_add-words
overflow_add-words g c = let h = handed c.in-Ok.ensures (omega arith) refl in omega arith

pub overflow_mul-words : goal.overflow_mul-words
overflow_mul-words g c = let h = handed c.in-Ok.ensures (omega arith) refl in omega arith

pub slice_bounds-tokens-end : goal.slice_bounds-tokens-end
slice_bounds-tokens-end g c = let h = handed c.in-Ok.ensures (omega arith) refl in omega arith

pub slice_bounds-print_tree-end : goal.slice_bounds-print_tree-end
slice_bounds-print_tree-end g c =
    let h = handed c.in-Ok.ensures (omega arith) refl in
    sym (length-take-le _ _ (omega arith))

pub print_tree-requires-clause-tokens : goal.print_tree-requires-clause-tokens
print_tree-requires-clause-tokens g c = (handed c.in-Ok.ensures (omega arith) refl).held
