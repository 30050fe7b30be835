-- `lexer::put::put_marks` meets its contract. The loop keeps: what is left to write makes of the words what all of it makes of them at first.
use mathlib.Core.Path.{◌≡◌}
use Prim.Native.Nat.{◌+◌, ◌-◌, ◌*◌}
use lib.ListN.{length, replicate}
use lib.Seq.{sets}
use Rattle.lexer.specs.Scan.{mark}
use Rattle.lexer.specs.Words.{words}
use Rattle.lexer.proofs.put.put_marks.Given as goal

abbrev pub invariant-loop-at : goal.invariant-loop-at
invariant-loop-at l =
    (length l.tokens ≡ length l.initial.tokens)
    × (sets l.tokens (3 * l.at) (words (replicate (l.count + l.n - l.at) (mark l.code l.start l.end))) ≡ sets l.initial.tokens (3 * l.count) (words (replicate l.n (mark l.code l.start l.end))))
