-- `reader::read_tokens` meets its contract: Program's answer tells what the descent of the token list comes to.
use Rattle.reader.proofs.Read.{hands, held_tokens, told, stop_here, counts, accepts, refuses}
use Rattle.reader.proofs.Came.{descends}
use lib.Seq.{length-take-le}
use Prim.Native.Nat.{◌+◌, ◌*◌}
use mathlib.Core.Path.{sym, refl, ap, ◌∙◌}
use Rattle.leaves.specs.declared.State.{State}
use native.Mathlib.Omega.{arith}
use Rattle.reader.proofs.read_tokens.Goals as goal

pub overflow_add-words : goal.overflow_add-words
overflow_add-words c =
    let h = hands c.requires.held in
    omega (arith, h.few, c.requires.held.small)

pub overflow_mul-words : goal.overflow_mul-words
overflow_mul-words c =
    let h = hands c.requires.held in
    omega (arith, h.few, c.requires.held.small)

pub slice_bounds-words-end : goal.slice_bounds-words-end
slice_bounds-words-end c =
    let h = hands c.requires.held in
    omega (arith, h.few, held_tokens c.requires.held)

pub slice_bounds-words-end-2 : goal.slice_bounds-words-end-2
slice_bounds-words-end-2 c =
    let h = hands c.requires.held in
    sym (length-take-le (3 * (c.args.count + 1)) c.args.tokens.now (omega (arith, h.few, held_tokens c.requires.held)))

pub program-requires : goal.program-requires
program-requires c =
    let h = hands c.requires.held in
    record { tokens = h.held; toks_in_bounds = omega (arith, h.eof, h.few, c.requires.tree_len) }

pub finish-requires : goal.finish-requires
finish-requires c =
    let p = c.requires.held in
    let h = hands p in
    record { tree_len = c.program.auto.tree ∙ c.requires.tree_len; counted = counts p h (told c.in-Ok.is (descends h c.program.ensures)) }

pub code_at-requires : goal.code_at-requires
code_at-requires c =
    let h = hands c.requires.held in
    omega (arith, stop_here (told c.in-Err.is (descends h c.program.ensures)), ap (λ (s : State). s.at.0) c.state-s.ensures, length-take-le (3 * (c.args.count + 1)) c.args.tokens.now (omega (arith, h.few, held_tokens c.requires.held)))

pub start_at-place-requires : goal.start_at-place-requires
start_at-place-requires c =
    let h = hands c.requires.held in
    omega (arith, stop_here (told c.in-Err.is (descends h c.program.ensures)), ap (λ (s : State). s.at.0) c.state-s.ensures, length-take-le (3 * (c.args.count + 1)) c.args.tokens.now (omega (arith, h.few, held_tokens c.requires.held)))

pub returns-in-Ok : goal.returns-in-Ok
returns-in-Ok c =
    let p = c.requires.held in
    let h = hands p in
    accepts p h (c.program.auto.tree ∙ c.requires.tree_len) (told c.in-Ok.is (descends h c.program.ensures)) refl c.finish.ensures

pub returns-in-Err : goal.returns-in-Err
returns-in-Err c =
    let p = c.requires.held in
    let h = hands p in
    let e = c.clear.ensures in
    let told_by = c.stopped_by-reason.ensures in
    refuses p h (c.program.auto.tree ∙ c.requires.tree_len) (told c.in-Err.is (descends h c.program.ensures)) c.reason.ensures c.state-s.ensures told_by c.code_at.ensures c.start_at-place.ensures e.tokens_after e.text_after e.tree_after
