-- each arm knows what the read answered, and how many bytes there are
use Rattle.std.proofs.Common.{◌≡◌, ◌+◌, ◌≤◌, length, sym, ap, ◌∙◌, arith}
use Rattle.std.proofs.lemmas.Slice.{take-put_mid}
use Rattle.shell.specs.Input.{front}
use Rattle.shell.proofs.Step.{still_open, is_failed, is_whole, is_longer, is_more}
use Rattle.shell.proofs.Reading.take.Goals as goal

pub returns-in-None : goal.returns-in-None
returns-in-None c = rw c.in-None.is (sym (is_failed c.args.self.now c.requires.reading_value))

pub returns-in-Some-eq0 : goal.returns-in-Some-eq0
returns-in-Some-eq0 c =
    let none : c.in-Some-eq0.field-0 ≡ 0 = rw c.in-Some-eq0.is at c.in-Some-eq0.field-0-test in
    rw (c.in-Some-eq0.is, none) (sym (is_whole c.args.self.now c.requires.reading_value c.args.chunk.now))

pub returns-in-Some : goal.returns-in-Some
returns-in-Some c =
    let k = c.in-Some.k in
    let moved : k ≤ 1024 = rw c.in-Some.is at c.requires.moved in
    let some = rw c.in-Some.is at c.in-Some.k-test in
    rw c.in-Some.is (sym (is_longer c.args.self.now c.requires.reading_value k c.args.chunk.now (omega (arith, some.1)) (omega arith) c.if-self-k.true))

pub returns-in-Some-2 : goal.returns-in-Some-2
returns-in-Some-2 c =
    let r = c.args.self.now in
    let k = c.in-Some-2.k in
    let moved : k ≤ 1024 = rw c.in-Some-2.is at c.requires.moved in
    let some = rw c.in-Some-2.is at c.in-Some.k-test in
    let same : c.in-Some.k ≡ k = cc in
    let put = c.copy_from_slice.new.self in
    let l : r.len + k ≡ r.len + length put = omega (arith, r.within) in
    rw c.in-Some-2.is (
    still_open r.stage _ _ c.requires.reading_value
    ∙ ap front (take-put_mid r.len _ r.script put (r.len + k) l (omega (arith, r.room, r.within)) ∙ rw c.copy_from_slice.ensures.after)
    ∙ sym (is_more r c.requires.reading_value k c.args.chunk.now (omega (arith, some.1)) (omega arith) (rw same at c.if-self-k.false))
    )
