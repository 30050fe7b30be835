use Rattle.strings.proofs.Decoding.{written}
use Rattle.strings.proofs.process_string_escapes.Goals as goal

pub returns : goal.returns
returns c =
    let a = c.args in
    let l = c.loop-i in
    let all = written a.s.now a.at a.text.now l.i l.o l.text l.invariant.3 c.loop-i-test.false in record { value = all.0; text_after = all.1 }
