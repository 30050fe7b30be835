use Rattle.printing.proofs.Lines.{words_step, words_done}
use Rattle.printing.proofs.put_words.Goals as goal

pub loop-word-preserved : goal.loop-word-preserved
loop-word-preserved c =
    let l = c.loop-word in
    let a = c.args in
    words_step a.mask a.words.now a.out.now a.at l.out l.next l.rest l.word-index l.invariant c.put_word-next.new.out c.put_word-next.result c.loop-word-test.true c.put_word-next.ensures

pub returns : goal.returns
returns c =
    let l = c.loop-word in
    let a = c.args in
    words_done a.mask a.words.now a.out.now a.at l.out l.next l.rest l.word-index l.invariant c.loop-word-test.false
