-- `raw_token::word::word` meets its contract: a word of ASCII alone and of at most 8 bytes goes by its number, and another is a name.
use Rattle.raw_token.proofs.Names.{run_next}
use Rattle.raw_token.proofs.Words.{short_word, other_word}
use Rattle.raw_token.proofs.word.word.Goals as goal

pub non_ascii_end-end-requires : goal.non_ascii_end-end-requires
non_ascii_end-end-requires c =
    let a = c.args in
    run_next a.s.now a.at _ c.ascii_run-letters.ensures.end_is

pub returns-then-end-letters : goal.returns-then-end-letters
returns-then-end-letters c =
    let l = c.ascii_run-letters.ensures in
    short_word c.args.s.now c.args.at _ _ c.requires.0 c.requires.1 l.end_is c.non_ascii_end-end.ensures _ _ c.if-end-letters.true l.number_is c.keyword-code.ensures

pub returns-else-end-letters : goal.returns-else-end-letters
returns-else-end-letters c =
    let l = c.ascii_run-letters.ensures in
    other_word c.args.s.now c.args.at _ _ c.requires.0 c.requires.1 l.end_is c.non_ascii_end-end.ensures c.if-end-letters.false
