-- `ffi::tarbucket_parse_source` meets its contract: the reader's own, with its answer as words.
use Rattle.ffi.proofs.Small.{small}
use Rattle.ffi.proofs.Asked.{no_room, answered}
use Rattle.ffi.proofs.tarbucket_parse_source.Goals as goal

pub returns-then-answer-lt-ANSWER : goal.returns-then-answer-lt-ANSWER
returns-then-answer-lt-ANSWER c = no_room c.args.src.now c.args.tokens.now c.args.text.now c.args.tree.now c.args.answer.now c.if-answer-lt-ANSWER.true

pub write-requires : goal.write-requires
write-requires c = record { in_bounds = c.if-answer-lt-ANSWER.false; small = small _ _ _ _ _ _ _ _ c.parse_source-r.ensures }

pub returns : goal.returns
returns c = answered _ _ _ _ _ _ _ _ _ _ _ c.if-answer-lt-ANSWER.false c.parse_source-r.ensures c.write.ensures.value c.write.ensures.answer_after
