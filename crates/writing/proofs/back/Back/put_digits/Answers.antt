use Rattle.writing.proofs.Digits.{rest_all, rest_less, rest_last}
use Rattle.writing.proofs.back.Back.put_digits.Goals as goal

pub loop-rest-init : goal.loop-rest-init
loop-rest-init c = rest_all _ c.requires

pub loop-rest-preserved : goal.loop-rest-preserved
loop-rest-preserved c = rest_less c.loop-rest.invariant c.loop-rest-test.true c.digit.ensures c.put.ensures

pub returns : goal.returns
returns c = rest_last c.loop-rest.invariant c.loop-rest-test.false c.digit-2.ensures c.put-2.ensures
