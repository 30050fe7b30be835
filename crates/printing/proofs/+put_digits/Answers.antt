use Rattle.std.proofs.Common.{arith}
use Rattle.printing.proofs.Digits.{wrote_none, wrote_one, wrote_more, ends}
use Rattle.printing.proofs.+put_digits.Goals as goal

pub returns-then-most-eq0 : goal.returns-then-most-eq0
returns-then-most-eq0 t c = wrote_none c.args.most c.args.n c.if-most-eq0.true (omega arith)

pub returns-then-n-lt10 : goal.returns-then-n-lt10
returns-then-n-lt10 t c = wrote_one c.args.most c.args.n c.digit.result c.if-most-eq0.false c.if-n-lt10.true c.digit.ensures c.put_byte.ensures

pub put_byte-requires-else-n-lt10 : goal.put_byte-requires-else-n-lt10
put_byte-requires-else-n-lt10 t c =
    let a = c.args in
    let p = c.put_digits-last in
    let e = ends _ _ a.at p.result a.out.now p.new.out p.ensures in
    omega arith

pub returns-else-n-lt10 : goal.returns-else-n-lt10
returns-else-n-lt10 t c =
    let a = c.args in
    let d = c.digit-else-n-lt10 in
    wrote_more a.most a.n d.result c.if-most-eq0.false c.if-n-lt10.false d.ensures c.put_digits-last.ensures c.put_byte-else-n-lt10.ensures
