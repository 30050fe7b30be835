-- `printing::put_line` meets its contract: three writes, one behind the other.
use native.Mathlib.Omega.{arith}
use Rattle.printing.proofs.Writing.{both}
use Rattle.printing.proofs.Digits.{ends}
use Rattle.printing.proofs.Parts.{spaced_few}
use Rattle.printing.proofs.put_line.Goals as goal

pub put_words-b-requires : goal.put_words-b-requires
put_words-b-requires c =
    let a = c.args in
    let p = c.put_digits-a in
    let e = ends 10 a.first a.at p.result a.out.now p.new.out p.ensures in
    omega arith

pub put_byte-requires : goal.put_byte-requires
put_byte-requires c =
    let a = c.args in
    let p = c.put_digits-a in
    let q = c.put_words-b in
    let e = ends 10 a.first a.at p.result a.out.now p.new.out p.ensures in
    omega (arith, spaced_few a.mask a.words.now)

pub returns : goal.returns
returns c = both (both c.put_digits-a.ensures c.put_words-b.ensures) c.put_byte.ensures
