-- `printing::print_no` meets its contract: five writes, one behind the other.
use native.Mathlib.Omega.{arith}
use mathlib.Core.Path.{sym, ap, ◌∙◌}
use Prim.Native.Nat.{ℕ}
use Rattle.printing.specs.Printed.{printed_no}
use Rattle.printing.proofs.Writing.{both, same, shows}
use Rattle.printing.proofs.Digits.{spaced_ends}
use Rattle.printing.proofs.Parts.{no_line}
use Rattle.printing.proofs.print_no.Goals as goal

pub put_number-d-requires : goal.put_number-d-requires
put_number-d-requires c =
    let b = c.put_byte-b in
    let p = c.put_number-c in
    let e = spaced_ends 10 _ b.result p.result b.new.out p.new.out p.ensures in
    omega arith

pub put_byte-requires : goal.put_byte-requires
put_byte-requires c =
    let b = c.put_byte-b in
    let p = c.put_number-c in
    let q = c.put_number-d in
    let e = spaced_ends 10 _ b.result p.result b.new.out p.new.out p.ensures in
    let f = spaced_ends 20 _ p.result q.result p.new.out q.new.out q.ensures in
    omega arith

pub returns : goal.returns
returns c =
    let place = c.args.place in
    let no = both c.put_byte-a.ensures c.put_byte-b.ensures in
    let numbers = both c.put_number-c.ensures c.put_number-d.ensures in
    shows (same (ap (λ (n : ℕ). printed_no n place) (sym c.from.ensures) ∙ no_line _ place) (both (both no numbers) c.put_byte.ensures))
