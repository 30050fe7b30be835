-- `numbers::decimal::places` meets its contract: the bytes after the dot are the length less its place and one.
use Prim.Native.Nat.{suc}
use native.Mathlib.Omega.{arith}
use lib.ListN.{length-drop}
use Rattle.numbers.specs.Digits.{place}
use borrow.Author.Rules.{rules}
use Rattle.numbers.proofs.decimal.places.Goals as goal

pub returns-then-dot-s : goal.returns-then-dot-s
returns-then-dot-s c =
    let s = c.args.s.now in
    (omega (arith, length-drop (suc (place 46 46 s)) s, c.find-dot.ensures.is), search rules)

pub returns-else-dot-s : goal.returns-else-dot-s
returns-else-dot-s c =
    let s = c.args.s.now in
    (omega (arith, length-drop (suc (place 46 46 s)) s, c.find-dot.ensures.is), search rules)
