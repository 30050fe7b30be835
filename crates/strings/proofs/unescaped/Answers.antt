-- `strings::unescaped` meets its contract: at each key the value computes, and any other byte is no escape.
use mathlib.Core.Path.{sym, ap}
use mathlib.Core.List.{[], ◌∷◌}
use Prim.Native.Nat.{ℕ, zero-le}
use lib.Dec.{eqb}
use borrow.Author.Tests.{eqb-true}
use Rattle.source.proofs.Ranges.{arm}
use Rattle.strings.specs.Decoded.{unescape, some_byte}
use Rattle.strings.proofs.unescaped.Goals as goal

pub returns-in-110 : goal.returns-in-110
returns-in-110 c = rw c.in-110.is

pub returns-in-116 : goal.returns-in-116
returns-in-116 c = rw c.in-116.is

pub returns-in-114 : goal.returns-in-114
returns-in-114 c = rw c.in-114.is

pub returns-in-92 : goal.returns-in-92
returns-in-92 c = rw c.in-92.is

pub returns-in-34 : goal.returns-in-34
returns-in-34 c = rw c.in-34.is

pub returns-in-39 : goal.returns-in-39
returns-in-39 c = rw c.in-39.is

pub returns-in_default : goal.returns-in_default
returns-in_default c =
    let none = arm (39 ∷ 34 ∷ 92 ∷ 114 ∷ 116 ∷ 110 ∷ []) (λ (x : ℕ). eqb (unescape x) 0) 0 256 tt
    c.args.b zero-le c.ranges.b.fits c.in_default.in_default-own.rest in
    ap some_byte (sym (eqb-true (unescape c.args.b) 0 none))
