-- The length of a text that is written fits a word.
-- Assumes nothing.
use mathlib.Core.Path.{◌≡◌, refl, ap}
use mathlib.Core.Bool.{Bool, true, false, cond}
use mathlib.Core.List.{List, ◌++◌}
use Prim.Native.Nat.{ℕ, ◌-◌, ◌≤◌}
use native.Mathlib.Omega.{arith}
use lib.Dec.{ltb}
use lib.ListN.{length, replicate}
use borrow.Author.Tests.{ltb-false}
use Rattle.ast.specs.Node.{Node}
use Rattle.standard.specs.Erase.{said}
use Rattle.standard.specs.Hollow.{any_hollow_lem}
use Rattle.standard.specs.Text.{standard_text}
use Rattle.reader.specs.Answer as reading
use Rattle.writing.specs.Written.{room}
use Rattle.writer.specs.Answer.{numbers_of, read_of}
use Rattle.writer.specs.Writes.{Result, result, accepts, Writes}
use Rattle.writer.specs.declared.Answer.{Answer}
use Rattle.writer.specs.declared.Answer.TheVariants.{Text, Hollow, Full}

-- 18 where it is longer
in_room : (a : reading.Answer) (ns : List Node) (s out₀ : List ℕ) → (numbers_of (result a ns s out₀).answer).length ≤ 65536
in_room a ns s out₀ = go (any_hollow_lem ns) (ltb (room (length out₀)) (length s)) (ltb-false (room (length out₀)) (length s))
  where
    go : (h f : Bool) → (f ≡ false → length s ≤ room (length out₀)) →
        (numbers_of (cond {A = Result} h (record { answer = Hollow a; out = replicate (length out₀) 0 }) (cond {A = Result} f (record { answer = Full a; out = replicate (length out₀) 0 }) (record { answer = Text a (length s); out = s ++ replicate (length out₀ - length s) 0 }))).answer).length ≤ 65536
    go true f fits = omega arith
    go false true fits = omega arith
    go false false fits = omega (arith, fits refl)

pub short : (src tokens₀ text₀ tree₀ out₀ tokens text tree out : List ℕ) (r : Answer) → Writes src r tokens₀ text₀ tree₀ out₀ tokens text tree out → (numbers_of r).length ≤ 65536
short src tokens₀ text₀ tree₀ out₀ tokens text tree out r w = go (accepts (read_of r)) refl
  where
    go : (b : Bool) → accepts (read_of r) ≡ b → (numbers_of r).length ≤ 65536
    go false e =
        let z : (numbers_of r).length ≡ 0 = ap (λ (x : Answer). (numbers_of x).length) (w.unread e).0 in
        omega arith
    go true e =
        let x = w.rewrites e in
        let z = ap (λ (y : Result). (numbers_of y.answer).length) (x.is x.of) in
        omega (arith, z, in_room (read_of r) x.read.work.nodes (standard_text (said src x.read.bytes x.of.tree)) out₀)
