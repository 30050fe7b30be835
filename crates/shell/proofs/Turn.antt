-- What a program that reads in a loop needs of a read: while the input is open, each leaves fewer to come.
-- Assumes nothing.
use mathlib.Core.Path.{◌≡◌, refl}
use mathlib.Core.Bool.{Bool, true, false, cond}
use mathlib.Core.List.{List, [], ◌∷◌, ◌++◌}
use Prim.Native.Nat.{ℕ, ◌+◌, ◌-◌, ◌<◌}
use native.Mathlib.Omega.{arith}
use borrow.Author.Tests.{ltb-false}
use lib.Dec.{ltb}
use lib.ListN.{length, length-append}
use Rattle.shell.specs.Input.{Handed, failure, bytes, Input, front, whole, longer, failed, heard, is_open_lem}

-- how many reads may be to come: one for each byte of room, and one that sees the end
abbrev pub to-come : Input → ℕ
to-come (front l) = 1024 - length l + 1
to-come (whole l) = 0
to-come longer = 0
to-come failed = 0

either : (t : Bool) (l m : List ℕ) → ltb 1023 (length m) ≡ t → length l < length m → to-come (cond t longer (front m)) < to-come (front l)
either true l m e h = omega arith
either false l m e h = omega (arith, ltb-false 1023 (length m) e)

falls : (l : List ℕ) (h : Handed) → to-come (heard (front l) h) < to-come (front l)
unfolding heard
falls l failure = omega arith
falls l (bytes []) = omega arith
falls l (bytes (x ∷ xs)) =
    let m = l ++ (x ∷ xs) in
    either (ltb 1023 (length m)) l m refl (omega (arith, length-append l (x ∷ xs)))

pub fewer : (i i' : Input) (h : Handed) → i' ≡ heard i h → is_open_lem i ≡ true → to-come i' < to-come i
fewer (front l) i' h e opened = rw e (falls l h)
fewer (whole l) i' h e opened = let z : ◌≡◌ {A = ℕ} 0 1 = cc in absurd (omega arith)
fewer longer i' h e opened = let z : ◌≡◌ {A = ℕ} 0 1 = cc in absurd (omega arith)
fewer failed i' h e opened = let z : ◌≡◌ {A = ℕ} 0 1 = cc in absurd (omega arith)
