-- `numbers::digits::next` meets its contract.
use mathlib.Core.Path.{◌≡◌, sym, ◌∙◌}
use Prim.Native.Nat.{◌≤◌, ◌+◌, ◌-◌, ◌*◌}
use native.Mathlib.Omega.{arith}
use Rattle.numbers.specs.Digits.{step}
use Rattle.numbers.proofs.Joining.{step_other, step_digit, digit_is}
use Rattle.numbers.proofs.digits.next.Goals as goal
use Rattle.numbers.proofs.digits.next.Goals.{Else-not-is_digit}

pub returns-then-not-is_digit : goal.returns-then-not-is_digit
returns-then-not-is_digit c = omega (arith, step_other c.args.n c.args.b (sym c.is_digit.ensures ∙ c.if-not-is_digit.true))

-- a digit, and what it makes of n
is : (c : Else-not-is_digit) → (c.args.b ≤ 57) × (step c.args.n c.args.b ≡ 10 * c.args.n + (c.args.b - 48))
is c = let d = digit_is c.args.b (sym c.is_digit.ensures ∙ c.if-not-is_digit.false) in (d.1, step_digit c.args.n c.args.b d.0 d.1)

pub returns-then-n-cap : goal.returns-then-n-cap
returns-then-n-cap c = let d = is (goal.at.returns-then-n-cap c).Else-not-is_digit in omega (arith, c.from-d.ensures, d.0, d.1)

pub returns-then-n-cap-2 : goal.returns-then-n-cap-2
returns-then-n-cap-2 c = let d = is (goal.at.returns-then-n-cap-2 c).Else-not-is_digit in omega (arith, c.from-d.ensures, d.0, d.1)

pub returns-else-n-cap-2 : goal.returns-else-n-cap-2
returns-else-n-cap-2 c = let d = is (goal.at.returns-else-n-cap-2 c).Else-not-is_digit in omega (arith, c.from-d.ensures, d.0, d.1)
