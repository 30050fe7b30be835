-- The numbers of refusals (01, Questions put to a script; 02, changes 1, 4 and 6), and the case of the code's enum that stands for each.
-- Assumes nothing.
use Rattle.std.specs.Prelude.{ℕ, cond, eqb}
use Rattle.source.specs.declared.refusal.Reason.{Reason}
use Rattle.source.specs.declared.refusal.Reason.TheVariants as R
use Rattle.source.specs.declared.refusal.Refusal.{Refusal}

-- "a definition gives this paper's number .. for each case of that enum" (01, The forms we use)
abbrev pub number_of : Reason → ℕ
number_of R.TooLong = 1
number_of R.TokensTooSmall = 2
number_of R.TextTooSmall = 3
number_of R.TreeTooSmall = 4
number_of R.NotUtf8 = 5
number_of R.Tab = 6
number_of R.TooFar = 7
number_of R.NoLevel = 8
number_of R.NoToken = 9
number_of R.IntRange = 10
number_of R.FloatRange = 11
number_of R.TooDeep = 13
number_of R.Misfit = 14
number_of R.Cut = 15
number_of R.Missing = 16
number_of R.EmptyBlock = 17
number_of R.NoRoom = 18

-- the case of a number; of any that is no refusal's, the last (proofs/Reasons.antt: `numbered`)
abbrev pub reason_of : ℕ → Reason
reason_of n =
    cond (eqb n 1) R.TooLong (cond (eqb n 2) R.TokensTooSmall (cond (eqb n 3) R.TextTooSmall (cond (eqb n 4) R.TreeTooSmall (cond (eqb n 5) R.NotUtf8
    (cond (eqb n 6) R.Tab (cond (eqb n 7) R.TooFar (cond (eqb n 8) R.NoLevel (cond (eqb n 9) R.NoToken (cond (eqb n 10) R.IntRange (cond (eqb n 11) R.FloatRange
    (cond (eqb n 13) R.TooDeep (cond (eqb n 14) R.Misfit (cond (eqb n 15) R.Cut (cond (eqb n 16) R.Missing (cond (eqb n 17) R.EmptyBlock R.NoRoom)))))))))))))))

-- a refusal by 01's number and place
abbrev pub refusal_at : ℕ → ℕ → Refusal
refusal_at number place = record { reason = reason_of number; place = place }
