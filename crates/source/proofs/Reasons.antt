-- The case of a refusal's number has that number.
-- Assumes nothing.
use mathlib.Core.Path.{◌≡◌, refl}
use Rattle.source.specs.declared.refusal.Reason.{Reason}
use Rattle.source.specs.declared.refusal.Reason.TheVariants as R
use Rattle.source.specs.Reasons.{number_of, reason_of}

pub numbered : (r : Reason) → reason_of (number_of r) ≡ r
numbered R.TooLong = refl
numbered R.TokensTooSmall = refl
numbered R.TextTooSmall = refl
numbered R.TreeTooSmall = refl
numbered R.NotUtf8 = refl
numbered R.Tab = refl
numbered R.TooFar = refl
numbered R.NoLevel = refl
numbered R.NoToken = refl
numbered R.IntRange = refl
numbered R.FloatRange = refl
numbered R.TooDeep = refl
numbered R.Misfit = refl
numbered R.Cut = refl
numbered R.Missing = refl
numbered R.EmptyBlock = refl
numbered R.NoRoom = refl
