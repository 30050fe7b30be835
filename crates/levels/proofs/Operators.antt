-- What the levels of operators have in common: their operands, and what begins them.
-- Assumes nothing.
use mathlib.Core.Path.{◌≡◌, refl}
use mathlib.Core.Bool.{false}
use Rattle.grammar.specs.Sets.{mem}
use Rattle.token.specs.Code.{String, Eof}
use Rattle.pyhyeon.specs.Rules as rules
use Rattle.pyhyeon.specs.Rules.{Rule}
use Rattle.pyhyeon.specs.Tables.{first, first_u}
use Rattle.joint.proofs.Bounds.{Spares, spares_a, spares_c, spares_s, spares_p, spares_u}
use Rattle.levels.specs.declared.Level.{Level}
use Rattle.levels.specs.declared.Level.TheVariants as level
use Rattle.levels.specs.Levels.{operators}

-- the operands of the levels
abbrev pub operand : Level → Rule
operand level.Or = rules.A
operand level.And = rules.C
operand level.Comparison = rules.S
operand level.Sum = rules.P
operand level.Product = rules.U

-- each operand begins with what begins U
pub first_same : (l : Level) → first (operand l) ≡ first_u
unfolding first
first_same level.Or = refl
first_same level.And = refl
first_same level.Comparison = refl
first_same level.Sum = refl
first_same level.Product = refl

pub spares_level : (l : Level) → Spares (operand l)
spares_level level.Or = spares_a
spares_level level.And = spares_c
spares_level level.Comparison = spares_s
spares_level level.Sum = spares_p
spares_level level.Product = spares_u

-- no operator is an Eof or a String
pub no_eof : (l : Level) → mem Eof (operators l) ≡ false
no_eof level.Or = refl
no_eof level.And = refl
no_eof level.Comparison = refl
no_eof level.Sum = refl
no_eof level.Product = refl

pub no_string : (l : Level) → mem String (operators l) ≡ false
no_string level.Or = refl
no_string level.And = refl
no_string level.Comparison = refl
no_string level.Sum = refl
no_string level.Product = refl
