-- Where an expression stands, and where it needs parentheses: "parentheses only where the tree needs them" (02, change 6).
-- Assumes nothing.
use Rattle.unparse.specs.Trees.{Op}

-- Where an expression stands: as a whole statement's; as an E; within an E; and by the rules below E, with G for an F and its signs.
pub data Level : Type 0 where
  T X E O A C S P U G F : Level
  deriving Discrete as same_level

-- the first, where they are equal
abbrev pub pick : {Y Z : Type 0} → Dec Y → Z → Z → Z
pick (yes e) x y = x
pick (no f) x y = y

-- From F up to where it stands: an expression of the level `own` as it is, where it meets its own level, and else in parentheses. `opened` is done where
-- an E is opened, `dress` where a U is.
module _ {Z : Type 0} (own : Level) (bare paren : Z) (opened dress : Z → Z) where
  abbrev pub at_f : Z
  at_f = pick (same_level own F) bare paren

  abbrev pub at_g : Z
  at_g = pick (same_level own G) bare at_f

  abbrev pub at_u : Z
  at_u = dress at_g

  abbrev pub at_p : Z
  at_p = pick (same_level own P) bare at_u

  abbrev pub at_s : Z
  at_s = pick (same_level own S) bare at_p

  abbrev pub at_c : Z
  at_c = pick (same_level own C) bare at_s

  abbrev pub at_a : Z
  at_a = pick (same_level own A) bare at_c

  abbrev pub at_o : Z
  at_o = pick (same_level own O) bare at_a

  abbrev pub at_e : Z
  at_e = pick (same_level own E) bare at_o

  abbrev pub ladder : Level → Z
  ladder T = opened at_e
  ladder X = opened at_e
  ladder E = at_e
  ladder O = at_o
  ladder A = at_a
  ladder C = at_c
  ladder S = at_s
  ladder P = at_p
  ladder U = at_u
  ladder G = at_g
  ladder F = at_f

-- The level of an operator, and of its right operand: "O: A by `or`. A: C by `and`. .. S: P by + -. P: U by * // / %. All group left." (01, Grammar)
abbrev pub level_of : Op → Level
level_of Op.or = O
level_of Op.and = A
level_of Op.plus = S
level_of Op.minus = S
level_of Op.star = P
level_of Op.slashes = P
level_of Op.slash = P
level_of Op.percent = P

abbrev pub below : Op → Level
below Op.or = A
below Op.and = C
below Op.plus = P
below Op.minus = P
below Op.star = U
below Op.slashes = U
below Op.slash = U
below Op.percent = U
