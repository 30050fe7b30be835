-- The tables pass their tests, and the rules as the trial takes them come to the same as those that the descent takes: the theorem for this grammar.
-- Assumes nothing.
use mathlib.Core.Path.{◌≡◌, refl}
use lib.Dec.{T}
use Rattle.grammar.specs.Trial.{Machine, St, Parser, eval, parse}
use Rattle.grammar.specs.Descent.{null, begins, descend}
use Rattle.grammar.specs.Check.{fits, takes, low, sound, tight, idle, stops}
use Rattle.grammar.proofs.Factor.{join, skip_act}
use Rattle.grammar.proofs.Repeat.{once, between_parts}
use Rattle.grammar.proofs.Top.{Language, Verdict}
use Rattle.grammar.proofs.Top as top
use Rattle.pyhyeon.specs.Action.{Action}
use Rattle.pyhyeon.specs.Rules.{Rule, Program, Line, Simple, Block, Class, E, O, A, C, S, P, U, F, plain, t}
use Rattle.pyhyeon.specs.Tables.{joined, first, follow, least, rank, opens, depth, pyhyeon, t_joined}
use Rattle.pyhyeon.proofs.Factors.{alike_f}

passes : (r : Rule) → T (sound pyhyeon r)
unfolding sound null begins fits takes low joined plain first follow least rank opens
passes Program = tt
passes Line = tt
passes Simple = tt
passes Block = tt
passes Class = tt
passes E = tt
passes O = tt
passes A = tt
passes C = tt
passes S = tt
passes P = tt
passes U = tt
passes F = tt

-- a rule is opened only on a token that can begin it: the table has those, and no more
pub tightly : (r : Rule) → T (tight pyhyeon r)
unfolding tight null begins joined plain first
tightly Program = tt
tightly Line = tt
tightly Simple = tt
tightly Block = tt
tightly Class = tt
tightly E = tt
tightly O = tt
tightly A = tt
tightly C = tt
tightly S = tt
tightly P = tt
tightly U = tt
tightly F = tt

-- t, whose three alternatives the descent takes together
alike_t : {M : Machine Action} (env : Rule → Parser M) → eval env t ≡ eval env t_joined
unfolding eval
alike_t env = simp (join, skip_act)

alike : {M : Machine Action} (env : Rule → Parser M) (r : Rule) → eval env (plain r) ≡ eval env (joined r)
unfolding eval plain joined
alike env Program = simp (join, once, between_parts)
alike env Line = refl
alike env Simple = rw (alike_t env) (simp join)
alike env Block = simp (join, between_parts)
alike env Class = refl
alike env E = refl
alike env O = refl
alike env A = refl
alike env C = refl
alike env S = refl
alike env P = refl
alike env U = refl
alike env F = alike_f env

pub language : Language plain pyhyeon Program
unfolding stops idle joined plain follow
language = record { passes = passes; alike = alike; ends = tt }

pub theorem : {M : Machine Action} (s : St M) → Verdict (parse plain Program s) (descend pyhyeon depth Program 0 s)
theorem s = top.theorem language depth 0 s
