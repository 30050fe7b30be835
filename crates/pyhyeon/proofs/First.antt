-- "A token can begin a rule when some reading of the rule starts with it" (01, Grammar): each token of a rule's table does. For each the checker finds
-- a reading by the ordered trial, among the shortest rests of statements and expressions. (That a table has every such token is `passes`.)
-- Within a rule no set of tokens is empty. (That no way of the descent is a dead end follows from a test of its own: Late.antt, `finishes`.)
-- Assumes nothing.
use Prim.Native.Nat.{ℕ}
use mathlib.Core.Bool.{Bool, true, false, ◌&&◌, ◌||◌}
use mathlib.Core.List.{List, [], ◌∷◌, ◌++◌}
use lib.Dec.{T}
use Rattle.grammar.specs.Grammar.{Part, skip, act, tok, see, call, ◌⨾◌, ◌∕◌, many, tail}
use Rattle.grammar.specs.Trial.{Out, ok, fail, out, and_then, or_else, or_stay, seq_p, alt_p, loop, many_p, skip_p, ok_if, take_from, take_p, see_p, act_p, tail_p, eval, rule, enough, parse}
use Rattle.grammar.proofs.Reading.{mute}
use Rattle.token.specs.Code.{In, Def, Pass, Identifier, LParen, RParen, RBracket, RBrace, Colon, Indent, Dedent, Newline, Eof}
use Rattle.pyhyeon.specs.Action.{Action}
use Rattle.pyhyeon.specs.Rules.{Rule, Program, Line, Simple, Block, Class, E, O, A, C, S, P, U, F, plain}
use Rattle.pyhyeon.specs.Tables.{first, joined}

-- nothing is kept: whether a rule fits does not depend on it
abbrev fitted : Out (mute Action) → Bool
fitted (ok s) = true
fitted fail = false
fitted out = false

-- what may stand behind the first token: nothing, an operand, a bracket, a lambda's colon, a Block, and what the keywords ask
abbrev rests : List (List ℕ)
rests =
    []
    ∷ (Identifier ∷ [])
    ∷ (RBracket ∷ [])
    ∷ (RBrace ∷ [])
    ∷ (Identifier ∷ RParen ∷ [])
    ∷ (Colon ∷ Identifier ∷ [])
    ∷ (Pass ∷ [])
    ∷ (Identifier ∷ Colon ∷ Pass ∷ [])
    ∷ (Identifier ∷ In ∷ Identifier ∷ Colon ∷ Pass ∷ [])
    ∷ (Identifier ∷ LParen ∷ RParen ∷ Colon ∷ Pass ∷ [])
    ∷ (Identifier ∷ Colon ∷ Newline ∷ Indent ∷ Def ∷ Identifier ∷ LParen ∷ RParen ∷ Colon ∷ Pass ∷ Newline ∷ Dedent ∷ [])
    ∷ []

-- the token and one of these, a Newline and the end: the rule fits
abbrev some : Rule → ℕ → List (List ℕ) → Bool
some r c [] = false
some r c (w ∷ ws) = fitted (parse {M = mute Action} plain r (record { rest = c ∷ w ++ Newline ∷ Eof ∷ []; kept = tt })) || some r c ws

abbrev each : Rule → List ℕ → Bool
each r [] = true
each r (c ∷ cs) = some r c rests && each r cs

pub begun : (r : Rule) → T (each r (first r))
unfolding and_then or_else or_stay seq_p alt_p loop many_p skip_p ok_if take_from take_p see_p act_p tail_p eval rule enough parse plain first
begun Program = tt
begun Line = tt
begun Simple = tt
begun Block = tt
begun Class = tt
begun E = tt
begun O = tt
begun A = tt
begun C = tt
begun S = tt
begun P = tt
begun U = tt
begun F = tt

-- each token that is asked for is one of some
abbrev live : Part Action Rule → Bool
live skip = true
live (act a) = true
live (tok []) = false
live (tok (c ∷ cs)) = true
live (see []) = false
live (see (c ∷ cs)) = true
live (call r) = true
live (p ⨾ q) = live p && live q
live (p ∕ q) = live p && live q
live (many p) = live p
live (tail c p) = live p

pub lively : (r : Rule) → T (live (joined r))
unfolding joined plain
lively Program = tt
lively Line = tt
lively Simple = tt
lively Block = tt
lively Class = tt
lively E = tt
lively O = tt
lively A = tt
lively C = tt
lively S = tt
lively P = tt
lively U = tt
lively F = tt
