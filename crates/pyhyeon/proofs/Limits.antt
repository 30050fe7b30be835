-- The limits on the descent's work, in acceptance and in refusal: openings at most 10 T + 1, and nodes at most 2 T + 1.
-- Assumes nothing.
use mathlib.Core.Path.{◌≡◌, refl, ◌∙◌}
use mathlib.Core.Bool.{not}
use mathlib.Core.List.{List, [], ◌∷◌, ◌++◌, map, map-append}
use Prim.Native.Nat.{ℕ}
use native.Mathlib.Omega.{arith}
use lib.Dec.{T}
use lib.ListN.{length}
use Rattle.grammar.specs.Sets.{mem}
use Rattle.grammar.specs.Descent.{Answer}
use Rattle.grammar.specs.Check.{takes, low}
use Rattle.grammar.specs.Limits.{before, clean, credit, afford, spare, modest}
use Rattle.grammar.proofs.Ends.{Ends, ends_done, ends_no, ends_deep, ends_stuck}
use Rattle.grammar.proofs.Tokens.{before_is}
use Rattle.grammar.proofs.Limits.{Accepted, Refused}
use Rattle.grammar.proofs.Limits as all
use Rattle.token.specs.Code.{Eof}
use Rattle.tokens.specs.Token.{Token}
use Rattle.pyhyeon.specs.Symbol.{symbol, symbols}
use Rattle.pyhyeon.specs.Action.{machine}
use Rattle.pyhyeon.specs.Rules.{Rule, Program, Line, Simple, Block, Class, E, O, A, C, S, P, U, F, plain}
use Rattle.pyhyeon.specs.Tables.{joined, first, least, rank, depth, pyhyeon}
use Rattle.pyhyeon.specs.Prices.{writes, needs, gives, prices}
use Rattle.pyhyeon.specs.Reading.{Limited, start, descended, descent, work_of}
use Rattle.pyhyeon.proofs.Agreement.{map_length}
use Rattle.pyhyeon.proofs.Meter.{counted, counted_nodes, meter}

-- the tables of ranks and prices pass their test
pub frugal : (r : Rule) → T (modest pyhyeon prices r)
unfolding modest clean takes low credit afford joined plain first least rank writes needs gives
frugal Program = tt
frugal Line = tt
frugal Simple = tt
frugal Block = tt
frugal Class = tt
frugal E = tt
frugal O = tt
frugal A = tt
frugal C = tt
frugal S = tt
frugal P = tt
frugal U = tt
frugal F = tt

module _ (source : List ℕ) (toks : List Token) where
  limit : {T : ℕ} {x : Answer (machine source toks)} → T ≡ before Eof (symbols source toks) →
      Ends (Accepted pyhyeon prices frugal (meter source toks) Program T) (Refused pyhyeon prices frugal (meter source toks) Program T) x → Limited (work_of (descended source toks x))
  unfolding needs gives spare credit joined plain writes meter
  limit e (ends_done {s} h) = record { openings = omega arith; nodes = omega (arith, counted_nodes s.kept) }
  limit e (ends_no {s} h) = record { openings = omega arith; nodes = omega (arith, counted_nodes s.kept) }
  limit e (ends_deep {s} h) = record { openings = omega arith; nodes = omega (arith, counted_nodes s.kept) }
  limit e ends_stuck = record { openings = omega arith; nodes = omega arith }

  pub limits : Limited (work_of (descent source toks))
  unfolding descent start counted meter
  limits = limit refl (all.whole pyhyeon prices frugal (meter source toks) depth Program (start source toks) refl refl)

-- T is the number of tokens without Eof: of tokens w without one, and then Eof, it is the length of w.
pub tokens_are : (source : List ℕ) (w : List Token) (e : Token) → e.code ≡ Eof → T (not (mem Eof (symbols source w))) → before Eof (symbols source (w ++ e ∷ [])) ≡ length w
unfolding symbols
tokens_are source w e is out =
    let last : symbol source e ≡ Eof = rw is refl in
    let all : map (symbol source) (w ++ e ∷ []) ≡ map (symbol source) w ++ Eof ∷ [] = map-append (symbol source) w (e ∷ []) ∙ rw last refl in
    rw all (before_is Eof (map (symbol source) w) [] out) ∙ map_length (symbol source) w
