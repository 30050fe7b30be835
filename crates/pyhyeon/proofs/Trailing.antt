-- "One E with a trailing comma in return, assignment or expression is now a Tuple of one whose span includes the comma" (02, change 5): where t is read,
-- an E, a comma, and no E behind it come to the Tuple of that E, from its start to the end of the comma.
-- Assumes nothing.
use mathlib.Core.Path.{◌≡◌, ap}
use mathlib.Core.List.{List, [], ◌∷◌, ◌++◌}
use Prim.Native.Nat.{ℕ, ◌+◌, ◌-◌}
use native.Mathlib.Omega.{arith}
use lib.ListN.{length, get_or}
use Rattle.grammar.specs.Trial.{St, ok, fail, Parser, and_then, or_else, seq_p, alt_p, skip_p, ok_if, take_from, take_p, act_p, eval}
use Rattle.token.specs.Code.{Comma}
use Rattle.tokens.specs.Token.{Token}
use Rattle.ast.specs.Kind as kind
use Rattle.ast.specs.Node.{Node, blank, made}
use Rattle.pyhyeon.specs.Machine.{Value, node, growing, number, one}
use Rattle.pyhyeon.specs.Action.{token_at_lem, perform, machine}
use Rattle.pyhyeon.specs.Rules.{Rule, E, t}

module _ (source : List ℕ) (toks : List Token) (at n : ℕ) (nodes : List Node) (vs : List Value) (ts : List ℕ) where
  -- behind the E of node n, before the comma, which is the token `at`; behind the comma, with a list of that one node at hand
  abbrev before : St (machine source toks)
  before = record { rest = Comma ∷ ts; kept = record { at = at; nodes = nodes; values = node n ∷ vs } }

  abbrev behind : St (machine source toks)
  behind = record { rest = ts; kept = record { at = at + 1; nodes = nodes; values = growing n n ∷ vs } }

  -- the Tuple is written, to the end of the token c
  abbrev written : ℕ → St (machine source toks)
  written c = record { rest = ts; kept = record { at = at + 1; nodes = nodes ++ (made kind.Tuple (get_or nodes n blank).start (token_at_lem source toks c).end n 0 0 0 ∷ []); values = node (length nodes) ∷ vs } }

  pub trailing : (env : Rule → Parser (machine source toks)) (s : St (machine source toks)) → env E s ≡ ok before → env E behind ≡ fail → eval env t s ≡ ok (written at)
  unfolding and_then or_else seq_p alt_p skip_p ok_if take_from take_p act_p eval perform one number
  trailing env s e f =
      let d : at + 1 - 1 ≡ at = omega arith in
      rw (e, f) (ap (λ (c : ℕ). ok (written c)) d)
