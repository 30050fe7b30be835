-- F as the trial takes it comes to the same as F as the descent does: `t` as a name, which 01 has last, may be tried beside t{list}.
-- Assumes nothing.
use mathlib.Core.Path.{◌≡◌, refl, ap, ◌∙◌}
use mathlib.Core.List.{[], ◌∷◌}
use Rattle.grammar.specs.Grammar.{Part, act, tok, ◌⨾◌, ◌∕◌, many}
use Rattle.grammar.specs.Trial.{Machine, Parser, seq_p, alt_p, take_p, eval}
use Rattle.grammar.proofs.Factor.{join, split_tok, swap}
use Rattle.token.specs.Code.{Identifier, LBracket, RBracket, LBrace, RBrace, LParen}
use Rattle.pyhyeon.specs.Symbol.{Tee}
use Rattle.ast.specs.Kind as kind
use Rattle.pyhyeon.specs.Action.{Action, mark, literal, named, enclose}
use Rattle.pyhyeon.specs.Rules.{Rule, F, tk, list, literals, postfix, plain}
use Rattle.pyhyeon.specs.Tables.{braces, round, joined}

abbrev variable : Part Action Rule
variable = act (named kind.Variable)

-- the two parts of F between which the name `t` moves
abbrev tree_set : Part Action Rule
tree_set = tk Tee ⨾ act mark ⨾ tk LBrace ⨾ list ⨾ tk RBrace ⨾ act (enclose kind.TreeSet)

abbrev before : Part Action Rule → Part Action Rule
before p = (tok literals ⨾ act literal ∕ tk LBracket ⨾ act mark ⨾ list ⨾ tk RBracket ⨾ act (enclose kind.List) ∕ tree_set ∕ p) ⨾ many postfix

-- `t` as a name where 01 has it, and right after t{list}
abbrev late : Part Action Rule
late = before (tk LBrace ⨾ act mark ⨾ braces ∕ tk LParen ⨾ act mark ⨾ round ∕ tk Tee ⨾ variable ∕ tk Identifier ⨾ variable)

abbrev early : Part Action Rule
early = before (tk Tee ⨾ variable ∕ tk LBrace ⨾ act mark ⨾ braces ∕ tk LParen ⨾ act mark ⨾ round ∕ tk Identifier ⨾ variable)

module _ {M : Machine Action} where
  move : (b r v c : Parser M) → alt_p (seq_p (take_p (LBrace ∷ [])) b) (alt_p (seq_p (take_p (LParen ∷ [])) r) (alt_p (seq_p (take_p (Tee ∷ [])) v) c))
      ≡ alt_p (seq_p (take_p (Tee ∷ [])) v) (alt_p (seq_p (take_p (LBrace ∷ [])) b) (alt_p (seq_p (take_p (LParen ∷ [])) r) c))
  move b r v c =
      ap (λ (q : Parser M). alt_p (seq_p (take_p (LBrace ∷ [])) b) q) (swap (LParen ∷ []) (Tee ∷ []) r v c tt)
      ∙ swap (LBrace ∷ []) (Tee ∷ []) b v (alt_p (seq_p (take_p (LParen ∷ [])) r) c) tt

  pub alike_f : (env : Rule → Parser M) → eval env (plain F) ≡ eval env (joined F)
  unfolding eval plain joined
  alike_f env = first ∙ second ∙ third
    where
      first : eval env (plain F) ≡ eval env late
      first = simp (join, split_tok)

      second : eval env late ≡ eval env early
      second = rw move refl

      third : eval env early ≡ eval env (joined F)
      third = simp join
