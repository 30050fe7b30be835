-- The theorem for this grammar: of every script's tokens, 13 set aside, trial and descent both accept, with the same nodes, or both refuse.
-- And what stands in place of the counts that the definitions carry: neither runs out.
-- Assumes nothing.
use mathlib.Core.Path.{◌≡◌, refl, ap}
use mathlib.Core.List.{List, [], ◌∷◌, ◌++◌, map, map-append}
use Prim.Native.Nat.{ℕ, suc, ◌<◌}
use lib.ListN.{length}
use Rattle.grammar.specs.Trial.{St, Out, fail, out, eval, parse}
use Rattle.grammar.specs.Descent.{Answer, no, stuck, walk, enter, descend}
use Rattle.grammar.proofs.Top.{Verdict}
use Rattle.grammar.proofs.Top as top
use Rattle.grammar.proofs.Step as step
use Rattle.grammar.proofs.Alike.{fails_alike}
use Rattle.tokens.specs.Token.{Token}
use Rattle.pyhyeon.specs.Symbol.{symbol, symbols}
use Rattle.pyhyeon.specs.Machine.{blank}
use Rattle.pyhyeon.specs.Action.{machine}
use Rattle.pyhyeon.specs.Rules.{Rule, Program, plain}
use Rattle.pyhyeon.specs.Tables.{depth, pyhyeon}
use Rattle.pyhyeon.specs.Missing.{Fault}
use Rattle.pyhyeon.specs.Reading.{Work, Descended, Accepted, Misfit, Tried, Fits, Agree, both_accept, both_refuse, set_aside, Fails, start, descended, descent, tried, trial}
use Rattle.pyhyeon.proofs.Language.{language, theorem}

module _ (source : List ℕ) (toks : List Token) where
  agree : {o : Out (machine source toks)} {x : Answer (machine source toks)} → Verdict o x → Agree (tried source toks o) (descended source toks x)
  agree (Verdict.accepted n) = both_accept _
  agree (Verdict.refused n) = both_refuse _ _ _
  agree (Verdict.thirteen n) = set_aside _ _ _

  pub agreement : Agree (trial source toks) (descent source toks)
  unfolding trial descent
  agreement = agree (theorem (start source toks))

  -- what the descent accepts the trial accepts, with the same nodes; what it refuses with 14, 15 or 16 the trial refuses
  accept : {t : Tried} {d : Descended} (w : Work) → Agree t d → d ≡ Accepted w → t ≡ Fits w.nodes
  accept w (both_accept w₁) e = cc
  accept w (both_refuse f place w₁) e = cc
  accept w (set_aside t place w₁) e = cc

  pub accepts : (w : Work) → descent source toks ≡ Accepted w → trial source toks ≡ Fits w.nodes
  accepts w e = accept w agreement e

  refuse : {t : Tried} {d : Descended} (f : Fault) (place : ℕ) (w : Work) → Agree t d → d ≡ Misfit f place w → t ≡ Fails
  refuse f place w (both_accept w₁) e = cc
  refuse f place w (both_refuse f₁ place₁ w₁) e = refl
  refuse f place w (set_aside t place₁ w₁) e = cc

  pub refuses : (f : Fault) (place : ℕ) (w : Work) → descent source toks ≡ Misfit f place w → trial source toks ≡ Fails
  refuses f place w e = refuse f place w agreement e

  -- trial and descent always answer
  pub trial_answers : parse plain Program (start source toks) ≡ out → ⊥
  trial_answers e = top.trial_answers language Program (start source toks) e

  pub descent_answers : (room : ℕ) (r : Rule) (n : ℕ) (s : St (machine source toks)) → descend pyhyeon room r n s ≡ stuck → ⊥
  descent_answers room r n s e = step.descent_answers pyhyeon (top.good language) room r n s e

  -- a rule is its body: "Depth has no limit" in the trial, and only the room is one in the descent
  pub trial_is : (r : Rule) (s : St (machine source toks)) → parse plain r s ≡ eval (parse plain) (plain r) s
  trial_is r s = top.rule_is language r s

  pub descent_is : (room : ℕ) (r : Rule) (n : ℕ) (s : St (machine source toks)) →
      descend pyhyeon room r n s ≡ enter (pyhyeon.opens r) room (λ m. walk pyhyeon.first (λ r'. descend pyhyeon m r') (pyhyeon.body r)) n s
  descent_is room r n s = step.descend_is pyhyeon (top.good language) room r n s

pub map_length : {A B : Type 0} (f : A → B) (l : List A) → length (map f l) ≡ length l
map_length f [] = refl
map_length f (x ∷ l) = ap suc (map_length f l)

-- 14, 15 and 16 are never too early. The descent refuses the tokens w and then v at a token of w, as more are left than v has: then no
-- script whose tokens begin as w does is accepted.
pub first_misfit : {asked : List ℕ} (source source' : List ℕ) (w v w' v' : List Token) (m : ℕ) (s : St (machine source (w ++ v))) → descend pyhyeon depth Program 0 (start source (w ++ v)) ≡ no asked m s →
    length v < length s.rest → symbols source w ≡ symbols source' w' → trial source' (w' ++ v') ≡ Fails
unfolding symbols start trial
first_misfit source source' w v w' v' m s e lt same =
    let M = machine source (w ++ v) in
    let a : map (symbol source) (w ++ v) ≡ map (symbol source) w ++ map (symbol source) v = map-append (symbol source) w v in
    let b : map (symbol source') (w' ++ v') ≡ map (symbol source') w' ++ map (symbol source') v' = map-append (symbol source') w' v' in
    let h = top.first_misfit language {M = M} depth 0 m (map (symbol source) w) (map (symbol source) v) (map (symbol source') v') blank s (rw a at e) (rw (map_length (symbol source) v) lt) in
    let g = fails_alike M (machine source' (w' ++ v')) plain Program (map (symbol source) w ++ map (symbol source') v') blank blank h in
    let f : parse plain Program (start source' (w' ++ v')) ≡ fail = rw (b, ← same) g in
    ap (tried source' (w' ++ v')) f
