-- The ordered trial (01, Grammar, "Ordered trial is fed ..").
-- Assumes nothing.
use Rattle.std.specs.Prelude.{ℕ, zero, suc, ◌+◌, ◌*◌, Bool, true, false, List, [], ◌∷◌, length}
use Rattle.grammar.specs.Sets.{mem, sees}
use Rattle.grammar.specs.Grammar.{Part, skip, act, tok, see, call, ◌⨾◌, ◌∕◌, many, tail}

-- What is kept beside the tokens (the number of the next token, the nodes, the values at hand), and what a token and an action do to it.
-- Nothing is asked of it: what is proved holds for every such machine.
pub record Machine (Act : Type 0) : Type 1 where
  pub Kept : Type 0
  pub shift : ℕ → Kept → Kept  -- a token of this code is taken
  pub run : Act → Kept → Kept  -- an action

-- "Its state is a token number .. and the nodes kept": the tokens from that number on, and what is kept.
pub record St {Act : Type 0} (M : Machine Act) : Type 0 where
  pub rest : List ℕ
  pub kept : M.Kept

-- What a part comes to: it fits, and leads to a state; or it fails, and "number, nodes, spans and links are then as where it began",
-- since whoever goes on has the state from before.
-- `out`: the count of nested rules that was given did not suffice. Where it does (`Enough.antt`) this never comes.
pub data Out {Act : Type 0} (M : Machine Act) : Type 0 where
  ok : St M → Out M
  fail out : Out M

abbrev pub Parser : {Act : Type 0} → Machine Act → Type 0
Parser M = St M → Out M

module _ {Act : Type 0} {M : Machine Act} where
  -- "A part fails as soon as one of its own does": go on where the first fits.
  unfoldable pub and_then : Out M → Parser M → Out M
  and_then (ok s') q = q s'
  and_then fail q = fail
  and_then out q = out

  -- Keep the first alternative that fits, "and tries no later one even if what follows fails"; where it fails, go back to s.
  unfoldable pub or_else : Out M → Parser M → St M → Out M
  or_else (ok s') q s = ok s'
  or_else fail q s = q s
  or_else out q s = out

  -- go on where it fits, and stay at s where it fails
  unfoldable pub or_stay : Out M → Parser M → St M → Out M
  or_stay (ok s') q s = q s'
  or_stay fail q s = ok s
  or_stay out q s = out

  unfoldable pub seq_p : Parser M → Parser M → Parser M
  seq_p p q s = and_then (p s) q

  unfoldable pub alt_p : Parser M → Parser M → Parser M
  alt_p p q s = or_else (p s) q s

  -- n times at most, and then `out`
  unfoldable pub loop : Parser M → ℕ → Parser M
  loop p zero s = out
  loop p (suc n) s = or_stay (p s) (loop p n) s

  -- A part that is repeated takes a token each time, so there is no limit in this count.
  unfoldable pub many_p : Parser M → Parser M
  many_p p s = loop p (suc (length s.rest)) s

  unfoldable pub skip_p : Parser M
  skip_p s = ok s

  -- it fits where the test passes
  unfoldable pub ok_if : Bool → St M → Out M
  ok_if true s = ok s
  ok_if false s = fail

  unfoldable pub take_from : List ℕ → List ℕ → M.Kept → Out M
  take_from set [] k = fail
  take_from set (t ∷ ts) k = ok_if (mem t set) (record { rest = ts; kept = M.shift t k })

  -- "A token asked for fits where it stands next, and the number rises by one."
  unfoldable pub take_p : List ℕ → Parser M
  take_p set s = take_from set s.rest s.kept

  -- "Eof fits as end and stays."
  unfoldable pub see_p : List ℕ → Parser M
  see_p set s = ok_if (sees set s.rest) s

  unfoldable pub act_p : Act → Parser M
  act_p a s = ok (record { rest = s.rest; kept = M.run a s.kept })

  -- a separator and the next member as one part while they fit, and then a trailing separator if there is one
  unfoldable pub tail_p : ℕ → Parser M → Parser M
  tail_p c p = seq_p (many_p (seq_p (take_p (c ∷ [])) p)) (alt_p (take_p (c ∷ [])) skip_p)

  -- a part, where the rules are known
  unfoldable pub eval : {R : Type 0} → (R → Parser M) → Part Act R → Parser M
  eval env skip = skip_p
  eval env (act a) = act_p a
  eval env (tok set) = take_p set
  eval env (see set) = see_p set
  eval env (call r) = env r
  eval env (p ⨾ q) = seq_p (eval env p) (eval env q)
  eval env (p ∕ q) = alt_p (eval env p) (eval env q)
  eval env (many p) = many_p (eval env p)
  eval env (tail c p) = tail_p c (eval env p)

  -- a rule, with at most n rules open within one another
  unfoldable pub rule : {R : Type 0} → (R → Part Act R) → ℕ → R → Parser M
  rule body zero r s = out
  rule body (suc n) r s = eval (rule body n) (body r) s

  -- a hundred nested rules for each token that is left, and a hundred more
  unfoldable pub enough : St M → ℕ
  enough s = length s.rest * 100 + 100

  -- A rule. "Depth has no limit": it never takes more than `enough` (proofs/Enough.antt), so that `parse body r s` is `eval (parse body) (body r) s`.
  unfoldable pub parse : {R : Type 0} → (R → Part Act R) → R → Parser M
  unfolding enough
  parse body r s = rule body (enough s) r s
