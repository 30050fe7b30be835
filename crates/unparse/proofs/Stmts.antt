-- The forms of statements: each is read by Line, where its parts are read by theirs.
-- Assumes nothing.
use mathlib.Core.List.{List, [], ◌∷◌}
use Prim.Native.Nat.{ℕ, suc, ◌≤◌, max}
use native.Mathlib.Omega.{arith}
use lib.Dec.{T}
use Rattle.grammar.specs.Sets.{sees}
use Rattle.grammar.specs.Grammar.{Part, act, tok, call, ◌⨾◌, ◌∕◌}
use Rattle.grammar.specs.Trial.{Machine}
use Rattle.grammar.proofs.Ways.{Way, w_act, w_tok, w_see, w_call, w_seq, w_left, w_right, w_none, w_end}
use Rattle.token.specs.Code.{If, Elif, Else, While, For, In, Def, Return, Equal, LParen, RParen, Eof}
use Rattle.token.specs.Code as token
use Rattle.ast.specs.Kind as kind
use Rattle.pyhyeon.specs.Action as act
use Rattle.pyhyeon.specs.Action.{Action}
use Rattle.pyhyeon.specs.Rules.{Rule, plain, names, parameters, newlines, definition, elifs, compound}
use Rattle.pyhyeon.specs.Rules as rule
use Rattle.pyhyeon.specs.Tables.{joined, opens, pyhyeon, lines_on}
use Rattle.unparse.specs.Trees.{Stmt, Alone, alone_code, alone_kind}
use Rattle.unparse.specs.Trees as trees
use Rattle.unparse.specs.Levels.{T as Lt, X}
use Rattle.unparse.proofs.Write.{Steps, key, run, ◌›◌, symbols, perform, simple, block}
use Rattle.unparse.proofs.Write as write
use Rattle.unparse.proofs.Levels.{part, Fits, opening}
use Rattle.unparse.proofs.Lists.{Grows, listed}

-- what may stand after the elifs
abbrev pub else_part : Part Action Rule
else_part = rule.tk Else ⨾ act act.mark ⨾ call rule.Block ⨾ act act.else ⨾ act act.list_one ⨾ act act.list_done ∕ act act.list_none

module _ {M : Machine Action} where
  -- a Simple on its line
  lonely : {d : ℕ} {e : Steps} → Fits M d (call rule.Simple) e → Fits M d (call rule.Line) (simple e)
  unfolding plain joined opens
  lonely f = record { at = λ m le l k. w_call tt (w_right (w_seq (f.at m le _ k) (w_seq w_act (w_seq w_end (w_left (w_tok tt)))))) }

  pub for_expression : {d : ℕ} {e : Steps} → Fits M d (part Lt) e → Fits M d (call rule.Line) (simple (e › run act.expr))
  unfolding part plain joined opens
  for_expression f = lonely (record { at = λ m le l k. w_call tt (w_right (w_left (w_seq (f.at m le _ k) (w_right w_act)))) })

  pub for_assign : {d d' : ℕ} {e e' : Steps} → Fits M d (part Lt) e → Fits M d' (part Lt) e' → Fits M (max d d') (call rule.Line) (simple (e › key Equal › e' › run act.assign))
  unfolding part plain joined opens
  for_assign f g = lonely (record { at = λ m le l k. w_call tt (w_right (w_left (w_seq (f.at m (omega arith) _ k) (w_left (w_seq (w_tok tt) (w_seq (g.at m (omega arith) _ _) w_act)))))) })

  pub for_return : {d : ℕ} {e : Steps} → Fits M d (part Lt) e → Fits M d (call rule.Line) (simple (key Return › run act.mark › e › run act.return))
  unfolding part plain joined opens
  for_return f = lonely (record { at = λ m le l k. w_call tt (w_left (w_seq (w_tok tt) (w_seq w_act (w_seq (f.at m le _ _) w_act)))) })

  pub for_alone : (w : Alone) → Fits M 0 (call rule.Line) (simple (key (alone_code w) › run (act.alone (alone_kind w))))
  unfolding plain joined opens
  for_alone Alone.break = lonely (record { at = λ m le l k. w_call tt (w_right (w_right (w_left (w_seq (w_tok tt) w_act)))) })
  for_alone Alone.continue = lonely (record { at = λ m le l k. w_call tt (w_right (w_right (w_right (w_left (w_seq (w_tok tt) w_act))))) })
  for_alone Alone.pass = lonely (record { at = λ m le l k. w_call tt (w_right (w_right (w_right (w_right (w_seq (w_tok tt) w_act))))) })

  -- the lines of a block
  indented : {m : ℕ} {l l' : List ℕ} {k k' : M.Kept} → Way pyhyeon M m (listed Stmt) l k l' k' → Way pyhyeon M m (newlines ⨾ lines_on ∕ act act.list_none) l k l' k'
  indented (w_left w) = w_left (w_seq w_none w)
  indented (w_right w) = w_right w

  pub blocked : {d : ℕ} {e : Steps} → Fits M d (listed Stmt) e → Fits M (suc d) (call rule.Block) (block e)
  unfolding plain joined opens
  blocked f = record {
    at = λ m le l k. opening tt le (λ n le'. w_seq (w_tok tt) (w_left (w_seq (w_tok tt) (w_seq w_none (w_seq (w_tok tt) (w_seq (indented (f.at n le' _ _)) (w_tok tt)))))));
  }

  -- a compound statement
  lines : {d : ℕ} {e : Steps} → Fits M d compound e → Fits M d (call rule.Line) (write.compound e)
  unfolding plain joined opens
  lines f = record { at = λ m le l k. w_call tt (w_left (w_seq (f.at m le _ k) w_act)) }

  pub for_elif : {d d' : ℕ} {e e' : Steps} → Fits M d (part X) e → Fits M d' (listed Stmt) e' → Fits M (max d (suc d')) elifs (key Elif › run act.mark › e › block e' › run act.elif › run act.list_one)
  unfolding part
  for_elif f g = record { at = λ m le l k. w_seq (w_tok tt) (w_seq w_act (w_seq (f.at m (omega arith) _ _) (w_seq ((blocked g).at m (omega arith) _ _) (w_seq w_act w_act)))) }

  pub for_else : {d : ℕ} {e : Steps} → Fits M d (listed Stmt) e → Fits M (suc d) else_part (key Else › run act.mark › block e › run act.else › run act.list_one › run act.list_done)
  for_else g = record { at = λ m le l k. w_left (w_seq (w_tok tt) (w_seq w_act (w_seq ((blocked g).at m le _ _) (w_seq w_act (w_seq w_act w_act))))) }

  pub for_without : Fits M 0 else_part (run act.list_none)
  for_without = record { at = λ m le l k. w_right w_act }

  pub for_branch : {d₁ d₂ d₃ d₄ : ℕ} {e₁ e₂ e₃ e₄ : Steps} → Fits M d₁ (part X) e₁ → Fits M d₂ (listed Stmt) e₂ → Fits M d₃ (listed trees.Elif) e₃ → Fits M d₄ else_part e₄ →
      Fits M (max (max d₁ (suc d₂)) (max d₃ d₄)) (call rule.Line) (write.compound (key If › run act.mark › e₁ › block e₂ › e₃ › e₄ › run act.branch))
  unfolding part
  for_branch f g h i = lines (record {
    at = λ m le l k. w_right (w_right (w_left (w_seq (w_tok tt) (w_seq w_act (w_seq (f.at m (omega arith) _ _) (w_seq ((blocked g).at m (omega arith) _ _)
        (w_seq (h.at m (omega arith) _ _) (w_seq (i.at m (omega arith) _ _) w_act))))))));
  })

  pub for_while : {d d' : ℕ} {e e' : Steps} → Fits M d (part X) e → Fits M d' (listed Stmt) e' → Fits M (max d (suc d')) (call rule.Line) (write.compound (key While › run act.mark › e › block e' › run act.while))
  unfolding part
  for_while f g = lines (record { at = λ m le l k. w_right (w_right (w_right (w_left (w_seq (w_tok tt) (w_seq w_act (w_seq (f.at m (omega arith) _ _) (w_seq ((blocked g).at m (omega arith) _ _) w_act))))))) })

  pub for_for : {d d' : ℕ} {e₀ e e' : Steps} → Fits M 0 (tok names) e₀ → Fits M d (part X) e → Fits M d' (listed Stmt) e' →
      Fits M (max d (suc d')) (call rule.Line) (write.compound (key For › run act.mark › e₀ › run act.mark › key In › e › block e' › run act.for))
  unfolding part
  for_for n f g = lines (record {
    at = λ m le l k. w_right (w_right (w_right (w_right (w_seq (w_tok tt) (w_seq w_act (w_seq (w_seq (n.at m (omega arith) _ _) w_act) (w_seq (w_tok tt)
        (w_seq (f.at m (omega arith) _ _) (w_seq ((blocked g).at m (omega arith) _ _) w_act)))))))));
  })

  pub for_def : {d d' : ℕ} {e₀ e e' : Steps} → Fits M 0 (tok names) e₀ → Fits M d parameters e → Fits M d' (listed Stmt) e' → (c : ℕ) →
      Fits M (max d (suc d')) (definition c) ((key Def › run act.mark › e₀ › run act.mark › key LParen › e › key RParen › block e') › run (act.define c))
  for_def n f g c = record {
    at = λ m le l k. w_seq (w_tok tt) (w_seq w_act (w_seq (w_seq (n.at m (omega arith) _ _) w_act) (w_seq (w_tok tt) (w_seq (f.at m (omega arith) _ _)
        (w_seq (w_tok tt) (w_seq ((blocked g).at m (omega arith) _ _) w_act))))));
  }

  pub for_define : {d : ℕ} {e : Steps} → Fits M d (definition kind.Def) (e › run (act.define kind.Def)) → Fits M d (call rule.Line) (write.compound (e › run (act.define kind.Def)))
  for_define f = lines (record { at = λ m le l k. w_right (w_left (f.at m le l k)) })

  pub for_class : {d : ℕ} {e₀ e : Steps} → Fits M 0 (tok names) e₀ → Grows M d trees.Def e → Fits M d (call rule.Line) (write.compound (key token.Class › run act.mark › e₀ › run act.mark › block (e › run act.list_done) › run act.class))
  unfolding plain joined opens
  for_class n g = lines (record {
    at = λ m le l k. w_left (w_call tt (w_seq (w_tok tt) (w_seq w_act (w_seq (w_seq (n.at m (omega arith) _ _) w_act) (w_seq (w_tok tt) (w_seq (w_tok tt) (w_seq w_none (w_seq (w_tok tt)
        (g.at m le _ _ _ (w_seq w_none (w_seq w_act (w_seq (w_tok tt) w_act))))))))))));
  })

  -- a program, with the end behind it
  pub for_program : {d : ℕ} {e : Steps} → Fits M d (listed Stmt) e → (m : ℕ) → d ≤ m → (l : List ℕ) (k : M.Kept) → T (sees (Eof ∷ []) l) →
      Way pyhyeon M m (call rule.Program) (symbols (e › run act.program) l) k l (perform M (e › run act.program) k)
  unfolding plain joined opens
  for_program f m le l k h = w_call tt (w_seq w_none (w_seq (f.at m le l k) (w_seq (w_see h) w_act)))
