-- What the rules of statements leave needs no more room than they had.
-- Assumes nothing.
use mathlib.Core.Path.{◌≡◌, refl, subst, ◌∙◌}
use mathlib.Core.List.{List, [], ◌∷◌}
use Prim.Native.Nat.{ℕ, suc, max}
use native.Mathlib.Omega.{arith}
use Rattle.grammar.specs.Grammar.{act, see, call, ◌⨾◌, ◌∕◌, many}
use Rattle.grammar.proofs.Back.{One, o_tok, o_none, o_more}
use Rattle.token.specs.Code.{Equal, RParen, Dedent, Eof}
use Rattle.ast.specs.Kind as kind
use Rattle.pyhyeon.specs.Action.{list_one, list_done, list_none}
use Rattle.pyhyeon.specs.Action as act
use Rattle.pyhyeon.specs.Rules.{Program, Line, Simple, Block, Class, plain, tk, more, newlines, simples, definition, elifs, compound}
use Rattle.pyhyeon.specs.Tables.{joined, lines_on, t_joined}
use Rattle.unparse.specs.Trees.{Name, Stmt, Elif, Def}
use Rattle.unparse.specs.Levels.{X}
use Rattle.unparse.proofs.Write.{need}
use Rattle.unparse.specs.Values.{Value}
use Rattle.unparse.proofs.Machine.{Kept, build, trees}
use Rattle.unparse.proofs.Stmts.{else_part}
use Rattle.unparse.proofs.Room.{Top, on, Left, item, growing, whole, body, less, many_keeps, tail_keeps}
use Rattle.unparse.proofs.Follow.{follow, each, wholly}
use Rattle.unparse.proofs.Actions.{a_one, a_join, a_done, a_expr, a_assign, a_return, a_while, a_for, a_define, a_elif, a_else, a_branch, a_class, a_program}
use Rattle.unparse.proofs.DepthExprs.{joins, listing, a_parameter, named, for_t}

module _ {m : ℕ} where
  pub for_Simple : {k k' : Kept} → One trees (Left m) (joined Simple) k k' → Left m Simple k k'
  unfolding joined build need
  for_Simple {k} w =
      let Q : Kept → Type 0 = Left m Simple k in
      follow Q w (
        (λ t i. wholly m t_joined (act act.return) (build act.mark (trees.shift t k)) Q (λ k₁ v. a_return k₁ (for_t v))),
        (
          wholly m t_joined (tk Equal ⨾ t_joined ⨾ act act.assign ∕ act act.expr) k Q
              (λ k₁ v. ((λ t i. wholly m t_joined (act act.assign) (trees.shift t k₁) Q (λ k₂ u. a_assign k₂ (for_t v) (for_t u))), a_expr k₁ (for_t v))),
          ((λ t i. on (omega arith)), ((λ t i. on (omega arith)), (λ t i. on (omega arith)))),
        ),
      )

  simple_of : (k k' : Kept) → One trees (Left m) (call Simple) k k' → Top (item Stmt) m k.values k'.values
  simple_of k k' w = follow (λ x. Top (item Stmt) m k.values x.values) w (λ k₁ p. p)

  for_simples : {k k' : Kept} → One trees (Left m) simples k k' → Top (growing Stmt) m k.values k'.values
  for_simples {k} w =
      follow (λ x. Top (growing Stmt) m k.values x.values) w (λ k₁ p k₂ u.
      let h = tail_keeps (joins Stmt simple_of) u (a_one k₁ Stmt p) in ((λ t i. h), h))

  -- Newlines leave the values
  silent : {k k' : Kept} → One trees (Left m) newlines k k' → k'.values ≡ k.values
  silent o_none = refl
  silent (o_more (o_tok i) w) = silent w

  quiet : {f : Value → ℕ} {st : List Value} {k k' : Kept} → One trees (Left m) newlines k k' → Top f m st k.values → Top f m st k'.values
  quiet w h = rw (silent w) h

  line_joins : {st : List Value} (k k' : Kept) → One trees (Left m) (call Line ⨾ newlines ⨾ act act.list_join) k k' → Top (growing Stmt) m st k.values → Top (growing Stmt) m st k'.values
  line_joins {st} k k' w h = follow (λ x. Top (growing Stmt) m st x.values) w (λ k₁ p k₂ u. a_join k₂ Stmt h (quiet u p))

  for_lines : {k k' : Kept} → One trees (Left m) lines_on k k' → Top (whole Stmt) m k.values k'.values
  for_lines {k} w = follow (λ x. Top (whole Stmt) m k.values x.values) w (λ k₁ p k₂ v k₃ u. a_done k₃ Stmt (many_keeps line_joins u (quiet v p)))

  in_block : {st vs : List Value} → Top (whole Stmt) m st vs → Top body (suc m) st vs
  in_block h = record { top = h.top; is = h.is; small = omega (arith, h.small) }

  pub for_Block : {k k' : Kept} → One trees (Left m) (joined Block) k k' → Left (suc m) Block k k'
  unfolding joined build need
  for_Block {k} w =
      let Q : Kept → Type 0 = Left (suc m) Block k in
      follow Q w (λ c i. (
        (λ d j k₁ v e h. (
          (λ k₂ u. wholly m lines_on (tk Dedent) k₂ Q (λ k₃ ls x l. in_block (subst (λ (vs : List Value). Top (whole Stmt) m vs k₃.values) (silent u ∙ silent v) (for_lines ls)))),
          (λ x l. in_block (subst (λ (vs : List Value). Top (whole Stmt) m vs (build list_none k₁).values) (silent v) (on (omega arith)))),
        )),
        wholly m simples (act list_done) (trees.shift c k) Q (λ k₁ u. in_block (a_done k₁ Stmt (for_simples u))),
      ))

  defined : {c : ℕ} {k k' : Kept} → One trees (Left m) (definition c) k k' → Top (λ v. max (item Stmt v) (item Def v)) m k.values k'.values
  unfolding build
  defined {c} {k} w =
      let Q : Kept → Type 0 = λ x. Top (λ v. max (item Stmt v) (item Def v)) m k.values x.values in
      follow Q w (λ t i u j v h.
      listing Name a_parameter (tk RParen ⨾ call Block ⨾ act (act.define c)) (trees.shift v (build act.mark (trees.shift u (build act.mark (trees.shift t k))))) Q named
      (λ k₁ ns x l k₂ p. a_define k₂ c ns p))

  method : (k k' : Kept) → One trees (Left m) (definition kind.Method) k k' → Top (item Def) m k.values k'.values
  method k k' w = less (λ v le. omega arith) (defined w)

  pub for_Class : {k k' : Kept} → One trees (Left m) (joined Class) k k' → Left m Class k k'
  unfolding joined plain build
  for_Class {k} w =
      let Q : Kept → Type 0 = Left m Class k in
      follow Q w (λ t i u j c h d l k₁ v e n.
      wholly m (definition kind.Method) (act list_one ⨾ many (more (definition kind.Method)) ⨾ act list_done ⨾ tk Dedent ⨾ act act.class) (trees.shift e k₁) Q (λ k₂ f k₃ g x y.
      a_class k₃ x (subst (λ (vs : List Value). Top (growing Def) m vs k₃.values) (silent v) (many_keeps (joins Def method) g (a_one k₂ Def (method _ _ f))))))

  an-elif : {k k' : Kept} → One trees (Left m) elifs k k' → Top (growing Elif) m k.values k'.values
  unfolding build
  an-elif {k} w = follow (λ x. Top (growing Elif) m k.values x.values) w (λ t i k₁ p k₂ q. a_one (build act.elif k₂) Elif (a_elif k₂ p q))

  elif_joins : {st : List Value} (k k' : Kept) → One trees (Left m) (elifs ⨾ act act.list_join) k k' → Top (growing Elif) m st k.values → Top (growing Elif) m st k'.values
  elif_joins {st} k k' w h =
      let Q : Kept → Type 0 = λ x. Top (growing Elif) m st x.values in
      follow Q w (wholly m elifs (act act.list_join) k Q (λ k₁ v. a_join k₁ Elif h (an-elif v)))

  for_elifs : {k k' : Kept} → One trees (Left m) (elifs ⨾ many (elifs ⨾ act act.list_join) ⨾ act list_done ∕ act list_none) k k' → Top (whole Elif) m k.values k'.values
  unfolding build need
  for_elifs {k} w =
      let Q : Kept → Type 0 = λ x. Top (whole Elif) m k.values x.values in
      follow Q w (
        wholly m elifs (many (elifs ⨾ act act.list_join) ⨾ act list_done) k Q (λ k₁ v k₂ u. a_done k₂ Elif (many_keeps elif_joins u (an-elif v))),
        on (omega arith),
      )

  for_else : {k k' : Kept} → One trees (Left m) else_part k k' → Top (λ v. need X v.after) m k.values k'.values
  unfolding build need
  for_else {k} w = follow (λ x. Top (λ v. need X v.after) m k.values x.values) w ((λ t i k₁ p. a_else k₁ p), on (omega arith))

  for_compound : {k k' : Kept} → One trees (Left m) compound k k' → Top (item Stmt) m k.values k'.values
  unfolding build
  for_compound {k} w =
      let Q : Kept → Type 0 = λ x. Top (item Stmt) m k.values x.values in
      follow Q w (
        (λ k₁ p. p),
        (
          each m (definition kind.Def) k Q (λ k₁ v. less (λ v le. omega arith) (defined v)),
          (
            (λ t i k₁ p k₂ q.
                wholly m (elifs ⨾ many (elifs ⨾ act act.list_join) ⨾ act list_done ∕ act list_none) (else_part ⨾ act act.branch) k₂ Q (λ k₃ v.
                wholly m else_part (act act.branch) k₃ Q (λ k₄ u. a_branch k₄ p q (for_elifs v) (for_else u)))),
            ((λ t i k₁ p k₂ q. a_while k₂ p q), (λ t i u j v h k₁ p k₂ q. a_for k₂ p q)),
          ),
        ),
      )

  pub for_Line : {k k' : Kept} → One trees (Left m) (joined Line) k k' → Left m Line k k'
  unfolding joined plain
  for_Line {k} w =
      let Q : Kept → Type 0 = Left m Line k in
      follow Q w (wholly m compound (act list_one) k Q (λ k₁ v. a_one k₁ Stmt (for_compound v)), each m simples k Q (λ k₁ v. for_simples v))

  pub for_Program : {k k' : Kept} → One trees (Left m) (joined Program) k k' → Left m Program k k'
  unfolding joined build need
  for_Program {k} w =
      let Q : Kept → Type 0 = Left m Program k in
      follow Q w (λ k₁ v. (
        wholly m lines_on (see (Eof ∷ []) ⨾ act act.program) k₁ Q
            (λ k₂ u. subst (λ (vs : List Value). Top (λ v. need X v.result) m vs (build act.program k₂).values) (silent v) (a_program k₂ (for_lines u))),
        subst (λ (vs : List Value). Top (λ v. need X v.result) m vs (build act.program (build list_none k₁)).values) (silent v) (a_program (build list_none k₁) (on (omega arith))),
      ))
