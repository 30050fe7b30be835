-- The forms of expressions: each is read at its own level, where its parts are read at theirs.
-- Assumes nothing.
use mathlib.Core.Path.{◌≡◌, refl, subst, sym}
use mathlib.Core.Bool.{not}
use mathlib.Core.List.{List, ◌∷◌}
use Prim.Native.Nat.{ℕ, ◌≤◌, max}
use native.Mathlib.Omega.{arith}
use lib.Dec.{T}
use Rattle.grammar.specs.Sets.{mem}
use Rattle.grammar.specs.Grammar.{act, tok, call, ◌⨾◌, ◌∕◌, many, tail}
use Rattle.grammar.specs.Trial.{Machine}
use Rattle.grammar.proofs.Ways.{Way, w_skip, w_act, w_tok, w_call, w_seq, w_left, w_right, w_none, w_more, w_end, w_item}
use Rattle.token.specs.Code.{LParen, RParen, LBracket, RBracket, LBrace, RBrace, Colon, Comma, Dot, Lambda}
use Rattle.ast.specs.Kind as kind
use Rattle.pyhyeon.specs.Action as act
use Rattle.pyhyeon.specs.Action.{Action}
use Rattle.pyhyeon.specs.Rules.{Rule, plain, level, names, literals, comparisons, sign_set, entry, list, parameters, postfix}
use Rattle.pyhyeon.specs.Rules as rule
use Rattle.pyhyeon.specs.Tables.{joined, opens, pyhyeon, primary, pairs_on, set_on}
use Rattle.unparse.specs.Trees.{Load, Expr, Pair, Literal, Word, Sign, Op, Comparison, Bracket, Void, literal_code, word_code, sign_code, op_code, comparison_code}
use Rattle.unparse.specs.Levels.{Level, T as Lt, X, E, C, S, G, F, same_level, level_of, below, pick}
use Rattle.unparse.proofs.Write.{Steps, put, key, run, ◌›◌, symbols, perform, bracketed, voided, tupled, fit, raise}
use Rattle.unparse.proofs.Levels.{part, Fits, goes_on, by_rules, fitted}
use Rattle.unparse.proofs.Lists.{Grows, lined, more_first}

-- the codes are in the sets that the rules ask for
literal-in : (c : Literal) → T (mem (literal_code c) literals)
literal-in Literal.int = tt
literal-in Literal.bool = tt
literal-in Literal.string = tt
literal-in Literal.float = tt
literal-in Literal.none = tt

word_in : (w : Word) → T (mem (word_code w) names)
word_in Word.tee = tt
word_in Word.identifier = tt

sign-in : (g : Sign) → T (mem (sign_code g) sign_set)
sign-in Sign.negation = tt
sign-in Sign.negative = tt
sign-in Sign.positive = tt

comparison_in : (o : Comparison) → T (mem (comparison_code o) comparisons)
comparison_in Comparison.less = tt
comparison_in Comparison.less_equal = tt
comparison_in Comparison.greater = tt
comparison_in Comparison.greater_equal = tt
comparison_in Comparison.equal = tt
comparison_in Comparison.not_equal = tt

-- A chain of comparisons leads on, to where further comparisons lead.
pub record Chained (M : Machine Action) (d : ℕ) (e : Steps) : Type 0 where
  pub at : (m : ℕ) → d ≤ m → (l : List ℕ) (k : M.Kept) {l' : List ℕ} {k' : M.Kept} →
      Way pyhyeon M m (many (tok comparisons ⨾ act act.mark ⨾ call rule.S ⨾ act act.compare_more) ⨾ act act.compared) l (perform M e k) l' k' →
      Way pyhyeon M m (call rule.C) (symbols e l) k l' k'

-- Two or more members: the first, its comma, and the others, which lead on.
pub record Members (M : Machine Action) (m : ℕ) (e : Steps) (l : List ℕ) (k : M.Kept) : Type 0 where
  pub rest : List ℕ
  pub kept : M.Kept
  pub first : Way pyhyeon M m (call rule.E) (symbols e l) k (Comma ∷ rest) kept
  pub others : {l' : List ℕ} {k' : M.Kept} → Way pyhyeon M m (tail Comma (rule.more (call rule.E))) l (perform M e k) l' k' →
      Way pyhyeon M m (rule.more (call rule.E) ⨾ tail Comma (rule.more (call rule.E))) rest (M.run act.list_one (M.shift Comma kept)) l' k'

pub record Several (M : Machine Action) (d : ℕ) (e : Steps) : Type 0 where
  pub at : (m : ℕ) → d ≤ m → (l : List ℕ) (k : M.Kept) → Members M m e l k

module _ {M : Machine Action} where
  -- a primary alone is an F
  primed : {m : ℕ} {l l' : List ℕ} {k k' : M.Kept} → Way pyhyeon M m primary l k l' k' → Way pyhyeon M m (call rule.F) l k l' k'
  unfolding joined opens
  primed w = w_call tt (w_seq w w_none)

  posted : {m : ℕ} {l l₁ l₂ : List ℕ} {k k₁ k₂ : M.Kept} → Way pyhyeon M m (call rule.F) l k l₁ k₁ → Way pyhyeon M m postfix l₁ k₁ l₂ k₂ → Way pyhyeon M m (call rule.F) l k l₂ k₂
  unfolding joined opens
  posted v w = goes_on tt refl v w

  pub for_literal : (c : Literal) (n : Load) → Fits M 0 (part F) (put (literal_code c) n › run act.literal)
  unfolding part
  for_literal c n = record { at = λ m le l k. primed (w_left (w_seq (w_tok (literal-in c)) w_act)) }

  pub for_name : (w : Word) (n : Load) → Fits M 0 (tok names) (put (word_code w) n)
  for_name w n = record { at = λ m le l k. w_tok (word_in w) }

  pub for_variable : (w : Word) (n : Load) → Fits M 0 (part F) (put (word_code w) n › run (act.named kind.Variable))
  unfolding part
  for_variable Word.tee n = record { at = λ m le l k. primed (w_right (w_right (w_left (w_seq (w_tok tt) (w_right w_act))))) }
  for_variable Word.identifier n = record { at = λ m le l k. primed (w_right (w_right (w_right (w_right (w_right (w_seq (w_tok tt) w_act)))))) }

  sign_first : {m c : ℕ} {l l₁ : List ℕ} {k k₁ : M.Kept} → T (mem c sign_set) → Way pyhyeon M m (part G) l (M.run act.signs_more (M.shift c k)) l₁ k₁ → Way pyhyeon M m (part G) (c ∷ l) k l₁ k₁
  unfolding part
  sign_first h (w_seq v w) = w_seq (w_more (w_seq (w_tok h) w_act) v) w

  pub for_unary : {d : ℕ} {e : Steps} (g : Sign) → Fits M d (part G) e → Fits M d (part G) (key (sign_code g) › run act.signs_more › e)
  for_unary g f = record { at = λ m le l k. sign_first (sign-in g) (f.at m le l _) }

  leveled : {d d' : ℕ} {e e' : Steps} {r r' : Rule} {ops : List ℕ} (c : ℕ) → T (not (pyhyeon.opens r)) → pyhyeon.body r ≡ level r' ops → T (mem c ops) →
      Fits M d (call r) e → Fits M d' (call r') e' → Fits M (max d d') (call r) (e › key c › run act.mark › e' › run act.binary)
  leveled c t b h f g = record { at = λ m le l k. goes_on t b (f.at m (omega arith) _ k) (w_seq (w_tok h) (w_seq w_act (w_seq (g.at m (omega arith) _ _) w_act))) }

  pub for_binary : {d d' : ℕ} {e e' : Steps} (o : Op) → Fits M d (part (level_of o)) e → Fits M d' (part (below o)) e' →
      Fits M (max d d') (part (level_of o)) (e › key (op_code o) › run act.mark › e' › run act.binary)
  unfolding part plain joined opens
  for_binary Op.or f g = leveled _ tt refl tt f g
  for_binary Op.and f g = leveled _ tt refl tt f g
  for_binary Op.plus f g = leveled _ tt refl tt f g
  for_binary Op.minus f g = leveled _ tt refl tt f g
  for_binary Op.star f g = leveled _ tt refl tt f g
  for_binary Op.slashes f g = leveled _ tt refl tt f g
  for_binary Op.slash f g = leveled _ tt refl tt f g
  for_binary Op.percent f g = leveled _ tt refl tt f g

  pub for_two : {d d' : ℕ} {e e' : Steps} (o : Comparison) → Fits M d (part S) e → Fits M d' (part S) e' → Chained M (max d d') (e › key (comparison_code o) › run act.mark › e' › run act.compare)
  unfolding part plain joined opens
  for_two o f g = record { at = λ m le l k w. w_call tt (w_seq (f.at m (omega arith) _ k) (w_left (w_seq (w_tok (comparison_in o)) (w_seq w_act (w_seq (g.at m (omega arith) _ _) (w_seq w_act w)))))) }

  pub for_link : {d d' : ℕ} {e e' : Steps} (o : Comparison) → Chained M d e → Fits M d' (part S) e' → Chained M (max d d') (e › key (comparison_code o) › run act.mark › e' › run act.compare_more)
  unfolding part
  for_link o f g = record { at = λ m le l k w. f.at m (omega arith) _ k (more_first (w_seq (w_tok (comparison_in o)) (w_seq w_act (w_seq (g.at m (omega arith) _ _) w_act))) w) }

  pub for_compare : {d : ℕ} {e : Steps} → Chained M d e → Fits M d (part C) (e › run act.compared)
  unfolding part
  for_compare f = record { at = λ m le l k. f.at m le l k (w_seq w_none w_act) }

  pub for_attribute : {d : ℕ} {e : Steps} (w : Word) (n : Load) → Fits M d (part F) e → Fits M d (part F) (e › key Dot › put (word_code w) n › run act.attribute)
  unfolding part
  for_attribute w n f = record { at = λ m le l k. posted (f.at m le _ k) (w_left (w_seq (w_tok tt) (w_seq (w_tok (word_in w)) w_act))) }

  pub for_apply : {d d' : ℕ} {e e' : Steps} → Fits M d (part F) e → Fits M d' list e' → Fits M (max d d') (part F) (e › key LParen › e' › key RParen › run act.apply)
  unfolding part
  for_apply f g = record { at = λ m le l k. posted (f.at m (omega arith) _ k) (w_right (w_left (w_seq (w_tok tt) (w_seq (g.at m (omega arith) _ _) (w_seq (w_tok tt) w_act))))) }

  pub for_index : {d d' : ℕ} {e e' : Steps} → Fits M d (part F) e → Fits M d' (part X) e' → Fits M (max d d') (part F) (e › key LBracket › e' › key RBracket › run act.index)
  unfolding part
  for_index f g = record { at = λ m le l k. posted (f.at m (omega arith) _ k) (w_right (w_right (w_seq (w_tok tt) (w_seq (g.at m (omega arith) _ _) (w_seq (w_tok tt) w_act))))) }

  pub for_bracket : {d : ℕ} {e : Steps} (b : Bracket) → Fits M d list e → Fits M d (part F) (bracketed b e)
  unfolding part
  for_bracket Bracket.squares f = record { at = λ m le l k. primed (w_right (w_left (w_seq (w_tok tt) (w_seq w_act (w_seq (f.at m le _ _) (w_seq (w_tok tt) w_act)))))) }
  for_bracket Bracket.treeset f = record { at = λ m le l k. primed (w_right (w_right (w_left (w_seq (w_tok tt) (w_left (w_seq w_act (w_seq (w_tok tt) (w_seq (f.at m le _ _) (w_seq (w_tok tt) w_act))))))))) }

  -- after `{`, and after `(`
  braced : {m : ℕ} {l l' : List ℕ} {k k' : M.Kept} → Way pyhyeon M m (call rule.E ⨾ (pairs_on ∕ set_on)) l (M.run act.mark (M.shift LBrace k)) l' k' → Way pyhyeon M m (part F) (LBrace ∷ l) k l' k'
  unfolding part
  braced w = primed (w_right (w_right (w_right (w_left (w_seq (w_tok tt) (w_seq w_act (w_right w)))))))

  pub for_void : (v : Void) → Fits M 0 (part F) (voided v)
  unfolding part
  for_void Void.no_pairs = record { at = λ m le l k. primed (w_right (w_right (w_right (w_left (w_seq (w_tok tt) (w_seq w_act (w_left (w_seq (w_tok tt) w_act)))))))) }
  for_void Void.no_members = record { at = λ m le l k. primed (w_right (w_right (w_right (w_right (w_left (w_seq (w_tok tt) (w_seq w_act (w_right (w_seq (w_tok tt) (w_seq (w_tok tt) w_act)))))))))) }

  paired : {m : ℕ} {l l' : List ℕ} {k k' : M.Kept} → Way pyhyeon M m (lined Pair (act act.list_done ⨾ rule.tk RBrace ⨾ act (act.enclose kind.Dict))) l k l' k' → Way pyhyeon M m (call rule.E ⨾ (pairs_on ∕ set_on)) l k l' k'
  paired (w_seq (w_seq x (w_seq y (w_seq z u))) w) = w_seq x (w_left (w_seq y (w_seq z (w_seq u w))))

  pub for_dict : {d : ℕ} {e : Steps} → Grows M d Pair e → Fits M d (part F) (key LBrace › run act.mark › e › run act.list_done › key RBrace › run (act.enclose kind.Dict))
  for_dict g = record { at = λ m le l k. braced (paired (g.at m le _ _ _ (w_seq w_end (w_seq w_act (w_seq (w_tok tt) w_act))))) }

  membered : {m : ℕ} {l l' : List ℕ} {k k' : M.Kept} → Way pyhyeon M m (lined Expr (act act.list_done ⨾ rule.tk RBrace ⨾ act (act.enclose kind.Set))) l k l' k' → Way pyhyeon M m (call rule.E ⨾ (pairs_on ∕ set_on)) l k l' k'
  membered (w_seq x w) = w_seq x (w_right w)

  pub for_set : {d : ℕ} {e : Steps} → Grows M d Expr e → Fits M d (part F) (key LBrace › run act.mark › e › run act.list_done › key RBrace › run (act.enclose kind.Set))
  for_set g = record { at = λ m le l k. braced (membered (g.at m le _ _ _ (w_seq w_end (w_seq w_act (w_seq (w_tok tt) w_act))))) }

  pub for_pair : {d d' : ℕ} {e e' : Steps} → Fits M d (part X) e → Fits M d' (part X) e' → Fits M (max d d') entry (e › key Colon › e' › run act.pair)
  unfolding part
  for_pair f g = record { at = λ m le l k. w_seq (f.at m (omega arith) _ k) (w_seq (w_tok tt) (w_seq (g.at m (omega arith) _ _) w_act)) }

  single_in_parens : {d : ℕ} {e : Steps} → Fits M d (part X) e →
      Fits M d (part F) (key LParen › run act.mark › (e › key Comma › run act.list_one) › run act.list_done › key RParen › run (act.enclose kind.Tuple))
  unfolding part
  single_in_parens f = record {
    at = λ m le l k. primed (w_right (w_right (w_right (w_right (w_left (w_seq (w_tok tt) (w_seq w_act (w_left (w_seq (f.at m le _ _) (w_right
        (w_seq (w_tok tt) (w_seq (w_seq w_act (w_seq (w_right w_skip) w_act)) (w_seq (w_tok tt) w_act)))))))))))));
  }

  single_bare : {d : ℕ} {e : Steps} → Fits M d (part X) e → Fits M d (part Lt) ((e › key Comma › run act.list_one) › run act.tuple)
  unfolding part
  single_bare f = record { at = λ m le l k. w_seq (f.at m le _ _) (w_left (w_seq (w_tok tt) (w_seq w_act (w_seq (w_right w_skip) w_act)))) }

  pub for_both : {d d' : ℕ} {e e' : Steps} → Fits M d (part X) e → Fits M d' (part X) e' → Several M (max d d') (e › key Comma › run act.list_one › e' › run act.list_one › run act.list_join)
  unfolding part
  for_both {e} {e'} f g = record { at = λ m le l k. record { rest = symbols e' l; kept = perform M e k; first = f.at m (omega arith) _ k; others = λ w. w_seq (w_seq (g.at m (omega arith) _ _) (w_seq w_act w_act)) w } }

  pub for_also : {d d' : ℕ} {e e' : Steps} → Several M d e → Fits M d' (part X) e' → Several M (max d d') (e › key Comma › e' › run act.list_one › run act.list_join)
  unfolding part
  for_also {e'} f g = record {
    at = λ m le l k. let h = f.at m (omega arith) (Comma ∷ symbols e' l) k in
        record { rest = h.rest; kept = h.kept; first = h.first; others = λ w. h.others (w_item (w_seq (g.at m (omega arith) _ _) (w_seq w_act w_act)) w) };
  }

  in_parens : {d : ℕ} {e : Steps} → Several M d e → Fits M d (part F) (key LParen › run act.mark › e › run act.list_done › key RParen › run (act.enclose kind.Tuple))
  unfolding part
  in_parens f = record {
    at = λ m le l k. let h = f.at m le (RParen ∷ l) (M.run act.mark (M.shift LParen k)) in
        primed (w_right (w_right (w_right (w_right (w_left (w_seq (w_tok tt) (w_seq w_act (w_left (w_seq h.first (w_right
        (w_seq (w_tok tt) (w_seq (w_seq w_act (w_seq (w_left (h.others w_end)) w_act)) (w_seq (w_tok tt) w_act)))))))))))));
  }

  bare : {d : ℕ} {e : Steps} → Several M d e → Fits M d (part Lt) (e › run act.tuple)
  unfolding part
  bare f = record { at = λ m le l k. let h = f.at m le l k in w_seq h.first (w_left (w_seq (w_tok tt) (w_seq w_act (w_seq (w_left (h.others w_end)) w_act)))) }

  pub for_lambda : {d d' : ℕ} {e e' : Steps} → Fits M d parameters e → Fits M d' (part X) e' → Fits M (max d d') (part E) (key Lambda › run act.mark › e › key Colon › e' › run act.lambda)
  unfolding part plain
  for_lambda f g = record { at = λ m le l k. w_left (w_seq (w_tok tt) (w_seq w_act (w_seq (f.at m (omega arith) _ _) (w_seq (w_tok tt) (w_seq (g.at m (omega arith) _ _) w_act))))) }

  -- bare as a whole statement's, and else in parentheses
  either : {d : ℕ} {e : Steps} (l : Level) → Fits M d (part Lt) (e › run act.tuple) →
      Fits M d (part F) (key LParen › run act.mark › e › run act.list_done › key RParen › run (act.enclose kind.Tuple)) → Fits M (pick (same_level l Lt) d (raise F l d)) (part l) (tupled l e)
  either {d} {e} l f g = by (same_level l Lt)
    where
      by : (x : Dec (l ≡ Lt)) → Fits M (pick x d (raise F l d)) (part l)
          (pick x (e › run act.tuple) (fit F l (key LParen › run act.mark › e › run act.list_done › key RParen › run (act.enclose kind.Tuple))))
      by (yes h) = subst (λ (l : Level). Fits M d (part l) (e › run act.tuple)) (sym h) f
      by (no h) = fitted by_rules F tt g l

  pub for_single : {d : ℕ} {e : Steps} (l : Level) → Fits M d (part X) e → Fits M (pick (same_level l Lt) d (raise F l d)) (part l) (tupled l (e › key Comma › run act.list_one))
  for_single l f = either l (single_bare f) (single_in_parens f)

  pub for_tuple : {d : ℕ} {e : Steps} (l : Level) → Several M d e → Fits M (pick (same_level l Lt) d (raise F l d)) (part l) (tupled l e)
  for_tuple l f = either l (bare f) (in_parens f)
