-- What the rules of expressions leave needs no more room than they had.
-- Assumes nothing.
use mathlib.Core.Path.{◌≡◌, refl, subst, sym}
use mathlib.Core.Logic.{⊎_elim}
use mathlib.Core.List.{List, [], ◌∷◌}
use Prim.Native.Nat.{ℕ, suc, ◌≤◌}
use native.Mathlib.Omega.{arith}
use lib.Dec.{T, eqb, eqb→eq}
use Rattle.grammar.specs.Sets.{mem}
use Rattle.grammar.specs.Grammar.{Part, act, tok, call, ◌⨾◌, many, tail}
use Rattle.grammar.proofs.Sets.{or_e}
use Rattle.grammar.proofs.Back.{One, o_skip, o_act, o_tok, o_call, o_seq, o_left, o_right}
use Rattle.token.specs.Code.{Or, And, RParen, RBracket, RBrace, Colon, Comma}
use Rattle.ast.specs.Kind as kind
use Rattle.pyhyeon.specs.Action.{Action, mark, binary, compare_more, signs_more, list_one}
use Rattle.pyhyeon.specs.Action as act
use Rattle.pyhyeon.specs.Rules.{Rule, tk, plain, level, comparisons, sums, products, sign_set, names, entry, postfix}
use Rattle.pyhyeon.specs.Rules as rule
use Rattle.pyhyeon.specs.Tables.{joined, primary, braces, round, t_joined}
use Rattle.unparse.specs.Trees.{Item, Expr, Name, Pair, a, Tree}
use Rattle.unparse.specs.Levels.{Level, T as Lt, X, O, A, C, S, P, U, F, level_of, below}
use Rattle.unparse.proofs.Write.{raise, need}
use Rattle.unparse.specs.Values.{Value}
use Rattle.unparse.specs.Operators.{op_of}
use Rattle.unparse.proofs.Machine.{Kept, build, trees}
use Rattle.unparse.proofs.Needs.{climbs}
use Rattle.unparse.proofs.Room.{Top, on, bound, Left, expr, item, growing, several, whole, links, less, many_keeps, tail_keeps}
use Rattle.unparse.proofs.Follow.{Leaves, follow, wholly}
use Rattle.unparse.proofs.Actions.{a_binary, a_compare, a_link, a_compared, a_signs, a_unary, a_one, a_join, a_done, a_pair, a_lambda, a_list, a_treeset, a_dict, a_set, a_tuple, a_group, a_attribute, a_apply, a_index, a_several, a_lone, a_bare}

-- of a code that is in a set, what holds of each
abbrev All : (ℕ → Type 0) → List ℕ → Type 0
All Q [] = Unit {0}
All Q (c ∷ l) = Q c × All Q l

each : (Q : ℕ → Type 0) (l : List ℕ) → All Q l → (t : ℕ) → T (mem t l) → Q t
each Q [] h t i = absurd i
each Q (c ∷ l) h t i = ⊎_elim (λ e. subst Q (sym (eqb→eq t c e)) h.0) (λ e. each Q l h.1 t e) (or_e (eqb t c) (mem t l) i)

-- an operator of a level, with its right operand
abbrev Operates : Level → Level → ℕ → Type 0
Operates l l' t = (level_of (op_of t) ≡ l) × (below (op_of t) ≡ l')

-- a name of a list of names
abbrev pub a_parameter : Part Action Rule
a_parameter = tok names ⨾ act (act.named kind.Name)

module _ {m : ℕ} where
  -- an operator and its operand
  operated : (l l' : Level) {r : Rule} (ops : List ℕ) {st : List Value} → ((v : Value) → bound r v ≡ expr l' v) → All (Operates l l') ops →
      (k k' : Kept) → One trees (Left m) (tok ops ⨾ act mark ⨾ call r ⨾ act binary) k k' → Top (expr l) m st k.values → Top (expr l) m st k'.values
  unfolding build
  operated l l' ops b fit k k' (o_seq (o_tok {t} i) (o_seq o_act (o_seq (o_call {k' = k₁} p) o_act))) h =
      let e = each (Operates l l') ops fit t i in
      a_binary k₁ l l' e.0 e.1 h (less (λ v le. subst (λ (n : ℕ). n ≤ m) (b v) le) p)

  -- a level of operators: its first operand, of the level below, is of this one too
  leveled : (l l' : Level) {r : Rule} (ops : List ℕ) → ((v : Value) → bound r v ≡ expr l' v) → ((x : Tree (a Expr)) → need l x ≤ need l' x) → All (Operates l l') ops →
      {k k' : Kept} → One trees (Left m) (level r ops) k k' → Top (expr l) m k.values k'.values
  leveled l l' ops b up fit (o_seq (o_call p) w) =
      many_keeps (operated l l' ops b fit) w (less (λ v le. let q : need l' (v.item Expr) ≤ m = subst (λ (n : ℕ). n ≤ m) (b v) le in omega (arith, up (v.item Expr))) p)

  pub for_O : {k k' : Kept} → One trees (Left m) (joined rule.O) k k' → Left m rule.O k k'
  unfolding joined plain op_of
  for_O w = leveled O A (Or ∷ []) (λ v. refl) (λ x. (climbs x).oa) ((refl, refl), tt) w

  pub for_A : {k k' : Kept} → One trees (Left m) (joined rule.A) k k' → Left m rule.A k k'
  unfolding joined plain op_of
  for_A w = leveled A C (And ∷ []) (λ v. refl) (λ x. (climbs x).ac) ((refl, refl), tt) w

  pub for_S : {k k' : Kept} → One trees (Left m) (joined rule.S) k k' → Left m rule.S k k'
  unfolding joined plain op_of
  for_S w = leveled S P sums (λ v. refl) (λ x. (climbs x).sp) ((refl, refl), ((refl, refl), tt)) w

  pub for_P : {k k' : Kept} → One trees (Left m) (joined rule.P) k k' → Left m rule.P k k'
  unfolding joined plain op_of
  for_P w = leveled P U products (λ v. refl) (λ x. (climbs x).pu) ((refl, refl), ((refl, refl), ((refl, refl), ((refl, refl), tt)))) w

  -- comparisons
  linked : {st : List Value} (k k' : Kept) → One trees (Left m) (tok comparisons ⨾ act mark ⨾ call rule.S ⨾ act compare_more) k k' → Top links m st k.values → Top links m st k'.values
  unfolding build
  linked k k' (o_seq (o_tok i) (o_seq o_act (o_seq (o_call {k' = k₁} p) o_act))) h = a_link k₁ h p

  pub for_C : {k k' : Kept} → One trees (Left m) (joined rule.C) k k' → Left m rule.C k k'
  unfolding joined plain build
  for_C (o_seq (o_call p) (o_right o_skip)) = less (λ v le. omega (arith, (climbs (v.item Expr)).cs)) p
  for_C (o_seq (o_call p) (o_left (o_seq (o_tok i) (o_seq o_act (o_seq (o_call {k' = k₁} q) (o_seq o_act (o_seq {k₁ = k₂} w o_act))))))) = a_compared k₂ (many_keeps linked w (a_compare k₁ p q))

  -- signs
  signed : {st : List Value} (k k' : Kept) → One trees (Left m) (tok sign_set ⨾ act signs_more) k k' → Top (λ v. 0) m st k.values → Top (λ v. 0) m st k'.values
  signed {st} k k' w h = follow (λ x. Top (λ v. 0) m st x.values) w (λ t i. a_signs (trees.shift t k) h)

  pub for_U : {k k' : Kept} → One trees (Left m) (joined rule.U) k k' → Left m rule.U k k'
  unfolding joined plain build
  for_U {k} w = follow (Left m rule.U k) w (λ k₁ u k₂ p. a_unary k₂ (many_keeps signed u (on (omega arith))) p)

  -- a member joined to those before it; a list
  pub joins : (i : Item) {p : Part Action Rule} {st : List Value} → ((k k' : Kept) → One trees (Left m) p k k' → Top (item i) m k.values k'.values) →
      (k k' : Kept) → One trees (Left m) (rule.more p) k k' → Top (growing i) m st k.values → Top (growing i) m st k'.values
  joins i {p} {st} f k k' w h =
      let Q : Kept → Type 0 = λ x. Top (growing i) m st x.values in
      follow Q w (wholly m p (act list_one ⨾ act act.list_join) k Q (λ k₁ u. a_join (build list_one k₁) i h (a_one k₁ i (f _ _ u))))

  -- a list, and what stands behind it
  pub listing : (i : Item) (p q : Part Action Rule) (k : Kept) (Q : Kept → Type 0) → ((k k' : Kept) → One trees (Left m) p k k' → Top (item i) m k.values k'.values) →
      ((k' : Kept) → Top (whole i) m k.values k'.values → Leaves m q k' Q) → Leaves m (rule.list_of p ⨾ q) k Q
  unfolding build need
  listing i p q k Q f g = (
    wholly m p (act list_one ⨾ tail Comma (rule.more p) ⨾ act act.list_done) k (λ x. Leaves m q x Q)
        (λ k₁ u k₂ w. g (build act.list_done k₂) (a_done k₂ i (tail_keeps (joins i f) w (a_one k₁ i (f _ _ u))))),
    g (build act.list_none k) (on (omega arith)),
  )

  called : (k k' : Kept) → One trees (Left m) (call rule.E) k k' → Top (item Expr) m k.values k'.values
  called k k' w = follow (λ x. Top (item Expr) m k.values x.values) w (λ k₁ p. p)

  pub named : (k k' : Kept) → One trees (Left m) a_parameter k k' → Top (item Name) m k.values k'.values
  unfolding build need
  named k k' w = follow (λ x. Top (item Name) m k.values x.values) w (λ t i. on (omega arith))

  entered : (k k' : Kept) → One trees (Left m) entry k k' → Top (item Pair) m k.values k'.values
  entered k k' w = follow (λ x. Top (item Pair) m k.values x.values) w (λ k₁ p t i k₂ q. a_pair k₂ p q)

  -- E, in room for one more
  pub for_E : {k k' : Kept} → One trees (Left m) (joined rule.E) k k' → Left (suc m) rule.E k k'
  unfolding joined plain build
  for_E {k} w =
      let Q : Kept → Type 0 = Left (suc m) rule.E k in
      follow Q w (
        (λ t i. listing Name a_parameter (tk Colon ⨾ call rule.E ⨾ act act.lambda) (build act.mark (trees.shift t k)) Q named (λ k₁ ns c j k₂ p. a_lambda k₂ ns p)),
        (λ k₁ p. record { top = p.top; is = p.is; small = omega (arith, p.small, (climbs (p.top.item Expr)).eo, (climbs (p.top.item Expr)).xe) }),
      )

  -- `{`, `(`, and what stands before the postfix parts
  in_braces : (k : Kept) {t : Value} {st : List Value} → k.values ≡ t ∷ st → Leaves m braces k (λ x. Top (expr F) m st x.values)
  unfolding build need raise
  in_braces k {t} {st} e = (
    (λ c i. rw e (on (omega arith))),
    (λ k₁ p. (
      (λ d i k₂ q k₃ w c j.
          a_dict k₃ c (subst (λ (vs : List Value). Top (growing Pair) m vs k₃.values) e (tail_keeps (joins Pair entered) w (a_one (build act.pair k₂) Pair (a_pair k₂ p q))))),
      (λ k₂ w c j. a_set k₂ c (subst (λ (vs : List Value). Top (growing Expr) m vs k₂.values) e (tail_keeps (joins Expr called) w (a_one k₁ Expr p)))),
    )),
  )

  in_parens : (k : Kept) {t : Value} {st : List Value} → k.values ≡ t ∷ st → Leaves m round k (λ x. Top (expr F) m st x.values)
  unfolding build need raise
  in_parens k {t} {st} e =
      let Q : Kept → Type 0 = λ x. Top (expr F) m st x.values in (
        (λ k₁ p. (
          (λ c i. a_group (trees.shift c k₁) (subst (λ (vs : List Value). Top (expr X) m vs k₁.values) e p)),
          (λ d i. (
            wholly m (rule.more (call rule.E)) (tail Comma (rule.more (call rule.E)) ⨾ act act.list_done ⨾ tk RParen ⨾ act (act.enclose kind.Tuple)) (build list_one (trees.shift d k₁)) Q
                (λ k₂ v k₃ w c j. a_tuple k₃ c
                (subst (λ (vs : List Value). Top (growing Expr) m vs k₃.values) e (tail_keeps (joins Expr called) w (joins Expr called _ _ v (a_one (trees.shift d k₁) Expr p))))),
            (λ c j. a_tuple (build list_one (trees.shift d k₁)) c
                (subst (λ (vs : List Value). Top (growing Expr) m vs (build list_one (trees.shift d k₁)).values) e (a_one (trees.shift d k₁) Expr p))),
          )),
        )),
        (λ c i d j. rw e (on (omega arith))),
      )

  first : (k : Kept) → Leaves m primary k (λ x. Top (expr F) m k.values x.values)
  unfolding build need raise
  first k =
      let Q : Kept → Type 0 = λ x. Top (expr F) m k.values x.values in (
        (λ t i. on (omega arith)),
        (
          (λ t i. listing Expr (call rule.E) (tk RBracket ⨾ act (act.enclose kind.List)) (build act.mark (trees.shift t k)) Q called (λ k₁ w c j. a_list (trees.shift c k₁) w)),
          (
            (λ t i. ((λ d h. listing Expr (call rule.E) (tk RBrace ⨾ act (act.enclose kind.TreeSet)) (trees.shift d (build act.mark (trees.shift t k))) Q called (λ k₁ w c j. a_treeset (trees.shift c k₁) w)), on (omega arith))),
            ((λ t i. in_braces (build act.mark (trees.shift t k)) refl), ((λ t i. in_parens (build act.mark (trees.shift t k)) refl), (λ t i. on (omega arith)))),
          ),
        ),
      )

  behind : {st : List Value} (k k' : Kept) → One trees (Left m) postfix k k' → Top (expr F) m st k.values → Top (expr F) m st k'.values
  behind {st} k k' w h =
      let Q : Kept → Type 0 = λ x. Top (expr F) m st x.values in
      follow Q w (
        (λ t i c j. a_attribute (trees.shift c (trees.shift t k)) h),
        (
          (λ t i. listing Expr (call rule.E) (tk RParen ⨾ act act.apply) (trees.shift t k) Q called (λ k₁ v c j. a_apply (trees.shift c k₁) h v)),
          (λ t i k₁ p c j. a_index (trees.shift c k₁) h p),
        ),
      )

  pub for_F : {k k' : Kept} → One trees (Left m) (joined rule.F) k k' → Left m rule.F k k'
  unfolding joined
  for_F {k} w = follow (Left m rule.F k) w (wholly m primary (many postfix) k (Left m rule.F k) (λ k₁ v k₂ u. many_keeps behind u (follow (λ x. Top (expr F) m k.values x.values) v (first k))))

  -- the expressions of a whole statement
  bare_joins : {st : List Value} (k k' : Kept) → One trees (Left m) (rule.more (call rule.E)) k k' → Top several m st k.values → Top several m st k'.values
  bare_joins {st} k k' w h = follow (λ x. Top several m st x.values) w (λ k₁ p. a_several k₁ (less (λ v le. omega arith) h) p)

  pub for_t : {k k' : Kept} → One trees (Left m) t_joined k k' → Top (expr Lt) m k.values k'.values
  for_t {k} w = follow (λ x. Top (expr Lt) m k.values x.values) w (λ k₁ p. (
    (λ t i. (
      (λ k₂ q k₃ u. a_bare k₃ (tail_keeps bare_joins u (a_several k₂ (a_one (trees.shift t k₁) Expr p) q))),
      a_bare (build list_one (trees.shift t k₁)) (a_lone (trees.shift t k₁) p),
    )),
    less (λ v le. omega (arith, (climbs (v.item Expr)).tx)) p,
  ))
