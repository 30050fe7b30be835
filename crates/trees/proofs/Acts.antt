-- What the machine keeps stays the layout of trees that are what their roles say, with every token and every action. A fact of the trees and of what the
-- machine keeps comes along.
-- Assumes nothing.
use mathlib.Core.Path.{◌≡◌, refl, ap, ◌∙◌, subst}
use mathlib.Core.List.{List, ◌∷◌, ◌++◌, map}
use Prim.Native.Nat.{ℕ, ◌+◌, ◌-◌}
use native.Mathlib.Omega.{arith}
use lib.Dec.{T}
use lib.ListN.{drop}
use lib.Seq.{drop-drop}
use Rattle.grammar.specs.Sets.{mem, within}
use Rattle.grammar.specs.Trial.{St}
use Rattle.grammar.proofs.Sets.{and_l, and_r}
use Rattle.tokens.specs.Token.{Token}
use Rattle.ast.specs.Kind as kind
use Rattle.pyhyeon.specs.Symbol.{symbols}
use Rattle.pyhyeon.specs.Sorts.{taking, leaving}
use Rattle.pyhyeon.specs.Rules.{names, literals, sign_set}
use Rattle.pyhyeon.specs.Action.{Action, mark, literal, named, alone, signs_none, signs_more, unary, binary, compare, compare_more, compared, list_none, list_one, list_join, list_done, enclose, empty, group, tuple, pair, attribute, apply, index, lambda, expr, assign, return, branch, while, for, define, class, program, perform, machine}
use Rattle.pyhyeon.specs.Action as action
use Rattle.pyhyeon.proofs.Symbols.{next-token}
use Rattle.trees.specs.Roles.{Cat, nothing, script, expression, statement, entry, elif, else, cat_of, Token_of, Filled, words, p_node, p_chained, p_done, p_word, p_child, p_kids, p_other, p_nil, p_full, p_one, p_first, p_link}
use Rattle.trees.proofs.Flow.{Since, still, anything, after, lastly}
use Rattle.trees.proofs.Stack.{Stack, ◌▸◌, lay}
use Rattle.trees.proofs.Apt.{Apt, usable, apt, apt_is}
use Rattle.trees.proofs.Making.{code, make}
use Rattle.trees.proofs.Laying.{lays}
use Rattle.trees.proofs.Moves.{Mark, plain, filled, Role, role, marked, last_cat, does, asks}
use Rattle.trees.proofs.Facts.{Timely, Over, FactOver}
use Rattle.trees.proofs.Proper.{widen_proper, joined_proper, proper₁, proper₂, proper₃, leaf_proper, named_proper, alone_proper, enclose_proper, empty_proper, define_proper, arithmetics_are, comparings_are, isn't}
use Rattle.trees.proofs.Known.{code_in, base, Roled, Known, known_after, last_in, exactly, token_in, marks, more_signs, wrapped_proper}

module _ (source : List ℕ) (toks : List Token) (N : Over source toks) (X : FactOver source toks N.machine) where
  -- Trees of these roles are at hand, and the state is their layout after n tokens; m were taken when the last action was done.
  abbrev pub Laid : Since → List Role → St N.machine → Type 0
  Laid f σ s =
      (n : ℕ) × (st : Stack (map (base source toks) σ)) × (N.nodes s.kept ≡ lay n st) × (s.rest ≡ drop n (symbols source toks))
      × (m : ℕ) × Known source toks f m n × Roled source toks σ m st × X.Of (map (base source toks) σ) f n st s.kept

  pub forget_laid : (f : Since) (σ : List Role) (s : St N.machine) → Laid f σ s → Laid anything σ s
  forget_laid f σ s (n, st, e, r, m, k, o, x) = (n, st, e, r, m, (λ u. absurd u), o, X.forgets (map (base source toks) σ) f n st s.kept x)

  pub shift_laid : (f : Since) (σ : List Role) (set : List ℕ) (t : ℕ) (ts : List ℕ) (k : N.machine.Kept) → T (mem t set) → Laid f σ (record { rest = t ∷ ts; kept = k }) →
      Laid (after f set) σ (record { rest = ts; kept = N.machine.shift t k })
  unfolding lay
  shift_laid f σ set t ts k h (n, st, e, r, m, q, o, x) =
      let next = next-token source toks n r in
      let w = subst (λ (c : ℕ). T (mem c set)) next.is h in
      let left = ap (drop 1) r ∙ drop-drop 1 n (symbols source toks) in (
        n + 1,
        st,
        N.shifts t k ∙ ap ((machine source toks).shift t) e,
        left,
        m,
        known_after source toks f set m n (next.there, w) q,
        o,
        X.token_keeps (map (base source toks) σ) f set n st next.there w t next.is k x,
      )

  -- an action, where the value that it makes is of this category and mark
  step : (a : Action) (f : Since) → T (apt a f) → (h : Apt a) (n : ℕ) (τ : List Role) (c : Cat) (b : Mark) (s : St N.machine) (st : Stack (taking a ++ map (base source toks) τ)) →
      N.nodes s.kept ≡ lay n st → s.rest ≡ drop n (symbols source toks) → X.Of (taking a ++ map (base source toks) τ) f n st s.kept → Timely source toks a n (map (base source toks) τ) st →
      Roled source toks (role (leaving a) c b ∷ τ) n (make source toks a h n {τ = map (base source toks) τ} st) →
      Laid still (role (leaving a) c b ∷ τ) (record { rest = s.rest; kept = N.machine.run a s.kept })
  step a f t h n τ c b s st e r x w o = (
    n,
    make source toks a h n st,
    N.runs a s.kept ∙ ap (perform source toks a) e ∙ lays source toks a h n (map (base source toks) τ) st,
    r,
    n,
    refl,
    o,
    X.act_keeps a f t h n (map (base source toks) τ) st w s.kept x,
  )

  -- the last token, where the action asks that it is of this set
  taken : (set : List ℕ) (f : Since) (m n : ℕ) → Known source toks f m n → T (usable (lastly f)) → T (within (lastly f) set) → Token_of source toks set (n - 1)
  taken set f m n k u w = token_in source toks (lastly f) set (n - 1) w (last_in source toks f m n k u)

  pub acts : (a : Action) (f : Since) (σ : List Role) → T (apt a f) → T (asks a (last_cat σ) (lastly f)) → (τ : List Role) (s : St N.machine) →
      Laid f ((does a (last_cat σ) (marked (lastly f))).takes ++ τ) s → Laid still ((does a (last_cat σ) (marked (lastly f))).leaves ++ τ) (record { rest = s.rest; kept = N.machine.run a s.kept })
  unfolding make words Filled
  acts mark f σ t t' τ s (n, st, e, r, m, k, o, fact) = step mark f t tt n τ nothing (marked (lastly f)) s _ e r fact tt (marks source toks (lastly f) (n - 1) (last_in source toks f m n k t), (m, o))
  acts literal f σ t t' τ s (n, st, e, r, m, k, o, fact) =
      let w = taken literals f m n k t t' in
      step literal f t tt n τ expression plain s _ e r fact w (leaf_proper source toks (n - 1) w, (m, o))
  acts (named c) f σ t t' τ s (n, st, e, r, m, k, o, fact) =
      let w = taken names f m n k (and_l (usable (lastly f)) _ t) t' in
      step (named c) f t (apt_is (named c) f t) n τ (cat_of c) plain s _ e r fact w (named_proper source toks c (and_r (usable (lastly f)) _ t) (n - 1) w _ _ (apt_is (named c) f t), (m, o))
  acts (alone c) f σ t t' τ s (n, st, e, r, m, k, o, fact) = step (alone c) f t (apt_is (alone c) f t) n τ (cat_of c) plain s _ e r fact tt (alone_proper source toks c (and_r (usable (lastly f)) _ t) _ _ (apt_is (alone c) f t), (m, o))
  acts signs_none f σ t t' τ s (n, st, e, r, m, k, o, fact) = step signs_none f t tt n τ nothing plain s _ e r fact tt ((omega arith, λ i l. absurd (omega arith)), (m, o))
  acts signs_more f σ t t' τ s (n, (v ▸ st), e, r, m, k, ((q, h), (k0, o)), fact) =
      let (l, b) = exactly source toks f m n k t in
      let w = code_in source toks (n - 1) sign_set (λ u. u) (token_in source toks (lastly f) sign_set (n - 1) t' b).1 in
      step signs_more f t tt n τ nothing plain s _ e r fact (omega arith, w) ((omega arith, more_signs source toks m n v.0 v.1 l w q h), (k0, o))
  acts unary f σ t t' τ s (n, (x ▸ v ▸ st), e, r, m, k, (px, (k0, ((q, h), (k1, o)))), fact) = step unary f t tt n τ expression plain s _ e r fact tt (wrapped_proper source toks _ v.1 v.0 x h px, (k1, o))
  acts binary f σ t t' τ s (n, (y ▸ u ▸ x ▸ st), e, r, m, k, (py, (k0, (pu, (k1, (px, (k2, o)))))), fact) = step binary f t tt n τ expression plain s _ e r fact pu (p_node refl (arithmetics_are (code source toks u) pu) (λ u. absurd u) (p_word (p_child px (p_child py (proper₁ source toks)))), (k2, o))
  acts compare f σ t t' τ s (n, (y ▸ u ▸ x ▸ st), e, r, m, k, (py, (k0, (pu, (k1, (px, (k2, o)))))), fact) = step compare f t tt n τ expression plain s _ e r fact pu (p_first (comparings_are (code source toks u) pu) px py, (k2, o))
  acts compare_more f σ t t' τ s (n, (y ▸ u ▸ x ▸ st), e, r, m, k, (py, (k0, (pu, (k1, (px, (k2, o)))))), fact) = step compare_more f t tt n τ expression plain s _ e r fact pu (p_link (comparings_are (code source toks u) pu) px py, (k2, o))
  acts compared f σ t t' τ s (n, (x ▸ st), e, r, m, k, (px, (k0, o)), fact) = step compared f t tt n τ expression plain s _ e r fact tt (p_chained px, (k0, o))
  acts list_none f σ t t' τ s (n, st, e, r, m, k, o, fact) = step list_none f t tt n τ nothing plain s _ e r fact tt ((p_nil, (λ p. refl), (λ p. tt), tt), (m, o))
  acts list_one f σ t t' τ s (n, (x ▸ st), e, r, m, k, (px, (k0, o)), fact) = step list_one f t tt n τ (last_cat σ) plain s _ e r fact tt ((p_one px, (λ p. tt)), (k0, o))
  acts list_join f σ t t' τ s (n, (y ▸ x ▸ st), e, r, m, k, ((py, wy), (k0, ((px, wx), (k1, o)))), fact) = step list_join f t tt n τ (last_cat σ) plain s _ e r fact tt ((joined_proper source toks px py, (λ p. absurd (isn't t' p))), (k1, o))
  acts list_done f σ t t' τ s (n, (x ▸ st), e, r, m, k, ((px, wx), (k0, o)), fact) = step list_done f t tt n τ (last_cat σ) filled s _ e r fact tt ((p_full px, (λ p. absurd (isn't t' p)), wx, tt), (k0, o))
  acts (enclose c) f σ t t' τ s (n, (x ▸ u ▸ st), e, r, m, k, ((px, wx, vx, fx), (k0, (pu, (k1, o)))), fact) = step (enclose c) f t (apt_is (enclose c) f t) n τ (cat_of c) plain s _ e r fact tt (enclose_proper source toks c t _ _ (apt_is (enclose c) f t) x px fx, (k1, o))
  acts (empty c) f σ t t' τ s (n, (u ▸ st), e, r, m, k, (pu, (k0, o)), fact) = step (empty c) f t (apt_is (empty c) f t) n τ (cat_of c) plain s _ e r fact tt (empty_proper source toks c t _ _ (apt_is (empty c) f t), (k0, o))
  acts group f σ t t' τ s (n, (x ▸ u ▸ st), e, r, m, k, (px, (k0, (pu, (k1, o)))), fact) = step group f t tt n τ expression plain s _ e r fact tt (widen_proper source toks _ _ px, (k1, o))
  acts tuple f σ t t' τ s (n, (x ▸ st), e, r, m, k, ((px, wx), (k0, o)), fact) = step tuple f t tt n τ expression plain s _ e r fact tt (p_node refl tt (λ u. absurd u) (p_kids (p_full px) (proper₃ source toks)), (k0, o))
  acts pair f σ t t' τ s (n, (y ▸ x ▸ st), e, r, m, k, (py, (k0, (px, (k1, o)))), fact) = step pair f t tt n τ entry plain s _ e r fact tt (p_node refl tt (λ u. absurd u) (p_child px (p_child py (proper₂ source toks))), (k1, o))
  acts attribute f σ t t' τ s (n, (x ▸ st), e, r, m, k, (px, (k0, o)), fact) =
      let w = taken names f m n k (and_l (usable (lastly f)) _ t') (and_r (usable (lastly f)) _ t') in
      step attribute f t tt n τ expression plain s _ e r fact w (p_node {k = kind.Attribute} refl (n - 1, w, refl) (λ u. absurd u) (p_child px (p_word (p_word (proper₁ source toks)))), (k0, o))
  acts apply f σ t t' τ s (n, (y ▸ x ▸ st), e, r, m, k, ((py, wy, vy, fy), (k0, (px, (k1, o)))), fact) = step apply f t tt n τ expression plain s _ e r fact tt (p_node refl tt (λ u. absurd u) (p_child px (p_kids py (proper₂ source toks))), (k1, o))
  acts index f σ t t' τ s (n, (y ▸ x ▸ st), e, r, m, k, (py, (k0, (px, (k1, o)))), fact) = step index f t tt n τ expression plain s _ e r fact tt (p_node refl tt (λ u. absurd u) (p_child px (p_child py (proper₂ source toks))), (k1, o))
  acts lambda f σ t t' τ s (n, (y ▸ x ▸ u ▸ st), e, r, m, k, (py, (k0, ((px, wx, vx, fx), (k1, (pu, (k2, o)))))), fact) = step lambda f t tt n τ expression plain s _ e r fact tt (p_node refl tt (λ u. absurd u) (p_kids px (p_child py (proper₂ source toks))), (k2, o))
  acts expr f σ t t' τ s (n, (x ▸ st), e, r, m, k, (px, (k0, o)), fact) = step expr f t tt n τ statement plain s _ e r fact tt (p_node refl tt (λ u. absurd u) (p_child px (proper₃ source toks)), (k0, o))
  acts assign f σ t t' τ s (n, (y ▸ x ▸ st), e, r, m, k, (py, (k0, (px, (k1, o)))), fact) = step assign f t tt n τ statement plain s _ e r fact tt (p_node refl tt (λ u. absurd u) (p_child (widen_proper source toks _ _ px) (p_child py (proper₂ source toks))), (k1, o))
  acts return f σ t t' τ s (n, (x ▸ u ▸ st), e, r, m, k, (px, (k0, (pu, (k1, o)))), fact) = step return f t tt n τ statement plain s _ e r fact tt (p_node refl tt (λ u. absurd u) (p_child px (proper₃ source toks)), (k1, o))
  acts branch f σ t t' τ s (n, (z ▸ y ▸ x ▸ c ▸ u ▸ st), e, r, m, k, ((pz, wz, vz, fz), (k0, ((py, wy, vy, fy), (k1, ((px, wx, vx, fx), (k2, (pc, (k3, (pu, (k4, o)))))))))), fact) = step branch f t tt n τ statement plain s _ e r fact tt (p_node refl tt (λ u. absurd u) (p_child pc (p_kids px (p_kids py (p_other pz (vz refl) p_done)))), (k4, o))
  acts action.elif f σ t t' τ s (n, (y ▸ x ▸ u ▸ st), e, r, m, k, ((py, wy, vy, fy), (k0, (px, (k1, (pu, (k2, o)))))), fact) = step action.elif f t tt n τ elif plain s _ e r fact tt (p_node refl tt (λ u. absurd u) (p_child px (p_kids py (proper₂ source toks))), (k2, o))
  acts action.else f σ t t' τ s (n, (y ▸ u ▸ st), e, r, m, k, ((py, wy, vy, fy), (k0, (pu, (k1, o)))), fact) = step action.else f t tt n τ else plain s _ e r fact tt (p_node refl tt (λ u. absurd u) (p_kids py (proper₃ source toks)), (k1, o))
  acts while f σ t t' τ s (n, (y ▸ x ▸ u ▸ st), e, r, m, k, ((py, wy, vy, fy), (k0, (px, (k1, (pu, (k2, o)))))), fact) = step while f t tt n τ statement plain s _ e r fact tt (p_node refl tt (λ u. absurd u) (p_child px (p_kids py (proper₂ source toks))), (k2, o))
  acts for f σ t t' τ s (n, (y ▸ x ▸ i ▸ u ▸ st), e, r, m, k, ((py, wy, vy, fy), (k0, (px, (k1, (pi, (k2, (pu, (k3, o)))))))), fact) = step for f t tt n τ statement plain s _ e r fact pi (p_node {k = kind.For} refl (i, pi, refl) (λ u. absurd u) (p_word (p_word (p_child px (p_kids py p_done)))), (k3, o))
  acts (define c) f σ t t' τ s (n, (y ▸ x ▸ i ▸ u ▸ st), e, r, m, k, ((py, wy, vy, fy), (k0, ((px, wx, vx, fx), (k1, (pi, (k2, (pu, (k3, o)))))))), fact) = step (define c) f t (apt_is (define c) f t) n τ (cat_of c) plain s _ e r fact pi (define_proper source toks c t i pi _ _ (apt_is (define c) f t) x y px py, (k3, o))
  acts class f σ t t' τ s (n, (y ▸ i ▸ u ▸ st), e, r, m, k, ((py, wy, vy, fy), (k0, (pi, (k1, (pu, (k2, o)))))), fact) = step class f t tt n τ statement plain s _ e r fact pi (p_node {k = kind.Class} refl (i, pi, refl) (λ u. (fy, tt)) (p_word (p_word (p_kids py (proper₁ source toks)))), (k2, o))
  acts program f σ t t' τ s (n, (y ▸ st), e, r, m, k, ((py, wy, vy, fy), (k0, o)), fact) = step program f t tt n τ script plain s _ e r fact tt (p_node refl tt (λ u. absurd u) (p_kids py (proper₃ source toks)), (k0, o))
