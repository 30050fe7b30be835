-- What the trial accepts is the layout of a proper tree, with any machine that has the nodes' among what it keeps. A fact of the values at hand and of what
-- the machine keeps, which every token and every action keep, comes along.
-- Assumes nothing.
use mathlib.Core.Path.{◌≡◌, refl, ap, sym, ◌∙◌, subst}
use mathlib.Core.Logic.{◌⊎◌, inl, inr, ⊎_elim}
use mathlib.Core.Bool.{◌||◌}
use mathlib.Core.Option.{Option, none, some}
use mathlib.Core.List.{List, [], ◌∷◌, ◌++◌}
use Prim.Native.Nat.{ℕ}
use native.Mathlib.Omega.{arith}
use Rattle.grammar.specs.Trial.{St, Out, ok, parse}
use Rattle.grammar.specs.Flow.{bind, where_same, strip, alike}
use Rattle.grammar.specs.Flow as grammar
use Rattle.grammar.proofs.Sets.{and_l, and_r, or_e}
use Rattle.grammar.proofs.Begin.{On, on_ok, on_fail, on_out}
use Rattle.grammar.proofs.Top.{same_parse}
use Rattle.tokens.specs.Token.{Token}
use Rattle.pyhyeon.specs.Symbol.{symbols}
use Rattle.pyhyeon.specs.Machine.{Kept, blank}
use Rattle.pyhyeon.specs.Sorts.{Sort, a_node, a_list, same-sort}
use Rattle.pyhyeon.specs.Rules.{Rule, Program, Line, Simple, Block, Class, E, O, A, C, S, P, U, F, plain}
use Rattle.pyhyeon.specs.Tables.{joined}
use Rattle.pyhyeon.proofs.Language.{language}
use Rattle.trees.specs.Tree.{whole, Tree, nil}
use Rattle.trees.specs.Roles.{Cat, nothing, script, Few, Proper, p_nil}
use Rattle.trees.specs.Law.{TreeOf}
use Rattle.trees.proofs.Flow.{anything, provided, flow, Flows}
use Rattle.grammar.proofs.Flow.{none_is, some_is, bind_some, where_some, alike_is}
use Rattle.trees.proofs.Decoded.{provided_some}
use Rattle.trees.proofs.Along.{good_trial}
use Rattle.trees.proofs.Stack.{bottom, ◌▸◌, count, nodes, values, behind, past, lay}
use Rattle.trees.proofs.Apt.{apt}
use Rattle.trees.proofs.Moves.{Mark, Role, role, same_role, nd, ls, is_cat, relisted, or_else, role_moves}
use Rattle.trees.proofs.Facts.{Over, FactOver}
use Rattle.trees.proofs.Proper.{is_same}
use Rattle.trees.proofs.Acts.{Laid, forget_laid, shift_laid, acts}

-- The rules pass the test, as the descent takes them: where `{` is followed by `}` it is no Set, which the trial knows only by its order.
role_flows : (r : Rule) → Flows same_role role_moves joined r
unfolding flow provided grammar.effect strip bind where_same alike relisted or_else plain joined
role_flows Program = refl
role_flows Line = refl
role_flows Simple = refl
role_flows Block = refl
role_flows Class = refl
role_flows E = refl
role_flows O = refl
role_flows A = refl
role_flows C = refl
role_flows S = refl
role_flows P = refl
role_flows U = refl
role_flows F = refl

-- alternatives that come together
either : (o q : Option (List Role)) {c : List Role} → or_else o q ≡ some c → (o ≡ some c) ⊎ (q ≡ some c)
unfolding or_else
either none q e = inr e
either (some a) q e = inl e

-- two lists that do: the first of some category, and the second of the same or of nothing
record Relisted (a b c : List Role) : Type 0 where
  first : Role
  second : Role
  rest : List Role
  first_list : first.sort ≡ a_list
  second_list : second.sort ≡ a_list
  same_or_none : (second.cat ≡ first.cat) ⊎ (second.cat ≡ nothing)
  first_is : a ≡ first ∷ rest
  second_is : b ≡ second ∷ rest
  whole_is : c ≡ ls first.cat ∷ rest

relisted_is : (a b : List Role) {c : List Role} → relisted a b ≡ some c → Relisted a b c
unfolding relisted
relisted_is [] b e = absurd (none_is e)
relisted_is (r ∷ σ) [] e = absurd (none_is e)
relisted_is (r ∷ σ) (r' ∷ σ') e =
    let (p, u) = where_some (same-sort r.sort a_list) _ e in
    let (q, v) = where_some (same-sort r'.sort a_list) _ u in
    let (t, w) = provided_some (is_cat r'.cat r.cat || is_cat r'.cat nothing) _ v in
    let (τ, x, y) = bind_some (alike same_role σ σ') (λ τ. some (ls r.cat ∷ τ)) w in
    let (i, j) = alike_is same_role σ σ' x in
    record {
      first = r;
      second = r';
      rest = τ;
      first_list = p;
      second_list = q;
      same_or_none = ⊎_elim (λ h. inl (is_same r'.cat r.cat h)) (λ h. inr (is_same r'.cat nothing h)) (or_e (is_cat r'.cat r.cat) (is_cat r'.cat nothing) t);
      first_is = ap (λ (l : List Role). r ∷ l) i;
      second_is = ap (λ (l : List Role). r' ∷ l) j;
      whole_is = sym (some_is y);
    }

module _ (source : List ℕ) (toks : List Token) (N : Over source toks) (X : FactOver source toks N.machine) where
  abbrev Stands : List Role → St N.machine → Type 0
  Stands σ s = Laid source toks N X anything σ s

  -- a list of this category, whether it is known to have a member or not; and an empty list for one of any category
  unmarked : (r : Role) (ρ : List Role) (s : St N.machine) → r.sort ≡ a_list → Stands (r ∷ ρ) s → Stands (ls r.cat ∷ ρ) s
  unmarked r ρ s e h = go r.mark (subst (λ (i : Sort). Stands (role i r.cat r.mark ∷ ρ) s) e h)
    where
      go : (b : Mark) → Stands (role a_list r.cat b ∷ ρ) s → Stands (ls r.cat ∷ ρ) s
      go b (n, (v ▸ st), e, r, m, k, ((p, q, t, f), o), x) = (n, (v ▸ st), e, r, m, k, ((p, q, t, tt), o), x)

  emptied : (c : Cat) (ρ : List Role) (s : St N.machine) → Stands (ls nothing ∷ ρ) s → Stands (ls c ∷ ρ) s
  emptied c ρ s (n, (v ▸ st), e, r, m, k, ((p, q, t, f), o), x) =
      let z : nil ≡ v = sym (q refl) in
      (n, (v ▸ st), e, r, m, k, ((subst (λ (l : Tree whole). Proper source toks whole (c ∷ []) l) z p_nil, (λ _. q refl), (λ _. subst Few z tt), tt), o), x)

  resorted : {l l' : List Role} (τ : List Role) (s : St N.machine) → l ≡ l' → Stands (l ++ τ) s → Stands (l' ++ τ) s
  resorted τ s e h = subst (λ (l : List Role). Stands (l ++ τ) s) e h

  joins : (a b c : List Role) → or_else (alike same_role a b) (relisted a b) ≡ some c → (τ : List Role) (s : St N.machine) → (Stands (a ++ τ) s → Stands (c ++ τ) s) × (Stands (b ++ τ) s → Stands (c ++ τ) s)
  joins a b c e τ s = go (either (alike same_role a b) (relisted a b) e)
    where
      go : (alike same_role a b ≡ some c) ⊎ (relisted a b ≡ some c) → (Stands (a ++ τ) s → Stands (c ++ τ) s) × (Stands (b ++ τ) s → Stands (c ++ τ) s)
      go (inl h) = let (i, j) = alike_is same_role a b h in (resorted τ s i, resorted τ s j)
      go (inr h) =
          let q = relisted_is a b h in
          let ρ = q.rest ++ τ in (
            (λ x. resorted τ s (sym q.whole_is) (unmarked q.first ρ s q.first_list (resorted τ s q.first_is x))),
            (λ x.
                let y = unmarked q.second ρ s q.second_list (resorted τ s q.second_is x) in
                resorted τ s (sym q.whole_is) (⊎_elim
                (λ g. subst (λ (c : Cat). Stands (ls c ∷ ρ) s) g y)
                (λ g. emptied q.first.cat ρ s (subst (λ (c : Cat). Stands (ls c ∷ ρ) s) g y)) q.same_or_none)),
          )

  ends : (k : N.machine.Kept) → N.nodes k ≡ blank → X.Of [] anything 0 bottom k → On (Stands (nd script ∷ [])) (parse joined Program (record { rest = symbols source toks; kept = k }))
  unfolding lay nodes values
  ends k e h =
      good_trial same_role role_moves (Laid source toks N X) (forget_laid source toks N X) (shift_laid source toks N X)
      (λ a f σ t. acts source toks N X a f σ (and_l (apt a f) _ t) (and_r (apt a f) _ t)) joins joined role_flows Program [] (record { rest = symbols source toks; kept = k })
      (0, bottom, e, refl, 0, (λ u. absurd u), tt, h)

  -- the tree of what is kept, and the fact of it
  pub record Grown (k : N.machine.Kept) : Type 0 where
    pub of : TreeOf source toks (N.nodes k).nodes
    pub taken : ℕ
    pub holds : X.Of (a_node ∷ []) anything taken (of.tree ▸ bottom) k

  grown : (s : St N.machine) → Stands (nd script ∷ []) s → Grown s.kept
  unfolding lay nodes behind count past
  grown s (n, (x ▸ bottom), e, r, m, k, (p, o), h) = record { of = record { tree = x; is = ap (λ (k : Kept). k.nodes) e; proper = p }; taken = n; holds = h }

  of_ok : {o : Out N.machine} (s : St N.machine) → On (Stands (nd script ∷ [])) o → o ≡ ok s → Grown s.kept
  of_ok s (on_ok {s = s'} h) e = let g : s' ≡ s = cc in subst (λ (s : St N.machine). Grown s.kept) g (grown s' h)
  of_ok s on_fail e = let z : ◌≡◌ {A = ℕ} 0 1 = cc in absurd (omega arith)
  of_ok s on_out e = let z : ◌≡◌ {A = ℕ} 0 1 = cc in absurd (omega arith)

  -- What a trial with such a machine comes to is the layout of a tree.
  pub grown_over : (k : N.machine.Kept) (s : St N.machine) → N.nodes k ≡ blank → X.Of [] anything 0 bottom k → parse plain Program (record { rest = symbols source toks; kept = k }) ≡ ok s → Grown s.kept
  grown_over k s e h f = of_ok s (ends k e h) (sym (same_parse language Program (record { rest = symbols source toks; kept = k })) ∙ f)
