-- The machine of erased trees comes to what the trees of the machine of nodes say, action by action.
-- Assumes nothing.
use mathlib.Core.Path.{◌≡◌, refl, ap, sym, ◌∙◌, subst}
use mathlib.Core.Bool.{Bool, true, false, cond, ◌&&◌}
use mathlib.Core.List.{List, [], ◌∷◌, ◌++◌, map}
use Prim.Native.Nat.{ℕ, zero, suc, ◌+◌, ◌-◌, ◌<◌}
use native.Mathlib.Numerals.{add-one}
use native.Mathlib.Omega.{arith}
use lib.Dec.{T, eqb, eqb→eq}
use lib.ListN.{length, get_or, drop}
use Rattle.grammar.specs.Sets.{mem}
use Rattle.grammar.specs.Trial.{Machine}
use Rattle.source.specs.Bytes.{part}
use Rattle.token.specs.Code as token
use Rattle.literal.specs.declared.Literal.{Literal}
use Rattle.literal.specs.declared.Literal.TheVariants as L
use Rattle.tokens.specs.Token.{Token}
use Rattle.tokens.specs.Token as tok
use Rattle.ast.specs.Kind as kind
use Rattle.ast.specs.Operator.{unary_op_lem, binary_op_lem}
use Rattle.pyhyeon.specs.Symbol.{Tee, tee_at, is_tee, symbol}
use Rattle.pyhyeon.specs.Machine as pyhyeon
use Rattle.pyhyeon.specs.Action.{Action, mark, literal, named, alone, signs_none, signs_more, unary, binary, compare, compare_more, compared, list_none, list_one, list_join, list_done, enclose, empty, group, tuple, pair, attribute, apply, index, lambda, expr, assign, return, branch, elif, else, while, for, define, class, program, token_at_lem, machine}
use Rattle.pyhyeon.specs.Rules.{names, literals, comparisons, sign_set}
use Rattle.pyhyeon.specs.Sorts.{Sort, a-token, a_node, a_signs, a_growing, a_list, a_chain, taking}
use Rattle.trees.specs.Tree.{single, growing, whole, Tree, node, chained, one, more, first, link}
use Rattle.trees.specs.Roles.{Token_of}
use Rattle.trees.proofs.Editing.{widen, widen_c, joined}
use Rattle.trees.proofs.Stack.{Val, Stack, bottom, ◌▸◌}
use Rattle.trees.proofs.Apt.{Apt, apt, usable, each}
use Rattle.trees.proofs.Making.{leaf, code, from, upto, wrapped, make}
use Rattle.trees.proofs.Flow.{Since, lastly}
use Rattle.trees.proofs.Moves.{arithmetic_codes}
use Rattle.trees.proofs.Facts.{Timely, Over, FactOver}
use Rattle.grammar.proofs.Sets.{and_r}
use Rattle.unparse.specs.Trees.{Item, Load, Sign, Word, Op, Comparison}
use Rattle.unparse.specs.Trees as to
use Rattle.unparse.specs.Values.{Value, a_token, a_name, the_item, the_signs, the_growing, the_chain}
use Rattle.unparse.specs.Values as built
use Rattle.unparse.specs.Brackets.{filled, enclosing}
use Rattle.unparse.specs.Operators.{sign_of, op_of, comparison_of}
use Rattle.unparse.proofs.Machine.{Kept, keep, head, signed, join, void_of, literal_of_lem, word_of, alone_of, build, trees}
use Rattle.standard.specs.Erase.{sign_from, op_from, comparison_from, of_word, name_in, of_kind, erase}
use Rattle.standard.proofs.Loads.{worth, load}

-- the sort of a literal
abbrev pub sort_of : Literal → to.Literal
sort_of (L.Bool b) = to.bool
sort_of (L.Int z) = to.int
sort_of (L.String a n) = to.string
sort_of (L.Float x) = to.float
sort_of L.None = to.none

-- What is asked of tokens: a code is that of a token, and a literal is of the sort that its code says.
pub record Plain (source : List ℕ) (toks : List Token) : Type 0 where
  pub coded : (t : ℕ) → t < length toks → (token_at_lem source toks t).code ≡ Tee → ⊥
  pub sorted : (t : ℕ) → Token_of source toks literals t → literal_of_lem (token_at_lem source toks t).code ≡ sort_of (token_at_lem source toks t).literal

module _ (source text : List ℕ) (toks : List Token) where
  abbrev pub loads : List Load
  loads = map (load source text) toks

  abbrev pub symbol_at : ℕ → ℕ
  symbol_at t = symbol source (token_at_lem source toks t)

  abbrev pub load_at : ℕ → Load
  load_at t = load source text (token_at_lem source toks t)

  -- c signs from the token f on, the last one first
  abbrev pub signs_from : ℕ → ℕ → List Sign
  signs_from zero f = []
  signs_from (suc c) f = sign_from (unary_op_lem (code source toks (f + c))) ∷ signs_from c f

  -- the values at hand, and all that the machine of erased trees keeps after n tokens
  abbrev pub slot : (i : Sort) → Val i → Value
  slot a-token t = a_token (symbol_at t) (load_at t)
  slot a_node x = erase source text x
  slot a_signs v = the_signs (signs_from v.1 v.0)
  slot a_growing l = erase source text l
  slot a_list l = erase source text l
  slot a_chain c = the_chain (erase source text c)

  abbrev pub values : {σ : List Sort} → Stack σ → List Value
  values bottom = []
  values (◌▸◌ {i} v st) = slot i v ∷ values st

  abbrev pub kept : {σ : List Sort} → ℕ → Stack σ → Kept
  kept n st = keep (drop n loads) (symbol_at (n - 1)) (load_at (n - 1)) (values st)

  put_is : (n : ℕ) {σ : List Sort} (st : Stack σ) {v w : Value} → v ≡ w →
      keep (drop n loads) (symbol_at (n - 1)) (load_at (n - 1)) (v ∷ values st) ≡ keep (drop n loads) (symbol_at (n - 1)) (load_at (n - 1)) (w ∷ values st)
  put_is n st e = ap (λ (v : Value). keep (drop n loads) (symbol_at (n - 1)) (load_at (n - 1)) (v ∷ values st)) e

  -- spans do not matter, lists are joined, signs are put around
  erase_widen : (a z : ℕ) (x : Tree single) → erase source text (widen a z x) ≡ erase source text x
  unfolding widen widen_c erase
  erase_widen a z (node k s e h r) = refl
  erase_widen a z (chained (first s e op x y)) = refl
  erase_widen a z (chained (link s e s' e' op c y)) = refl

  erase_joined : (l m : Tree growing) →
      erase source text (joined l m) ≡ the_growing (λ i. join ((erase source text l).growing i) ((erase source text m).growing i)) (erase source text l).after
  unfolding joined erase join
  erase_joined l (one x) = refl
  erase_joined l (more m x) =
      ap (λ (v : Value). the_growing (λ i. to.more (v.growing i) ((erase source text x).item i)) v.after) (erase_joined l m)

  erase_wrapped : (z c f : ℕ) (x : Tree single) → erase source text (wrapped source toks z c f x) ≡ signed (signs_from c f) (erase source text x)
  unfolding wrapped erase signed of_kind
  erase_wrapped z zero f x = refl
  erase_wrapped z (suc c) f x = erase_wrapped z c f _

  -- operators
  sign_is : (t : Token) → T (mem t.code sign_set) → sign_of (symbol source t) ≡ sign_from (unary_op_lem t.code)
  unfolding sign_of sign_from unary_op_lem
  sign_is t h = each (λ c. sign_of (symbol source (tok.token c t.start t.end t.literal)) ≡ sign_from (unary_op_lem c)) t.code sign_set (refl, (refl, (refl, tt))) h

  op_is : (t : Token) → T (mem t.code arithmetic_codes) → op_of (symbol source t) ≡ op_from (binary_op_lem t.code)
  unfolding op_of op_from binary_op_lem
  op_is t h =
      each (λ c. op_of (symbol source (tok.token c t.start t.end t.literal)) ≡ op_from (binary_op_lem c)) t.code arithmetic_codes
      (refl, (refl, (refl, (refl, (refl, (refl, (refl, (refl, tt)))))))) h

  comparison_is : (t : Token) → T (mem t.code comparisons) → comparison_of (symbol source t) ≡ comparison_from (binary_op_lem t.code)
  unfolding comparison_of comparison_from binary_op_lem
  comparison_is t h =
      each (λ c. comparison_of (symbol source (tok.token c t.start t.end t.literal)) ≡ comparison_from (binary_op_lem c)) t.code comparisons
      (refl, (refl, (refl, (refl, (refl, (refl, tt)))))) h

  -- names
  name_of : (s e c : ℕ) (v : Literal) → c ≡ token.Identifier → to.name (word_of (symbol source (tok.token c s e v))) (load source text (tok.token c s e v)) ≡ name_in source s e
  unfolding word_of load
  name_of s e c v h = subst (λ (c : ℕ). to.name (word_of (symbol source (tok.token c s e v))) (load source text (tok.token c s e v)) ≡ name_in source s e) (sym h) (go (tee_at source s e))
    where
      go : (b : Bool) → to.name (word_of (cond b Tee token.Identifier)) (cond b [] (part source s e)) ≡ to.name (cond b Word.tee Word.identifier) (cond b [] (part source s e))
      go true = refl
      go false = refl

  -- literals
  leaf_is : (s e : ℕ) (l : Literal) → built.expr (to.literal (sort_of l) (worth source text s e l)) ≡ erase source text (leaf s e l)
  unfolding leaf erase of_kind
  leaf_is s e (L.Bool b) = refl
  leaf_is s e (L.Int z) = refl
  leaf_is s e (L.String a n) = refl
  leaf_is s e (L.Float x) = refl
  leaf_is s e L.None = refl

  pub load_is : (t : Token) → T (mem (symbol source t) literals) → (literal_of_lem (symbol source t) ≡ literal_of_lem t.code) × (load source text t ≡ worth source text t.start t.end t.literal)
  unfolding load
  load_is t m = go (is_tee source t) m
    where
      W : Load
      W = worth source text t.start t.end t.literal

      go : (b : Bool) → T (mem (cond b Tee t.code) literals) →
          (literal_of_lem (cond b Tee t.code) ≡ literal_of_lem t.code) × (cond b [] (cond (eqb t.code token.Identifier) (part source t.start t.end) W) ≡ W)
      go true m = absurd m
      go false m = (refl, each (λ c. cond (eqb c token.Identifier) (part source t.start t.end) W ≡ W) t.code literals (refl, (refl, (refl, (refl, (refl, tt))))) m)

  module _ (plain : Plain source toks) where
    identifier : (t : ℕ) → Token_of source toks names t → (token_at_lem source toks t).code ≡ token.Identifier
    identifier t (l, m) = go (eqb c token.Identifier) (λ h. eqb→eq c token.Identifier h) _ m
      where
        c : ℕ
        c = (token_at_lem source toks t).code

        go : (b : Bool) → (T b → c ≡ token.Identifier) → (d : Bool) → T (mem (cond (b && d) Tee c) names) → c ≡ token.Identifier
        go true f d m = f tt
        go false f d m = each (λ x. x ≡ c → c ≡ token.Identifier) c names ((λ e. absurd (plain.coded t l (sym e))), ((λ e. sym e), tt)) m refl

    pub name_is : (t : ℕ) → Token_of source toks names t → to.name (word_of (symbol_at t)) (load_at t) ≡ name_in source (token_at_lem source toks t).start (token_at_lem source toks t).end
    name_is t h = let k = token_at_lem source toks t in name_of k.start k.end k.code k.literal (identifier t h)

    -- literals
    literal_is : (t : ℕ) → Token_of source toks literals t →
        built.expr (to.literal (literal_of_lem (symbol_at t)) (load_at t)) ≡ erase source text (leaf (from source toks t) (upto source toks t) (token_at_lem source toks t).literal)
    literal_is t h =
        let (p, q) = load_is (token_at_lem source toks t) h.1 in
        let r = p ∙ plain.sorted t h in
        rw (r, q) (leaf_is (from source toks t) (upto source toks t) (token_at_lem source toks t).literal)

    abbrev ex : Tree single → to.Tree (to.a Item.Expr)
    ex x = (erase source text x).item Item.Expr

    abbrev body : Tree whole → to.Tree (to.list Item.Stmt)
    body l = (erase source text l).whole Item.Stmt

    -- every action
    pub acts : (a : Action) (f : Since) → T (apt a f) → (h : Apt a) (n : ℕ) (τ : List Sort) (st : Stack (taking a ++ τ)) → Timely source toks a n τ st →
        build a (kept n st) ≡ kept n (make source toks a h n {τ = τ} st)
    unfolding make build erase of_kind sign_from op_from comparison_from filled enclosing
    acts mark f t h n τ st w = refl
    acts literal f t h n τ st w = put_is n st (literal_is (n - 1) w)
    acts (named k) f t h n τ st w =
        put_is n st (ap (λ (x : to.Tree (to.a Item.Name)). the_item (a_name x)) (name_is (n - 1) w)
        ∙ each (λ k. the_item (a_name (name_in source (from source toks (n - 1)) (upto source toks (n - 1)))) ≡ of_kind source text k (of_word (from source toks (n - 1)) ∷ of_word (upto source toks (n - 1)) ∷ of_word 0 ∷ of_word 0 ∷ [])) k
        (kind.Name ∷ kind.Variable ∷ []) (refl, (refl, tt)) (and_r (usable (lastly f)) _ t))
    acts (alone k) f t h n τ st w =
        put_is n st (each (λ k. built.stmt (to.alone (alone_of k)) ≡ of_kind source text k (of_word 0 ∷ of_word 0 ∷ of_word 0 ∷ of_word 0 ∷ [])) k
        (kind.Break ∷ kind.Continue ∷ kind.Pass ∷ []) (refl, (refl, (refl, tt))) (and_r (usable (lastly f)) _ t))
    acts signs_none f t h n τ st w = refl
    acts signs_more f t h n τ (v ▸ st) (l, m) =
        let e : n - 1 ≡ v.0 + v.1 = omega arith in
        let g : sign_of (symbol_at (n - 1)) ≡ sign_from (unary_op_lem (code source toks (v.0 + v.1))) = sign_is (token_at_lem source toks (n - 1)) m ∙ ap (λ (i : ℕ). sign_from (unary_op_lem (code source toks i))) e in
        put_is n st (ap (λ (g : Sign). the_signs (g ∷ signs_from v.1 v.0)) g ∙ ap (λ (c : ℕ). the_signs (signs_from c v.0)) (sym (add-one v.1)))
    acts unary f t h n τ (x ▸ v ▸ st) w = put_is n st (sym (erase_wrapped _ v.1 v.0 x))
    acts binary f t h n τ (y ▸ u ▸ x ▸ st) w = put_is n st (ap (λ (o : Op). built.expr (to.binary o (ex x) (ex y))) (op_is (token_at_lem source toks u) w))
    acts compare f t h n τ (y ▸ u ▸ x ▸ st) w = put_is n st (ap (λ (o : Comparison). the_chain (to.two o (ex x) (ex y))) (comparison_is (token_at_lem source toks u) w))
    acts compare_more f t h n τ (y ▸ u ▸ c ▸ st) w = put_is n st (ap (λ (o : Comparison). the_chain (to.link (erase source text c) o (ex y))) (comparison_is (token_at_lem source toks u) w))
    acts compared f t h n τ (c ▸ st) w = refl
    acts list_none f t h n τ st w = refl
    acts list_one f t h n τ (x ▸ st) w = refl
    acts list_join f t h n τ (m ▸ l ▸ st) w = put_is n st (sym (erase_joined l m))
    acts list_done f t h n τ (l ▸ st) w = refl
    acts (enclose k) f t h n τ (l ▸ u ▸ st) w =
        put_is n st (each (λ k. built.expr (enclosing k (erase source text l).whole) ≡ of_kind source text k (erase source text l ∷ of_word 0 ∷ of_word 0 ∷ of_word 0 ∷ [])) k
        (kind.List ∷ kind.Dict ∷ kind.Tuple ∷ kind.Set ∷ kind.TreeSet ∷ []) (refl, (refl, (refl, (refl, (refl, tt))))) t)
    acts (empty k) f t h n τ (u ▸ st) w =
        put_is n st (each (λ k. built.expr (to.void (void_of k)) ≡ of_kind source text k (built.the_list built.nils to.without ∷ of_word 0 ∷ of_word 0 ∷ of_word 0 ∷ [])) k
        (kind.Dict ∷ kind.Tuple ∷ []) (refl, (refl, tt)) t)
    acts group f t h n τ (x ▸ u ▸ st) w = put_is n st (sym (erase_widen _ _ x))
    acts tuple f t h n τ (l ▸ st) w = refl
    acts pair f t h n τ (y ▸ x ▸ st) w = refl
    acts attribute f t h n τ (x ▸ st) w = put_is n st (ap (λ (i : to.Tree (to.a Item.Name)). built.expr (to.attribute (ex x) i)) (name_is (n - 1) w))
    acts apply f t h n τ (l ▸ x ▸ st) w = refl
    acts index f t h n τ (y ▸ x ▸ st) w = refl
    acts lambda f t h n τ (x ▸ l ▸ u ▸ st) w = refl
    acts expr f t h n τ (x ▸ st) w = refl
    acts assign f t h n τ (y ▸ x ▸ st) w = put_is n st (ap (λ (v : Value). built.stmt (to.assign (v.item Item.Expr) (ex y))) (sym (erase_widen _ _ x)))
    acts return f t h n τ (x ▸ u ▸ st) w = refl
    acts branch f t h n τ (o ▸ m ▸ l ▸ x ▸ u ▸ st) w = refl
    acts elif f t h n τ (l ▸ x ▸ u ▸ st) w = refl
    acts else f t h n τ (l ▸ u ▸ st) w = refl
    acts while f t h n τ (l ▸ x ▸ u ▸ st) w = refl
    acts for f t h n τ (l ▸ x ▸ i ▸ u ▸ st) w = put_is n st (ap (λ (i : to.Tree (to.a Item.Name)). built.stmt (to.for i (ex x) (body l))) (name_is i w))
    acts (define k) f t h n τ (m ▸ l ▸ i ▸ u ▸ st) w =
        put_is n st (ap (λ (i : to.Tree (to.a Item.Name)). the_item (built.a_def (to.def i ((erase source text l).whole Item.Name) (body m)))) (name_is i w)
        ∙ each (λ k. the_item (built.a_def (to.def (name_in source (from source toks i) (upto source toks i)) ((erase source text l).whole Item.Name) (body m))) ≡
        of_kind source text k (of_word (from source toks i) ∷ of_word (upto source toks i) ∷ erase source text l ∷ erase source text m ∷ [])) k (kind.Def ∷ kind.Method ∷ []) (refl, (refl, tt)) t)
    acts class f t h n τ (l ▸ i ▸ u ▸ st) w = put_is n st (ap (λ (i : to.Tree (to.a Item.Name)). built.stmt (to.class i (filled ((erase source text l).whole Item.Def)))) (name_is i w))
    acts program f t h n τ (l ▸ st) w = refl

    -- every token
    next_load : (l : List Token) (n : ℕ) → n < length l → head (drop n (map (load source text) l)) ≡ load source text (get_or l n (tok.token 0 0 0 L.None))
    next_load [] n h = absurd (omega arith)
    next_load (x ∷ l) zero h = refl
    next_load (x ∷ l) (suc n) h = next_load l n (omega arith)

    drop_next : (l : List Load) (n : ℕ) → drop 1 (drop n l) ≡ drop (suc n) l
    drop_next [] zero = refl
    drop_next [] (suc n) = refl
    drop_next (x ∷ l) zero = refl
    drop_next (x ∷ l) (suc n) = drop_next l n

    pub shifts : {σ : List Sort} (n : ℕ) (st : Stack σ) → n < length toks → (c : ℕ) → c ≡ symbol_at n → trees.shift c (kept n st) ≡ kept (n + 1) st
    shifts n st l c e =
        let i : n + 1 - 1 ≡ n = omega arith in
        rw (i, add-one n, next_load toks n l, e, drop_next loads n) refl

    -- the machine of nodes with that of erased trees beside it
    abbrev pub both : Machine Action
    both = record {
      Kept = pyhyeon.Kept × Kept;
      shift = λ c k. ((machine source toks).shift c k.0, trees.shift c k.1);
      run = λ a k. ((machine source toks).run a k.0, trees.run a k.1);
    }

    unfoldable pub beside : Over source toks
    beside = record { machine = both; nodes = λ k. k.0; shifts = λ c k. refl; runs = λ a k. refl }

    unfoldable pub erases : FactOver source toks both
    erases = record {
      Of = λ σ f n st k. k.1 ≡ kept n st;
      forgets = λ σ f n st k h. h;
      token_keeps = λ σ f set n st l m c e k h. ap (trees.shift c) h ∙ shifts n st l c e;
      act_keeps = λ a f t h n τ st w k e. ap (build a) e ∙ acts a f t h n τ st w;
    }
