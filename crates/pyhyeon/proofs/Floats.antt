-- The Floats of a list of nodes and of a list of tokens, when a node is added or changed and when a token is taken.
-- Assumes nothing.
use mathlib.Core.Path.{◌≡◌, refl, sym, ap, ◌∙◌}
use mathlib.Core.Bool.{Bool, true, false, cond, not}
use mathlib.Core.List.{List, [], ◌∷◌, ◌++◌, flat_map, append-nil, append_assoc}
use Prim.Native.Nat.{ℕ, zero, suc, ◌+◌, ◌<◌}
use native.Mathlib.Omega.{arith}
use native.Mathlib.Numerals.{add-one}
use lib.Dec.{T, eqb}
use lib.Ieee.{Float}
use lib.ListN.{length, get_or, set, take}
use lib.Seq.{take-suc, take_at}
use borrow.Author.Tests.{ne_eqb}
use Rattle.token.specs.Code as code
use Rattle.tokens.specs.Token.{Token}
use Rattle.literal.specs.declared.Literal.{Literal}
use Rattle.literal.specs.declared.Literal.TheVariants as L
use Rattle.lexer.specs.Scan.{mark}
use Rattle.lexer.proofs.Properties.{Each, FloatCoded, EofLast, each_at}
use Rattle.ast.specs.Kind as kind
use Rattle.ast.specs.Node.{Node, blank}
use Rattle.ast.specs.Literal.{literal_node_lem}
use Rattle.pyhyeon.specs.Action.{token_at_lem}
use Rattle.pyhyeon.specs.Spelling.{FloatSpelled, token_spelling, node_spelling}
use Rattle.pyhyeon.proofs.Symbols.{symbol_eof, symbol_float, Next}

pub flat_one : {A B : Type 0} (f : A → List B) (l : List A) (x : A) → flat_map f (l ++ (x ∷ [])) ≡ flat_map f l ++ f x
unfolding flat_map
flat_one f [] x = append-nil (f x)
flat_one f (y ∷ l) x = ap (λ r. f y ++ r) (flat_one f l x) ∙ sym (append_assoc (f y) (flat_map f l) (f x))

-- ---- nodes

module _ (source : List ℕ) where
  -- where there is no node there is no Float
  pub no_node : (i : ℕ) → FloatSpelled source (get_or [] i blank)
  no_node i e = absurd (omega arith)

  -- a node behind the others, and one in the place of another
  pub added : (ns : List Node) (x : Node) → ((i : ℕ) → FloatSpelled source (get_or ns i blank)) → FloatSpelled source x → (i : ℕ) → FloatSpelled source (get_or (ns ++ (x ∷ [])) i blank)
  added [] x h f zero = f
  added [] x h f (suc i) = no_node i
  added (n ∷ ns) x h f zero = h zero
  added (n ∷ ns) x h f (suc i) = added ns x (λ j. h (suc j)) f i

  pub replaced : (ns : List Node) (m : ℕ) (x : Node) → ((i : ℕ) → FloatSpelled source (get_or ns i blank)) → FloatSpelled source x → (i : ℕ) → FloatSpelled source (get_or (set ns m x) i blank)
  replaced [] m x h f i = no_node i
  replaced (n ∷ ns) zero x h f zero = f
  replaced (n ∷ ns) zero x h f (suc i) = h (suc i)
  replaced (n ∷ ns) (suc m) x h f zero = h zero
  replaced (n ∷ ns) (suc m) x h f (suc i) = replaced ns m x (λ j. h (suc j)) f i

pub floats_write : (ns : List Node) (x : Node) → T (not (eqb x.kind kind.Float)) → flat_map node_spelling (ns ++ (x ∷ [])) ≡ flat_map node_spelling ns
floats_write ns x t = flat_one node_spelling ns x ∙ ap (λ r. flat_map node_spelling ns ++ r) (go (eqb x.kind kind.Float) t) ∙ append-nil (flat_map node_spelling ns)
  where
    go : (b : Bool) → T (not b) → cond {A = List (ℕ × ℕ)} b ((x.r, x.s) ∷ []) [] ≡ []
    go true h = absurd h
    go false h = refl

pub floats_set : (ns : List Node) (m : ℕ) (x : Node) → node_spelling x ≡ node_spelling (get_or ns m blank) → flat_map node_spelling (set ns m x) ≡ flat_map node_spelling ns
unfolding flat_map
floats_set [] m x e = refl
floats_set (n ∷ ns) zero x e = ap (λ r. r ++ flat_map node_spelling ns) e
floats_set (n ∷ ns) (suc m) x e = ap (λ r. node_spelling n ++ r) (floats_set ns m x e)

-- ---- tokens

pub float_next : {source : List ℕ} {toks : List Token} {n t : ℕ} → Next source toks n t → (token_at_lem source toks n).code ≡ code.Float → t ≡ code.Float
float_next {source} {toks} {n} h e = h.is ∙ symbol_float source (token_at_lem source toks n) e

module _ (source : List ℕ) (toks : List Token) where
  -- one token more; and one that is no Float
  pub floats_more : (n : ℕ) → n < length toks → flat_map token_spelling (take (n + 1) toks) ≡ flat_map token_spelling (take n toks) ++ token_spelling (token_at_lem source toks n)
  floats_more n h = rw add-one (ap (flat_map token_spelling) (take-suc toks n _ h) ∙ flat_one token_spelling (take n toks) (token_at_lem source toks n))

  pub floats_taken : (n : ℕ) → n < length toks → ((token_at_lem source toks n).code ≡ code.Float → ⊥) → flat_map token_spelling (take (n + 1) toks) ≡ flat_map token_spelling (take n toks)
  floats_taken n h u = floats_more n h ∙ rw (ne_eqb (token_at_lem source toks n).code code.Float u) (append-nil (flat_map token_spelling (take n toks)))

  -- where Eof stands next, all Floats are taken
  eof-at : (front : List Token) (last : Token) (n : ℕ) → Each (λ t. t.code ≡ code.Eof → ⊥) front → n < length (front ++ (last ∷ [])) → (token_at_lem source (front ++ (last ∷ [])) n).code ≡ code.Eof → n ≡ length front
  eof-at [] last n e h c = omega arith
  eof-at (t ∷ front) last zero (Each.more p e) h c = absurd (p c)
  eof-at (t ∷ front) last (suc n) (Each.more p e) h c = ap suc (eof-at front last n e (omega arith) c)

  pub all_taken : {m n : ℕ} → EofLast m toks → Next source toks n code.Eof → flat_map token_spelling (take n toks) ≡ flat_map token_spelling toks
  all_taken {m} {n} z h =
      let last : Token = mark code.Eof m m in
      let c : (token_at_lem source toks n).code ≡ code.Eof = symbol_eof source (token_at_lem source toks n) (sym h.is) in
      let e : n ≡ length z.front = eof-at z.front last n z.once (rw z.last at h.there) (rw z.last at c) in
      rw z.last (ap (flat_map token_spelling) (take_at z.front (last ∷ []) n (sym e)) ∙ sym (flat_one token_spelling z.front last ∙ append-nil (flat_map token_spelling z.front)))

  -- ---- the node of a literal, when it is written

  module _ (floats : Each (FloatCoded source) toks) (t : ℕ) (there : t < length toks) where
    coded : FloatCoded source (token_at_lem source toks t)
    coded = each_at floats t _ there

    abbrev its_node : Literal → Node
    its_node l = literal_node_lem (token_at_lem source toks t).start (token_at_lem source toks t).end l

    pub literal_spelled : FloatSpelled source (its_node (token_at_lem source toks t).literal)
    literal_spelled = go (token_at_lem source toks t).literal refl
      where
        go : (l : Literal) → (token_at_lem source toks t).literal ≡ l → FloatSpelled source (its_node l)
        go (L.Bool b) e k = absurd (omega arith)
        go (L.Int z) e k = absurd (omega arith)
        go (L.String at len) e k = absurd (omega arith)
        go (L.Float x) e k =
            let f = coded.of x e in
            record { value = x; reads = f.value; low = refl; high = refl }
        go L.None e k = absurd (omega arith)

    pub literal_same : node_spelling (its_node (token_at_lem source toks t).literal) ≡ token_spelling (token_at_lem source toks t)
    literal_same = go (token_at_lem source toks t).literal refl
      where
        other : (l : Literal) → (token_at_lem source toks t).literal ≡ l → ((x : Float) → l ≡ L.Float x → ⊥) → ◌≡◌ {A = List (ℕ × ℕ)} [] (token_spelling (token_at_lem source toks t))
        other l e n = rw (ne_eqb (token_at_lem source toks t).code code.Float (λ c. let (x, d) = coded.has c in n x (sym e ∙ d)))

        go : (l : Literal) → (token_at_lem source toks t).literal ≡ l → node_spelling (its_node l) ≡ token_spelling (token_at_lem source toks t)
        go (L.Bool b) e = other _ e (λ x d. let z : ◌≡◌ {A = ℕ} 0 1 = cc in omega arith)
        go (L.Int z) e = other _ e (λ x d. let z : ◌≡◌ {A = ℕ} 0 1 = cc in omega arith)
        go (L.String at len) e = other _ e (λ x d. let z : ◌≡◌ {A = ℕ} 0 1 = cc in omega arith)
        go (L.Float x) e = rw (coded.of x e).coded
        go L.None e = other _ e (λ x d. let z : ◌≡◌ {A = ℕ} 0 1 = cc in omega arith)
