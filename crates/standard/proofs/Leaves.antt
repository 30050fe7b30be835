-- What holds of the names and literals among the tokens holds of those of the tree, and no block of it is empty where no node is hollow: the tree is fine.
-- Assumes nothing.
use mathlib.Core.Path.{◌≡◌, ap, sym, subst}
use mathlib.Core.Bool.{false}
use mathlib.Core.List.{List, [], ◌∷◌}
use Prim.Native.Nat.{ℕ, ◌+◌}
use lib.ListN.{get_or}
use Rattle.source.specs.Bytes.{part}
use Rattle.literal.specs.declared.Literal.{Literal}
use Rattle.literal.specs.declared.Literal.TheVariants as L
use Rattle.tokens.specs.Token.{Token}
use Rattle.ast.specs.Literal.{leaf_of_lem}
use Rattle.pyhyeon.specs.Symbol.{symbol}
use Rattle.pyhyeon.specs.Action.{token_at_lem}
use Rattle.pyhyeon.specs.Rules.{names, literals}
use Rattle.trees.specs.Tree.{single, Tree}
use Rattle.trees.specs.Flat.{flat}
use Rattle.trees.specs.Roles.{script, naming, valued, OfLeaf, Token_of, Says, Proper}
use Rattle.trees.proofs.Making.{from, upto}
use Rattle.unparse.specs.Trees.{Word, Load}
use Rattle.unparse.specs.Trees as to
use Rattle.unparse.proofs.Machine.{literal_of_lem, word_of}
use Rattle.standard.specs.Erase.{name_in, said}
use Rattle.standard.proofs.Loads.{worth, load}
use Rattle.standard.specs.Hollow.{any_hollow_lem}
use Rattle.standard.proofs.Erasing.{Plain, sort_of, load_is, name_is}
use Rattle.standard.proofs.Fine.{Fine}
use Rattle.standard.proofs.Clear.{clear}
use Rattle.standard.proofs.Told.{sort_at, load_at}
use Rattle.standard.proofs.Planted.{told_script}

module _ (W : Word → Load → Type 0) (M : to.Literal → Load → Type 0) (source text : List ℕ) (toks : List Token) where
  -- W of each name and M of each literal among the tokens
  pub record Tokens_are : Type 0 where
    pub names_are : (t : ℕ) → Token_of source toks names t → W (word_of (symbol source (token_at_lem source toks t))) (load source text (token_at_lem source toks t))
    pub literals_are : (t : ℕ) → Token_of source toks literals t → M (literal_of_lem (token_at_lem source toks t).code) (load source text (token_at_lem source toks t))

  module _ (plain : Plain source toks) (are : Tokens_are) where
    named_is : (k s e : ℕ) → Says source toks naming k (s ∷ e ∷ []) → Fine W M (name_in source s e)
    unfolding Fine
    named_is k s e (t, h, q) =
        let a : s ≡ from source toks t = ap (λ (l : List ℕ). get_or l 0 0) q in
        let b : e ≡ upto source toks t = ap (λ (l : List ℕ). get_or l 1 0) q in
        let f : Fine W M (name_in source (from source toks t) (upto source toks t)) = subst (Fine W M) (name_is source text toks plain t h) (are.names_are t h) in
        rw (a, b) f

    -- the words of a node that holds this literal
    worth_is : (s e k : ℕ) (ws : List ℕ) (l : Literal) → OfLeaf (leaf_of_lem s e l) k ws → M (sort_of l) (worth source text s e l) → M (sort_at k) (load_at source text k ws)
    worth_is s e k ws l h x = subst (λ (k : ℕ). M (sort_at k) (load_at source text k ws)) (sym h.0) (go l h x)
      where
        go : (l : Literal) → OfLeaf (leaf_of_lem s e l) k ws → M (sort_of l) (worth source text s e l) → M (sort_at (leaf_of_lem s e l).kind) (load_at source text (leaf_of_lem s e l).kind ws)
        go (L.Bool b) (z, p, q, r, u) x = subst (M to.bool) (λ i. sym p i ∷ []) x
        go (L.Int n) (z, p, q, r, u) x = subst (M to.int) (λ i. sym p i ∷ sym q i ∷ []) x
        go (L.String a n) (z, p, q, r, u) x = subst (M to.string) (λ i. part text (sym p i) (sym p i + sym q i)) x
        go (L.Float n) (z, p, q, r, u) x = subst (M to.float) (λ i. sym p i ∷ sym q i ∷ part source (sym r i) (sym u i)) x
        go L.None h x = x

    valued_is : (k : ℕ) (ws : List ℕ) → Says source toks valued k ws → M (sort_at k) (load_at source text k ws)
    valued_is k ws (t, h, q) =
        let (a, b) = load_is source text toks (token_at_lem source toks t) h.1 in
        let c = plain.sorted t h in
        let x : M (sort_of (token_at_lem source toks t).literal) (worth source text (from source toks t) (upto source toks t) (token_at_lem source toks t).literal) = rw (← c, ← b) (are.literals_are t h) in
        worth_is (from source toks t) (upto source toks t) k ws (token_at_lem source toks t).literal q x

    pub script_fine : (t : Tree single) → Proper source toks single (script ∷ []) t → any_hollow_lem (flat t) ≡ false → Fine W M (said source text t)
    script_fine t p e = (told_script W M source text toks (record { named = named_is; valued = valued_is }) t p).fine (clear t e)
