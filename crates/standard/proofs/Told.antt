-- What is shown of an erased tree beside the tree that it comes from, by the categories of nodes: planted it is that tree without its places, and it is fine
-- where the tree leaves no block empty. Kind by kind in proofs/ToldExprs.antt and proofs/ToldStmts.antt.
-- Assumes nothing.
use mathlib.Core.Path.{◌≡◌}
use mathlib.Core.Bool.{cond}
use mathlib.Core.List.{List, [], ◌∷◌}
use Prim.Native.Nat.{ℕ, ◌+◌}
use lib.Dec.{T, eqb}
use lib.ListN.{get_or, drop}
use Rattle.grammar.specs.Sets.{mem}
use Rattle.source.specs.Bytes.{part}
use Rattle.tokens.specs.Token.{Token}
use Rattle.ast.specs.Kind as kind
use Rattle.ast.specs.Node.{Field}
use Rattle.trees.specs.Tree.{Part, row, Tree, done, unused, word, child, kids, other, shape}
use Rattle.trees.specs.Roles.{Cat, nothing, script, expression, statement, name, entry, method, elif, else, cat_of, roles, words, naming, valued, saying, Says, Filled, filled_kinds}
use Rattle.unparse.specs.Trees.{Item, Word, Load}
use Rattle.unparse.specs.Trees as to
use Rattle.unparse.specs.Values.{Value}
use Rattle.standard.specs.Erase.{name_in, of_kind, erase}
use Rattle.standard.specs.Alike.{places, bytes_at}
use Rattle.standard.proofs.Clear.{Open, Clear}
use Rattle.standard.proofs.Fine.{Fine}
use Rattle.standard.specs.Bare.{Bare, b_node, b_one, b_full, places_of, bare}
use Rattle.standard.specs.Plant.{plant}

-- what the words of a literal of the kind k stand for
abbrev pub sort_at : ℕ → to.Literal
sort_at k = cond (eqb k kind.Bool) to.bool (cond (eqb k kind.Int) to.int (cond (eqb k kind.String) to.string (cond (eqb k kind.Float) to.float to.none)))

abbrev pub load_at : List ℕ → List ℕ → ℕ → List ℕ → Load
load_at source text k ws =
    cond (eqb k kind.Bool) (get_or ws 0 0 ∷ []) (cond (eqb k kind.Int) (get_or ws 0 0 ∷ get_or ws 1 0 ∷ []) (cond (eqb k kind.String) (part text (get_or ws 0 0) (get_or ws 0 0 + get_or ws 1 0))
    (cond (eqb k kind.Float) (get_or ws 0 0 ∷ get_or ws 1 0 ∷ part source (get_or ws 2 0) (get_or ws 3 0)) [])))

-- which of a value's trees is meant
pub data Kin : Type 0 where
  an_item : Item → Kin
  the-else the-script no_kin : Kin

abbrev pub kin : Cat → Kin
kin expression = an_item to.Expr
kin statement = an_item to.Stmt
kin name = an_item to.Name
kin entry = an_item to.Pair
kin method = an_item to.Def
kin elif = an_item to.Elif
kin else = the-else
kin script = the-script
kin nothing = no_kin

-- W of each name and L of each literal
module _ (W : Word → Load → Type 0) (L : to.Literal → Load → Type 0) where
  -- so of the names and literals that nodes say
  pub record Leaves (source text : List ℕ) (toks : List Token) : Type 0 where
    pub named : (k s e : ℕ) → Says source toks naming k (s ∷ e ∷ []) → Fine W L (name_in source s e)
    pub valued : (k : ℕ) (ws : List ℕ) → Says source toks valued k ws → L (sort_at k) (load_at source text k ws)

  pub record Tells {s : to.Sort} (t : to.Tree s) (b : Bare) (C : Type 0) : Type 0 where
    pub planted : plant t ≡ b
    pub fine : C → Fine W L t

  -- a value; a list in the making; a list; what may stand after `else`
  abbrev pub Told : Kin → Value → Bare → Type 0 → Type 0
  Told (an_item i) v b C = Tells (v.item i) b C
  Told the-else v b C = Tells v.after (b_full (b_one b)) C
  Told the-script v b C = Tells v.result b C
  Told no_kin v b C = Unit {0}

  abbrev pub ToldG : Kin → Value → Bare → Type 0 → Type 0
  ToldG (an_item i) v b C = Tells (v.growing i) b C
  ToldG the-else v b C = Unit {0}
  ToldG the-script v b C = Unit {0}
  ToldG no_kin v b C = Unit {0}

  abbrev pub ToldW : Kin → Value → Bare → Type 0 → Type 0
  ToldW (an_item i) v b C = Tells (v.whole i) b C
  ToldW the-else v b C = Unit {0}
  ToldW the-script v b C = Unit {0}
  ToldW no_kin v b C = Unit {0}

  abbrev pub ToldO : Kin → Value → Bare → Type 0 → Type 0
  ToldO (an_item i) v b C = Unit {0}
  ToldO the-else v b C = Tells v.after b C
  ToldO the-script v b C = Unit {0}
  ToldO no_kin v b C = Unit {0}

  module _ (source text : List ℕ) where
    abbrev pub B : {i : Part} → Tree i → Bare
    B x = bare source text [] x

    -- of the fields of a row
    abbrev pub Row : {fs : List Field} → List Cat → Tree (row fs) → Type 0
    Row cs done = Unit {0}
    Row cs (unused r) = Row (drop 1 cs) r
    Row cs (word w r) = Row (drop 1 cs) r
    Row cs (child x r) = Told (kin (get_or cs 0 nothing)) (erase source text x) (B x) (Clear x) × Row (drop 1 cs) r
    Row cs (kids l r) = ToldW (kin (get_or cs 0 nothing)) (erase source text l) (B l) (Clear l) × Row (drop 1 cs) r
    Row cs (other l r) = ToldO (kin (get_or cs 0 nothing)) (erase source text l) (B l) (Clear l) × Row (drop 1 cs) r

    -- of a node of the kind k with these fields, if it is so of them
    abbrev pub Of : List Token → (k : ℕ) (fs : List Field) → Type 0
    Of toks k fs = (r : Tree (row fs)) → Row (roles k) r → (T (mem k filled_kinds) → Filled r) → Says source toks (saying k) k (words r) →
        Told (kin (cat_of k)) (of_kind source text k (erase source text r)) (b_node k (bytes_at source text k (places_of (places k) r)) (bare source text (places k) r)) (Open k r × Clear r)

    abbrev pub OfKind : List Token → ℕ → Type 0
    OfKind toks k = Of toks k (shape k)

pub tells : {W : Word → Load → Type 0} {L : to.Literal → Load → Type 0} {s : to.Sort} {t : to.Tree s} {b : Bare} {C : Type 0} → plant t ≡ b → (C → Fine W L t) → Tells W L t b C
tells e f = record { planted = e; fine = f }
