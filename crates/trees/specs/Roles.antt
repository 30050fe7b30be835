-- What stands where in a tree, by the kinds and the rules of 01 (Tree, Grammar): expressions, statements and the like, operators, names and literals.
-- Assumes nothing.
use Rattle.std.specs.Prelude.{ℕ, ◌<◌, ◌≡◌, List, [], ◌∷◌, T, length, get_or}
use Rattle.grammar.specs.Sets.{mem}
use Rattle.tokens.specs.Token.{Token}
use Rattle.ast.specs.Kind as kind
use Rattle.ast.specs.declared.Content.{Content}
use Rattle.ast.specs.Literal.{leaf_of_lem}
use Rattle.pyhyeon.specs.Symbol.{symbol}
use Rattle.pyhyeon.specs.Action.{token_at_lem}
use Rattle.pyhyeon.specs.Rules.{names, literals}
use Rattle.ast.specs.Node.{Field}
use Rattle.ast.specs.Node as field
use Rattle.trees.specs.Tree.{Part, single, chain, growing, whole, row, Tree, node, chained, done, unused, word, child, kids, other, nil, full, one, more, first, link, shape}

-- what a node is
pub data Cat : Type 0 where
  nothing script expression statement name entry method elif else : Cat
  deriving Discrete as same-cat

-- by the kinds, in the order of their numbers
abbrev pub cat_of : ℕ → Cat
cat_of k =
    get_or (nothing ∷ script ∷ statement ∷ statement ∷ statement ∷ statement ∷ statement ∷ statement ∷ statement ∷ statement ∷ statement ∷ statement ∷ statement
    ∷ method ∷ elif ∷ else ∷ name ∷ entry
    ∷ expression ∷ expression ∷ expression ∷ expression ∷ expression ∷ expression ∷ expression ∷ expression ∷ expression ∷ expression
    ∷ expression ∷ expression ∷ expression ∷ expression ∷ expression ∷ expression ∷ expression ∷ [])
    k nothing

abbrev pub four : Cat → Cat → Cat → Cat → List Cat
four p q r s = p ∷ q ∷ r ∷ s ∷ []

abbrev pub none : List Cat
none = four nothing nothing nothing nothing

-- what the fields of each kind refer to, in the order of the kinds from 1 on
abbrev pub table : List (List Cat)
table =
    four statement nothing nothing nothing  -- 1 Program
    ∷ four expression statement elif else  -- 2 If
    ∷ four expression statement nothing nothing  -- 3 While
    ∷ four nothing nothing expression statement  -- 4 For
    ∷ four nothing nothing name statement  -- 5 Def
    ∷ four expression nothing nothing nothing  -- 6 Return
    ∷ four expression expression nothing nothing  -- 7 Assign
    ∷ four nothing nothing method nothing  -- 8 Class
    ∷ none ∷ none ∷ none  -- 9 Break, 10 Continue, 11 Pass
    ∷ four expression nothing nothing nothing  -- 12 Expr
    ∷ four nothing nothing name statement  -- 13 Method
    ∷ four expression statement nothing nothing  -- 14 Elif
    ∷ four statement nothing nothing nothing  -- 15 Else
    ∷ none  -- 16 Name
    ∷ four expression expression nothing nothing  -- 17 Pair
    ∷ none ∷ none ∷ none ∷ none ∷ none ∷ none  -- 18 Bool, 19 Int, 20 String, 21 Float, 22 None, 23 Variable
    ∷ four nothing expression nothing nothing  -- 24 Unary
    ∷ four nothing expression expression nothing  -- 25 Binary
    ∷ four expression expression nothing nothing  -- 26 Call
    ∷ four expression nothing nothing nothing  -- 27 Attribute
    ∷ four expression nothing nothing nothing  -- 28 List
    ∷ four entry nothing nothing nothing  -- 29 Dict
    ∷ four expression nothing nothing nothing  -- 30 Tuple
    ∷ four expression nothing nothing nothing  -- 31 Set
    ∷ four expression nothing nothing nothing  -- 32 TreeSet
    ∷ four expression expression nothing nothing  -- 33 Index
    ∷ four name expression nothing nothing  -- 34 Lambda
    ∷ []

abbrev pub roles : ℕ → List Cat
roles k = get_or (none ∷ table) k none

-- "Operators count from 1 in enum order": Not, Negate, Pos; Add to Modulo, 1 to 6, with And and Or behind the comparisons; Equal to GreaterEqual
abbrev pub unaries : List ℕ
unaries = 1 ∷ 2 ∷ 3 ∷ []

abbrev pub arithmetics : List ℕ
arithmetics = 1 ∷ 2 ∷ 3 ∷ 4 ∷ 5 ∷ 6 ∷ 13 ∷ 14 ∷ []

abbrev pub comparings : List ℕ
comparings = 7 ∷ 8 ∷ 9 ∷ 10 ∷ 11 ∷ 12 ∷ []

-- the words among the fields of a node
unfoldable pub words : {fs : List Field} → Tree (row fs) → List ℕ
words done = []
words (unused r) = words r
words (word w r) = w ∷ words r
words (child x r) = words r
words (kids l r) = words r
words (other l r) = words r

-- what the words of a node say: nothing; the place of a name; a literal; the operator of a Unary; that of a Binary
pub data Saying : Type 0 where
  silent naming valued signing joining : Saying

-- by the kinds, in the order of their numbers
abbrev pub saying : ℕ → Saying
saying k =
    get_or (silent ∷ silent ∷ silent ∷ silent ∷ naming ∷ naming ∷ silent ∷ silent ∷ naming ∷ silent ∷ silent ∷ silent ∷ silent
    ∷ naming ∷ silent ∷ silent ∷ naming ∷ silent ∷ valued ∷ valued ∷ valued ∷ valued ∷ valued ∷ naming ∷ signing ∷ joining ∷ silent ∷ naming ∷ [])
    k silent

-- the kind and the words of this literal: a Float's last two are the place of its token (02, change 3)
abbrev pub OfLeaf : Content → ℕ → List ℕ → Type 0
OfLeaf f k ws = (k ≡ f.kind) × (get_or ws 0 0 ≡ f.p) × (get_or ws 1 0 ≡ f.q) × (get_or ws 2 0 ≡ f.r) × (get_or ws 3 0 ≡ f.s)

module _ (source : List ℕ) (toks : List Token) where
  -- token t is there, and is one of these
  abbrev pub Token_of : List ℕ → ℕ → Type 0
  Token_of set t = (t < length toks) × T (mem (symbol source (token_at_lem source toks t)) set)

  -- The words are those of a name that was taken, of a literal that was taken, or an operator's; comparisons stand in chains only.
  abbrev pub Says : Saying → ℕ → List ℕ → Type 0
  Says silent k ws = Unit {0}
  Says naming k ws = (t : ℕ) × Token_of names t × (ws ≡ (token_at_lem source toks t).start ∷ (token_at_lem source toks t).end ∷ [])
  Says valued k ws = (t : ℕ) × Token_of literals t × OfLeaf (leaf_of_lem (token_at_lem source toks t).start (token_at_lem source toks t).end (token_at_lem source toks t).literal) k ws
  Says signing k ws = T (mem (get_or ws 0 0) unaries)
  Says joining k ws = T (mem (get_or ws 0 0) arithmetics)

-- at most one member: "Else or none"
abbrev pub FewG : Tree growing → Type 0
FewG (one x) = Unit {0}
FewG (more l x) = ⊥

abbrev pub Few : Tree whole → Type 0
Few nil = Unit {0}
Few (full l) = FewG l

-- at least one member
abbrev pub Some : Tree whole → Type 0
Some nil = ⊥
Some (full l) = Unit {0}

-- so of each list among these fields
unfoldable pub Filled : {fs : List Field} → Tree (row fs) → Type 0
Filled done = Unit {0}
Filled (unused r) = Filled r
Filled (word w r) = Filled r
Filled (child x r) = Filled r
Filled (kids l r) = Some l × Filled r
Filled (other l r) = Filled r

-- the kinds whose one list has a member: "one or more Methods" in a Class; "{} as Dict", so that a Set has one
abbrev pub filled_kinds : List ℕ
filled_kinds = kind.Class ∷ kind.Set ∷ []

-- Everything in the tree is what it has to be, and the tree itself is of these categories: one, or one for each field.
pub data Proper (source : List ℕ) (toks : List Token) : (i : Part) → List Cat → Tree i → Type 0 where
  p_node : {k s e : ℕ} {c : Cat} {fs : List Field} {h : shape k ≡ fs} {r : Tree (row fs)} → cat_of k ≡ c → Says source toks (saying k) k (words r) → (T (mem k filled_kinds) → Filled r) → Proper source toks (row fs) (roles k) r → Proper source toks single (c ∷ []) (node k s e h r)
  p_chained : {c : Tree chain} → Proper source toks chain (expression ∷ []) c → Proper source toks single (expression ∷ []) (chained c)
  p_done : Proper source toks (row []) [] done
  p_unused : {c : Cat} {cs : List Cat} {fs : List Field} {r : Tree (row fs)} → Proper source toks (row fs) cs r → Proper source toks (row (field.unused ∷ fs)) (c ∷ cs) (unused r)
  p_word : {w : ℕ} {c : Cat} {cs : List Cat} {fs : List Field} {r : Tree (row fs)} → Proper source toks (row fs) cs r → Proper source toks (row (field.word ∷ fs)) (c ∷ cs) (word w r)
  p_child : {c : Cat} {cs : List Cat} {fs : List Field} {x : Tree single} {r : Tree (row fs)} → Proper source toks single (c ∷ []) x → Proper source toks (row fs) cs r → Proper source toks (row (field.node ∷ fs)) (c ∷ cs) (child x r)
  p_kids : {c : Cat} {cs : List Cat} {fs : List Field} {l : Tree whole} {r : Tree (row fs)} → Proper source toks whole (c ∷ []) l → Proper source toks (row fs) cs r → Proper source toks (row (field.list ∷ fs)) (c ∷ cs) (kids l r)
  p_other : {c : Cat} {cs : List Cat} {fs : List Field} {l : Tree whole} {r : Tree (row fs)} → Proper source toks whole (c ∷ []) l → Few l → Proper source toks (row fs) cs r → Proper source toks (row (field.maybe ∷ fs)) (c ∷ cs) (other l r)
  p_nil : {c : Cat} → Proper source toks whole (c ∷ []) nil
  p_full : {c : Cat} {l : Tree growing} → Proper source toks growing (c ∷ []) l → Proper source toks whole (c ∷ []) (full l)
  p_one : {c : Cat} {x : Tree single} → Proper source toks single (c ∷ []) x → Proper source toks growing (c ∷ []) (one x)
  p_more : {c : Cat} {l : Tree growing} {x : Tree single} → Proper source toks growing (c ∷ []) l → Proper source toks single (c ∷ []) x → Proper source toks growing (c ∷ []) (more l x)
  p_first : {s e op : ℕ} {x y : Tree single} → T (mem op comparings) → Proper source toks single (expression ∷ []) x → Proper source toks single (expression ∷ []) y → Proper source toks chain (expression ∷ []) (first s e op x y)
  p_link : {s e s' e' op : ℕ} {c : Tree chain} {y : Tree single} → T (mem op comparings) → Proper source toks chain (expression ∷ []) c → Proper source toks single (expression ∷ []) y →
      Proper source toks chain (expression ∷ []) (link s e s' e' op c y)
