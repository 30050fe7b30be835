-- What a tree says, "apart from places, with names and strings compared by bytes" (02, change 6): the erased tree that the standard text is defined over.
-- Assumes nothing.
use Rattle.std.specs.Prelude.{ℕ, suc, ◌+◌, cond}
use mathlib.Core.List.{List, [], ◌∷◌}
use Rattle.std.proofs.Math.ListN.{get_or}
use Rattle.source.specs.Bytes.{part}
use Rattle.ast.specs.Kind as kind
use Rattle.ast.specs.Operator.{unary_ops, binary_ops}
use Rattle.pyhyeon.specs.Symbol.{tee_at}
use Rattle.trees.specs.Tree.{Part, single, chain, growing, whole, row, Tree, node, chained, done, unused, word, child, kids, other, nil, full, one, more, first, link}
use Rattle.unparse.specs.Trees.{Expr, Name, Stmt, Elif, Def, Word, Sign, Op, Comparison, Alone}
use Rattle.unparse.specs.Trees as to
use Rattle.unparse.specs.Values.{Value, a_token, the_item, the_growing, the_list, the_else, the_script, expr, stmt, a_name, a_pair_lem, an_elif, a_def, nils}
use Rattle.unparse.specs.Brackets.{filled, enclosing}
use Rattle.unparse.specs.Operators.{sign_of, op_of, comparison_of}

-- the operator of this number, by its token: "Operators count from 1 in enum order" (01, Tree)
unfoldable pub sign_from : ℕ → Sign
unfolding sign_of
sign_from w = sign_of (get_or (0 ∷ unary_ops) w 0)

unfoldable pub op_from : ℕ → Op
unfolding op_of
op_from w = op_of (get_or (0 ∷ binary_ops) w 0)

unfoldable pub comparison_from : ℕ → Comparison
unfolding comparison_of
comparison_from w = comparison_of (get_or (0 ∷ binary_ops) w 0)

-- what the fields of a node come to, as the values of the machine of erased trees; a word is a value with this code
abbrev pub of_word : ℕ → Value
of_word w = a_token w []

abbrev pub field : ℕ → List Value → Value
field i l = get_or l i (of_word 0)

abbrev pub of_expr : ℕ → List Value → to.Tree (to.a Expr)
of_expr i l = (field i l).item Expr

abbrev pub of_body : ℕ → List Value → to.Tree (to.list Stmt)
of_body i l = (field i l).whole Stmt

-- the name from s to e, which `t` says by itself
abbrev pub name_in : List ℕ → ℕ → ℕ → to.Tree (to.a Name)
name_in source s e = to.name (cond (tee_at source s e) Word.tee Word.identifier) (cond (tee_at source s e) [] (part source s e))

module _ (source text : List ℕ) where
  abbrev pub of_name : ℕ → List Value → to.Tree (to.a Name)
  of_name i l = name_in source (field i l).code (field (suc i) l).code

  -- what a node of each kind says, from what its fields come to; in the order of the kinds from 1 on (01, Tree)
  abbrev pub kinds : List (List Value → Value)
  kinds =
      (λ l. the_script (to.program ((field 0 l).whole Stmt)))  -- 1 Program
      ∷ (λ l. stmt (to.branch (of_expr 0 l) (of_body 1 l) ((field 2 l).whole Elif) (field 3 l).after))  -- 2 If
      ∷ (λ l. stmt (to.while (of_expr 0 l) (of_body 1 l)))  -- 3 While
      ∷ (λ l. stmt (to.for (of_name 0 l) (of_expr 2 l) (of_body 3 l)))  -- 4 For
      ∷ (λ l. the_item (a_def (to.def (of_name 0 l) ((field 2 l).whole Name) (of_body 3 l))))  -- 5 Def
      ∷ (λ l. stmt (to.return (of_expr 0 l)))  -- 6 Return
      ∷ (λ l. stmt (to.assign (of_expr 0 l) (of_expr 1 l)))  -- 7 Assign
      ∷ (λ l. stmt (to.class (of_name 0 l) (filled ((field 2 l).whole Def))))  -- 8 Class
      ∷ (λ l. stmt (to.alone Alone.break))  -- 9 Break
      ∷ (λ l. stmt (to.alone Alone.continue))  -- 10 Continue
      ∷ (λ l. stmt (to.alone Alone.pass))  -- 11 Pass
      ∷ (λ l. stmt (to.expression (of_expr 0 l)))  -- 12 Expr
      ∷ (λ l. the_item (a_def (to.def (of_name 0 l) ((field 2 l).whole Name) (of_body 3 l))))  -- 13 Method
      ∷ (λ l. the_item (an_elif (to.elif (of_expr 0 l) (of_body 1 l))))  -- 14 Elif
      ∷ (λ l. the_else (to.otherwise (of_body 0 l)))  -- 15 Else
      ∷ (λ l. the_item (a_name (of_name 0 l)))  -- 16 Name
      ∷ (λ l. the_item (a_pair_lem (to.pair (of_expr 0 l) (of_expr 1 l))))  -- 17 Pair
      ∷ (λ l. expr (to.literal to.bool ((field 0 l).code ∷ [])))  -- 18 Bool
      ∷ (λ l. expr (to.literal to.int ((field 0 l).code ∷ (field 1 l).code ∷ [])))  -- 19 Int
      ∷ (λ l. expr (to.literal to.string (part text (field 0 l).code ((field 0 l).code + (field 1 l).code))))  -- 20 String
      ∷ (λ l. expr (to.literal to.float ((field 0 l).code ∷ (field 1 l).code ∷ part source (field 2 l).code (field 3 l).code)))  -- 21 Float
      ∷ (λ l. expr (to.literal to.none []))  -- 22 None
      ∷ (λ l. the_item (a_name (of_name 0 l)))  -- 23 Variable
      ∷ (λ l. expr (to.unary (sign_from (field 0 l).code) (of_expr 1 l)))  -- 24 Unary
      ∷ (λ l. expr (to.binary (op_from (field 0 l).code) (of_expr 1 l) (of_expr 2 l)))  -- 25 Binary
      ∷ (λ l. expr (to.apply (of_expr 0 l) ((field 1 l).whole Expr)))  -- 26 Call
      ∷ (λ l. expr (to.attribute (of_expr 0 l) (of_name 1 l)))  -- 27 Attribute
      ∷ (λ l. expr (enclosing kind.List (field 0 l).whole))  -- 28 List
      ∷ (λ l. expr (enclosing kind.Dict (field 0 l).whole))  -- 29 Dict
      ∷ (λ l. expr (enclosing kind.Tuple (field 0 l).whole))  -- 30 Tuple
      ∷ (λ l. expr (enclosing kind.Set (field 0 l).whole))  -- 31 Set
      ∷ (λ l. expr (enclosing kind.TreeSet (field 0 l).whole))  -- 32 TreeSet
      ∷ (λ l. expr (to.index (of_expr 0 l) (of_expr 1 l)))  -- 33 Index
      ∷ (λ l. expr (to.lambda ((field 0 l).whole Name) (of_expr 1 l)))  -- 34 Lambda
      ∷ []

  unfoldable pub of_kind : ℕ → List Value → Value
  unfolding filled enclosing sign_from op_from
  of_kind k = get_or ((λ l. of_word 0) ∷ kinds) k (λ l. of_word 0)

  -- what each part of a tree comes to
  abbrev pub Erased : Part → Type 0
  Erased single = Value
  Erased chain = to.Tree to.chain
  Erased growing = Value
  Erased whole = Value
  Erased (row fs) = List Value

  -- spans are gone, and a chain keeps its middles shared
  unfoldable pub erase : {i : Part} → Tree i → Erased i
  unfolding of_kind comparison_from
  erase (node k s e h r) = of_kind k (erase r)
  erase (chained c) = expr (to.compare (erase c))
  erase done = []
  erase (unused r) = of_word 0 ∷ erase r
  erase (word w r) = of_word w ∷ erase r
  erase (child x r) = erase x ∷ erase r
  erase (kids l r) = erase l ∷ erase r
  erase (other l r) = erase l ∷ erase r
  erase nil = the_list nils to.without
  erase (full l) = the_list (λ i. to.full ((erase l).growing i)) (erase l).after
  erase (one x) = the_growing (λ i. to.one ((erase x).item i)) (erase x).after
  erase (more l x) = the_growing (λ i. to.more ((erase l).growing i) ((erase x).item i)) (erase l).after
  erase (first s e op x y) = to.two (comparison_from op) ((erase x).item Expr) ((erase y).item Expr)
  erase (link s e s' e' op c y) = to.link (erase c) (comparison_from op) ((erase y).item Expr)

  -- what a script's tree says
  abbrev pub said : Tree single → to.Tree to.script
  said t = (erase t).result
