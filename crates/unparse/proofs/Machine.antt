-- A machine that builds erased trees from what is read: the loads of the tokens to come are kept beside the values.
-- Assumes nothing.
use Prim.Native.Nat.{ℕ}
use mathlib.Core.Bool.{cond}
use mathlib.Core.List.{List, [], ◌∷◌}
use lib.Dec.{eqb}
use lib.ListN.{get_or, drop}
use Rattle.grammar.specs.Trial.{Machine}
use Rattle.token.specs.Code as token
use Rattle.ast.specs.Kind as kind
use Rattle.pyhyeon.specs.Symbol.{Tee}
use Rattle.pyhyeon.specs.Action.{Action}
use Rattle.pyhyeon.specs.Action as act
use Rattle.unparse.specs.Trees.{Item, Expr, Name, Stmt, Elif, Def, a, some, list, Literal, Word, Sign, Alone, Void, Load, Tree}
use Rattle.unparse.specs.Trees as tree
use Rattle.unparse.specs.Values.{a_name, a_pair_lem, an_elif, a_def, Value, nils, a_token, the_signs, the_item, expr, stmt, the_growing, the_list, the_chain, the_else, the_script}
use Rattle.unparse.specs.Operators.{sign_of, op_of, comparison_of}
use Rattle.unparse.specs.Brackets.{filled, tuple_of, enclosing}
use Rattle.unparse.proofs.Write.{Steps, put, run, ◌›◌}

-- what a token is, by its code
unfoldable pub literal_of_lem : ℕ → Literal
literal_of_lem c =
    cond (eqb c token.Int) Literal.int (cond (eqb c token.Bool) Literal.bool (cond (eqb c token.String) Literal.string (cond (eqb c token.Float) Literal.float Literal.none)))

unfoldable pub word_of : ℕ → Word
word_of c = cond (eqb c Tee) Word.tee Word.identifier

unfoldable pub alone_of : ℕ → Alone
alone_of c = cond (eqb c kind.Break) Alone.break (cond (eqb c kind.Continue) Alone.continue Alone.pass)

-- the loads of the tokens to come; the code and the load of the token that was taken; the values
pub record Kept : Type 0 where
  pub ahead : List Load
  pub code : ℕ
  pub load : Load
  pub values : List Value

abbrev pub keep : List Load → ℕ → Load → List Value → Kept
keep l c n v = record { ahead = l; code = c; load = n; values = v }

abbrev pub top : ℕ → Kept → Value
top i k = get_or k.values i (a_token 0 [])

abbrev pub the_expr : ℕ → Kept → Tree (a Expr)
the_expr i k = (top i k).item Expr

-- this value in place of the last i
abbrev pub push : ℕ → Value → Kept → Kept
push i v k = keep k.ahead k.code k.load (v ∷ drop i k.values)

-- the name in a value; the name that was taken
abbrev pub the_name : ℕ → Kept → Tree (a Name)
the_name i k = tree.name (word_of (top i k).code) (top i k).load

abbrev pub taken : Kept → Tree (a Name)
taken k = tree.name (word_of k.code) k.load

-- the signs over an expression, the last one first; with no sign the value stays
unfoldable pub signed : List Sign → Value → Value
signed [] v = v
signed (g ∷ s) v = signed s (expr (tree.unary g (v.item Expr)))

-- one list behind another
unfoldable pub join : {i : Item} → Tree (some i) → Tree (some i) → Tree (some i)
join g (tree.one x) = tree.more g x
join g (tree.more h x) = tree.more (join g h) x

-- a block
abbrev pub body : ℕ → Kept → Tree (list Stmt)
body i k = (top i k).whole Stmt

-- what has no member, by the kind of its node
abbrev pub void_of : ℕ → Void
void_of c = cond (eqb c kind.Dict) Void.no_pairs Void.no_members

-- what each action makes of the values at hand, as the machine of nodes does (Action.antt of pyhyeon)
unfoldable pub build : Action → Kept → Kept
unfolding literal_of_lem word_of sign_of op_of comparison_of alone_of signed join filled tuple_of enclosing
build act.mark k = push 0 (a_token k.code k.load) k
build act.literal k = push 0 (expr (tree.literal (literal_of_lem k.code) k.load)) k
build (act.named c) k = push 0 (the_item (a_name (taken k))) k
build (act.alone c) k = push 0 (stmt (tree.alone (alone_of c))) k
build act.signs_none k = push 0 (the_signs []) k
build act.signs_more k = push 1 (the_signs (sign_of k.code ∷ (top 0 k).signs)) k
build act.unary k = push 2 (signed (top 1 k).signs (top 0 k)) k
build act.binary k = push 3 (expr (tree.binary (op_of (top 1 k).code) (the_expr 2 k) (the_expr 0 k))) k
build act.compare k = push 3 (the_chain (tree.two (comparison_of (top 1 k).code) (the_expr 2 k) (the_expr 0 k))) k
build act.compare_more k = push 3 (the_chain (tree.link (top 2 k).links (comparison_of (top 1 k).code) (the_expr 0 k))) k
build act.compared k = push 1 (expr (tree.compare (top 0 k).links)) k
build act.list_none k = push 0 (the_list nils tree.without) k
build act.list_one k = push 1 (the_growing (λ i. tree.one ((top 0 k).item i)) (top 0 k).after) k
build act.list_join k = push 2 (the_growing (λ i. join ((top 1 k).growing i) ((top 0 k).growing i)) (top 1 k).after) k
build act.list_done k = push 1 (the_list (λ i. tree.full ((top 0 k).growing i)) (top 0 k).after) k
build (act.enclose c) k = push 2 (expr (enclosing c (top 0 k).whole)) k
build (act.empty c) k = push 1 (expr (tree.void (void_of c))) k
build act.group k = push 2 (top 0 k) k
build act.tuple k = push 1 (expr (tuple_of ((top 0 k).growing Expr))) k
build act.pair k = push 2 (the_item (a_pair_lem (tree.pair (the_expr 1 k) (the_expr 0 k)))) k
build act.attribute k = push 1 (expr (tree.attribute (the_expr 0 k) (taken k))) k
build act.apply k = push 2 (expr (tree.apply (the_expr 1 k) ((top 0 k).whole Expr))) k
build act.index k = push 2 (expr (tree.index (the_expr 1 k) (the_expr 0 k))) k
build act.lambda k = push 3 (expr (tree.lambda ((top 1 k).whole Name) (the_expr 0 k))) k
build act.expr k = push 1 (stmt (tree.expression (the_expr 0 k))) k
build act.assign k = push 2 (stmt (tree.assign (the_expr 1 k) (the_expr 0 k))) k
build act.return k = push 2 (stmt (tree.return (the_expr 0 k))) k
build act.branch k = push 5 (stmt (tree.branch (the_expr 3 k) (body 2 k) ((top 1 k).whole Elif) (top 0 k).after)) k
build act.elif k = push 3 (the_item (an_elif (tree.elif (the_expr 1 k) (body 0 k)))) k
build act.else k = push 2 (the_else (tree.otherwise (body 0 k))) k
build act.while k = push 3 (stmt (tree.while (the_expr 1 k) (body 0 k))) k
build act.for k = push 4 (stmt (tree.for (the_name 2 k) (the_expr 1 k) (body 0 k))) k
build (act.define c) k = push 4 (the_item (a_def (tree.def (the_name 2 k) ((top 1 k).whole Name) (body 0 k)))) k
build act.class k = push 3 (stmt (tree.class (the_name 1 k) (filled ((top 0 k).whole Def)))) k
build act.program k = push 1 (the_script (tree.program ((top 0 k).whole Stmt))) k

-- the next of the loads
abbrev pub head : List Load → Load
head l = get_or l 0 []

abbrev pub trees : Machine Action
trees = record { Kept = Kept; shift = λ c k. keep (drop 1 k.ahead) c (head k.ahead) k.values; run = build }

-- the loads of the tokens of some steps, before some others
abbrev pub loads : Steps → List Load → List Load
loads (put c n) l = n ∷ l
loads (run c) l = l
loads (d › e) l = loads d (loads e l)
