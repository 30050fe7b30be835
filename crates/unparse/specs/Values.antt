-- What a part of a tree comes to where it is erased (standard/specs/Erase.antt): a value has a tree of each sort, of which that of its own sort matters. `load`, `signs`,
-- `links`, `the_signs` and `the_chain` are there for the machine that builds erased trees (proofs/Machine.antt), and no definition cites them.
-- Assumes nothing.
use Rattle.std.specs.Prelude.{ℕ, List, []}
use Rattle.unparse.specs.Trees.{Item, Expr, Name, Pair, Stmt, Elif, Def, a, some, list, chain, other, script, Word, Sign, Comparison, Alone, Load, Tree}
use Rattle.unparse.specs.Trees as tree

-- some member of each kind
abbrev pub some_name : Tree (a Name)
some_name = tree.name Word.identifier []

abbrev pub some_expr : Tree (a Expr)
some_expr = tree.variable some_name

abbrev pub any : (i : Item) → Tree (a i)
any Expr = some_expr
any Name = some_name
any Pair = tree.pair some_expr some_expr
any Stmt = tree.alone Alone.pass
any Elif = tree.elif some_expr tree.nil
any Def = tree.def some_name tree.nil tree.nil

-- a member of one kind; a name is also a variable, a definition also a statement
abbrev pub an_expr : Tree (a Expr) → (i : Item) → Tree (a i)
an_expr x Expr = x
an_expr x Name = any Name
an_expr x Pair = any Pair
an_expr x Stmt = any Stmt
an_expr x Elif = any Elif
an_expr x Def = any Def

abbrev pub a_name : Tree (a Name) → (i : Item) → Tree (a i)
a_name x Expr = tree.variable x
a_name x Name = x
a_name x Pair = any Pair
a_name x Stmt = any Stmt
a_name x Elif = any Elif
a_name x Def = any Def

abbrev pub a_pair_lem : Tree (a Pair) → (i : Item) → Tree (a i)
a_pair_lem x Expr = any Expr
a_pair_lem x Name = any Name
a_pair_lem x Pair = x
a_pair_lem x Stmt = any Stmt
a_pair_lem x Elif = any Elif
a_pair_lem x Def = any Def

abbrev pub a_stmt : Tree (a Stmt) → (i : Item) → Tree (a i)
a_stmt x Expr = any Expr
a_stmt x Name = any Name
a_stmt x Pair = any Pair
a_stmt x Stmt = x
a_stmt x Elif = any Elif
a_stmt x Def = any Def

abbrev pub an_elif : Tree (a Elif) → (i : Item) → Tree (a i)
an_elif x Expr = any Expr
an_elif x Name = any Name
an_elif x Pair = any Pair
an_elif x Stmt = any Stmt
an_elif x Elif = x
an_elif x Def = any Def

abbrev pub a_def : Tree (a Def) → (i : Item) → Tree (a i)
a_def x Expr = any Expr
a_def x Name = any Name
a_def x Pair = any Pair
a_def x Stmt = tree.define x
a_def x Elif = any Elif
a_def x Def = x

-- a token; signs, the last one first; a member; a list in the making; a list; a chain; what stands after `else`; a program
pub record Value : Type 0 where
  pub code : ℕ
  pub load : Load
  pub signs : List Sign
  pub item : (i : Item) → Tree (a i)
  pub growing : (i : Item) → Tree (some i)
  pub whole : (i : Item) → Tree (list i)
  pub links : Tree chain
  pub after : Tree other
  pub result : Tree script

abbrev pub value : ℕ → Load → List Sign → ((i : Item) → Tree (a i)) → ((i : Item) → Tree (some i)) → ((i : Item) → Tree (list i)) → Tree chain → Tree other → Tree script → Value
value c n s x g w l o p = record { code = c; load = n; signs = s; item = x; growing = g; whole = w; links = l; after = o; result = p }

abbrev pub singles : (i : Item) → Tree (some i)
singles i = tree.one (any i)

abbrev pub nils : (i : Item) → Tree (list i)
nils i = tree.nil

abbrev pub no_links : Tree chain
no_links = tree.two Comparison.less some_expr some_expr

abbrev pub no_script : Tree script
no_script = tree.program tree.nil

abbrev pub a_token : ℕ → Load → Value
a_token c n = value c n [] any singles nils no_links tree.without no_script

abbrev pub the_signs : List Sign → Value
the_signs s = value 0 [] s any singles nils no_links tree.without no_script

abbrev pub the_item : ((i : Item) → Tree (a i)) → Value
the_item x = value 0 [] [] x singles nils no_links tree.without no_script

abbrev pub expr : Tree (a Expr) → Value
expr x = the_item (an_expr x)

abbrev pub stmt : Tree (a Stmt) → Value
stmt x = the_item (a_stmt x)

-- a list in the making and a list may be of what stands after `else`
abbrev pub the_growing : ((i : Item) → Tree (some i)) → Tree other → Value
the_growing g o = value 0 [] [] any g nils no_links o no_script

abbrev pub the_list : ((i : Item) → Tree (list i)) → Tree other → Value
the_list w o = value 0 [] [] any singles w no_links o no_script

abbrev pub the_chain : Tree chain → Value
the_chain c = value 0 [] [] any singles nils c tree.without no_script

abbrev pub the_else : Tree other → Value
the_else o = value 0 [] [] any singles nils no_links o no_script

abbrev pub the_script : Tree script → Value
the_script p = value 0 [] [] any singles nils no_links tree.without p
