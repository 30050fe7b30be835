-- The machine of erased trees, taken through the steps of a tree, comes to that tree.
-- Assumes nothing.
use Prim.Native.Nat.{ℕ}
use Rattle.ast.specs.Kind as kind
use Rattle.pyhyeon.specs.Action as act
use Rattle.unparse.specs.Trees.{Item, Expr, Name, Pair, Stmt, Elif, Def, Sort, a, some, list, chain, several, other, script, Tree}
use Rattle.unparse.specs.Trees as tree
use Rattle.unparse.specs.Levels.{Level, T as Lt, X, E, C, S, G, F, level_of, below}
use Rattle.unparse.proofs.Write.{Steps, run, ◌›◌, ending, parted, write}
use Rattle.unparse.proofs.Levels.{fitted}
use Rattle.unparse.proofs.Written.{own}
use Rattle.unparse.proofs.Made.{Made, the_chain, whole, growing, item, after, one_of, joined_by, comma_joined, for_nil, for_full}
use Rattle.unparse.proofs.MadeExprs.{MadeAt, by_build, for_literal, for_variable, for_unary, for_op, for_two, for_link, for_compare, for_attribute, for_apply, for_index, for_bracket, for_void, for_dict, for_set, for_pair, single_in_parens, single_bare, for_lambda, members, for_both, for_also, bare, in_parens, either, for_name}
use Rattle.unparse.proofs.MadeStmts.{simply, for_expression, for_assign, for_return, for_alone, body, for_while, for_for, for_def, for_define, methods, for_class, for_elif, for_else, for_without, for_branch, for_program}

-- what is built, by its sort
abbrev pub Built : (s : Sort) → Level → Tree s → Type 0
Built (a Expr) l t = MadeAt t l (write l t)
Built (a Name) l t = Made (growing Name) (tree.one t) (ending Name (write l t))
Built (a Pair) l t = Made (item Pair) t (write l t)
Built (a Stmt) l t = Made (growing Stmt) (tree.one t) (write l t)
Built (a Elif) l t = Made (growing Elif) (tree.one t) (write l t)
Built (a Def) l t = (k : ℕ) → Made (item Def) t (write l t › run (act.define k)) × Made (item Stmt) (tree.define t) (write l t › run (act.define k))
Built (some i) l t = Made (growing i) t (write l t)
Built (list i) l t = Made (whole i) t (write l t)
Built chain l t = Made the_chain t (write l t)
Built several l t = Made (growing Expr) (members t) (write l t)
Built other l t = Made after t (write l t)
Built script l t = Made (λ v. v.result) t (write l t)

first : (i : Item) (t : Tree (a i)) → Built (a i) X t → Made (growing i) (tree.one t) (ending i (write X t))
first Expr t f = one_of f
first Name t f = f
first Pair t f = one_of f
first Stmt t f = f
first Elif t f = f
first Def t f = record { at = (one_of (f kind.Method).0).at }

next : {i : Item} {x : Tree (some i)} {y : Tree (a i)} {d : Steps} (e : Steps) → Made (growing i) x d → Made (growing i) (tree.one y) (ending i e) → Made (growing i) (tree.more x y) (d › parted i (ending i e › run act.list_join))
next {i = Expr} e f g = comma_joined f g
next {i = Name} e f g = comma_joined f g
next {i = Pair} e f g = comma_joined f g
next {i = Stmt} e f g = joined_by f g
next {i = Elif} e f g = joined_by f g
next {i = Def} e f g = joined_by f g

pub built : {s : Sort} (l : Level) (t : Tree s) → Built s l t
unfolding write
built l (tree.name w n) = for_name w n
built l (tree.literal c n) = fitted (by_build _) {d = 0} F tt (for_literal c n) l
built l (tree.variable (tree.name w n)) = fitted (by_build _) {d = 0} F tt (for_variable w n) l
built l (tree.unary g x) = fitted (by_build _) {d = 0} G tt (for_unary g (built G x)) l
built l (tree.binary o x y) = fitted (by_build _) {d = 0} (level_of o) (own o) (for_op x y o (write (level_of o) x) (write (below o) y) (built (level_of o) x) (built (below o) y)) l
built l (tree.compare c) = fitted (by_build _) {d = 0} C tt (for_compare (built X c)) l
built l (tree.attribute x (tree.name w n)) = fitted (by_build _) {d = 0} F tt (for_attribute w n (built F x)) l
built l (tree.apply x y) = fitted (by_build _) {d = 0} F tt (for_apply (built F x) (built X y)) l
built l (tree.index x y) = fitted (by_build _) {d = 0} F tt (for_index (built F x) (built X y)) l
built l (tree.bracket b x) = fitted (by_build _) {d = 0} F tt (for_bracket b (built X x)) l
built l (tree.void v) = fitted (by_build _) {d = 0} F tt (for_void v) l
built l (tree.dict x) = fitted (by_build _) {d = 0} F tt (for_dict (built X x)) l
built l (tree.set x) = fitted (by_build _) {d = 0} F tt (for_set (built X x)) l
built l (tree.single x) = either (tree.single x) l (single_bare (built X x)) (single_in_parens (built X x))
built l (tree.tuple x) = either (tree.tuple x) l (bare (built X x)) (in_parens (built X x))
built l (tree.lambda x y) = fitted (by_build _) {d = 0} E tt (for_lambda (built X x) (built X y)) l
built l (tree.pair x y) = for_pair (built X x) (built X y)
built l (tree.two o x y) = for_two o (built S x) (built S y)
built l (tree.link x o y) = for_link o (built X x) (built S y)
built l (tree.both x y) = for_both (built X x) (built X y)
built l (tree.also x y) = for_also x (built X x) (built X y)
built l (tree.one {i} x) = first i x (built X x)
built l (tree.more {i} x y) = next (write X y) (built X x) (first i y (built X y))
built l (tree.nil {i}) = for_nil i
built l (tree.full x) = for_full (built X x)
built l (tree.expression x) = simply (for_expression (built Lt x))
built l (tree.assign x y) = simply (for_assign (built Lt x) (built Lt y))
built l (tree.return x) = simply (for_return (built Lt x))
built l (tree.alone w) = simply (for_alone w)
built l (tree.branch x b y z) = one_of (for_branch (built X x) (body (built X b)) (built X y) (built X z))
built l (tree.while x b) = one_of (for_while (built X x) (body (built X b)))
built l (tree.for (tree.name w n) x b) = one_of (for_for w n (built X x) (body (built X b)))
built l (tree.define x) = one_of (built X x kind.Def).1
built l (tree.class (tree.name w n) x) = one_of (for_class w n (body (methods (built X x))))
built l (tree.def (tree.name w n) x b) = λ k. (for_def w n k (built X x) (body (built X b)), for_define w n k (built X x) (body (built X b)))
built l (tree.elif x b) = for_elif (built X x) (body (built X b))
built l tree.without = for_without
built l (tree.otherwise b) = for_else (body (built X b))
built l (tree.program x) = for_program (built X x)
