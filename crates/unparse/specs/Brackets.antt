-- What a list comes to where a node has it: in brackets, or as the methods of a Class.
-- Assumes nothing.
use Rattle.std.specs.Prelude.{ℕ, cond, eqb}
use Rattle.ast.specs.Kind as kind
use Rattle.unparse.specs.Trees.{Item, Expr, Pair, a, some, list, several, Bracket, Void, Tree}
use Rattle.unparse.specs.Trees as tree
use Rattle.unparse.specs.Values.{singles}

-- a list that is not empty: the members of a Set, the methods of a Class
unfoldable pub filled : {i : Item} → Tree (list i) → Tree (some i)
filled {i} tree.nil = singles i
filled (tree.full x) = x

-- the members of a tuple: two or more; any
unfoldable pub several_of : Tree (some Expr) → Tree (a Expr) → Tree several
several_of (tree.one x) y = tree.both x y
several_of (tree.more g x) y = tree.also (several_of g x) y

unfoldable pub tuple_of : Tree (some Expr) → Tree (a Expr)
unfolding several_of
tuple_of (tree.one x) = tree.single x
tuple_of (tree.more g y) = tree.tuple (several_of g y)

-- a Dict and a Tuple, which may have no member
abbrev pub dict_of : Tree (list Pair) → Tree (a Expr)
dict_of tree.nil = tree.void Void.no_pairs
dict_of (tree.full x) = tree.dict x

abbrev pub group_of : Tree (list Expr) → Tree (a Expr)
group_of tree.nil = tree.void Void.no_members
group_of (tree.full x) = tuple_of x

-- what stands in brackets, by the kind of its node
unfoldable pub enclosing : ℕ → ((i : Item) → Tree (list i)) → Tree (a Expr)
unfolding filled tuple_of
enclosing c w =
    cond (eqb c kind.List) (tree.bracket Bracket.squares (w Expr)) (cond (eqb c kind.TreeSet) (tree.bracket Bracket.treeset (w Expr))
    (cond (eqb c kind.Dict) (dict_of (w Pair)) (cond (eqb c kind.Set) (tree.set (filled (w Expr))) (group_of (w Expr)))))
