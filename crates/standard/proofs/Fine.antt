-- What the writer asks of a tree: something of each leaf, and that every block has a statement.
-- Assumes nothing.
use Rattle.unparse.specs.Trees.{Item, Sort, Word, Literal, Load}
use Rattle.unparse.specs.Trees as tree

abbrev pub Filled : tree.Tree (Sort.list Item.Stmt) → Type 0
Filled tree.nil = ⊥
Filled (tree.full x) = Unit {0}

-- W of each name and L of each literal
module _ (W : Word → Load → Type 0) (L : Literal → Load → Type 0) where
  unfoldable pub Fine : {s : Sort} → tree.Tree s → Type 0
  Fine (tree.name w l) = W w l
  Fine (tree.literal c l) = L c l
  Fine (tree.variable x) = Fine x
  Fine (tree.unary g x) = Fine x
  Fine (tree.binary o x y) = Fine x × Fine y
  Fine (tree.compare c) = Fine c
  Fine (tree.attribute x n) = Fine x × Fine n
  Fine (tree.apply x y) = Fine x × Fine y
  Fine (tree.index x y) = Fine x × Fine y
  Fine (tree.bracket b x) = Fine x
  Fine (tree.void v) = Unit {0}
  Fine (tree.dict x) = Fine x
  Fine (tree.set x) = Fine x
  Fine (tree.single x) = Fine x
  Fine (tree.tuple x) = Fine x
  Fine (tree.lambda x y) = Fine x × Fine y
  Fine (tree.pair x y) = Fine x × Fine y
  Fine (tree.two o x y) = Fine x × Fine y
  Fine (tree.link c o y) = Fine c × Fine y
  Fine (tree.both x y) = Fine x × Fine y
  Fine (tree.also x y) = Fine x × Fine y
  Fine (tree.one x) = Fine x
  Fine (tree.more x y) = Fine x × Fine y
  Fine tree.nil = Unit {0}
  Fine (tree.full x) = Fine x
  Fine (tree.expression x) = Fine x
  Fine (tree.assign x y) = Fine x × Fine y
  Fine (tree.return x) = Fine x
  Fine (tree.alone w) = Unit {0}
  Fine (tree.branch x b y z) = Fine x × Filled b × Fine b × Fine y × Fine z
  Fine (tree.while x b) = Fine x × Filled b × Fine b
  Fine (tree.for n x b) = Fine n × Fine x × Filled b × Fine b
  Fine (tree.define x) = Fine x
  Fine (tree.class n x) = Fine n × Fine x
  Fine (tree.def n x b) = Fine n × Fine x × Filled b × Fine b
  Fine (tree.elif x b) = Fine x × Filled b × Fine b
  Fine tree.without = Unit {0}
  Fine (tree.otherwise b) = Filled b × Fine b
  Fine (tree.program x) = Fine x
