-- The text of an expression does not depend on the blocks that are open.
-- Assumes nothing.
use mathlib.Core.Path.{◌≡◌, refl}
use Prim.Native.Nat.{ℕ}
use Rattle.unparse.specs.Trees.{Item, Sort, a, some, list, chain, several, other, script, Tree}
use Rattle.unparse.specs.Trees as tree
use Rattle.unparse.specs.Levels.{Level, X, S, G, F, level_of, below}
use Rattle.standard.specs.Text.{text}

-- the sorts of what stands on a line
abbrev pub InLine : Item → Type 0
InLine Item.Expr = Unit {0}
InLine Item.Name = Unit {0}
InLine Item.Pair = Unit {0}
InLine Item.Stmt = ⊥
InLine Item.Elif = ⊥
InLine Item.Def = ⊥

abbrev pub Lined : Sort → Type 0
Lined (a i) = InLine i
Lined (some i) = InLine i
Lined (list i) = InLine i
Lined chain = Unit {0}
Lined several = Unit {0}
Lined other = ⊥
Lined script = ⊥

pub any_depth : {s : Sort} → Lined s → (d : ℕ) (l : Level) (x : Tree s) → text d l x ≡ text 0 l x
unfolding text
any_depth h d l (tree.name w n) = refl
any_depth h d l (tree.literal c n) = refl
any_depth h d l (tree.variable x) = rw (any_depth tt d X x)
any_depth h d l (tree.unary g x) = rw (any_depth tt d G x)
any_depth h d l (tree.binary o x y) = rw (any_depth tt d (level_of o) x, any_depth tt d (below o) y)
any_depth h d l (tree.compare c) = rw (any_depth tt d X c)
any_depth h d l (tree.two o x y) = rw (any_depth tt d S x, any_depth tt d S y)
any_depth h d l (tree.link c o y) = rw (any_depth tt d X c, any_depth tt d S y)
any_depth h d l (tree.attribute x n) = rw (any_depth tt d F x, any_depth tt d X n)
any_depth h d l (tree.apply x y) = rw (any_depth tt d F x, any_depth tt d X y)
any_depth h d l (tree.index x y) = rw (any_depth tt d F x, any_depth tt d X y)
any_depth h d l (tree.bracket b x) = rw (any_depth tt d X x)
any_depth h d l (tree.void v) = refl
any_depth h d l (tree.dict x) = rw (any_depth tt d X x)
any_depth h d l (tree.set x) = rw (any_depth tt d X x)
any_depth h d l (tree.single x) = rw (any_depth tt d X x)
any_depth h d l (tree.tuple x) = rw (any_depth tt d X x)
any_depth h d l (tree.lambda x y) = rw (any_depth tt d X x, any_depth tt d X y)
any_depth h d l (tree.pair x y) = rw (any_depth tt d X x, any_depth tt d X y)
any_depth h d l (tree.both x y) = rw (any_depth tt d X x, any_depth tt d X y)
any_depth h d l (tree.also x y) = rw (any_depth tt d X x, any_depth tt d X y)
any_depth h d l (tree.one x) = any_depth h d X x
any_depth h d l (tree.more x y) = rw (any_depth h d X x, any_depth h d X y)
any_depth h d l tree.nil = refl
any_depth h d l (tree.full x) = any_depth h d X x
any_depth h d l (tree.expression x) = absurd h
any_depth h d l (tree.assign x y) = absurd h
any_depth h d l (tree.return x) = absurd h
any_depth h d l (tree.alone w) = absurd h
any_depth h d l (tree.branch x b y z) = absurd h
any_depth h d l (tree.while x b) = absurd h
any_depth h d l (tree.for n x b) = absurd h
any_depth h d l (tree.define x) = absurd h
any_depth h d l (tree.class n x) = absurd h
any_depth h d l (tree.def n x b) = absurd h
any_depth h d l (tree.elif x b) = absurd h
any_depth h d l tree.without = absurd h
any_depth h d l (tree.otherwise b) = absurd h
any_depth h d l (tree.program x) = absurd h
