-- Every tree is read as it is written: one induction over the family of trees.
-- Assumes nothing.
use mathlib.Core.List.{List, [], ◌∷◌}
use Prim.Native.Nat.{ℕ, ◌≤◌}
use lib.Dec.{T}
use Rattle.grammar.specs.Sets.{sees}
use Rattle.grammar.specs.Grammar.{call}
use Rattle.grammar.specs.Trial.{Machine}
use Rattle.grammar.proofs.Ways.{Way}
use Rattle.token.specs.Code.{Eof}
use Rattle.ast.specs.Kind as kind
use Rattle.pyhyeon.specs.Action.{Action}
use Rattle.pyhyeon.specs.Rules as rule
use Rattle.pyhyeon.specs.Tables.{pyhyeon}
use Rattle.unparse.specs.Trees.{Item, Expr, Name, Pair, Stmt, Elif, Def, Sort, a, some, list, chain, several, other, script, Tree}
use Rattle.unparse.specs.Trees as tree
use Rattle.unparse.specs.Levels.{Level, X, E, C, G, F, S, T as Lt, level_of, below}
use Rattle.unparse.proofs.Write.{symbols, perform, write, need}
use Rattle.unparse.proofs.Levels.{part, Fits, proper, by_rules, fitted}
use Rattle.unparse.proofs.Lists.{Grows, Member, listed, first, next, whole, nothing}
use Rattle.unparse.proofs.Exprs.{Chained, Several, for_name, for_literal, for_variable, for_unary, for_binary, for_two, for_link, for_compare, for_attribute, for_apply, for_index, for_bracket, for_void, for_dict, for_set, for_single, for_both, for_also, for_tuple, for_lambda, for_pair}
use Rattle.unparse.proofs.Stmts.{else_part, for_expression, for_assign, for_return, for_alone, for_branch, for_while, for_for, for_def, for_define, for_class, for_elif, for_else, for_without, for_program}

-- an operator's level is one that an expression may have
pub own : (o : tree.Op) → T (proper (level_of o))
own tree.Op.or = tt
own tree.Op.and = tt
own tree.Op.plus = tt
own tree.Op.minus = tt
own tree.Op.star = tt
own tree.Op.slashes = tt
own tree.Op.slash = tt
own tree.Op.percent = tt

module _ (M : Machine Action) where
  -- what is read, by its sort
  abbrev pub Holds : (s : Sort) → Level → Tree s → Type 0
  Holds (a Expr) l t = Fits M (need l t) (part l) (write l t)
  Holds (a Name) l t = Member M (need l t) Name (write l t)
  Holds (a Pair) l t = Member M (need l t) Pair (write l t)
  Holds (a Stmt) l t = Member M (need l t) Stmt (write l t)
  Holds (a Elif) l t = Member M (need l t) Elif (write l t)
  Holds (a Def) l t = Member M (need l t) Def (write l t)
  Holds (some i) l t = Grows M (need l t) i (write l t)
  Holds (list i) l t = Fits M (need l t) (listed i) (write l t)
  Holds chain l t = Chained M (need l t) (write l t)
  Holds several l t = Several M (need l t) (write l t)
  Holds other l t = Fits M (need l t) else_part (write l t)
  Holds script l t = (m : ℕ) → need l t ≤ m → (r : List ℕ) (k : M.Kept) → T (sees (Eof ∷ []) r) →
      Way pyhyeon M m (call rule.Program) (symbols (write l t) r) k r (perform M (write l t) k)

  -- a member of a list
  as_member : (i : Item) (t : Tree (a i)) → Holds (a i) X t → Member M (need X t) i (write X t)
  unfolding part
  as_member Expr t f = f
  as_member Name t f = f
  as_member Pair t f = f
  as_member Stmt t f = f
  as_member Elif t f = f
  as_member Def t f = f

  pub holds : {s : Sort} (l : Level) (t : Tree s) → Holds s l t
  unfolding write need
  holds l (tree.name w n) = for_name w n
  holds l (tree.literal c n) = fitted by_rules F tt (for_literal c n) l
  holds l (tree.variable (tree.name w n)) = fitted by_rules F tt (for_variable w n) l
  holds l (tree.unary g x) = fitted by_rules G tt (for_unary g (holds G x)) l
  holds l (tree.binary o x y) = fitted by_rules (level_of o) (own o) (for_binary o (holds (level_of o) x) (holds (below o) y)) l
  holds l (tree.compare c) = fitted by_rules C tt (for_compare (holds X c)) l
  holds l (tree.attribute x (tree.name w n)) = fitted by_rules F tt (for_attribute w n (holds F x)) l
  holds l (tree.apply x y) = fitted by_rules F tt (for_apply (holds F x) (holds X y)) l
  holds l (tree.index x y) = fitted by_rules F tt (for_index (holds F x) (holds X y)) l
  holds l (tree.bracket b x) = fitted by_rules F tt (for_bracket b (holds X x)) l
  holds l (tree.void v) = fitted by_rules F tt (for_void v) l
  holds l (tree.dict x) = fitted by_rules F tt (for_dict (holds X x)) l
  holds l (tree.set x) = fitted by_rules F tt (for_set (holds X x)) l
  holds l (tree.single x) = for_single l (holds X x)
  holds l (tree.tuple x) = for_tuple l (holds X x)
  holds l (tree.lambda x y) = fitted by_rules E tt (for_lambda (holds X x) (holds X y)) l
  holds l (tree.pair x y) = for_pair (holds X x) (holds X y)
  holds l (tree.two o x y) = for_two o (holds S x) (holds S y)
  holds l (tree.link x o y) = for_link o (holds X x) (holds S y)
  holds l (tree.both x y) = for_both (holds X x) (holds X y)
  holds l (tree.also x y) = for_also (holds X x) (holds X y)
  holds l (tree.one {i} x) = first (need X x) (write X x) i (as_member i x (holds X x))
  holds l (tree.more {i} x y) = next (need X y) (write X y) i (holds X x) (as_member i y (holds X y))
  holds l (tree.nil {i}) = nothing i
  holds l (tree.full {i} x) = whole i (holds X x)
  holds l (tree.expression x) = for_expression (holds Lt x)
  holds l (tree.assign x y) = for_assign (holds Lt x) (holds Lt y)
  holds l (tree.return x) = for_return (holds Lt x)
  holds l (tree.alone w) = for_alone w
  holds l (tree.branch x b y z) = for_branch (holds X x) (holds X b) (holds X y) (holds X z)
  holds l (tree.while x b) = for_while (holds X x) (holds X b)
  holds l (tree.for (tree.name w n) x b) = for_for (for_name w n) (holds X x) (holds X b)
  holds l (tree.define x) = for_define (holds X x kind.Def)
  holds l (tree.class (tree.name w n) x) = for_class (for_name w n) (holds X x)
  holds l (tree.def (tree.name w n) x b) = for_def (for_name w n) (holds X x) (holds X b)
  holds l (tree.elif x b) = for_elif (holds X x) (holds X b)
  holds l tree.without = for_without
  holds l (tree.otherwise b) = for_else (holds X b)
  holds l (tree.program x) = for_program (holds X x)
