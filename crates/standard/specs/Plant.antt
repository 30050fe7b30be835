-- Trees with no places from erased trees. For contracts of the writer's inner functions and for proofs, as Bare.antt.
-- Assumes nothing.
use Rattle.std.specs.Prelude.{ℕ, List, [], ◌∷◌, get_or, drop}
use Rattle.ast.specs.Kind as kind
use Rattle.unparse.specs.Trees.{Sign, Op, Comparison, Bracket, Void, Word, Literal, Load, alone_kind}
use Rattle.unparse.specs.Trees as to
use Rattle.standard.specs.Bare.{Bare, b_node, b_end, b_nil, b_word, b_child, b_list, b_more, b_one, b_full, b_first, b_link}

-- the last fields of a row, which hold nothing
abbrev pub free₁ : Bare
free₁ = b_word 0 b_end

abbrev pub free₂ : Bare
free₂ = b_word 0 free₁

abbrev pub free₃ : Bare
free₃ = b_word 0 free₂

abbrev pub free₄ : Bare
free₄ = b_word 0 free₃

abbrev pub spelling : to.Tree (to.a to.Name) → List ℕ
spelling (to.name Word.tee l) = 116 ∷ []
spelling (to.name Word.identifier l) = l

abbrev pub sign_number : Sign → ℕ
sign_number Sign.negation = 1
sign_number Sign.negative = 2
sign_number Sign.positive = 3

abbrev pub op_number : Op → ℕ
op_number Op.plus = 1
op_number Op.minus = 2
op_number Op.star = 3
op_number Op.slash = 4
op_number Op.slashes = 5
op_number Op.percent = 6
op_number Op.and = 13
op_number Op.or = 14

abbrev pub comparison_number : Comparison → ℕ
comparison_number Comparison.equal = 7
comparison_number Comparison.not_equal = 8
comparison_number Comparison.less = 9
comparison_number Comparison.less_equal = 10
comparison_number Comparison.greater = 11
comparison_number Comparison.greater_equal = 12

abbrev pub leaf_b : Literal → Load → Bare
leaf_b Literal.int l = b_node kind.Int [] (b_word (get_or l 0 0) (b_word (get_or l 1 0) free₂))
leaf_b Literal.bool l = b_node kind.Bool [] (b_word (get_or l 0 0) free₃)
leaf_b Literal.string l = b_node kind.String l free₄
leaf_b Literal.float l = b_node kind.Float (drop 2 l) (b_word (get_or l 0 0) (b_word (get_or l 1 0) free₂))
leaf_b Literal.none l = b_node kind.None [] free₄

abbrev pub void_b : Void → Bare
void_b Void.no_pairs = b_node kind.Dict [] (b_list b_nil free₃)
void_b Void.no_members = b_node kind.Tuple [] (b_list b_nil free₃)

abbrev pub bracket_kind : Bracket → ℕ
bracket_kind Bracket.squares = kind.List
bracket_kind Bracket.treeset = kind.TreeSet

unfoldable pub plant : {s : to.Sort} → to.Tree s → Bare
plant (to.name w l) = b_node kind.Name (spelling (to.name w l)) free₄
plant (to.literal c l) = leaf_b c l
plant (to.variable x) = b_node kind.Variable (spelling x) free₄
plant (to.unary g x) = b_node kind.Unary [] (b_word (sign_number g) (b_child (plant x) free₂))
plant (to.binary o x y) = b_node kind.Binary [] (b_word (op_number o) (b_child (plant x) (b_child (plant y) free₁)))
plant (to.compare c) = plant c
plant (to.attribute x n) = b_node kind.Attribute (spelling n) (b_child (plant x) free₃)
plant (to.apply x l) = b_node kind.Call [] (b_child (plant x) (b_list (plant l) free₂))
plant (to.index x y) = b_node kind.Index [] (b_child (plant x) (b_child (plant y) free₂))
plant (to.bracket b x) = b_node (bracket_kind b) [] (b_list (plant x) free₃)
plant (to.void v) = void_b v
plant (to.dict x) = b_node kind.Dict [] (b_list (b_full (plant x)) free₃)
plant (to.set x) = b_node kind.Set [] (b_list (b_full (plant x)) free₃)
plant (to.single x) = b_node kind.Tuple [] (b_list (b_full (b_one (plant x))) free₃)
plant (to.tuple x) = b_node kind.Tuple [] (b_list (b_full (plant x)) free₃)
plant (to.lambda l x) = b_node kind.Lambda [] (b_list (plant l) (b_child (plant x) free₂))
plant (to.pair x y) = b_node kind.Pair [] (b_child (plant x) (b_child (plant y) free₂))
plant (to.two o x y) = b_first (comparison_number o) (plant x) (plant y)
plant (to.link c o y) = b_link (comparison_number o) (plant c) (plant y)
plant (to.both x y) = b_more (b_one (plant x)) (plant y)
plant (to.also x y) = b_more (plant x) (plant y)
plant (to.one x) = b_one (plant x)
plant (to.more l x) = b_more (plant l) (plant x)
plant to.nil = b_nil
plant (to.full x) = b_full (plant x)
plant (to.expression x) = b_node kind.Expr [] (b_child (plant x) free₃)
plant (to.assign x y) = b_node kind.Assign [] (b_child (plant x) (b_child (plant y) free₂))
plant (to.return x) = b_node kind.Return [] (b_child (plant x) free₃)
plant (to.alone w) = b_node (alone_kind w) [] free₄
plant (to.branch x b y z) = b_node kind.If [] (b_child (plant x) (b_list (plant b) (b_list (plant y) (b_list (plant z) b_end))))
plant (to.while x b) = b_node kind.While [] (b_child (plant x) (b_list (plant b) free₂))
plant (to.for n x b) = b_node kind.For (spelling n) (b_word 0 (b_word 0 (b_child (plant x) (b_list (plant b) b_end))))
plant (to.define (to.def n l b)) = b_node kind.Def (spelling n) (b_word 0 (b_word 0 (b_list (plant l) (b_list (plant b) b_end))))
plant (to.class n l) = b_node kind.Class (spelling n) (b_word 0 (b_word 0 (b_list (b_full (plant l)) free₁)))
plant (to.def n l b) = b_node kind.Method (spelling n) (b_word 0 (b_word 0 (b_list (plant l) (b_list (plant b) b_end))))
plant (to.elif x b) = b_node kind.Elif [] (b_child (plant x) (b_list (plant b) free₂))
plant to.without = b_nil
plant (to.otherwise b) = b_full (b_one (b_node kind.Else [] (b_list (plant b) free₃)))
plant (to.program l) = b_node kind.Program [] (b_list (plant l) free₃)
