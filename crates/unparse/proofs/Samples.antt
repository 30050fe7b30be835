-- Scripts, and the symbols that their trees are written as: of each but the last, those of the text that tools/reference/write.py writes for the script in quotes.
-- Assumes nothing.
use mathlib.Core.Path.{◌≡◌, refl}
use mathlib.Core.List.{[], ◌∷◌}
use Rattle.unparse.specs.Trees.{Expr, Name, a, Tree, Literal, Word, Sign, Op, Comparison, Alone, Bracket, Void}
use Rattle.unparse.specs.Trees as tree
use Rattle.unparse.specs.Levels.{X}
use Rattle.unparse.proofs.Write.{fit, write, print}

-- a name; a variable; an Int
abbrev n : Tree (a Name)
n = tree.name Word.identifier []

abbrev v : Tree (a Expr)
v = tree.variable n

abbrev one : Tree (a Expr)
one = tree.literal Literal.int []

record Samples : Type 0 where
  -- '(a - b) - c\n'
  s0 : print X (tree.program (tree.full (tree.one (tree.expression (tree.binary Op.minus (tree.binary Op.minus v v) v))))) ≡ 21 ∷ 24 ∷ 21 ∷ 24 ∷ 21 ∷ 48 ∷ []
  -- 'a - (b - c)\n'
  s1 : print X (tree.program (tree.full (tree.one (tree.expression (tree.binary Op.minus v (tree.binary Op.minus v v)))))) ≡ 21 ∷ 24 ∷ 36 ∷ 21 ∷ 24 ∷ 21 ∷ 37 ∷ 48 ∷ []
  -- 'not (a == b)\nnot a == b\n'
  s2 : print X (tree.program (tree.full (tree.more (tree.one (tree.expression (tree.unary Sign.negation (tree.compare (tree.two Comparison.equal v v))))) (tree.expression (tree.compare (tree.two Comparison.equal (tree.unary Sign.negation v) v)))))) ≡ 11 ∷ 36 ∷ 21 ∷ 29 ∷ 21 ∷ 37 ∷ 48 ∷ 11 ∷ 21 ∷ 29 ∷ 21 ∷ 48 ∷ []
  -- '- (a.b)(c)[1]\n(- a).b\n'
  s3 : print X (tree.program (tree.full (tree.more (tree.one (tree.expression (tree.unary Sign.negative (tree.index (tree.apply (tree.attribute v n) (tree.full (tree.one v))) one)))) (tree.expression (tree.attribute (tree.unary Sign.negative v) n))))) ≡ 24 ∷ 21 ∷ 45 ∷ 21 ∷ 36 ∷ 21 ∷ 37 ∷ 38 ∷ 19 ∷ 39 ∷ 48 ∷ 36 ∷ 24 ∷ 21 ∷ 37 ∷ 45 ∷ 21 ∷ 48 ∷ []
  -- '(a < b) < c\na < (b < c) == c\n'
  s4 : print X (tree.program (tree.full (tree.more (tree.one (tree.expression (tree.compare (tree.two Comparison.less (tree.compare (tree.two Comparison.less v v)) v)))) (tree.expression (tree.compare (tree.link (tree.two Comparison.less v (tree.compare (tree.two Comparison.less v v))) Comparison.equal v)))))) ≡ 36 ∷ 21 ∷ 31 ∷ 21 ∷ 37 ∷ 31 ∷ 21 ∷ 48 ∷ 21 ∷ 31 ∷ 36 ∷ 21 ∷ 31 ∷ 21 ∷ 37 ∷ 29 ∷ 21 ∷ 48 ∷ []
  -- 'a < b and b < c\n'
  s5 : print X (tree.program (tree.full (tree.one (tree.expression (tree.binary Op.and (tree.compare (tree.two Comparison.less v v)) (tree.compare (tree.two Comparison.less v v))))))) ≡ 21 ∷ 31 ∷ 21 ∷ 9 ∷ 21 ∷ 31 ∷ 21 ∷ 48 ∷ []
  -- '(a or b) and c or d\n'
  s6 : print X (tree.program (tree.full (tree.one (tree.expression (tree.binary Op.or (tree.binary Op.and (tree.binary Op.or v v) v) v))))) ≡ 36 ∷ 21 ∷ 10 ∷ 21 ∷ 37 ∷ 9 ∷ 21 ∷ 10 ∷ 21 ∷ 48 ∷ []
  -- '(a, b), c\nreturn ())\n'
  s7 : print X (tree.program (tree.full (tree.more (tree.one (tree.expression (tree.tuple (tree.both (tree.tuple (tree.both v v)) v)))) (tree.return (tree.void Void.no_members))))) ≡ 36 ∷ 21 ∷ 43 ∷ 21 ∷ 37 ∷ 43 ∷ 21 ∷ 48 ∷ 8 ∷ 36 ∷ 37 ∷ 37 ∷ 48 ∷ []
  -- 'x = (1, 2)\nreturn 1,\na, = (b,), \n(a,).b\n'
  s8 : print X (tree.program (tree.full (tree.more (tree.more (tree.more (tree.one (tree.assign v (tree.tuple (tree.both one one)))) (tree.return (tree.single one))) (tree.assign (tree.single v) (tree.single (tree.single v)))) (tree.expression (tree.attribute (tree.single v) n))))) ≡ 21 ∷ 35 ∷ 19 ∷ 43 ∷ 19 ∷ 48 ∷ 8 ∷ 19 ∷ 43 ∷ 48 ∷ 21 ∷ 43 ∷ 35 ∷ 36 ∷ 21 ∷ 43 ∷ 37 ∷ 43 ∷ 48 ∷ 36 ∷ 21 ∷ 43 ∷ 37 ∷ 45 ∷ 21 ∷ 48 ∷ []
  -- '(lambda: a)(b), lambda a, b: a or b\n'
  s9 : print X (tree.program (tree.full (tree.one (tree.expression (tree.tuple (tree.both (tree.apply (tree.lambda tree.nil v) (tree.full (tree.one v))) (tree.lambda (tree.full (tree.more (tree.one n) n)) (tree.binary Op.or v v)))))))) ≡ 36 ∷ 16 ∷ 42 ∷ 21 ∷ 37 ∷ 36 ∷ 21 ∷ 37 ∷ 43 ∷ 16 ∷ 21 ∷ 43 ∷ 21 ∷ 42 ∷ 21 ∷ 10 ∷ 21 ∷ 48 ∷ []
  -- '{a: (b, c), (lambda: a): b}\n{}\n{a, b,}\nt{}\nt{t}\n'
  s10 : print X (tree.program (tree.full (tree.more (tree.more (tree.more (tree.more (tree.one (tree.expression (tree.dict (tree.more (tree.one (tree.pair v (tree.tuple (tree.both v v)))) (tree.pair (tree.lambda tree.nil v) v))))) (tree.expression (tree.void Void.no_pairs))) (tree.expression (tree.set (tree.more (tree.one v) v)))) (tree.expression (tree.bracket Bracket.treeset tree.nil))) (tree.expression (tree.bracket Bracket.treeset (tree.full (tree.one (tree.variable (tree.name Word.tee []))))))))) ≡ 40 ∷ 21 ∷ 42 ∷ 36 ∷ 21 ∷ 43 ∷ 21 ∷ 37 ∷ 43 ∷ 16 ∷ 42 ∷ 21 ∷ 42 ∷ 21 ∷ 41 ∷ 48 ∷ 40 ∷ 41 ∷ 48 ∷ 40 ∷ 21 ∷ 43 ∷ 21 ∷ 41 ∷ 48 ∷ 50 ∷ 40 ∷ 41 ∷ 48 ∷ 50 ∷ 40 ∷ 50 ∷ 41 ∷ 48 ∷ []
  -- 'if a:\n  if b: c\n  else: d\nelif e: f; g\nelse:\n  pass\n'
  s11 : print X (tree.program (tree.full (tree.one (tree.branch v (tree.full (tree.one (tree.branch v (tree.full (tree.one (tree.expression v))) tree.nil (tree.otherwise (tree.full (tree.one (tree.expression v))))))) (tree.full (tree.one (tree.elif v (tree.full (tree.more (tree.one (tree.expression v)) (tree.expression v)))))) (tree.otherwise (tree.full (tree.one (tree.alone Alone.pass)))))))) ≡ 1 ∷ 21 ∷ 42 ∷ 48 ∷ 46 ∷ 1 ∷ 21 ∷ 42 ∷ 48 ∷ 46 ∷ 21 ∷ 48 ∷ 47 ∷ 3 ∷ 42 ∷ 48 ∷ 46 ∷ 21 ∷ 48 ∷ 47 ∷ 47 ∷ 2 ∷ 21 ∷ 42 ∷ 48 ∷ 46 ∷ 21 ∷ 48 ∷ 21 ∷ 48 ∷ 47 ∷ 3 ∷ 42 ∷ 48 ∷ 46 ∷ 15 ∷ 48 ∷ 47 ∷ []
  -- 'class A:\n  def f(a, b): return a, b\n  def g(): break\nfor a in b:\n  while c: continue\n'
  s12 : print X (tree.program (tree.full (tree.more (tree.one (tree.class n (tree.more (tree.one (tree.def n (tree.full (tree.more (tree.one n) n)) (tree.full (tree.one (tree.return (tree.tuple (tree.both v v))))))) (tree.def n tree.nil (tree.full (tree.one (tree.alone Alone.break))))))) (tree.for n v (tree.full (tree.one (tree.while v (tree.full (tree.one (tree.alone Alone.continue)))))))))) ≡ 12 ∷ 21 ∷ 42 ∷ 48 ∷ 46 ∷ 7 ∷ 21 ∷ 36 ∷ 21 ∷ 43 ∷ 21 ∷ 37 ∷ 42 ∷ 48 ∷ 46 ∷ 8 ∷ 21 ∷ 43 ∷ 21 ∷ 48 ∷ 47 ∷ 7 ∷ 21 ∷ 36 ∷ 37 ∷ 42 ∷ 48 ∷ 46 ∷ 13 ∷ 48 ∷ 47 ∷ 47 ∷ 5 ∷ 21 ∷ 6 ∷ 21 ∷ 42 ∷ 48 ∷ 46 ∷ 4 ∷ 21 ∷ 42 ∷ 48 ∷ 46 ∷ 14 ∷ 48 ∷ 47 ∷ 47 ∷ []
  -- '- - not a * b % c // d\n'
  s13 : print X (tree.program (tree.full (tree.one (tree.expression (tree.binary Op.slashes (tree.binary Op.percent (tree.binary Op.star (tree.unary Sign.negative (tree.unary Sign.negative (tree.unary Sign.negation v))) v) v) v))))) ≡ 24 ∷ 24 ∷ 11 ∷ 21 ∷ 25 ∷ 21 ∷ 28 ∷ 21 ∷ 26 ∷ 21 ∷ 48 ∷ []
  -- '(a + b) * (c - (d - e))\n'
  s14 : print X (tree.program (tree.full (tree.one (tree.expression (tree.binary Op.star (tree.binary Op.plus v v) (tree.binary Op.minus v (tree.binary Op.minus v v))))))) ≡ 36 ∷ 21 ∷ 23 ∷ 21 ∷ 37 ∷ 25 ∷ 36 ∷ 21 ∷ 24 ∷ 36 ∷ 21 ∷ 24 ∷ 21 ∷ 37 ∷ 37 ∷ 48 ∷ []
  -- 'while a:\n' and 'def f():\n', each with a block that has no statement: an Indent and at once its Dedent
  s15 : print X (tree.program (tree.full (tree.more (tree.one (tree.while v tree.nil)) (tree.define (tree.def n tree.nil tree.nil))))) ≡ 4 ∷ 21 ∷ 42 ∷ 48 ∷ 46 ∷ 47 ∷ 7 ∷ 21 ∷ 36 ∷ 37 ∷ 42 ∷ 48 ∷ 46 ∷ 47 ∷ []

samples : Samples
unfolding fit write print
samples = record { s0 = refl; s1 = refl; s2 = refl; s3 = refl; s4 = refl; s5 = refl; s6 = refl; s7 = refl; s8 = refl; s9 = refl; s10 = refl; s11 = refl; s12 = refl; s13 = refl; s14 = refl; s15 = refl }
