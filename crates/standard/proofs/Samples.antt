-- The standard text of some scripts, computed: each sentence of 02's change 6 on the look of a text is seen in one.
-- Assumes nothing.
use Prim.Native.Nat.{ℕ}
use mathlib.Core.Path.{◌≡◌, refl}
use mathlib.Core.Bool.{true, false}
use mathlib.Core.List.{List, [], ◌∷◌, ◌++◌, map}
use lib.ListN.{replicate}
use Rattle.source.specs.Text.{bytes}
use Rattle.numbers.specs.Digits.{digits}
use Rattle.raw_token.specs.Table.{table}
use Rattle.rendered.specs.Spelled.{spelled_fixed, letter, escaped_all}
use Rattle.unparse.specs.Trees.{Expr, Name, Stmt, Word, Sign, Op, Comparison, Alone, Bracket, Void, Literal}
use Rattle.unparse.specs.Trees as to
use Rattle.ast.specs.Kind as kind
use Rattle.ast.specs.Node.{Node, none, made}
use Rattle.standard.specs.Hollow.{hollow}
use Rattle.standard.specs.Text.{fit_text, text, standard_text}

abbrev n : ℕ → to.Tree (to.a Name)
n c = to.name Word.identifier (c ∷ [])

abbrev v : ℕ → to.Tree (to.a Expr)
v c = to.variable (n c)

abbrev a : to.Tree (to.a Expr)
a = v 97

abbrev b : to.Tree (to.a Expr)
b = v 98

abbrev c : to.Tree (to.a Expr)
c = v 99

abbrev int : ℕ → ℕ → to.Tree (to.a Expr)
int low high = to.literal Literal.int (low ∷ high ∷ [])

abbrev string : List ℕ → to.Tree (to.a Expr)
string l = to.literal Literal.string l

abbrev pairs : to.Tree (to.list Expr)
pairs = to.full (to.more (to.one a) b)

abbrev params : to.Tree (to.list Name)
params = to.full (to.more (to.one (n 97)) (n 98))

abbrev sum : to.Tree (to.a Expr)
sum = to.binary Op.plus a b

abbrev minus : to.Tree (to.a Expr) → to.Tree (to.a Expr)
minus x = to.unary Sign.negative x

abbrev thunk : to.Tree (to.a Expr)
thunk = to.lambda to.nil a

-- a script of one statement; of one expression
abbrev script : to.Tree (to.a Stmt) → List ℕ
script s = standard_text (to.program (to.full (to.one s)))

abbrev line : to.Tree (to.a Expr) → List ℕ
line x = script (to.expression x)

abbrev body : to.Tree (to.a Stmt) → to.Tree (to.list Stmt)
body s = to.full (to.one s)

abbrev feed : List ℕ → List ℕ
feed l = l ++ 10 ∷ []

record Expressions : Type 0 where
  -- "a space around binary operators and after unary ones"
  binary : line (to.binary Op.plus a (to.binary Op.slashes b c)) ≡ feed (bytes "a + b // c")
  unary : line (to.unary Sign.negative (to.unary Sign.negation (int 1 0))) ≡ feed (bytes "- not 1")
  words : line (to.binary Op.or a (to.binary Op.and b c)) ≡ feed (bytes "a or b and c")
  -- "parentheses only where the tree needs them"
  right : line (to.binary Op.minus a (to.binary Op.minus b c)) ≡ feed (bytes "a - (b - c)")
  left : line (to.binary Op.minus (to.binary Op.minus a b) c) ≡ feed (bytes "a - b - c")
  tighter : line (to.binary Op.star (to.binary Op.plus a b) c) ≡ feed (bytes "(a + b) * c")
  signed : line (to.unary Sign.negative (to.binary Op.plus a b)) ≡ feed (bytes "- (a + b)")
  nested : line (to.binary Op.and a (to.binary Op.and b c)) ≡ feed (bytes "a and (b and c)")
  compared : line (to.compare (to.two Comparison.equal (to.unary Sign.negation a) (to.unary Sign.negation b))) ≡ feed (bytes "not a == not b")
  called : line (to.apply (to.lambda to.nil (int 1 0)) to.nil) ≡ feed (bytes "(lambda: 1)()")
  -- and none where a text fits the rule
  ors : line (to.binary Op.or (to.binary Op.or a b) c) ≡ feed (bytes "a or b or c")
  ands : line (to.binary Op.and (to.binary Op.and a b) c) ≡ feed (bytes "a and b and c")
  terms : line (to.compare (to.link (to.two Comparison.less sum (to.binary Op.minus b c)) Comparison.less_equal (to.binary Op.plus (to.unary Sign.negative a) b))) ≡ feed (bytes "a + b < b - c <= - a + b")
  others : line (to.compare (to.link (to.link (to.two Comparison.greater a b) Comparison.greater_equal c) Comparison.not_equal a)) ≡ feed (bytes "a > b >= c != a")
  sums : line (to.binary Op.minus (to.binary Op.plus (to.binary Op.minus a b) (to.binary Op.star c a)) (to.binary Op.slash b c)) ≡ feed (bytes "a - b + c * a - b / c")
  products : line (to.binary Op.star (to.binary Op.slash (to.binary Op.percent a (minus b)) (minus c)) (minus a)) ≡ feed (bytes "a % - b / - c * - a")
  floors : line (to.binary Op.slashes (to.binary Op.star a b) (to.unary Sign.positive c)) ≡ feed (bytes "a * b // + c")
  members : line (to.bracket Bracket.squares (to.full (to.more (to.one thunk) thunk))) ≡ feed (bytes "[lambda: a, lambda: a]")
  row : line (to.tuple (to.also (to.both thunk thunk) thunk)) ≡ feed (bytes "lambda: a, lambda: a, lambda: a")
  one : line (to.single thunk) ≡ feed (bytes "lambda: a,")
  value : line (to.dict (to.one (to.pair thunk thunk))) ≡ feed (bytes "{lambda: a: lambda: a}")
  indexed : line (to.index a thunk) ≡ feed (bytes "a[lambda: a]")
  thunks : line (to.lambda to.nil thunk) ≡ feed (bytes "lambda: lambda: a")
  nothing : line (to.apply (to.bracket Bracket.squares to.nil) (to.full (to.one thunk))) ≡ feed (bytes "[](lambda: a)")
  -- "a shared middle as a chain"
  chain : line (to.binary Op.and (to.compare (to.link (to.two Comparison.less a b) Comparison.less_equal c)) a) ≡ feed (bytes "a < b <= c and a")
  no_chain : line (to.compare (to.two Comparison.less (to.compare (to.two Comparison.less a b)) c)) ≡ feed (bytes "(a < b) < c")
  -- "list members parted by comma and space", "a space .. after the colon of a pair or lambda", "one space after .. lambda unless a colon follows"
  lists : line (to.apply (to.index (to.attribute a (n 98)) c) pairs) ≡ feed (bytes "a.b[c](a, b)")
  brackets : line (to.bracket Bracket.squares (to.full (to.one (to.bracket Bracket.treeset pairs)))) ≡ feed (bytes "[t{a, b}]")
  dict : line (to.dict (to.more (to.one (to.pair a b)) (to.pair b a))) ≡ feed (bytes "{a: b, b: a}")
  set : line (to.set (to.one a)) ≡ feed (bytes "{a}")
  lambda : line (to.lambda params (to.binary Op.plus a b)) ≡ feed (bytes "lambda a, b: a + b")
  -- "a trailing comma only in a tuple of one, non-empty tuples of a whole statement bare, the empty tuple as `())`"
  bare : line (to.tuple (to.both (to.lambda to.nil (int 1 0)) (int 2 0))) ≡ feed (bytes "lambda: 1, 2")
  within : line (to.bracket Bracket.squares (to.full (to.one (to.tuple (to.also (to.both a b) c))))) ≡ feed (bytes "[(a, b, c)]")
  single : line (to.single (to.single a)) ≡ feed (bytes "(a,),")
  empty : line (to.bracket Bracket.squares (to.full (to.one (to.void Void.no_members)))) ≡ feed (bytes "[())]")
  no_pairs : line (to.void Void.no_pairs) ≡ feed (bytes "{}")
  -- "Floats use their kept spelling, Ints the shortest digits with a minus where negative"
  float : line (to.literal Literal.float (1 ∷ 2 ∷ bytes "0.10")) ≡ feed (bytes "0.10")
  negative : line (to.binary Op.minus a (to.attribute (int 4294967295 4294967295) (n 120))) ≡ feed (bytes "a - -1.x")
  least : line (int 0 2147483648) ≡ feed (bytes "-9223372036854775808")
  -- "Strings stand in double quotes, with backslash, double quote, line feed, tab and carriage return escaped"
  quoted : line (string (97 ∷ 39 ∷ 34 ∷ 10 ∷ 9 ∷ 13 ∷ 92 ∷ 0 ∷ 195 ∷ 169 ∷ [])) ≡
      34 ∷ 97 ∷ 39 ∷ 92 ∷ 34 ∷ 92 ∷ 110 ∷ 92 ∷ 116 ∷ 92 ∷ 114 ∷ 92 ∷ 92 ∷ 0 ∷ 195 ∷ 169 ∷ 34 ∷ 10 ∷ []

record Statements : Type 0 where
  -- "a space around ="
  assign : script (to.assign (to.single a) (to.tuple (to.both b c))) ≡ feed (bytes "a, = b, c")
  return : script (to.return (to.tuple (to.both (to.literal Literal.bool (1 ∷ [])) (to.literal Literal.none [])))) ≡ feed (bytes "return True, None")
  -- "two-space blocks, one statement a line, each line ended by a line feed"; "one space after if, elif, while, for, in .., one before in"
  blocks : script (to.branch a (body (to.while b (to.full (to.more (to.one (to.expression c)) (to.alone Alone.break))))) (to.full (to.one (to.elif b (body (to.expression a))))) (to.otherwise (body (to.for (n 97) b (body (to.alone Alone.pass))))))
      ≡ feed (bytes "if a:") ++ (feed (bytes "  while b:") ++ (feed (bytes "    c") ++ (feed (bytes "    break") ++ (feed (bytes "elif b:") ++ (feed (bytes "  a") ++ (feed (bytes "else:") ++ (feed (bytes "  for a in b:") ++ feed (bytes "    pass"))))))))
  -- ".., def, class"
  class : script (to.class (n 97) (to.more (to.one (to.def (n 98) params (body (to.expression a)))) (to.def (n 99) to.nil (body (to.alone Alone.continue)))))
      ≡ feed (bytes "class a:") ++ (feed (bytes "  def b(a, b):") ++ (feed (bytes "    a") ++ (feed (bytes "  def c():") ++ feed (bytes "    continue"))))
  -- an E stands behind these keywords, and needs no parentheses
  conditions : script (to.branch thunk (body (to.expression b)) (to.full (to.more (to.one (to.elif thunk (body (to.expression c)))) (to.elif c (body (to.while thunk (body (to.for (n 98) thunk (body (to.expression a))))))))) to.without)
      ≡ feed (bytes "if lambda: a:") ++ (feed (bytes "  b") ++ (feed (bytes "elif lambda: a:") ++ (feed (bytes "  c") ++ (feed (bytes "elif c:") ++ (feed (bytes "  while lambda: a:") ++ (feed (bytes "    for b in lambda: a:") ++ feed (bytes "      a")))))))
  lines : standard_text (to.program (to.full (to.more (to.one (to.define (to.def (n 97) to.nil (body (to.return (to.literal Literal.bool (0 ∷ []))))))) (to.assign (to.tuple (to.both a b)) (string [])))))
      ≡ feed (bytes "def a():") ++ (feed (bytes "  return False") ++ feed (bytes "a, b = \"\""))
  tee : script (to.assign (to.variable (to.name Word.tee [])) (to.bracket Bracket.treeset to.nil)) ≡ feed (bytes "t = t{}")
  none : standard_text (to.program to.nil) ≡ []

expressions : Expressions
unfolding standard_text text fit_text spelled_fixed table digits letter escaped_all
expressions = record { binary = refl; unary = refl; words = refl; right = refl; left = refl; tighter = refl; signed = refl; nested = refl; compared = refl; called = refl; ors = refl; ands = refl; terms = refl; others = refl; sums = refl; products = refl; floors = refl; members = refl; row = refl; one = refl; value = refl; indexed = refl; thunks = refl; nothing = refl; chain = refl; no_chain = refl; lists = refl; brackets = refl; dict = refl; set = refl; lambda = refl; bare = refl; within = refl; single = refl; empty = refl; no_pairs = refl; float = refl; negative = refl; least = refl; quoted = refl }

statements : Statements
unfolding standard_text text fit_text spelled_fixed table digits letter escaped_all
statements = record { assign = refl; return = refl; blocks = refl; class = refl; conditions = refl; lines = refl; tee = refl; none = refl }

-- ---- which nodes are hollow

abbrev node : ℕ → ℕ → ℕ → ℕ → ℕ → Node
node k p q r s = made k 0 0 p q r s

record Blocks : Type 0 where
  empty : map hollow
      (node kind.If 0 none 0 0 ∷ node kind.While 0 none 0 0 ∷ node kind.Elif 0 none 0 0 ∷ node kind.For 0 0 0 none ∷ node kind.Def 0 0 0 none ∷ node kind.Method 0 0 0 none ∷ node kind.Else none 0 0 0 ∷ [])
      ≡ true ∷ true ∷ true ∷ true ∷ true ∷ true ∷ true ∷ []
  -- a script with no statement, an if with neither elif nor else, a def with no names, no arguments, no members
  other : map hollow
      (node kind.Program none 0 0 0 ∷ node kind.If 0 0 none none ∷ node kind.Def 0 0 none 0 ∷ node kind.Method 0 0 none 0 ∷ node kind.Call 0 none 0 0 ∷ node kind.Lambda none 0 0 0 ∷ node kind.List none 0 0 0 ∷ node kind.Dict none 0 0 0
      ∷ node kind.Tuple none 0 0 0 ∷ node kind.TreeSet none 0 0 0 ∷ node kind.Break 0 0 0 0 ∷ [])
      ≡ replicate 11 false

blocks : Blocks
blocks = record { empty = refl; other = refl }
