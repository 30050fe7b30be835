-- Erased trees: what a script says, "apart from places, with names and strings compared by bytes" (02, change 6). One family over sorts, so that what is
-- shown of trees is one induction; lists grow on the right, as they are read.
-- Assumes nothing.
use Rattle.std.specs.Prelude.{ℕ, List}
use Rattle.token.specs.Code as token
use Rattle.ast.specs.Kind as kind
use Rattle.pyhyeon.specs.Symbol.{Tee}

-- what a list may have as its members
pub data Item : Type 0 where
  Expr Name Pair Stmt Elif Def : Item

-- a member; a list of one or more; a list; a chain of comparisons; two or more members of a tuple; what may stand after `else`; a program
pub data Sort : Type 0 where
  a some list : Item → Sort
  chain several other script : Sort

-- the literals; a name, and the one that may stand before `{`; the signs of a U; the operators of O, A, S and P; those of C (01, Grammar)
pub data Literal : Type 0 where
  int bool string float none : Literal

pub data Word : Type 0 where
  tee identifier : Word

pub data Sign : Type 0 where
  negation negative positive : Sign

pub data Op : Type 0 where
  or and plus minus star slashes slash percent : Op

pub data Comparison : Type 0 where
  less less_equal greater greater_equal equal not_equal : Comparison

-- a list, and `t{list}`; what has no member: a Dict, a Tuple; the statements of one word
pub data Bracket : Type 0 where
  squares treeset : Bracket

pub data Void : Type 0 where
  no_pairs no_members : Void

pub data Alone : Type 0 where
  break continue pass : Alone

-- what a leaf stands for: its bytes, or its words
abbrev pub Load : Type 0
Load = List ℕ

-- expressions
pub data Tree : Sort → Type 0 where
  name : Word → Load → Tree (a Name)
  literal : Literal → Load → Tree (a Expr)
  variable : Tree (a Name) → Tree (a Expr)
  unary : Sign → Tree (a Expr) → Tree (a Expr)
  binary : Op → Tree (a Expr) → Tree (a Expr) → Tree (a Expr)
  compare : Tree chain → Tree (a Expr)
  attribute : Tree (a Expr) → Tree (a Name) → Tree (a Expr)
  apply : Tree (a Expr) → Tree (list Expr) → Tree (a Expr)
  index : Tree (a Expr) → Tree (a Expr) → Tree (a Expr)
  bracket : Bracket → Tree (list Expr) → Tree (a Expr)
  void : Void → Tree (a Expr)
  dict : Tree (some Pair) → Tree (a Expr)
  set : Tree (some Expr) → Tree (a Expr)
  single : Tree (a Expr) → Tree (a Expr)  -- a Tuple of one
  tuple : Tree several → Tree (a Expr)
  lambda : Tree (list Name) → Tree (a Expr) → Tree (a Expr)
  pair : Tree (a Expr) → Tree (a Expr) → Tree (a Pair)
  -- a chain shares its middles; a tuple of two or more
  two : Comparison → Tree (a Expr) → Tree (a Expr) → Tree chain
  link : Tree chain → Comparison → Tree (a Expr) → Tree chain
  both : Tree (a Expr) → Tree (a Expr) → Tree several
  also : Tree several → Tree (a Expr) → Tree several
  -- lists
  one : {i : Item} → Tree (a i) → Tree (some i)
  more : {i : Item} → Tree (some i) → Tree (a i) → Tree (some i)
  nil : {i : Item} → Tree (list i)
  full : {i : Item} → Tree (some i) → Tree (list i)
  -- statements
  expression : Tree (a Expr) → Tree (a Stmt)
  assign : Tree (a Expr) → Tree (a Expr) → Tree (a Stmt)
  return : Tree (a Expr) → Tree (a Stmt)
  alone : Alone → Tree (a Stmt)
  -- condition, body, elifs, else; a body may have no statement, but a class has a method
  branch : Tree (a Expr) → Tree (list Stmt) → Tree (list Elif) → Tree other → Tree (a Stmt)
  while : Tree (a Expr) → Tree (list Stmt) → Tree (a Stmt)
  for : Tree (a Name) → Tree (a Expr) → Tree (list Stmt) → Tree (a Stmt)
  define : Tree (a Def) → Tree (a Stmt)
  class : Tree (a Name) → Tree (some Def) → Tree (a Stmt)
  def : Tree (a Name) → Tree (list Name) → Tree (list Stmt) → Tree (a Def)
  elif : Tree (a Expr) → Tree (list Stmt) → Tree (a Elif)
  without : Tree other
  otherwise : Tree (list Stmt) → Tree other
  program : Tree (list Stmt) → Tree script

-- the code of the token of each; the kind of node of a statement of one word. `literal_code`, `word_code` and `alone_kind` are cited by proofs alone
abbrev pub literal_code : Literal → ℕ
literal_code int = token.Int
literal_code bool = token.Bool
literal_code string = token.String
literal_code float = token.Float
literal_code none = token.None

abbrev pub word_code : Word → ℕ
word_code tee = Tee
word_code identifier = token.Identifier

abbrev pub sign_code : Sign → ℕ
sign_code negation = token.Not
sign_code negative = token.Minus
sign_code positive = token.Plus

abbrev pub op_code : Op → ℕ
op_code or = token.Or
op_code and = token.And
op_code plus = token.Plus
op_code minus = token.Minus
op_code star = token.Star
op_code slashes = token.SlashSlash
op_code slash = token.Slash
op_code percent = token.Percent

abbrev pub comparison_code : Comparison → ℕ
comparison_code less = token.Less
comparison_code less_equal = token.LessEqual
comparison_code greater = token.Greater
comparison_code greater_equal = token.GreaterEqual
comparison_code equal = token.EqualEqual
comparison_code not_equal = token.NotEqual

abbrev pub alone_code : Alone → ℕ
alone_code break = token.Break
alone_code continue = token.Continue
alone_code pass = token.Pass

abbrev pub alone_kind : Alone → ℕ
alone_kind break = kind.Break
alone_kind continue = kind.Continue
alone_kind pass = kind.Pass
