-- The actions of the rules, and what each does. "A node is written when its last part is read. Spans run from first to last token taken" (01, Tree):
-- so a node ends where the token ends that was taken last, and starts where its first token does, or its first part.
-- Assumes nothing.
use Rattle.std.specs.Prelude.{ℕ, zero, suc, ◌+◌, List, length, get_or}
use Rattle.grammar.specs.Trial.{Machine}
use Rattle.token.specs.Code as token
use Rattle.literal.specs.declared.Literal.TheVariants as L
use Rattle.tokens.specs.Token.{Token}
use Rattle.ast.specs.Kind as kind
use Rattle.ast.specs.Node.{Node, none, made, linked, spanned}
use Rattle.ast.specs.Literal.{literal_node_lem}
use Rattle.ast.specs.Operator.{unary_op_lem, binary_op_lem}
use Rattle.pyhyeon.specs.Machine.{Value, node, signs, list, chain, Kept, number, count, last, operand, one, both, whole, top, taken, put, write, nth, change}
use Rattle.pyhyeon.specs.Machine as value

-- The values that an action takes are named first, the one that came last to hand last. All but `mark`, `compared`, `group` and those
-- on lists and signs write nodes (`unary` one for each sign); `group`, `assign` and `list_join` change one.
pub data Action : Type 0 where
  mark : Action  -- puts the token that was taken last at hand
  literal : Action  -- the literal that was taken
  named : ℕ → Action  -- a node of this kind of the name that was taken: Name or Variable
  alone : ℕ → Action  -- a node of this kind of the word that was taken: Break, Continue or Pass
  signs_none : Action  -- puts no signs at hand, which begin at the next token
  signs_more : Action  -- signs: one more, the token that was taken
  unary : Action  -- signs, node: a Unary for each sign, the last sign first
  binary : Action  -- node, token, node: the Binary of this operator
  compare : Action  -- node, token, node: the first comparison, as a chain
  compare_more : Action  -- chain, token, node: a further comparison, and its And
  compared : Action  -- chain: its node
  list_none : Action  -- puts an empty list at hand
  list_one : Action  -- node: a list in the making
  list_join : Action  -- list, list, in the making: both as one, linked
  list_done : Action  -- list in the making: a whole list
  enclose : ℕ → Action  -- token, list: a node of this kind, from the token on
  empty : ℕ → Action  -- token: the same with no list
  group : Action  -- token, node: the node with the wider span, from the token on
  tuple : Action  -- list in the making: a Tuple without parentheses
  pair : Action  -- node, node: a key and its value
  attribute : Action  -- node: the name that was taken, of it
  apply : Action  -- node, list: a Call
  index : Action  -- node, node
  lambda : Action  -- token, list, node
  expr : Action  -- node
  assign : Action  -- node, node: target and value
  return : Action  -- token, node
  branch : Action  -- token, node, list, list, list: If, with condition, then list, Elif list, and Else as a list of one or none
  elif : Action  -- token, node, list
  else : Action  -- token, list
  while : Action  -- token, node, list
  for : Action  -- token, token, node, list: keyword, name, iterable, body
  define : ℕ → Action  -- token, token, list, list: Def or Method, with keyword, name, names, body
  class : Action  -- token, token, list
  program : Action  -- list

module _ (source : List ℕ) (toks : List Token) where
  abbrev pub token_at_lem : ℕ → Token
  token_at_lem t = get_or toks t (record { code = 0; start = 0; end = 0; literal = L.None })

  -- where the token of this value starts and ends; where the node of this value starts; where the token ends that was taken last
  abbrev pub from : Value → ℕ
  from v = (token_at_lem (number v)).start

  abbrev pub upto : Value → ℕ
  upto v = (token_at_lem (number v)).end

  abbrev pub since : Value → Kept → ℕ
  since v k = (nth (number v) k).start

  abbrev pub end : Kept → ℕ
  end k = (token_at_lem (taken k)).end

  -- the Unary of the sign t over the node at hand; those of c signs from the token f on, the last sign first
  abbrev pub unary_node : ℕ → Kept → Node
  unary_node t k = made kind.Unary (token_at_lem t).start (end k) (unary_op_lem (token_at_lem t).code) (number (top 0 k)) 0 0

  unfoldable pub wrap : ℕ → ℕ → Kept → Kept
  wrap zero f k = k
  wrap (suc c) f k = wrap c f (write 1 (unary_node (f + c) k) k)

  -- the node at hand without the signs below it
  abbrev pub bare : Kept → Kept
  bare k = put 2 (top 0 k) k

  -- the operator of the token in this value
  abbrev pub operator : Value → ℕ
  operator v = binary_op_lem (token_at_lem (number v)).code

  -- a Binary of two nodes by their numbers; the last i values make place for it
  abbrev pub binary_of : ℕ → ℕ → ℕ → ℕ → Kept → Kept
  binary_of i op l r k = write i (made kind.Binary (nth l k).start (end k) op l r 0) k

  -- a node of this kind from a token on, with these four fields; the last i values make place for it
  abbrev pub opened : ℕ → ℕ → Value → ℕ → ℕ → ℕ → ℕ → Kept → Kept
  opened i kind t p q r s k = write i (made kind (from t) (end k) p q r s) k

  -- the same from the start of its first part on
  abbrev pub begun : ℕ → ℕ → Value → ℕ → ℕ → ℕ → Kept → Kept
  begun i kind v p q r k = write i (made kind (since v k) (end k) p q r 0) k

  unfoldable pub perform : Action → Kept → Kept
  unfolding number count last operand one both whole wrap unary_op_lem binary_op_lem
  perform mark k = put 0 (value.token (taken k)) k
  perform literal k = write 0 (literal_node_lem (token_at_lem (taken k)).start (end k) (token_at_lem (taken k)).literal) k
  perform (named kind) k = write 0 (made kind (token_at_lem (taken k)).start (end k) (token_at_lem (taken k)).start (end k) 0 0) k
  perform (alone kind) k = write 0 (made kind (token_at_lem (taken k)).start (end k) 0 0 0 0) k
  perform signs_none k = put 0 (signs k.at 0) k
  perform signs_more k = put 1 (signs (number (top 0 k)) (count (top 0 k) + 1)) k
  perform unary k = wrap (count (top 1 k)) (number (top 1 k)) (bare k)
  perform binary k = binary_of 3 (operator (top 1 k)) (number (top 2 k)) (number (top 0 k)) k
  perform compare k = put 1 (chain (length k.nodes) (number (top 0 k))) (binary_of 3 (operator (top 1 k)) (number (top 2 k)) (number (top 0 k)) k)
  perform compare_more k =
      put 1 (chain (length k.nodes + 1) (number (top 0 k)))
      (binary_of 1 (binary_op_lem token.And) (number (top 2 k)) (length k.nodes) (binary_of 3 (operator (top 1 k)) (operand (top 2 k)) (number (top 0 k)) k))
  perform compared k = put 1 (whole (top 0 k)) k
  perform list_none k = put 0 (list none) k
  perform list_one k = put 1 (one (top 0 k)) k
  perform list_join k = put 2 (both (top 1 k) (top 0 k)) (change (last (top 1 k)) (linked (number (top 0 k))) k)
  perform list_done k = put 1 (list (number (top 0 k))) k
  perform (enclose kind) k = opened 2 kind (top 1 k) (number (top 0 k)) 0 0 0 k
  perform (empty kind) k = opened 1 kind (top 0 k) none 0 0 0 k
  perform group k = put 2 (top 0 k) (change (number (top 0 k)) (spanned (from (top 1 k)) (end k)) k)
  perform tuple k = begun 1 kind.Tuple (top 0 k) (number (top 0 k)) 0 0 k
  perform pair k = begun 2 kind.Pair (top 1 k) (number (top 1 k)) (number (top 0 k)) 0 k
  perform attribute k = begun 1 kind.Attribute (top 0 k) (number (top 0 k)) (token_at_lem (taken k)).start (end k) k
  perform apply k = begun 2 kind.Call (top 1 k) (number (top 1 k)) (number (top 0 k)) 0 k
  perform index k = begun 2 kind.Index (top 1 k) (number (top 1 k)) (number (top 0 k)) 0 k
  perform lambda k = opened 3 kind.Lambda (top 2 k) (number (top 1 k)) (number (top 0 k)) 0 0 k
  perform expr k = begun 1 kind.Expr (top 0 k) (number (top 0 k)) 0 0 k
  perform assign k =
      begun 2 kind.Assign (top 1 k) (number (top 1 k)) (number (top 0 k)) 0
      (change (number (top 1 k)) (spanned (since (top 1 k) k) (end k)) k)
  perform return k = opened 2 kind.Return (top 1 k) (number (top 0 k)) 0 0 0 k
  perform branch k = opened 5 kind.If (top 4 k) (number (top 3 k)) (number (top 2 k)) (number (top 1 k)) (number (top 0 k)) k
  perform elif k = opened 3 kind.Elif (top 2 k) (number (top 1 k)) (number (top 0 k)) 0 0 k
  perform else k = opened 2 kind.Else (top 1 k) (number (top 0 k)) 0 0 0 k
  perform while k = opened 3 kind.While (top 2 k) (number (top 1 k)) (number (top 0 k)) 0 0 k
  perform for k = opened 4 kind.For (top 3 k) (from (top 2 k)) (upto (top 2 k)) (number (top 1 k)) (number (top 0 k)) k
  perform (define kind) k = opened 4 kind (top 3 k) (from (top 2 k)) (upto (top 2 k)) (number (top 1 k)) (number (top 0 k)) k
  perform class k = opened 3 kind.Class (top 2 k) (from (top 1 k)) (upto (top 1 k)) (number (top 0 k)) 0 k
  perform program k = write 1 (made kind.Program 0 (length source) (number (top 0 k)) 0 0 0) k

  -- the machine: a token that is taken raises the number, and leaves nodes and values
  abbrev pub machine : Machine Action
  machine = record { Kept = Kept; shift = λ c k. record { at = k.at + 1; nodes = k.nodes; values = k.values }; run = perform }
