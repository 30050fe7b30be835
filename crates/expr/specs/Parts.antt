-- Parts of the rules that a function has for itself. Only contracts of private functions cite these: each is a part of a rule's body
-- (specs/Rules.antt and Tables.antt of pyhyeon); but `t_on`, and `listed_on` of a Tuple, begin at its first comma, and come to the same there
-- (`list_parts`, joint/proofs/Chain.antt).
-- Assumes nothing.
use Rattle.std.specs.Prelude.{ℕ, Bool, true, false}
use Rattle.grammar.specs.Grammar.{Part, act, tok, call, ◌⨾◌, ◌∕◌, tail}
use Rattle.token.specs.Code.{LBrace, RBrace, RParen, RBracket, Colon, Comma}
use Rattle.ast.specs.Kind as kind
use Rattle.pyhyeon.specs.Action.{Action, mark, named, list_one, list_done, enclose, group, tuple, pair, apply, index, lambda}
use Rattle.pyhyeon.specs.Rules.{Rule, E, tk, names, more, list, parameters, entry, rest}

-- a member of a list: a pair, or an E; and the rest of such a list
abbrev pub member : Bool → Part Action Rule
member true = entry
member false = call E

abbrev pub others : Bool → Part Action Rule
others paired = tail Comma (more (member paired))

-- a name in a list of names
abbrev pub name : Part Action Rule
name = tok names ⨾ act (named kind.Name)

-- a list's closing bracket; a list and its closing bracket
abbrev pub closes : ℕ → ℕ → Part Action Rule
closes close kind = tk close ⨾ act (enclose kind)

abbrev pub enclosed : ℕ → ℕ → Part Action Rule
enclosed close kind = list ⨾ closes close kind

-- after the first member of a list of E: its rest, and its closing bracket
abbrev pub listed_on : ℕ → ℕ → Part Action Rule
listed_on close kind = others false ⨾ act list_done ⨾ closes close kind

-- after `lambda`; after its colon
abbrev pub lambda_on : Part Action Rule
lambda_on = parameters ⨾ tk Colon ⨾ call E ⨾ act lambda

abbrev pub lambda_body : Part Action Rule
lambda_body = call E ⨾ act lambda

-- after the name `t`
abbrev pub tee_on : Part Action Rule
tee_on = act mark ⨾ tk LBrace ⨾ enclosed RBrace kind.TreeSet ∕ act (named kind.Variable)

-- the value of a pair; after the first pair's colon
abbrev pub valued : Part Action Rule
valued = call E ⨾ act pair

abbrev pub pairs_rest : Part Action Rule
pairs_rest = call E ⨾ act pair ⨾ act list_one ⨾ others true ⨾ act list_done ⨾ closes RBrace kind.Dict

-- after the first E in parentheses
abbrev pub round_on : Part Action Rule
round_on = tk RParen ⨾ act group ∕ tk Comma ⨾ rest ⨾ closes RParen kind.Tuple

-- after the `(` of a call; after the `[` of an index
abbrev pub call_on : Part Action Rule
call_on = list ⨾ tk RParen ⨾ act apply

abbrev pub index_on : Part Action Rule
index_on = call E ⨾ tk RBracket ⨾ act index

-- t from its first comma on
abbrev pub t_on : Part Action Rule
t_on = others false ⨾ act tuple
