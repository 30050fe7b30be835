-- Where Program begins; and parts of the rules that a function has for itself, or what is left of one from some token on, each a part of a rule's body
-- (specs/Rules.antt and Tables.antt of pyhyeon). Only contracts cite these.
-- Assumes nothing.
use Rattle.std.specs.Prelude.{ℕ, Bool, true, false, [], ◌∷◌}
use Rattle.grammar.specs.Grammar.{Part, act, see, call, ◌⨾◌, ◌∕◌, many}
use Rattle.token.specs.Code.{Def, Elif, Else, In, LParen, RParen, Colon, Indent, Dedent, Newline, Eof}
use Rattle.ast.specs.Kind as kind
use Rattle.pyhyeon.specs.Action.{Action, mark, list_none, list_one, list_join, list_done, branch, elif, else, while, for, define, class, program}
use Rattle.pyhyeon.specs.Rules.{Rule, Block, E, tk, called, more, parameters, newlines, definition, elifs}
use Rattle.pyhyeon.specs.Tables.{lines_on}
use Rattle.leaves.specs.declared.State.{State}

-- where Program begins: no token taken, no node written, no rule opened
abbrev pub start : State
start = record { at = record { 0 = 0 }; nodes = 0; opened = 0; used = 0 }

-- "Indent, Lines as in Program, Dedent" (01, Grammar): what stands between the two; and with them
abbrev pub inside_on : Part Action Rule
inside_on = newlines ⨾ lines_on ∕ act list_none

abbrev pub indented_on : Part Action Rule
indented_on = tk Indent ⨾ inside_on ⨾ tk Dedent

-- one Elif, as a node: the first parts of `elifs`
abbrev pub elif_on : Part Action Rule
elif_on = tk Elif ⨾ act mark ⨾ call E ⨾ call Block ⨾ act elif

-- the Methods of a Class, or the Elifs of an If: the keyword, one of them, and those after the first
abbrev pub leading : Bool → ℕ
leading true = Def
leading false = Elif

abbrev pub member : Bool → Part Action Rule
member true = definition kind.Method
member false = elif_on

abbrev pub others : Bool → Part Action Rule
others true = many (more (definition kind.Method))
others false = many (elifs ⨾ act list_join)

-- "Indent, one or more Methods with no Newline between, Dedent" (01, Grammar): a Class's Dedent; from its Indent on; after its name
abbrev pub class_end_lem : Part Action Rule
class_end_lem = tk Dedent ⨾ act class

abbrev pub class_body_lem : Part Action Rule
class_body_lem = tk Indent ⨾ definition kind.Method ⨾ act list_one ⨾ others true ⨾ act list_done ⨾ class_end_lem

abbrev pub class_on : Part Action Rule
class_on = tk Colon ⨾ tk Newline ⨾ newlines ⨾ class_body_lem

-- a Def or Method after its opening parenthesis, and after its keyword
abbrev pub given_on : ℕ → Part Action Rule
given_on k = parameters ⨾ tk RParen ⨾ call Block ⨾ act (define k)

abbrev pub named_on : ℕ → Part Action Rule
named_on k = called ⨾ tk LParen ⨾ given_on k

-- "Elif and else must follow at once" (01, Grammar): the Elifs; the Else; both, and the If; an If after its keyword
abbrev pub elifs_on : Part Action Rule
elifs_on = elifs ⨾ others false ⨾ act list_done ∕ act list_none

abbrev pub else_on : Part Action Rule
else_on = tk Else ⨾ act mark ⨾ call Block ⨾ act else ⨾ act list_one ⨾ act list_done ∕ act list_none

abbrev pub branches : Part Action Rule
branches = elifs_on ⨾ else_on ⨾ act branch

abbrev pub if_on : Part Action Rule
if_on = call E ⨾ call Block ⨾ branches

-- a While and a For after their keywords, and the For after `in`
abbrev pub while_on : Part Action Rule
while_on = call E ⨾ call Block ⨾ act while

abbrev pub range_on : Part Action Rule
range_on = call E ⨾ call Block ⨾ act for

abbrev pub for_on : Part Action Rule
for_on = called ⨾ tk In ⨾ range_on

-- the end of a script
abbrev pub program_end : Part Action Rule
program_end = see (Eof ∷ []) ⨾ act program
