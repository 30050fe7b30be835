-- The sorts of the values that each action takes and leaves, and each rule leaves; the one that came last to hand stands first.
-- Trial and descent do not read these tables: they are tested (`plain_flows`, `joined_flows`), and need not be believed.
-- Assumes nothing.
use Rattle.std.specs.Prelude.{List, [], ◌∷◌, map}
use Rattle.grammar.specs.Flow.{Effects}
use Rattle.pyhyeon.specs.Machine.{Value, token, node, signs, growing, list, chain, Kept}
use Rattle.pyhyeon.specs.Action.{Action, mark, literal, named, alone, signs_none, signs_more, unary, binary, compare, compare_more, compared, list_none, list_one, list_join, list_done, enclose, empty, group, tuple, pair, attribute, apply, index, lambda, expr, assign, return, branch, elif, else, while, for, define, class, program}
use Rattle.pyhyeon.specs.Rules.{Rule, Program, Line, Simple, Block, Class, E, O, A, C, S, P, U, F}

pub data Sort : Type 0 where
  a-token a_node a_signs a_growing a_list a_chain : Sort
  deriving Discrete as same-sort

abbrev pub sort_of : Value → Sort
sort_of (token t) = a-token
sort_of (node n) = a_node
sort_of (signs f c) = a_signs
sort_of (growing f l) = a_growing
sort_of (list f) = a_list
sort_of (chain w l) = a_chain

abbrev pub sorts : Kept → List Sort
sorts k = map sort_of k.values

abbrev pub taking : Action → List Sort
taking mark = []
taking literal = []
taking (named kind) = []
taking (alone kind) = []
taking signs_none = []
taking signs_more = a_signs ∷ []
taking unary = a_node ∷ a_signs ∷ []
taking binary = a_node ∷ a-token ∷ a_node ∷ []
taking compare = a_node ∷ a-token ∷ a_node ∷ []
taking compare_more = a_node ∷ a-token ∷ a_chain ∷ []
taking compared = a_chain ∷ []
taking list_none = []
taking list_one = a_node ∷ []
taking list_join = a_growing ∷ a_growing ∷ []
taking list_done = a_growing ∷ []
taking (enclose kind) = a_list ∷ a-token ∷ []
taking (empty kind) = a-token ∷ []
taking group = a_node ∷ a-token ∷ []
taking tuple = a_growing ∷ []
taking pair = a_node ∷ a_node ∷ []
taking attribute = a_node ∷ []
taking apply = a_list ∷ a_node ∷ []
taking index = a_node ∷ a_node ∷ []
taking lambda = a_node ∷ a_list ∷ a-token ∷ []
taking expr = a_node ∷ []
taking assign = a_node ∷ a_node ∷ []
taking return = a_node ∷ a-token ∷ []
taking branch = a_list ∷ a_list ∷ a_list ∷ a_node ∷ a-token ∷ []
taking elif = a_list ∷ a_node ∷ a-token ∷ []
taking else = a_list ∷ a-token ∷ []
taking while = a_list ∷ a_node ∷ a-token ∷ []
taking for = a_list ∷ a_node ∷ a-token ∷ a-token ∷ []
taking (define kind) = a_list ∷ a_list ∷ a-token ∷ a-token ∷ []
taking class = a_list ∷ a-token ∷ a-token ∷ []
taking program = a_list ∷ []

-- every action leaves one value: a node, unless it says otherwise here
abbrev pub leaving : Action → Sort
leaving mark = a-token
leaving literal = a_node
leaving (named kind) = a_node
leaving (alone kind) = a_node
leaving signs_none = a_signs
leaving signs_more = a_signs
leaving unary = a_node
leaving binary = a_node
leaving compare = a_chain
leaving compare_more = a_chain
leaving compared = a_node
leaving list_none = a_list
leaving list_one = a_growing
leaving list_join = a_growing
leaving list_done = a_list
leaving (enclose kind) = a_node
leaving (empty kind) = a_node
leaving group = a_node
leaving tuple = a_node
leaving pair = a_node
leaving attribute = a_node
leaving apply = a_node
leaving index = a_node
leaving lambda = a_node
leaving expr = a_node
leaving assign = a_node
leaving return = a_node
leaving branch = a_node
leaving elif = a_node
leaving else = a_node
leaving while = a_node
leaving for = a_node
leaving (define kind) = a_node
leaving class = a_node
leaving program = a_node

-- a rule takes none, and leaves a node; a Line a list in the making, a Block a list
abbrev pub ruled : Rule → Sort
ruled Program = a_node
ruled Line = a_growing
ruled Simple = a_node
ruled Block = a_list
ruled Class = a_node
ruled E = a_node
ruled O = a_node
ruled A = a_node
ruled C = a_node
ruled S = a_node
ruled P = a_node
ruled U = a_node
ruled F = a_node

abbrev pub effects : Effects Sort Action Rule
effects = record { of_act = λ a. record { takes = taking a; leaves = leaving a ∷ [] }; of_rule = λ r. record { takes = []; leaves = ruled r ∷ [] } }
