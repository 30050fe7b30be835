-- The sorts of the values at hand with what they are, and what each action and rule does to them. These tables are tested (proofs/Grown.antt), and need
-- not be believed.
-- Assumes nothing.
use Prim.Native.Nat.{ℕ}
use mathlib.Core.Path.{◌≡◌, ap}
use mathlib.Core.HLevel.{Discrete}
use mathlib.Core.Bool.{Bool, true, false, not, cond, ◌&&◌, ◌||◌}
use mathlib.Core.Option.{Option, none, some}
use mathlib.Core.List.{List, [], ◌∷◌, ◌++◌}
use lib.Dec.{eqb}
use lib.ListN.{get_or}
use Rattle.grammar.specs.Sets.{mem, within}
use Rattle.grammar.specs.Flow.{Effect, bind, where_same, alike}
use Rattle.token.specs.Code.{And, Or}
use Rattle.ast.specs.Kind as kind
use Rattle.pyhyeon.specs.Sorts.{Sort, a-token, a_node, a_signs, a_growing, a_list, a_chain, same-sort}
use Rattle.pyhyeon.specs.Rules.{Rule, Program, Line, Simple, Block, Class, E, O, A, C, S, P, U, F, names, literals, comparisons, sums, products, sign_set}
use Rattle.pyhyeon.specs.Action.{Action, mark, literal, named, alone, signs_none, signs_more, unary, binary, compare, compare_more, compared, list_none, list_one, list_join, list_done, enclose, empty, group, tuple, pair, attribute, apply, index, lambda, expr, assign, return, branch, while, for, define, class, program}
use Rattle.pyhyeon.specs.Action as action
use Rattle.trees.specs.Roles.{Cat, nothing, script, expression, statement, name, entry, method, elif, else, same-cat, cat_of, roles}
use Rattle.trees.proofs.Flow.{lastly, provided, Moves}
use Rattle.trees.proofs.Apt.{usable, apt}

-- what is known besides: of a token that it is an operator or a name, of a list that it has a member
pub data Mark : Type 0 where
  plain arithmetic comparing called filled : Mark
  deriving Discrete as same-mark

pub record Role : Type 0 where
  pub sort : Sort
  pub cat : Cat
  pub mark : Mark

abbrev pub role : Sort → Cat → Mark → Role
role s c m = record { sort = s; cat = c; mark = m }

abbrev same_if : {a b : Role} → Dec (a.sort ≡ b.sort) → Dec (a.cat ≡ b.cat) → Dec (a.mark ≡ b.mark) → Dec (a ≡ b)
same_if (yes p) (yes q) (yes r) = yes (λ i. record { sort = p i; cat = q i; mark = r i })
same_if (yes p) (yes q) (no h) = no (λ e. h (ap (λ (r : Role). r.mark) e))
same_if (yes p) (no g) r = no (λ e. g (ap (λ (r : Role). r.cat) e))
same_if (no f) q r = no (λ e. f (ap (λ (r : Role). r.sort) e))

abbrev pub same_role : Discrete Role
same_role a b = same_if (same-sort a.sort b.sort) (same-cat a.cat b.cat) (same-mark a.mark b.mark)

-- a token, a node, a list in the making, a whole list, the same with a member, signs, a chain
abbrev tk : Mark → Role
tk m = role a-token nothing m

abbrev pub nd : Cat → Role
nd c = role a_node c plain

abbrev gr : Cat → Role
gr c = role a_growing c plain

abbrev pub ls : Cat → Role
ls c = role a_list c plain

abbrev fl : Cat → Role
fl c = role a_list c filled

abbrev sg : Role
sg = role a_signs nothing plain

abbrev ch : Role
ch = role a_chain expression plain

-- the operators of a Binary that is no comparison
abbrev pub arithmetic_codes : List ℕ
arithmetic_codes = And ∷ Or ∷ sums ++ products

-- what a token of this set is
abbrev pub marked : List ℕ → Mark
marked set = cond (within set arithmetic_codes) arithmetic (cond (within set comparisons) comparing (cond (within set names) called plain))

-- the category of the value that came last to hand
abbrev pub last_cat : List Role → Cat
last_cat [] = nothing
last_cat (r ∷ σ) = r.cat

abbrev pub is_yes : {A : Type 0} → Dec A → Bool
is_yes (yes p) = true
is_yes (no f) = false

abbrev pub is_cat : Cat → Cat → Bool
is_cat c d = is_yes (same-cat c d)

-- the category of what the first field of this kind refers to
abbrev pub firstly : ℕ → Cat
firstly k = get_or (roles k) 0 nothing

abbrev pub effect : List Role → Role → Effect Role
effect l r = record { takes = l; leaves = r ∷ [] }

-- where these are enclosed, their list has a member: `empty` makes the empty Dict and Tuple
abbrev pub enclosed : ℕ → Mark
enclosed k = cond (mem k (kind.Dict ∷ kind.Tuple ∷ kind.Set ∷ [])) filled plain

-- what an action takes and leaves; c is the category of the value that came last to hand, and m what the last token is
abbrev pub does : Action → Cat → Mark → Effect Role
does mark c m = effect [] (tk m)
does literal c m = effect [] (nd expression)
does (named k) c m = effect [] (nd (cat_of k))
does (alone k) c m = effect [] (nd (cat_of k))
does signs_none c m = effect [] sg
does signs_more c m = effect (sg ∷ []) sg
does unary c m = effect (nd expression ∷ sg ∷ []) (nd expression)
does binary c m = effect (nd expression ∷ tk arithmetic ∷ nd expression ∷ []) (nd expression)
does compare c m = effect (nd expression ∷ tk comparing ∷ nd expression ∷ []) ch
does compare_more c m = effect (nd expression ∷ tk comparing ∷ ch ∷ []) ch
does compared c m = effect (ch ∷ []) (nd expression)
does list_none c m = effect [] (ls nothing)
does list_one c m = effect (nd c ∷ []) (gr c)
does list_join c m = effect (gr c ∷ gr c ∷ []) (gr c)
does list_done c m = effect (gr c ∷ []) (fl c)
does (enclose k) c m = effect (role a_list (firstly k) (enclosed k) ∷ tk (cond (eqb k kind.TreeSet) called plain) ∷ []) (nd (cat_of k))
does (empty k) c m = effect (tk plain ∷ []) (nd (cat_of k))
does group c m = effect (nd expression ∷ tk plain ∷ []) (nd expression)
does tuple c m = effect (gr expression ∷ []) (nd expression)
does pair c m = effect (nd expression ∷ nd expression ∷ []) (nd entry)
does attribute c m = effect (nd expression ∷ []) (nd expression)
does apply c m = effect (ls expression ∷ nd expression ∷ []) (nd expression)
does index c m = effect (nd expression ∷ nd expression ∷ []) (nd expression)
does lambda c m = effect (nd expression ∷ ls name ∷ tk plain ∷ []) (nd expression)
does expr c m = effect (nd expression ∷ []) (nd statement)
does assign c m = effect (nd expression ∷ nd expression ∷ []) (nd statement)
does return c m = effect (nd expression ∷ tk plain ∷ []) (nd statement)
does branch c m = effect (ls else ∷ ls elif ∷ ls statement ∷ nd expression ∷ tk plain ∷ []) (nd statement)
does action.elif c m = effect (ls statement ∷ nd expression ∷ tk plain ∷ []) (nd elif)
does action.else c m = effect (ls statement ∷ tk plain ∷ []) (nd else)
does while c m = effect (ls statement ∷ nd expression ∷ tk plain ∷ []) (nd statement)
does for c m = effect (ls statement ∷ nd expression ∷ tk called ∷ tk plain ∷ []) (nd statement)
does (define k) c m = effect (ls statement ∷ ls name ∷ tk called ∷ tk plain ∷ []) (nd (cat_of k))
does class c m = effect (fl method ∷ tk called ∷ tk plain ∷ []) (nd statement)
does program c m = effect (ls statement ∷ []) (nd script)

-- what is asked besides: names, literals and signs are such; a list is of something, and no Else is joined to another
abbrev pub asks : Action → Cat → List ℕ → Bool
asks mark c set = true
asks literal c set = within set literals
asks (named k) c set = within set names
asks (alone k) c set = true
asks signs_none c set = true
asks signs_more c set = within set sign_set
asks unary c set = true
asks binary c set = true
asks compare c set = true
asks compare_more c set = true
asks compared c set = true
asks list_none c set = true
asks list_one c set = true
asks list_join c set = not (is_cat c else)
asks list_done c set = not (is_cat c nothing)
asks (enclose k) c set = true
asks (empty k) c set = true
asks group c set = true
asks tuple c set = true
asks pair c set = true
asks attribute c set = usable set && within set names
asks apply c set = true
asks index c set = true
asks lambda c set = true
asks expr c set = true
asks assign c set = true
asks return c set = true
asks branch c set = true
asks action.elif c set = true
asks action.else c set = true
asks while c set = true
asks for c set = true
asks (define k) c set = true
asks class c set = true
asks program c set = true

abbrev pub gives : Rule → Role
gives Program = nd script
gives Line = gr statement
gives Simple = nd statement
gives Block = ls statement
gives Class = nd statement
gives E = nd expression
gives O = nd expression
gives A = nd expression
gives C = nd expression
gives S = nd expression
gives P = nd expression
gives U = nd expression
gives F = nd expression

-- two lists, the second of the first's category or empty, come to a list that may be empty
unfoldable pub relisted : List Role → List Role → Option (List Role)
unfolding bind where_same alike provided
relisted [] b = none
relisted (r ∷ σ) [] = none
relisted (r ∷ σ) (r' ∷ σ') =
    where_same (same-sort r.sort a_list) (where_same (same-sort r'.sort a_list)
    (provided (is_cat r'.cat r.cat || is_cat r'.cat nothing) (bind (alike same_role σ σ') (λ τ. some (ls r.cat ∷ τ)))))

unfoldable pub or_else : Option (List Role) → Option (List Role) → Option (List Role)
or_else none o = o
or_else (some a) o = some a

abbrev pub role_moves : Moves Role Action Rule
role_moves = record {
  apt = λ a f σ. apt a f && asks a (last_cat σ) (lastly f);
  of_act = λ a f σ. does a (last_cat σ) (marked (lastly f));
  of_rule = λ r. effect [] (gives r);
  joins = λ a b. or_else (alike same_role a b) (relisted a b);
}
