-- Where an action may be done: with a kind whose fields it fills, and behind a token if it takes one up.
-- Assumes nothing.
use Prim.Native.Nat.{ℕ}
use mathlib.Core.Path.{◌≡◌, refl, sym, subst}
use mathlib.Core.Logic.{⊎_elim}
use mathlib.Core.Bool.{Bool, true, false, ◌&&◌}
use mathlib.Core.List.{List, [], ◌∷◌}
use lib.Dec.{T, eqb, eqb→eq}
use Rattle.grammar.specs.Sets.{mem}
use Rattle.grammar.proofs.Sets.{and_r, or_e}
use Rattle.ast.specs.Kind as kind
use Rattle.ast.specs.Node as field
use Rattle.pyhyeon.specs.Action.{Action, mark, literal, named, alone, signs_none, signs_more, unary, binary, compare, compare_more, compared, list_none, list_one, list_join, list_done, enclose, empty, group, tuple, pair, attribute, apply, index, lambda, expr, assign, return, branch, elif, else, while, for, define, class, program}
use Rattle.trees.specs.Tree.{shape}
use Rattle.trees.proofs.Flow.{Since, still, took, later, lastly}

-- The kind of an action has the fields that the action fills.
abbrev pub Apt : Action → Type 0
Apt mark = Unit {0}
Apt literal = Unit {0}
Apt (named k) = shape k ≡ field.word ∷ field.word ∷ field.unused ∷ field.unused ∷ []
Apt (alone k) = shape k ≡ field.unused ∷ field.unused ∷ field.unused ∷ field.unused ∷ []
Apt signs_none = Unit {0}
Apt signs_more = Unit {0}
Apt unary = Unit {0}
Apt binary = Unit {0}
Apt compare = Unit {0}
Apt compare_more = Unit {0}
Apt compared = Unit {0}
Apt list_none = Unit {0}
Apt list_one = Unit {0}
Apt list_join = Unit {0}
Apt list_done = Unit {0}
Apt (enclose k) = shape k ≡ field.list ∷ field.unused ∷ field.unused ∷ field.unused ∷ []
Apt (empty k) = shape k ≡ field.list ∷ field.unused ∷ field.unused ∷ field.unused ∷ []
Apt group = Unit {0}
Apt tuple = Unit {0}
Apt pair = Unit {0}
Apt attribute = Unit {0}
Apt apply = Unit {0}
Apt index = Unit {0}
Apt lambda = Unit {0}
Apt expr = Unit {0}
Apt assign = Unit {0}
Apt return = Unit {0}
Apt branch = Unit {0}
Apt elif = Unit {0}
Apt else = Unit {0}
Apt while = Unit {0}
Apt for = Unit {0}
Apt (define k) = shape k ≡ field.word ∷ field.word ∷ field.list ∷ field.list ∷ []
Apt class = Unit {0}
Apt program = Unit {0}

-- something is known of a token
abbrev pub usable : List ℕ → Bool
usable [] = false
usable (c ∷ set) = true

-- one token alone, and something is known of it
abbrev pub exact : Since → Bool
exact still = false
exact (took set) = usable set
exact (later set) = false

-- The action may be done where f was taken since the last one: with a kind that the rules name, and a token for those that take one up.
abbrev pub apt : Action → Since → Bool
apt mark f = usable (lastly f)
apt literal f = usable (lastly f)
apt (named k) f = usable (lastly f) && mem k (kind.Name ∷ kind.Variable ∷ [])
apt (alone k) f = usable (lastly f) && mem k (kind.Break ∷ kind.Continue ∷ kind.Pass ∷ [])
apt signs_none f = true
apt signs_more f = exact f
apt unary f = true
apt binary f = true
apt compare f = true
apt compare_more f = true
apt compared f = true
apt list_none f = true
apt list_one f = true
apt list_join f = true
apt list_done f = true
apt (enclose k) f = mem k (kind.List ∷ kind.Dict ∷ kind.Tuple ∷ kind.Set ∷ kind.TreeSet ∷ [])
apt (empty k) f = mem k (kind.Dict ∷ kind.Tuple ∷ [])
apt group f = true
apt tuple f = true
apt pair f = true
apt attribute f = true
apt apply f = true
apt index f = true
apt lambda f = true
apt expr f = true
apt assign f = true
apt return f = true
apt branch f = true
apt elif f = true
apt else f = true
apt while f = true
apt for f = true
apt (define k) f = mem k (kind.Def ∷ kind.Method ∷ [])
apt class f = true
apt program f = true

-- what holds of each of a set holds of one that is in it
abbrev pub Each : (ℕ → Type 0) → List ℕ → Type 0
Each Q [] = Unit {0}
Each Q (y ∷ ys) = Q y × Each Q ys

pub each : (Q : ℕ → Type 0) (k : ℕ) (l : List ℕ) → Each Q l → T (mem k l) → Q k
each Q k [] q t = absurd t
each Q k (y ∷ ys) q t = ⊎_elim (λ h. subst Q (sym (eqb→eq k y h)) q.0) (λ h. each Q k ys q.1 h) (or_e (eqb k y) (mem k ys) t)

pub apt_is : (a : Action) (f : Since) → T (apt a f) → Apt a
apt_is mark f e = tt
apt_is literal f e = tt
apt_is (named k) f e = each (λ k. Apt (named k)) k (kind.Name ∷ kind.Variable ∷ []) (refl, (refl, tt)) (and_r (usable (lastly f)) _ e)
apt_is (alone k) f e = each (λ k. Apt (alone k)) k (kind.Break ∷ kind.Continue ∷ kind.Pass ∷ []) (refl, (refl, (refl, tt))) (and_r (usable (lastly f)) _ e)
apt_is signs_none f e = tt
apt_is signs_more f e = tt
apt_is unary f e = tt
apt_is binary f e = tt
apt_is compare f e = tt
apt_is compare_more f e = tt
apt_is compared f e = tt
apt_is list_none f e = tt
apt_is list_one f e = tt
apt_is list_join f e = tt
apt_is list_done f e = tt
apt_is (enclose k) f e = each (λ k. Apt (enclose k)) k (kind.List ∷ kind.Dict ∷ kind.Tuple ∷ kind.Set ∷ kind.TreeSet ∷ []) (refl, (refl, (refl, (refl, (refl, tt))))) e
apt_is (empty k) f e = each (λ k. Apt (empty k)) k (kind.Dict ∷ kind.Tuple ∷ []) (refl, (refl, tt)) e
apt_is group f e = tt
apt_is tuple f e = tt
apt_is pair f e = tt
apt_is attribute f e = tt
apt_is apply f e = tt
apt_is index f e = tt
apt_is lambda f e = tt
apt_is expr f e = tt
apt_is assign f e = tt
apt_is return f e = tt
apt_is branch f e = tt
apt_is elif f e = tt
apt_is else f e = tt
apt_is while f e = tt
apt_is for f e = tt
apt_is (define k) f e = each (λ k. Apt (define k)) k (kind.Def ∷ kind.Method ∷ []) (refl, (refl, tt)) e
apt_is class f e = tt
apt_is program f e = tt
